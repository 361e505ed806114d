-- The header's last four bytes as one number; the headers of document 01 are those of edition 0.
use mathlib.Core.Path.{◌≡◌, refl, sym}
use mathlib.Core.Bool.{Bool, true, false, ◌&&◌, and-true, and-false}
use mathlib.Core.List.{List}
use Prim.Native.Nat.{ℕ, zero, suc, ◌+◌, ◌*◌, ◌<◌}
use native.Mathlib.Omega.{arith}
use lib.Dec.{eqb, leb, leb-zero, eqb-suc-zero}
use lib.ListN.{get_or}
use borrow.Author.Tests.{lt-leb, ne_eqb}
use Rattle.records.specs.Bytes.{u16_at, u32_at}
use Rattle.records.specs.Fields.{mark_at, functions, nodes, edition_of}
use Rattle.records.specs.Format.{header_mark, most_functions, most_nodes}
use Rattle.spec_language.specs.Records.{within, header_ok}

-- the number is at most an edition below 256 where the first byte is and the others are zero
at_most : (e b w last : ℕ) → last < 256 → leb (e + 256 * b + 65536 * w) last ≡ (leb e last && (eqb b 0 && eqb w 0))
at_most e zero zero last h =
    let q : e + 256 * 0 + 65536 * 0 ≡ e = omega arith in
    rw (and-true (leb e last), q)
at_most e (suc b) w last h = rw (eqb-suc-zero b, and-false (leb e last)) (lt-leb (e + 256 * suc b + 65536 * w) last (omega arith))
at_most e zero (suc w) last h = rw (eqb-suc-zero w, and-false (leb e last)) (lt-leb (e + 256 * 0 + 65536 * suc w) last (omega arith))

pub ending_is : (s : List ℕ) (last : ℕ) → last < 256 → leb (u32_at s 8) last ≡ (leb (edition_of s) last && (eqb (get_or s 9 0) 0 && eqb (u16_at s 10) 0))
unfolding u32_at u16_at edition_of
ending_is s last h = at_most (get_or s 8 0) (get_or s 9 0) (u16_at s 10) last h

-- it is zero where it is at most an edition and the first byte is zero
is_zero : (e b w last : ℕ) → eqb (e + 256 * b + 65536 * w) 0 ≡ ((leb e last && (eqb b 0 && eqb w 0)) && eqb e 0)
is_zero zero zero zero last = rw (leb-zero last)
is_zero (suc e) b w last =
    rw (eqb-suc-zero e, and-false (leb (suc e) last && (eqb b 0 && eqb w 0))) (ne_eqb (suc e + 256 * b + 65536 * w) 0 (λ q. omega arith))
is_zero zero (suc b) w last = rw (leb-zero last, eqb-suc-zero b) (ne_eqb (0 + 256 * suc b + 65536 * w) 0 (λ q. omega arith))
is_zero zero zero (suc w) last = rw (leb-zero last, eqb-suc-zero w) (ne_eqb (0 + 256 * 0 + 65536 * suc w) 0 (λ q. omega arith))

inside : (a b c d x : Bool) → ((a && (b && (c && d))) && x) ≡ (a && (b && (c && (d && x))))
inside true true true d x = refl
inside true true false d x = refl
inside true false c d x = refl
inside false b c d x = refl

-- question 2 as document 01 has it, with four zero bytes
abbrev plain_header : List ℕ → Bool
plain_header s = eqb (mark_at s 0) header_mark && (within 1 most_functions (functions s) && (within 1 most_nodes (nodes s) && eqb (u32_at s 8) 0))

-- what passes it is what passes now and is of edition 0
pub plain_header_lem : (s : List ℕ) → plain_header s ≡ (header_ok s && eqb (edition_of s) 0)
unfolding header_ok u32_at u16_at edition_of
plain_header_lem s =
    rw (is_zero (get_or s 8 0) (get_or s 9 0) (u16_at s 10) 1)
    (sym (inside (eqb (mark_at s 0) header_mark) (within 1 most_functions (functions s)) (within 1 most_nodes (nodes s)) _ (eqb (edition_of s) 0)))
