-- One turn of the walk over the functions' parts.
use Rattle.std.specs.Prelude.{Some, Option, None}
use mathlib.Core.Path.{◌≡◌}
use mathlib.Core.Bool.{Bool, true, false, ◌||◌}
use mathlib.Core.List.{List}
use Prim.Native.Nat.{ℕ, ◌+◌, ◌*◌, ◌-◌, ◌≤◌, ◌<◌}
use native.Mathlib.Omega.{arith}
use lib.Dec.{eqb}
use lib.ListN.{length, get_or, take, drop}
use Rattle.varset.specs.Lowest.{pick}
use Rattle.records.specs.Fields.{functions, count_of}
use Rattle.records.specs.Parts.{start_of, part_of, Laid}
use Rattle.records.specs.Search.{At, shift}
use Rattle.records.specs.declared.Found.{Found}
use Rattle.records.proofs.Loops.{one_place, one_item}
use Rattle.records.proofs.PartWalks.{part_taken}
use Rattle.spec_language.specs.Nodes.{answers}
use Rattle.spec_language.specs.Check.{origin_of, in_part}
use Rattle.spec_language.specs.Known.{Known, CallsKnown, WellFormed}
use Rattle.check_file.specs.Stages.{Ready, TableRoom}
use Rattle.check_file.proofs.FoundPlaces.{Placed}
use Rattle.check_file.proofs.Passing.{part_room, part_asks}

-- the part starts after all function records
start-past : (s : List ℕ) (f : ℕ) → functions s < start_of s f
unfolding start_of
start-past s f = omega arith

module _ (s : List ℕ) (q : ℕ) (laid : Laid s) {F f start n : ℕ} (e : F ≡ functions s) (l : f < F) (a : start ≡ start_of s f) (b : n ≡ count_of s f) where
  abbrev taken : List ℕ
  taken = take (12 * (start + n) - 12 * start) (drop (12 * start) s)

  -- what the questions in a part ask
  pub asks : {k : ℕ} → 7 ≤ q → Ready s q → (12 < q → TableRoom s k)
      → (Laid s × (f < functions s))
      × (((12 * n ≤ length taken) × (1 ≤ n) × (n ≤ 4096) × (7 ≤ q))
      × ((9 < q → Known taken n × CallsKnown (functions s) taken n) × (12 < q → WellFormed taken n × (5 * n ≤ k))))
  asks m r o =
      let p = part_asks s laid e l a b in
      let t : taken ≡ part_of s f = part_taken s f a b in
      (p.0, ((p.1.0, p.1.1, p.1.2, m), (λ h. rw (t, b) (r.0 h f p.0.1), λ h. (rw (t, b) (r.1 h f p.0.1), omega (arith, o h f p.0.1, b)))))

  -- what they find, as the definition counts its place
  pub found : (r : Option Found) (o : ℕ) → r ≡ get_or (answers s f taken n) (q - 7) None → o ≡ pick (eqb q 10 || eqb q 14) (1 + f) start → in_part q s f ≡ shift o r
  unfolding in_part origin_of
  found r o g h =
      let t : taken ≡ part_of s f = part_taken s f a b in
      rw (h, g, t, a, b)

  origin_low : (o : ℕ) → o ≡ pick (eqb q 10 || eqb q 14) (1 + f) start → o ≤ start
  origin_low o h = go (eqb q 10 || eqb q 14) h
    where
      go : (c : Bool) → o ≡ pick c (1 + f) start → o ≤ start
      go true g = omega (arith, start-past s f)
      go false g = omega arith

  -- its place lies in the file
  pub placed : (r : Option Found) (o : ℕ) → length s ≤ 50700 → Placed n r → o ≡ pick (eqb q 10 || eqb q 14) (1 + f) start → (i x : ℕ) → r ≡ At i x → (o + i < 4225) × (x < 64)
  placed r o m p h i x g =
      let z = p i x g in
      (omega (arith, part_room s laid e l a b, origin_low o h, z.0), z.1)

shift_at : (o i x : ℕ) (r : Option Found) → shift o r ≡ At i x → (j : ℕ) × (r ≡ At j x) × (o + j ≡ i)
unfolding shift
shift_at o i x (Some it) e =
    let p : o + it.place ≡ i = one_place e in
    let z : it.item ≡ x = one_item e in
    (it.place, rw z, p)
shift_at o i x None e = let z : ◌≡◌ {A = ℕ} 0 1 = cc in absurd (omega arith)

-- the place that a shift gives is bounded as the sum is
pub shift_placed : (o i x : ℕ) (r : Option Found) → ((i x : ℕ) → r ≡ At i x → (o + i < 4225) × (x < 64)) → shift o r ≡ At i x → (i < 4225) × (x < 64)
shift_placed o i x r h e =
    let z = shift_at o i x r e in
    let w = h z.0 x z.1 in
    (omega (arith, w.0, z.2), w.1)
