-- The words of a frame in memory: its kind, its three words, and its slots.
use mathlib.Core.Path.{◌≡◌, sym, ap, ◌∙◌}
use mathlib.Core.Bool.{true, false}
use mathlib.Core.List.{List, ◌∷◌}
use Prim.Native.Nat.{ℕ, suc, ◌+◌, ◌*◌, ◌-◌, ◌<◌, ◌≤◌}
use native.Mathlib.Nat.{add-zero}
use native.Mathlib.Numerals.{add-one}
use native.Mathlib.Omega.{arith}
use lib.ListN.{get_or, drop}
use borrow.Author.Tests.{eq-eqb, ne_eqb}
use lib.Seq.{get_or-take, get_or-drop, drop-drop}
use Rattle.words.specs.Stacks.{block_at}
use Rattle.varset.specs.Sets.{Set}
use Rattle.spec_machine.specs.Values.{Ty, Value, type_v}
use Rattle.spec_machine.specs.Program.{Program}
use Rattle.spec_image.specs.Decode.{value_of, values_of, nodes_of}
use Rattle.state_words.specs.Meaning.{frame_at}
use Rattle.fit_frames.specs.Operands.{values_suit, node_suits, nodes_suit}
use Rattle.fit_frames.specs.Slots.{slots_in}

module _ (m : List ℕ) (i : ℕ) where
  -- one of its words
  pub block_word : (j : ℕ) → j < 20 → get_or (block_at 20 m 4480 i) j 0 ≡ get_or m (frame_at i + j) 0
  unfolding frame_at
  block_word j h = get_or-take 20 (drop (4480 + i * 20) m) j 0 h ∙ get_or-drop (4480 + i * 20) m j 0

  -- one word of its slots, from slot k on
  pub slot_word : (k j : ℕ) → 2 * k + j < 16 → get_or (drop (2 * k) (slots_in m i)) j 0 ≡ get_or m (frame_at i + (4 + k * 2 + j)) 0
  slot_word k j h =
      let e : 4 + (2 * k + j) ≡ 4 + k * 2 + j = omega arith in
      get_or-drop (2 * k) (slots_in m i) j 0
      ∙ get_or-drop 4 (block_at 20 m 4480 i) (2 * k + j) 0
      ∙ block_word (4 + (2 * k + j)) (omega arith)
      ∙ rw e

-- ---- the loops over the slots

module _ (m : List ℕ) (i k : ℕ) (room : k < 8) where
  slots_next : drop 2 (drop (2 * k) (slots_in m i)) ≡ drop (2 * (k + 1)) (slots_in m i)
  slots_next =
      let e : 2 * k + 2 ≡ 2 * (k + 1) = omega arith in
      drop-drop 2 (2 * k) (slots_in m i) ∙ rw e

  slot_first : get_or (drop (2 * k) (slots_in m i)) 0 0 ≡ get_or m (frame_at i + (4 + k * 2)) 0
  slot_first = rw (add-zero (4 + k * 2)) at (slot_word m i k 0 (omega arith))

  -- the first of the values, and of the nodes, from slot k on
  values_open : (n : ℕ) → 0 < n
      → values_of n (drop (2 * k) (slots_in m i))
      ≡ value_of (get_or m (frame_at i + (4 + k * 2)) 0) (get_or (drop (2 * k) (slots_in m i)) 1 0) ∷ values_of (n - 1) (drop (2 * (k + 1)) (slots_in m i))
  unfolding values_of
  values_open n h =
      let z : n ≡ suc (n - 1) = omega arith in
      ap (λ (l : ℕ). values_of l (drop (2 * k) (slots_in m i))) z ∙ rw (slot_first, slots_next)

  nodes_open : (n : ℕ) → 0 < n
      → nodes_of n (drop (2 * k) (slots_in m i)) ≡ get_or m (frame_at i + (4 + k * 2)) 0 ∷ nodes_of (n - 1) (drop (2 * (k + 1)) (slots_in m i))
  unfolding nodes_of
  nodes_open n h =
      let z : n ≡ suc (n - 1) = omega arith in
      ap (λ (l : ℕ). nodes_of l (drop (2 * k) (slots_in m i))) z ∙ rw (slot_first, slots_next)

module _ (m : List ℕ) (i y k : ℕ) (want : ℕ → Ty) (here : k < y) (room : y < 8) where
  abbrev from : ℕ → List Value
  from j = values_of (y - j) (drop (2 * j) (slots_in m i))

  abbrev first : Value
  first = value_of (get_or m (frame_at i + (4 + k * 2)) 0) (get_or (drop (2 * k) (slots_in m i)) 1 0)

  opened : from k ≡ first ∷ from (k + 1)
  opened =
      let z : y - k - 1 ≡ y - (k + 1) = omega arith in
      values_open m i k (omega arith) (y - k) (omega arith) ∙ rw z

  -- a value has the type wanted, and the rest is left
  pub values_more : (t : Ty) → t ≡ type_v first → want k ≡ t → values_suit want k (from k) ≡ values_suit want (k + 1) (from (k + 1))
  values_more t e q = rw (opened, eq-eqb (want k) (type_v first) (q ∙ e), add-one k)

  pub values_less : (t : Ty) → t ≡ type_v first → (want k ≡ t → ⊥) → values_suit want k (from k) ≡ false
  values_less t e q = rw (opened, ne_eqb (want k) (type_v first) (λ h. q (h ∙ sym e)))

-- no value is left
pub values_end : (m : List ℕ) (i y k : ℕ) (want : ℕ → Ty) → y ≤ k → values_suit want k (values_of (y - k) (drop (2 * k) (slots_in m i))) ≡ true
unfolding values_of
values_end m i y k want h = let z : y - k ≡ 0 = omega arith in rw z

pub values_all : (m : List ℕ) (i y : ℕ) (want : ℕ → Ty)
    → values_suit want 0 (values_of y (slots_in m i)) ≡ values_suit want 0 (values_of (y - 0) (drop (2 * 0) (slots_in m i)))
values_all m i y want = let z : y - 0 ≡ y = omega arith in rw z

module _ (P : Program) (f : ℕ) (d : Set) (m : List ℕ) (i e k : ℕ) (want : ℕ → Ty) where
  abbrev nodes : ℕ → List ℕ
  nodes j = nodes_of (e - j) (drop (2 * j) (slots_in m i))

  module _ (here : k < e) (room : e < 8) where
    opened_nodes : nodes k ≡ get_or m (frame_at i + (4 + k * 2)) 0 ∷ nodes (k + 1)
    opened_nodes =
        let z : e - k - 1 ≡ e - (k + 1) = omega arith in
        nodes_open m i k (omega arith) (e - k) (omega arith) ∙ rw z

    pub nodes_more : node_suits P f d (want (k + 1)) (get_or m (frame_at i + (4 + k * 2)) 0) ≡ true
        → nodes_suit P f d want (k + 1) (nodes k) ≡ nodes_suit P f d want (k + 1 + 1) (nodes (k + 1))
    nodes_more q = rw (opened_nodes, q, add-one (k + 1))

    pub nodes_less : node_suits P f d (want (k + 1)) (get_or m (frame_at i + (4 + k * 2)) 0) ≡ false
        → nodes_suit P f d want (k + 1) (nodes k) ≡ false
    nodes_less q = rw (opened_nodes, q)

  pub nodes_end : e ≤ k → nodes_suit P f d want (k + 1) (nodes k) ≡ true
  unfolding nodes_of
  nodes_end h = let z : e - k ≡ 0 = omega arith in rw z
