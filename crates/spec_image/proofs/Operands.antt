-- The operands of the top frame while a state runs: read, and the next one stored.
use mathlib.Core.Path.{◌≡◌, refl, sym, ap, ◌∙◌}
use mathlib.Core.List.{List, [], ◌∷◌, ◌++◌, append_assoc}
use Prim.Native.Nat.{ℕ, suc, ◌+◌, ◌*◌, ◌-◌, ◌≤◌, ◌<◌}
use native.Mathlib.Nat.{add-zero}
use native.Mathlib.Omega.{arith}
use lib.ListN.{length, get_or, set, take, drop, replicate, length-append, length-replicate, length-set, replicate-append-replicate}
use lib.Seq.{take_at}
use Rattle.words.specs.Blocks.{puts}
use Rattle.words.proofs.Blocks.{puts_block, get_d_block, set_block}
use Rattle.words.proofs.Moves.{puts_from}
use Rattle.spec_machine.specs.Values.{Value, nothing}
use Rattle.spec_machine.specs.Program.{Operation}
use Rattle.spec_machine.specs.Machine.{Frame, gather, Saved}
use Rattle.spec_image.specs.Layout.{filled, value_words, values_words, nodes_words, frame_words}
use Rattle.spec_image.specs.Image.{saved_frames}
use Rattle.spec_image.specs.Decode.{value_of}
use Rattle.spec_image.specs.Core.{core}
use Rattle.spec_image.proofs.ValueWords.{value_back, length-values, length_nodes}
use Rattle.spec_image.proofs.SlotWords.{length_value, values_append, values_one, values_at, nodes_at, nodes_set, blank_values, blank_nodes}
use Rattle.spec_image.proofs.Rooms.{filled_is}
use Rattle.spec_image.proofs.Frames.{head_kind, head_word, frame_words_lem, push_frame, top_word, change_frame}

-- ---- the words of a frame that gathers

-- the first four words, the values, the nodes, zeros
pub gather_words : (h : Operation) (vs : List Value) (ns : List ℕ) → length vs + length ns ≤ 7
    → frame_words (gather h vs ns)
    ≡ head_kind h ∷ head_word h ∷ length vs ∷ length ns ∷ values_words vs ++ (nodes_words ns ++ replicate (16 - 2 * (length vs + length ns)) 0)
gather_words h vs ns q =
    let l = head_kind h ∷ head_word h ∷ length vs ∷ length ns ∷ values_words vs ++ nodes_words ns in
    let s : length l ≡ 4 + 2 * (length vs + length ns) = omega (arith, length-append (values_words vs) (nodes_words ns), length-values vs, length_nodes ns) in
    let n : length l ≤ 20 = omega arith in
    let e : 20 - length l ≡ 16 - 2 * (length vs + length ns) = omega arith in
    frame_words_lem (gather h vs ns) ∙ filled_is 20 l n ∙ rw (e, append_assoc (values_words vs) (nodes_words ns))

-- the words of its values and of d slots after them, where no node waits
pub gather_slots : (h : Operation) (vs : List Value) (d : ℕ) → length vs ≤ 7 → length vs + d ≤ 8
    → take (2 * (length vs + d)) (drop 4 (frame_words (gather h vs []))) ≡ values_words (vs ++ replicate d nothing)
unfolding nodes_words
gather_slots h vs d short room =
    let q : length vs + length {A = ℕ} [] ≤ 7 = omega arith in
    let i : 16 - 2 * (length vs + length {A = ℕ} []) ≡ 2 * d + (16 - 2 * (length vs + d)) = omega arith in
    let z : replicate {A = ℕ} (16 - 2 * (length vs + length {A = ℕ} [])) 0 ≡ replicate (2 * d) 0 ++ replicate (16 - 2 * (length vs + d)) 0
    = rw i (sym (replicate-append-replicate (2 * d) (16 - 2 * (length vs + d)) 0)) in
    let u : values_words (vs ++ replicate d nothing) ≡ values_words vs ++ replicate (2 * d) 0
    = values_append vs (replicate d nothing) ∙ rw (blank_values d) in
    let n : length (values_words vs ++ replicate {A = ℕ} (2 * d) 0) ≡ 2 * (length vs + d)
    = omega (arith, length-append (values_words vs) (replicate {A = ℕ} (2 * d) 0), length-values vs, length-replicate {A = ℕ} (2 * d) 0) in
    rw (gather_words h vs [] q, z, u, ← append_assoc (values_words vs) (replicate (2 * d) 0) (replicate {A = ℕ} (16 - 2 * (length vs + d)) 0))
    (take_at (values_words vs ++ replicate (2 * d) 0) _ (2 * (length vs + d)) n)

-- a word of value k
value_word : (h : Operation) (vs : List Value) (ns : List ℕ) → length vs + length ns ≤ 7 → (k j : ℕ) → k < length vs → j < 2
    → get_or (frame_words (gather h vs ns)) (4 + (2 * k + j)) 0 ≡ get_or (value_words (get_or vs k nothing)) j 0
value_word h vs ns q k j hk hj =
    rw (gather_words h vs ns q)
    (get_d_block (head_kind h ∷ head_word h ∷ length vs ∷ length ns ∷ []) (values_words vs) _ 4 (2 * k + j) refl (omega (arith, length-values vs))
    ∙ values_at vs k j hk hj)

-- node k
node_word : (h : Operation) (vs : List Value) (ns : List ℕ) → length vs + length ns ≤ 7 → (k : ℕ) → k < length ns
    → get_or (frame_words (gather h vs ns)) (4 + 2 * length vs + 2 * k) 0 ≡ get_or ns k 0
node_word h vs ns q k hk =
    let p = head_kind h ∷ head_word h ∷ length vs ∷ length ns ∷ values_words vs in
    let n : length p ≡ 4 + 2 * length vs = omega (arith, length-values vs) in
    rw (gather_words h vs ns q)
    (get_d_block p (nodes_words ns) _ (4 + 2 * length vs) (2 * k) n (omega (arith, length_nodes ns)) ∙ nodes_at ns k)

-- the value of the node that waits first takes its slot
operand_stored : (h : Operation) (vs : List Value) (e : ℕ) (ns : List ℕ) (v : Value) → length vs + suc (length ns) ≤ 7
    → puts (puts (frame_words (gather h vs (e ∷ ns))) (4 + 2 * length vs) 0 (value_words v)) 2 0 ((length vs + 1) ∷ length ns ∷ [])
    ≡ frame_words (gather h (vs ++ (v ∷ [])) ns)
unfolding nodes_words
operand_stored h vs e ns v q =
    let p = head_kind h ∷ head_word h ∷ length vs ∷ suc (length ns) ∷ values_words vs in
    let z : List ℕ = replicate (16 - 2 * (length vs + suc (length ns))) 0 in
    let n : length p ≡ 4 + 2 * length vs + 0 = omega (arith, length-values vs) in
    let m : length (vs ++ (v ∷ [])) ≡ length vs + 1 = length-append vs (v ∷ []) in
    let r : length (vs ++ (v ∷ [])) + length ns ≤ 7 = omega arith in
    let i : 16 - 2 * (length (vs ++ (v ∷ [])) + length ns) ≡ 16 - 2 * (length vs + suc (length ns)) = omega arith in
    let w : values_words (vs ++ (v ∷ [])) ≡ values_words vs ++ value_words v = values_append vs (v ∷ []) ∙ rw (values_one v) in
    let t : puts (p ++ ((e ∷ 0 ∷ []) ++ (nodes_words ns ++ z))) (4 + 2 * length vs) 0 (value_words v) ≡ p ++ (value_words v ++ (nodes_words ns ++ z))
    = puts_block (value_words v) (e ∷ 0 ∷ []) p (nodes_words ns ++ z) (4 + 2 * length vs) 0 n (sym (length_value v)) in
    rw (gather_words h vs (e ∷ ns) q, gather_words h (vs ++ (v ∷ [])) ns r, t, i, w, m, append_assoc (values_words vs) (value_words v) (nodes_words ns ++ z))

-- with nodes that are not stored yet
pub waiting_words : (h : Operation) (m : ℕ) → m ≤ 7 → frame_words (gather h [] (replicate m 0)) ≡ filled 20 (head_kind h ∷ head_word h ∷ 0 ∷ m ∷ [])
unfolding values_words
waiting_words h m q =
    let n : length (replicate {A = ℕ} m 0) ≡ m = length-replicate m 0 in
    let i : 2 * m + (16 - 2 * (0 + m)) ≡ 16 = omega arith in
    let z : replicate {A = ℕ} (2 * m) 0 ++ replicate (16 - 2 * (0 + m)) 0 ≡ replicate 16 0
    = replicate-append-replicate (2 * m) (16 - 2 * (0 + m)) 0 ∙ ap (λ (k : ℕ). replicate {A = ℕ} k 0) i in
    gather_words h [] (replicate m 0) (omega arith) ∙ rw (n, blank_nodes m, z) (sym (filled_is 20 (head_kind h ∷ head_word h ∷ 0 ∷ m ∷ []) (omega arith)))

node_stored : (h : Operation) (ns : List ℕ) (k e : ℕ) → k < length ns → length ns ≤ 7
    → set (frame_words (gather h [] ns)) (4 + 2 * k) e ≡ frame_words (gather h [] (set ns k e))
unfolding values_words
node_stored h ns k e hk q =
    let r : 0 + length ns ≤ 7 = omega arith in
    let t : 0 + length (set ns k e) ≤ 7 = simp length-set (omega arith) in
    rw (gather_words h [] ns r, gather_words h [] (set ns k e) t, length-set ns k e, ← nodes_set ns k e)
    (set_block (head_kind h ∷ head_word h ∷ 0 ∷ length ns ∷ []) (nodes_words ns) _ 4 (2 * k) e refl (omega (arith, length_nodes ns)))

-- ---- while a state runs

module _ (f : ℕ) (η : List Value) (K : List Frame) (A : List Saved) (R : List ℕ) (n at : ℕ)
    (few : length A < 32) (count : n ≡ length (K ++ saved_frames A)) (place : at ≡ 4480 + n * 20) (h : Operation) where
  module _ (vs : List Value) (ns : List ℕ) (short : length vs + length ns ≤ 7) where
    -- the two words of value k
    pub read_value : (k j b : ℕ) → k < length vs → j < 2 → b ≡ at + (4 + (k * 2 + j))
        → get_or (core f η (gather h vs ns ∷ K) A ++ R) b 0 ≡ get_or (value_words (get_or vs k nothing)) j 0
    read_value k j b hk hj e =
        top_word f η K A R n at few count place (gather h vs ns) b (4 + (2 * k + j)) (omega arith) (omega arith) ∙ value_word h vs ns short k j hk hj

    -- the value that they stand for
    pub value_in : (k b : ℕ) → k < length vs → b ≡ at + (4 + k * 2) → let l = core f η (gather h vs ns ∷ K) A ++ R in
        value_of (get_or l b 0) (get_or l (b + 1) 0) ≡ get_or vs k nothing
    value_in k b hk e =
        rw (read_value k 0 b hk (omega arith) (omega arith), read_value k 1 (b + 1) hk (omega arith) (omega arith)) (value_back (get_or vs k nothing))

    -- node k of those that wait
    pub read_node : (k b : ℕ) → k < length ns → b ≡ at + (4 + (length vs + k) * 2)
        → get_or (core f η (gather h vs ns ∷ K) A ++ R) b 0 ≡ get_or ns k 0
    read_node k b hk e =
        top_word f η K A R n at few count place (gather h vs ns) b (4 + 2 * length vs + 2 * k) (omega arith) (omega arith) ∙ node_word h vs ns short k hk

  -- a value takes the slot of the node that waits first
  pub next_operand : (vs : List Value) (e : ℕ) (ns : List ℕ) (v : Value) (b y z : ℕ) → length vs + suc (length ns) ≤ 7
      → b ≡ at + (4 + length vs * 2) → y ≡ length vs + 1 → z ≡ length ns
      → puts (puts (core f η (gather h vs (e ∷ ns) ∷ K) A ++ R) b 0 (value_words v)) at 2 (y ∷ z ∷ [])
      ≡ core f η (gather h (vs ++ (v ∷ [])) ns ∷ K) A ++ R
  next_operand vs e ns v b y z short hb hy hz =
      rw (hy, hz, puts_from ((length vs + 1) ∷ length ns ∷ []) (puts (core f η (gather h vs (e ∷ ns) ∷ K) A ++ R) b 0 (value_words v)) at 2 0)
      (change_frame f η K A R n at few count place (gather h vs (e ∷ ns)) (gather h (vs ++ (v ∷ [])) ns) b (at + 2) (4 + 2 * length vs) 2
      (value_words v) ((length vs + 1) ∷ length ns ∷ []) (omega arith) refl (omega (arith, length_value v)) (omega arith) (operand_stored h vs e ns v short))

  -- a frame that gathers is laid on the top, with m nodes that are not stored yet
  pub push_waiting : (m : ℕ) → n < 512 → m ≤ 7
      → puts (core f η K A ++ R) at 0 (head_kind h ∷ head_word h ∷ 0 ∷ m ∷ []) ≡ core f η (gather h [] (replicate m 0) ∷ K) A ++ R
  push_waiting m room q =
      push_frame f η K A R n at few count place (gather h [] (replicate m 0)) (head_kind h ∷ head_word h ∷ 0 ∷ m ∷ []) room (omega arith) (waiting_words h m q)

  -- node k is stored
  pub store_node : (ns : List ℕ) (k e b : ℕ) → k < length ns → length ns ≤ 7 → b ≡ at + (4 + k * 2)
      → set (core f η (gather h [] ns ∷ K) A ++ R) b e ≡ core f η (gather h [] (set ns k e) ∷ K) A ++ R
  store_node ns k e b hk q hb =
      rw (add-zero b) at
      (change_frame f η K A R n at few count place (gather h [] ns) (gather h [] (set ns k e)) b at (4 + 2 * k) 0 (e ∷ []) [] (omega arith) (sym (add-zero at))
      (omega arith) (omega arith) (rw (add-zero (4 + 2 * k)) (node_stored h ns k e hk q)))
