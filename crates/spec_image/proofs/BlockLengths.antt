-- Every frame has 20 words and every activation 136; those that are narrow are read back from them.
use mathlib.Core.Path.{◌≡◌, refl, ◌∙◌}
use mathlib.Core.List.{List, [], ◌∷◌, ◌++◌, append_assoc}
use Prim.Native.Nat.{ℕ, zero, suc, ◌+◌, ◌*◌, ◌-◌, ◌≤◌, ◌<◌}
use native.Mathlib.Omega.{arith}
use lib.ListN.{length, get_or, take, replicate, length-append, length-replicate}
use lib.Seq.{length-take-le, drop_at, get_or-take}
use Rattle.words.specs.Stacks.{Every, Wide, Back}
use Rattle.spec_machine.specs.Values.{Value}
use Rattle.spec_machine.specs.Program.{Operation, op, fn}
use Rattle.spec_machine.specs.Machine.{Frame, gather, and, wait, branch, check}
use Rattle.spec_image.specs.Layout.{filled, values_words, nodes_words, block, gathering, frame_words, Activation, activation, activation_words}
use Rattle.spec_image.specs.Decode.{operands, frames, frame_of, activation_of}
use Rattle.spec_image.specs.Narrow.{NarrowFrame, NarrowActivation}
use Rattle.spec_image.proofs.ValueWords.{ref_back, length-values, length_nodes, values_back, nodes_back, take_over}

-- a block has its width, whatever it holds
pub length-filled : (w : ℕ) (l : List ℕ) → length (filled w l) ≡ w
unfolding filled
length-filled w l = length-take-le w (l ++ replicate w 0) (simp (length-append, length-replicate) (omega arith))

pub zeros_at : (w j : ℕ) → ◌≡◌ {A = ℕ} (get_or (replicate w 0) j 0) 0
zeros_at zero j = refl
zeros_at (suc w) zero = refl
zeros_at (suc w) (suc j) = zeros_at w j

zeros_after : (l : List ℕ) (w j : ℕ) → get_or (l ++ replicate w 0) j 0 ≡ get_or l j 0
zeros_after [] w j = zeros_at w j
zeros_after (x ∷ l) w zero = refl
zeros_after (x ∷ l) w (suc j) = zeros_after l w j

-- one word of a block
pub filled_at : (w : ℕ) (l : List ℕ) (j : ℕ) → j < w → get_or (filled w l) j 0 ≡ get_or l j 0
unfolding filled
filled_at w l j h = get_or-take w (l ++ replicate w 0) j 0 h ∙ zeros_after l w j

pub frame_wide : (f : Frame) → Wide 20 frame_words f
unfolding frame_words gathering block
frame_wide (gather (op o) vs ns) = length-filled 20 _
frame_wide (gather (fn g) vs ns) = length-filled 20 _
frame_wide (and n) = length-filled 20 _
frame_wide (wait r) = length-filled 20 _
frame_wide (Frame.store x) = length-filled 20 _
frame_wide (branch a b) = length-filled 20 _
frame_wide Frame.leave = length-filled 20 _
frame_wide check = length-filled 20 _
frame_wide Frame.discard = length-filled 20 _

pub activation_wide : (a : Activation) → Wide 136 activation_words a
unfolding activation_words
activation_wide (activation f k η) = length-filled 136 _

-- at most 7 operands are read back from the 16 words after the first four
operands_back : (h : Operation) (vs : List Value) (ns : List ℕ) → length vs + length ns ≤ 7
    → operands h (length vs) (length ns) (take 16 ((values_words vs ++ nodes_words ns) ++ replicate 20 0)) ≡ gather h vs ns
unfolding operands
operands_back h vs ns q =
    let l = values_words vs ++ nodes_words ns in
    let n : length l ≤ 16 = simp (length-append, length-values, length_nodes) (omega arith) in
    let Z : List ℕ = take (16 - length l) (replicate 20 0) in
    let e : take 16 (l ++ replicate 20 0) ≡ values_words vs ++ (nodes_words ns ++ Z) = take_over 16 l (replicate 20 0) n ∙ append_assoc (values_words vs) (nodes_words ns) Z in
    rw (e, values_back vs (nodes_words ns ++ Z), drop_at (values_words vs) (nodes_words ns ++ Z) (2 * length vs) (length-values vs), nodes_back ns Z)

pub frame_back : (f : Frame) → NarrowFrame f → Back frame_words frame_of f
unfolding frame_words gathering block filled frame_of frames
frame_back (gather (op o) vs ns) h = operands_back (op o) vs ns h
frame_back (gather (fn g) vs ns) h = operands_back (fn g) vs ns h
frame_back (and n) h = refl
frame_back (wait r) h = rw (ref_back r)
frame_back (Frame.store x) h = refl
frame_back (branch a b) h = rw (ref_back a, ref_back b)
frame_back Frame.leave h = refl
frame_back check h = refl
frame_back Frame.discard h = refl

pub activation_back : (a : Activation) → NarrowActivation a → Back activation_words activation_of a
unfolding activation_words filled activation_of
activation_back (activation f k η) h =
    let n : length (values_words η) ≤ 128 = omega (arith, length-values η) in
    rw (take_over 128 (values_words η) (replicate 136 0) n, values_back η (take (128 - length (values_words η)) (replicate 136 0)))

-- what holds of every entry, by what does
pub every_so : {E : Type 0} (P Q : E → Type 0) → ((f : E) → P f → Q f) → (K : List E) → Every P K → Every Q K
every_so P Q h [] p = tt
every_so P Q h (f ∷ K) p = (h f p.0, every_so P Q h K p.1)

pub every_take : {E : Type 0} (P : E → Type 0) (n : ℕ) (K : List E) → Every P K → Every P (take n K)
every_take P zero K h = tt
every_take P (suc n) [] h = tt
every_take P (suc n) (f ∷ K) h = (h.0, every_take P n K h.1)

-- what holds of every entry and of the default holds at any place
pub get_d_so : {E : Type 0} (P : E → Type 0) (K : List E) (n : ℕ) (d : E) → Every P K → P d → P (get_or K n d)
get_d_so P [] n d h q = q
get_d_so P (f ∷ K) zero d h q = h.0
get_d_so P (f ∷ K) (suc n) d h q = get_d_so P K n d h.1 q
