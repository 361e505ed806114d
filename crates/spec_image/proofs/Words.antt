-- The words of an image are words of 32 bits.
use mathlib.Core.Path.{◌≡◌}
use mathlib.Core.Bool.{true, false}
use mathlib.Core.List.{List, [], ◌∷◌, ◌++◌}
use mathlib.Core.Option.{none, some}
use Prim.Native.Nat.{ℕ, zero, suc, ◌+◌, ◌*◌, ◌-◌, ◌^◌, ◌≤◌, ◌<◌}
use native.Mathlib.Omega.{arith}
use lib.ListN.{length, get_or, replicate}
use borrow.Author.Tests.{ltb-true}
use Rattle.words.specs.Stacks.{words, region, Every}
use Rattle.words.proofs.Stacks.{every_append}
use Rattle.records.proofs.Bools.{and_left}
use Rattle.spec_language.specs.Check.{accepted, check_of}
use Rattle.spec_machine.specs.Values.{Ty, Value, nothing, int, truth}
use Rattle.spec_machine.specs.Program.{Operation, op, fn, Ref, node, if_of, seq_of, Program, owns, type_n, gives}
use Rattle.spec_machine.specs.Machine.{Exception, abort, Frame, gather, and, wait, branch, check, Control, val, eval, exec, Saved, saved, RunEnv, State, exception, calling, returned, running}
use Rattle.spec_machine.specs.Fit.{HasFunction, KnownOperation, IsStmt, AllExpr, TakesNone, Takes, ControlOver, Entry, Callers, AllWords, FramesInWords, ControlInWord, SavedInWords, frame_limit, saved_frame_count, Fit}
use Rattle.spec_machine.specs.File.{program_of}
use Rattle.spec_machine.proofs.Given.{of_given}
use Rattle.spec_image.specs.Sizes.{head_size, activation_size, caller_room, frame_size, frame_room, env_size}
use Rattle.spec_image.specs.Layout.{filled, bit, value_words, values_words, nodes_words, ref_word, block, gathering, frame_words, control_words, Activation, activation, activation_words, env_words}
use Rattle.spec_image.specs.Image.{saved_activations, saved_frames, head_words, activations_of, frames_of, env_part, image}
use Rattle.spec_image.proofs.BlockLengths.{every_take, get_d_so}
use Rattle.spec_image.proofs.Sized.{Sized, operands_few, held_few, file_sized}

-- a word of 32 bits, and frames and activations of such words
abbrev Word : ℕ → Type 0
Word w = w < 2 ^ 32

abbrev SmallFrame : Frame → Type 0
SmallFrame fr = Every Word (frame_words fr)

abbrev SmallActivation : Activation → Type 0
SmallActivation a = Every Word (activation_words a)

-- ---- zeros, blocks and regions

zeros_small : (w : ℕ) → Every Word (replicate w 0)
zeros_small zero = tt
zeros_small (suc w) = (omega arith, zeros_small w)

filled_small : (w : ℕ) (l : List ℕ) → Every Word l → Every Word (filled w l)
unfolding filled
filled_small w l h = every_take Word w (l ++ replicate w 0) (every_append Word l (replicate w 0) h (zeros_small w))

module _ {E : Type 0} (enc : E → List ℕ) where
  words_small : (K : List E) → Every (λ f. Every Word (enc f)) K → Every Word (words enc K)
  words_small [] h = tt
  words_small (f ∷ K) h = every_append Word (words enc K) (enc f) (words_small K h.1) h.0

  region_small : (w m : ℕ) (K : List E) → Every (λ f. Every Word (enc f)) K → Every Word (region w enc m K)
  region_small w m K h = every_append Word (words enc K) _ (words_small K h) (zeros_small ((m - length K) * w))

-- ---- values, frames and activations

values_small : (α : RunEnv) (vs : List Value) → AllWords α vs → Every Word (values_words vs)
unfolding values_words value_words bit
values_small α [] w = tt
values_small α (nothing ∷ vs) w = (omega arith, (omega arith, values_small α vs w.1))
values_small α (int n ∷ vs) w = (omega arith, (w.0, values_small α vs w.1))
values_small α (truth true ∷ vs) w = (omega arith, (omega arith, values_small α vs w.1))
values_small α (truth false ∷ vs) w = (omega arith, (omega arith, values_small α vs w.1))

block_small : (kind x y z : ℕ) (l : List ℕ) → kind < 10 → Word x → Word y → Word z → Every Word l → Every Word (block kind x y z l)
unfolding block
block_small kind x y z l k p q r h = filled_small frame_size (kind ∷ x ∷ y ∷ z ∷ l) (omega arith, (p, (q, (r, h))))

-- a block of two words after its kind
pair_small : (kind x y : ℕ) → kind < 10 → Word x → Word y → Every Word (block kind x y 0 [])
pair_small kind x y k p q = block_small kind x y 0 [] k p q (omega arith) tt

activation_small : (α : RunEnv) (f k : ℕ) (η : List Value) → f < 128 → k ≤ frame_limit → length η ≤ 64 → AllWords α η → SmallActivation (activation f k η)
unfolding activation_words
activation_small α f k η p q r w =
    let z : Word 0 = omega arith in
    filled_small activation_size (f ∷ k ∷ length η ∷ 0 ∷ 0 ∷ 0 ∷ 0 ∷ 0 ∷ values_words η) (omega arith, (omega arith, (omega arith, (z, (z, (z, (z, (z, values_small α η w))))))))

-- ---- what a fit state has

module _ (P : Program) (z : Sized P) where
  module _ (f : ℕ) (has : HasFunction P f) where
    node_few : (n : ℕ) → owns P f n ≡ true → n < 4096
    node_few n e = omega (arith, ltb-true n (P.nodes f) e, z.nodes f has)

    ref_small : (r : Ref) → IsStmt P f r → Word (ref_word r)
    unfolding ref_word
    ref_small (node n) h = omega (arith, node_few n (and_left (owns P f n) _ h.0))
    ref_small Ref.nop h = omega arith
    ref_small (if_of n) h = omega (arith, node_few n h.0)
    ref_small (seq_of n) h = omega (arith, node_few n h.0)

    nodes_small : (ns : List ℕ) → AllExpr P f ns → Every Word (nodes_words ns)
    unfolding nodes_words
    nodes_small [] h = tt
    nodes_small (n ∷ ns) h = (omega (arith, node_few n h.0.0), (omega arith, nodes_small ns h.1))

    gather_small : (α : RunEnv) (h : Operation) (vs : List Value) (ns : List ℕ) → KnownOperation P h → length vs + length ns ≤ 7 → AllWords α vs → AllExpr P f ns
        → SmallFrame (gather h vs ns)
    unfolding frame_words gathering
    gather_small α h vs ns k few w e = go h k (every_append Word (values_words vs) (nodes_words ns) (values_small α vs w) (nodes_small ns e))
      where
        go : (h : Operation) → KnownOperation P h → Every Word (values_words vs ++ nodes_words ns) → SmallFrame (gather h vs ns)
        go (op o) k s = block_small 1 o (length vs) (length ns) _ (omega arith) (omega arith) (omega arith) (omega arith) s
        go (fn g) k s = block_small 2 g (length vs) (length ns) _ (omega arith) (omega (arith, z.funs)) (omega arith) (omega arith) s

    none_small : (K : List Frame) → TakesNone P f K → Every SmallFrame K
    unfolding frame_words
    none_small [] h = tt
    none_small (gather g vs ns ∷ K) h = absurd h
    none_small (and n ∷ K) h = absurd h
    none_small (wait r ∷ K) h = (pair_small 4 (ref_word r) 0 (omega arith) (ref_small r h.0) (omega arith), none_small K h.1)
    none_small (Frame.store x ∷ K) h = absurd h
    none_small (branch a b ∷ K) h = absurd h
    none_small (Frame.leave ∷ K) h = absurd h
    none_small (check ∷ K) h = absurd h
    none_small (Frame.discard ∷ K) h = absurd h

    takes_small : (α : RunEnv) (t : Ty) (K : List Frame) → Takes P f t K → FramesInWords α K → Every SmallFrame K
    unfolding frame_words
    takes_small α t [] h w = absurd h
    takes_small α t (gather g vs ns ∷ K) h w =
        (gather_small α g vs ns h.3 (operands_few P z f t g vs ns h.3 h.0) w.0 h.1, of_given (gives P g) (λ u x. takes_small α u K x w.1) (none_small K) h.2)
    takes_small α t (and n ∷ K) h w = (pair_small 3 n 0 (omega arith) (omega (arith, node_few n h.1.0)) (omega arith), takes_small α _ K h.3 w)
    takes_small α t (wait r ∷ K) h w = absurd h
    takes_small α t (Frame.store x ∷ K) h w = (pair_small 5 x 0 (omega arith) (omega (arith, h.1, z.vars f has)) (omega arith), none_small K h.2)
    takes_small α t (branch a b ∷ K) h w = (pair_small 6 (ref_word a) (ref_word b) (omega arith) (ref_small a h.1) (ref_small b h.2), none_small K h.3)
    takes_small α t (Frame.leave ∷ K) h w = (pair_small 7 0 0 (omega arith) (omega arith) (omega arith), none_small K h.1)
    takes_small α t (check ∷ K) h w = (pair_small 8 0 0 (omega arith) (omega arith) (omega arith), none_small K h.1)
    takes_small α t (Frame.discard ∷ K) h w = (pair_small 9 0 0 (omega arith) (omega arith) (omega arith), none_small K h)

    -- the words of the control, and of its frames
    control_small : (α : RunEnv) (c : Control) (K : List Frame) → ControlOver P f c K → ControlInWord α c → FramesInWords α K → Every Word (control_words c) × Every SmallFrame K
    unfolding control_words bit
    control_small α (val nothing) K h v w = ((omega arith, (omega arith, tt)), takes_small α _ K h w)
    control_small α (val (int n)) K h v w = ((omega arith, (v, tt)), takes_small α _ K h w)
    control_small α (val (truth true)) K h v w = ((omega arith, (omega arith, tt)), takes_small α _ K h w)
    control_small α (val (truth false)) K h v w = ((omega arith, (omega arith, tt)), takes_small α _ K h w)
    control_small α (eval n) K h v w = ((omega arith, (omega (arith, node_few n h.0.0), tt)), takes_small α (type_n P f n) K h.2 w)
    control_small α (exec r) K h v w = ((omega arith, (ref_small r h.0, tt)), none_small K h.1)

  callers_small : (α : RunEnv) (e f : ℕ) (A : List Saved) → Callers P e f A → SavedInWords α A → saved_frame_count A ≤ frame_limit
      → Every SmallActivation (saved_activations A) × Every SmallFrame (saved_frames A)
  unfolding saved_activations saved_frames
  callers_small α e f [] h w l = (tt, tt)
  callers_small α e f (saved g θ L ∷ A) h w l =
      let r = callers_small α e g A h.4 w.2 (omega arith) in (
        (activation_small α g (length L) θ (omega (arith, h.5, z.funs)) (omega arith) (held_few P z g θ h.5 h.0) w.0, r.0),
        every_append SmallFrame L (saved_frames A) (takes_small g h.5 α (P.fun f).result L h.1 w.1) r.1,
      )

  state_small : (s : State) → Fit P s → Every Word (head_words s) × Every SmallActivation (activations_of s) × Every SmallFrame (frames_of s)
  unfolding head_words activations_of frames_of
  state_small (State.value c) h = ((omega arith, (h.words, tt)), tt, tt)
  state_small (exception Exception.arith) h = ((omega arith, tt), tt, tt)
  state_small (exception abort) h = ((omega arith, tt), tt, tt)
  state_small (calling α none) h = ((omega arith, tt), tt, tt)
  state_small (calling α (some n)) h = ((omega arith, (h.words.0, tt)), tt, tt)
  state_small (returned α c) h = ((omega arith, (h.words, tt)), tt, tt)
  state_small (running c α f η K A) h =
      let p = h.proper in
      let w = h.words in
      let l = h.within in
      let k = control_small f p.known α c K p.frames w.0 w.2 in
      let r = callers_small α α.entry f A p.callers w.3 (omega arith) in (
        (omega arith, (omega arith, (omega arith, k.0))),
        (activation_small α f (length K) η (omega (arith, p.known, z.funs)) (omega arith) (held_few P z f η p.known p.holds) w.1, r.0),
        every_append SmallFrame K (saved_frames A) k.1 r.1,
      )

  -- the environment's words
  env_small : (α : RunEnv) → Entry P α.entry → Every Word (env_words α)
  unfolding env_words
  env_small α n = filled_small env_size (0 ∷ α.entry ∷ []) (omega arith, (omega arith, tt))

  part_small : (s : State) → Fit P s → Every Word (env_part s)
  unfolding env_part
  part_small (State.value c) h = zeros_small env_size
  part_small (exception x) h = zeros_small env_size
  part_small (calling α o) h = env_small α h.proper.0
  part_small (returned α c) h = env_small α h.proper
  part_small (running c α f η K A) h = env_small α h.proper.entry

  fit_small : (s : State) → Fit P s → Every Word (image s)
  unfolding image
  fit_small s h =
      let r = state_small s h in
      every_append Word (filled head_size (head_words s)) _ (filled_small head_size (head_words s) r.0)
      (every_append Word (region activation_size activation_words caller_room (activations_of s)) _ (region_small activation_words activation_size caller_room (activations_of s) r.1)
      (every_append Word (region frame_size frame_words frame_room (frames_of s)) (env_part s) (region_small frame_words frame_size frame_room (frames_of s) r.2) (part_small s h)))

-- every word of the image of a fit state of an accepted file is below 2 ^ 32
pub image_words : (b : List ℕ) → check_of b ≡ accepted → (s : State) → Fit (program_of b) s → (i : ℕ) → get_or (image s) i 0 < 2 ^ 32
image_words b e s h i = get_d_so Word (image s) i 0 (fit_small (program_of b) (file_sized b e) s h) (omega arith)
