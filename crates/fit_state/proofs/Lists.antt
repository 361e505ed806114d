-- The loops over activations.
use mathlib.Core.Path.{◌≡◌, refl, sym, ap, ◌∙◌}
use mathlib.Core.Bool.{Bool, true, false, ◌&&◌, and-false, false≢true}
use mathlib.Core.List.{List, ◌++◌}
use Prim.Native.Nat.{ℕ, suc, ◌+◌, ◌*◌, ◌-◌, ◌≤◌, ◌<◌}
use native.Mathlib.Omega.{arith}
use lib.Dec.{eqb}
use lib.ListN.{get_or, take, drop}
use lib.Seq.{take_at, drop_at}
use Rattle.words.specs.Stacks.{entries, chain}
use Rattle.words.proofs.Entries.{length-entries, entries_append}
use Rattle.spec_machine.specs.Values.{Value}
use Rattle.spec_machine.specs.Program.{Program, var_types}
use Rattle.spec_machine.specs.Machine.{Frame}
use Rattle.spec_machine.specs.Fit.{held}
use Rattle.spec_machine.specs.Test.{has_function, all_hold_typed}
use Rattle.spec_image.specs.Layout.{Activation, activation}
use Rattle.spec_image.specs.Decode.{frame_of, activation_of, frames_held, activations_to, held_in}
use Rattle.state_words.specs.Meaning.{activation_at}
use Rattle.state_words.proofs.Totals.{activation_word, frames_of_lem, total_last}
use Rattle.varset.specs.Sets.{has}
use Rattle.varset.specs.declared.VarSet.{VarSet}
use Rattle.std.specs.Prelude.{Some, None}
use Rattle.fit_frames.specs.declared.Received.{Received}
use Rattle.fit_frames.specs.Incoming.{frame_fits, hands_on, ends}
use Rattle.fit_frames.specs.Meaning.{incoming_is}
use Rattle.fit_state.specs.Activations.{Over, calls, frames_fit, activation_fit, function_of, frames_under, callers_fit}
use Rattle.fit_state.specs.Meaning.{OverAnswer, VariablesAnswer, variables_in, activation_in, frames_to}

-- ---- the words of an activation

module _ (m : List ℕ) (a : ℕ) where
  -- the activation by its three words
  pub activation_in_lem : (f k v : ℕ) → f ≡ get_or m (activation_at a + 0) 0 → k ≡ get_or m (activation_at a + 1) 0 → v ≡ get_or m (activation_at a + 2) 0
      → activation_in m a ≡ activation f k (variables_in m a v)
  unfolding activation_of
  activation_in_lem f k v e q r =
      rw (activation_word m a 0 (omega arith), activation_word m a 1 (omega arith), activation_word m a 2 (omega arith), ← e, ← q, ← r)

  pub function_of_lem : (f : ℕ) → f ≡ get_or m (activation_at a + 0) 0 → function_of (activation_in m a) ≡ f
  unfolding activation_of
  function_of_lem f e = rw (activation_word m a 0 (omega arith), ← e)

-- ---- frames, the last k of the first ones and those under them

module _ (m : List ℕ) (high k : ℕ) (h : k ≤ high) where
  cut : frames_to m high ≡ entries 20 frame_of m (4480 + (high - k) * 20) k ++ frames_to m (high - k)
  cut =
      let z : high ≡ k + (high - k) = omega arith in
      ap (frames_to m) z ∙ entries_append 20 frame_of m 4480 k (high - k)

  last : take k (frames_to m high) ≡ entries 20 frame_of m (4480 + (high - k) * 20) k
  last = rw cut (take_at (entries 20 frame_of m (4480 + (high - k) * 20) k) _ k (length-entries 20 frame_of m (4480 + (high - k) * 20) k))

  rest : drop k (frames_to m high) ≡ frames_to m (high - k)
  rest = rw cut (drop_at (entries 20 frame_of m (4480 + (high - k) * 20) k) _ k (length-entries 20 frame_of m (4480 + (high - k) * 20) k))

-- ---- one activation

module _ (P : Program) (o : Over) (m : List ℕ) (a high f k v : ℕ)
    (ef : f ≡ get_or m (activation_at a + 0) 0) (ek : k ≡ get_or m (activation_at a + 1) 0) (ev : v ≡ get_or m (activation_at a + 2) 0) where
  pub activation_unknown : has_function P f ≡ false → activation_fit P o (activation_in m a) (frames_to m high) ≡ false
  activation_unknown e = rw (activation_in_lem m a f k v ef ek ev, e)

  pub activation_wrong : all_hold_typed (variables_in m a v) (var_types (P.fun f)) ≡ false → activation_fit P o (activation_in m a) (frames_to m high) ≡ false
  activation_wrong e = rw (activation_in_lem m a f k v ef ek ev, e) (and-false (has_function P f))

  pub activation_whole : has_function P f ≡ true → k ≤ high
      → activation_fit P o (activation_in m a) (frames_to m high)
      ≡ (all_hold_typed (variables_in m a v) (var_types (P.fun f)) && frames_fit P f (held (variables_in m a v)) o (entries 20 frame_of m (4480 + (high - k) * 20) k))
  activation_whole e h = rw (activation_in_lem m a f k v ef ek ev, e, last m high k h)

-- ---- the callers

-- the frames under an activation's
pub under-is : (m : List ℕ) (a high : ℕ) → 0 < a → (k : ℕ) → k ≡ get_or m (activation_at (a - 1) + 1) 0 → k ≤ high
    → frames_under (activation_in m (a - 1)) (frames_to m high) ≡ frames_to m (high - k)
under-is m a high here k e h =
    rw (activation_in_lem m (a - 1) (get_or m (activation_at (a - 1) + 0) 0) k (get_or m (activation_at (a - 1) + 2) 0) refl e refl) (rest m high k h)

module _ (P : Program) (m : List ℕ) (e f a high : ℕ) (here : 0 < a) where
  abbrev x : Activation
  x = activation_in m (a - 1)

  opened : callers_fit P e f (activations_to m a) (frames_to m high)
      ≡ (activation_fit P (calls (P.fun f).result) x (frames_to m high) && callers_fit P e (function_of x) (activations_to m (a - 1)) (frames_under x (frames_to m high)))
  opened = let z : a ≡ suc (a - 1) = omega arith in ap (λ (n : ℕ). callers_fit P e f (activations_to m n) (frames_to m high)) z

  pub callers_less : activation_fit P (calls (P.fun f).result) x (frames_to m high) ≡ false → callers_fit P e f (activations_to m a) (frames_to m high) ≡ false
  callers_less q = opened ∙ rw q

  pub callers_more : (g k : ℕ) → g ≡ get_or m (activation_at (a - 1) + 0) 0 → k ≡ get_or m (activation_at (a - 1) + 1) 0 → k ≤ high
      → activation_fit P (calls (P.fun f).result) x (frames_to m high) ≡ true
      → callers_fit P e f (activations_to m a) (frames_to m high) ≡ callers_fit P e g (activations_to m (a - 1)) (frames_to m (high - k))
  callers_more g k eg ek h q = opened ∙ rw (q, function_of_lem m (a - 1) g eg, under-is m a high here k ek h)

-- an activation that is fit is of a function of the program
pub fit_known : (P : Program) (o : Over) (m : List ℕ) (a : ℕ) (F : List Frame) (f : ℕ) → f ≡ get_or m (activation_at a + 0) 0
    → activation_fit P o (activation_in m a) F ≡ true → has_function P f ≡ true
fit_known P o m a F f e h = go (has_function P f) refl
  where
    go : (b : Bool) → has_function P f ≡ b → has_function P f ≡ true
    go true q = q
    go false q =
        let z : activation_fit P o (activation_in m a) F ≡ false = rw (activation_in_lem m a f (get_or m (activation_at a + 1) 0) (get_or m (activation_at a + 2) 0) e refl refl, q) in
        absurd (false≢true (sym z ∙ h))

-- ---- an activation, test by test

module _ {P : Program} {f : ℕ} {η : List Value} (o : Over) (K : List Frame) where
  pub in_variables : VariablesAnswer P f η None → false ≡ (all_hold_typed η (var_types (P.fun f)) && frames_fit P f (held η) o K)
  in_variables v = rw (← v.ok)

  module _ {d : VarSet} (v : VariablesAnswer P f η (Some d)) where
    pub in_over : OverAnswer P f (has d.0) o None → false ≡ (all_hold_typed η (var_types (P.fun f)) && frames_fit P f (held η) o K)
    in_over h = rw (← v.ok, ← (rw v.set at h.ok))

    pub in_frames : {w : Received} → OverAnswer P f (has d.0) o (Some w) → chain (frame_fits P f) (hands_on P f) ends (incoming_is w) K ≡ (all_hold_typed η (var_types (P.fun f)) && frames_fit P f (held η) o K)
    in_frames h = rw (← v.ok, ← (rw v.set at h.ok), ← (rw v.set at h.on))

-- ---- how many frames there are

pub held_last : (m : List ℕ) (a : ℕ) → 0 < a → frames_held (activation_in m (a - 1)) ≤ held_in m a
held_last m a h = omega (arith, total_last m a (get_or m (activation_at (a - 1) + 1) 0) h refl, frames_of_lem m (a - 1) (get_or m (activation_at (a - 1) + 1) 0) refl)
