-- A run taken up from the image of a running state.
use mathlib.Core.Path.{◌≡◌, sym, ap, ◌∙◌}
use mathlib.Core.List.{List, ◌++◌}
use Prim.Native.Nat.{ℕ, suc, ◌+◌, ◌*◌, ◌-◌, ◌<◌}
use native.Mathlib.Nat.{sub-zero}
use native.Mathlib.Omega.{arith}
use lib.ListN.{length, get_or, length-append}
use Rattle.records.specs.Fields.{functions, count_of}
use Rattle.records.specs.Parts.{start_of}
use Rattle.words.specs.Stacks.{total}
use Rattle.spec_language.specs.Check.{accepted, check_of}
use Rattle.spec_machine.specs.Values.{Value}
use Rattle.spec_machine.specs.Machine.{Frame, Control, Saved, RunEnv, running}
use Rattle.spec_machine.specs.Run.{run_of}
use Rattle.spec_machine.specs.Fit.{Fit}
use Rattle.spec_machine.specs.File.{program_of}
use Rattle.spec_image.specs.Sizes.{caller_room}
use Rattle.spec_image.specs.Layout.{filled, activation, activation_words, env_words}
use Rattle.spec_image.specs.Image.{saved_activations, saved_frames, head_words, activations_of, frames_of, env_part, image}
use Rattle.spec_image.specs.Decode.{control_of, frames_held, held_in, activations_in}
use Rattle.spec_image.specs.Core.{core}
use Rattle.spec_image.proofs.ValueWords.{control_back}
use Rattle.spec_image.proofs.BlockLengths.{length-filled}
use Rattle.spec_image.proofs.Images.{length_saved, frames_held_lem, activations_in_lem}
use Rattle.spec_image.proofs.Rooms.{activation_word}
use Rattle.spec_image.proofs.Heads.{image_rooms, running_word, frame_count}
use Rattle.spec_image.proofs.Sized.{file_sized, fit_narrow}
use Rattle.state_words.specs.declared.Control as code
use Rattle.state_words.specs.Meaning.{control_is}
use Rattle.run_rules.specs.declared.Registers.{Registers}
use Rattle.run_rules.specs.StepsTo.{Describes}
use Rattle.records.specs.Starts.{Starts}
use Rattle.run_step.specs.StepsBy.{AtFitState}
use Rattle.run_loop.specs.declared.Outcome.{Outcome}
use Rattle.run_loop.specs.Runs.{Ends}

module _ (s : List ℕ) (passed : check_of s ≡ accepted) (l : List ℕ) (c : Control) (α : RunEnv) (f : ℕ) (η : List Value) (K : List Frame) (A : List Saved) (R : List ℕ)
    (held : l ≡ image (running c α f η K A) ++ R) (fit : Fit (program_of s) (running c α f η K A)) where
  pub resumed_count : get_or l 2 0 ≡ suc (length A)
  resumed_count = rw held (running_word c α f η K A R 2 (omega arith))

  pub resumed_few : length A < caller_room
  resumed_few = omega (arith, fit.within.0)

  pub resumed_known : f < functions s
  unfolding program_of
  resumed_known = fit.proper.known

  pub resumed_control : control_of (get_or l 3 0) (get_or l 4 0) ≡ c
  resumed_control = rw (held, running_word c α f η K A R 3 (omega arith), running_word c α f η K A R 4 (omega arith)) (control_back c)

  module _ (a : ℕ) (here : a ≡ get_or l 2 0 - 1) where
    pub resumed_callers : a ≡ length A
    resumed_callers = omega (arith, here, resumed_count)

    pub resumed_function : (b : ℕ) → b ≡ 128 + a * 136 + 0 → get_or l b 0 ≡ f
    unfolding activations_of frames_of activation_words filled
    resumed_function b e =
        rw (held, e, image_rooms (running c α f η K A) R)
        (activation_word (filled 128 (head_words (running c α f η K A))) (env_part (running c α f η K A) ++ R) (saved_activations A) (K ++ saved_frames A)
        (length-filled 128 (head_words (running c α f η K A))) a (resumed_callers ∙ sym (length_saved A)) (activation f (length K) η) 0 (omega arith))

    pub resumed_frames : (b : ℕ) → b ≡ 128 + a * 136 + 1 → get_or l b 0 ≡ length K
    resumed_frames b e = rw held (frame_count c α f η K A R a b resumed_callers e)

    -- all frames, from the counts in the activations
    pub resumed_total : held_in l (a + 1) ≡ length K + length (saved_frames A)
    unfolding activations_in frames_of
    resumed_total =
        let σ = running c α f η K A in
        let n : a + 1 ≡ get_or l 2 0 = omega (arith, here, resumed_count) in
        let t : held_in l (a + 1) ≡ total frames_held (activations_in l) = ap (held_in l) n in
        let u : total frames_held (activations_in l) ≡ length (frames_of σ)
        = rw (held, activations_in_lem σ R (fit_narrow (program_of s) (file_sized s passed) σ fit)) (frames_held_lem σ) in
        t ∙ u ∙ length-append K (saved_frames A)

    pub resumed_describes : (g st n k u : ℕ) → g ≡ f → st ≡ 12 * start_of s f → n ≡ count_of s f → k ≡ length K → u ≡ held_in l (a + 1) - k
        → Describes s (record { function = g; start = st; count = n; callers = a; frames = k; under = u }) f K A
    resumed_describes g st n k u hg hs hn hk hu =
        record { function = hg; start = hs; count = hn; callers = resumed_callers; frames = hk; under = omega (arith, hk, hu, resumed_total) }

    pub resumed_at_fit : (table : List ℕ) (d : code.Control) (h : Registers) (m : List ℕ) → Starts s table → Describes s h f K A → control_is d ≡ c → m ≡ core f η K A ++ (env_words α ++ R) → AtFitState s table (control_is d) h m
    resumed_at_fit table d h m i t e k =
        let q = sym t.function in
        let g : Fit (program_of s) (running (control_is d) α f η K A) = rw e fit in
        record {
          passed = passed;
          starts = i;
          environment = α;
          variables = η;
          frames = K;
          callers = A;
          rest = R;
          held = rw q at k;
          describes = rw q at t;
          fit = rw q at g;
        }

-- the run of the code's control is the run of the state's
pub resumed_run : (s : List ℕ) (n : ℕ) (d : code.Control) (o : Outcome) (c : Control) (α : RunEnv) (f : ℕ) (η : List Value) (K : List Frame) (A : List Saved) (st : ℕ) (m R : List ℕ)
    → control_is d ≡ c → Fit (program_of s) (running c α f η K A)
    → (Fit (program_of s) (running (control_is d) α f η K A) → Ends 0 (run_of (program_of s) (n - 0) (running (control_is d) α f η K A)) o st m R)
    → Ends 0 (run_of (program_of s) n (running c α f η K A)) o st m R
resumed_run s n d o c α f η K A st m R e fit q =
    let z = q (rw e fit) in
    rw (e, sub-zero n) at z
