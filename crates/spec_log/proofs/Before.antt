-- The state that an accepted step back goes to: it is fit, the words are its image, and its one step leads to the memory.
use mathlib.Core.Path.{◌≡◌, refl, sym, ap, ◌∙◌, subst}
use mathlib.Core.Bool.{Bool, true, false}
use mathlib.Core.List.{List}
use Prim.Native.Nat.{ℕ, zero, suc, ◌+◌, ◌-◌, ◌≤◌}
use native.Mathlib.Omega.{arith}
use lib.Dec.{eqb}
use lib.ListN.{length, take}
use lib.Seq.{take_all, length-take-le}
use borrow.Author.Tests.{eqb-true}
use Rattle.varset.specs.Lowest.{pick}
use Rattle.words.specs.Blocks.{eq_words}
use Rattle.words.proofs.Tests.{both, same_eq}
use Rattle.spec_language.specs.Check.{accepted}
use Rattle.spec_machine.specs.Program.{Program}
use Rattle.spec_machine.specs.Machine.{State, Rule, Event, Step}
use Rattle.spec_machine.specs.Fit.{Fit}
use Rattle.spec_machine.specs.File.{program_of}
use Rattle.spec_machine.specs.Run.{Ran, all_held, run_of}
use Rattle.spec_machine.proofs.Accepted.{Accepted}
use Rattle.spec_machine.proofs.Files.{accepted_program}
use Rattle.spec_machine.proofs.KeepWords.{ConstWords, Bytes, file_words}
use Rattle.spec_machine.proofs.Runs.{ran}
use Rattle.spec_image.specs.Image.{image}
use Rattle.spec_image.specs.Decode.{state_of}
use Rattle.spec_image.specs.Sizes.{size}
use Rattle.spec_image.specs.Memory.{Holds, fit_words}
use Rattle.spec_image.proofs.Images.{image_inj}
use Rattle.spec_image.proofs.Sized.{Sized, fit_narrow, file_sized}
use Rattle.spec_image.proofs.Memory.{holds_fit}
use Rattle.spec_answers.proofs.Questions.{memory_so}
use Rattle.spec_log.specs.Changes.{restored}
use Rattle.spec_log.specs.Records.{whole_number, changes_at, words_at, last_number, last_bytes, has_record, earlier}
use Rattle.spec_log.specs.Answers.{leads_to, words_before, back_to, back_verdict}
use Rattle.spec_log.proofs.Changes.{length_restored}
use Rattle.spec_log.proofs.Questions.{back_so}
use Rattle.spec_log.proofs.OneStep.{one-step}

pub length_words : (log : List ℕ) (n at : ℕ) → length (words_at log at n) ≡ n
unfolding words_at
length_words log zero at = refl
length_words log (suc n) at = ap suc (length_words log n (at + 4))

-- the words before a step are as many as the words after it
pub length_earlier : (log w : List ℕ) (used : ℕ) → length w ≡ size → length (earlier log used w) ≡ size
unfolding earlier
length_earlier log w used h = go (eqb (last_number log used) whole_number) (used - last_bytes log used + 2)
  where
    go : (b : Bool) (at : ℕ) → length (pick b (words_at log at size) (restored (changes_at log at (last_number log used)) w)) ≡ size
    go true at = length_words log size at
    go false at = length_restored (changes_at log at (last_number log used)) w ∙ h

-- a state that leads to words has one step, and they are the image after it
pub leads_so : (P : Program) (s : State) (w : List ℕ) → leads_to P s w ≡ true → ((run_of P 1 s).steps ≡ 1) × (image (run_of P 1 s).state ≡ w)
unfolding leads_to
leads_so P s w t =
    let b = both (eqb (run_of P 1 s).steps 1) (eq_words (image (run_of P 1 s).state) w) t in
    (eqb-true (run_of P 1 s).steps 1 b.0, same_eq (image (run_of P 1 s).state) w b.1)

module _ (P : Program) (m log : List ℕ) (used : ℕ) where
  -- the state before the last step, as the log says
  abbrev pub state_before : State
  state_before = state_of (words_before m log used)

  -- what an accepted step back shows of it
  pub record Before : Type 0 where
    pub fit : Fit P state_before
    pub words : words_before m log used ≡ image state_before
    pub rule : Rule
    pub event : Event
    pub step : Step P rule event state_before (state_of m)

  module _ (c : Accepted P) (constants : ConstWords P) (z : Sized P) where
    pub back_does : size ≤ length m → Holds m (state_of m) → Fit P (state_of m) → back_to P m log used ≡ true → Before
    unfolding back_to words_before
    back_does l h f t =
        let w : List ℕ = words_before m log used in
        let a = both (fit_words P w) _ (both (has_record log used) _ t).1 in
        let q = holds_fit P w a.0 in
        let one : Ran = run_of P 1 (state_of w) in
        let b = leads_so P (state_of w) (take size m) a.1 in
        let g = ran c constants 1 (state_of w) (all_held (state_of w)) q.1 refl in
        let o = one-step g.runs refl b.0 in
        let d : one.state ≡ state_of m
        = image_inj one.state (state_of m) g.fit.within (fit_narrow P z one.state g.fit) f.within (fit_narrow P z (state_of m) f) (b.1 ∙ h) in
        let k : length w ≡ size = length_earlier log (take size m) used (length-take-le size m l) in
        let i : take size w ≡ w = take_all size w (omega (arith, k)) in
        record { fit = q.1; words = sym i ∙ q.0; rule = o.rule; event = o.event; step = subst (λ (t : State). Step P o.rule o.event (state_of w) t) d o.step }

-- the same of a file of bytes, by the answer alone
pub back_before : (s m log : List ℕ) (used : ℕ) → Bytes s → back_verdict s m log used ≡ accepted → Before (program_of s) m log used
back_before s m log used b e =
    let a = back_so s m log used e in
    let q = memory_so s m a.0 in
    let h = holds_fit (program_of s) m q.2 in
    back_does (program_of s) m log used (accepted_program s q.0) (file_words s b) (file_sized s q.0) q.1 h.0 h.1 a.1
