-- Every logged step is gone back: from where accepted logged runs end, as many steps back lead to where they began.
use mathlib.Core.Path.{◌≡◌, refl, sym, ap, ◌∙◌, subst}
use mathlib.Core.Bool.{true}
use mathlib.Core.List.{List, ◌++◌, append_assoc}
use Prim.Native.Nat.{ℕ, suc, ◌+◌, ◌-◌, ◌≤◌}
use native.Mathlib.Omega.{arith}
use lib.ListN.{length, take, drop, length-append, take-append-drop}
use lib.Seq.{take_all, take-take, take_at, length-take-le}
use Rattle.words.proofs.Blocks.{puts_at}
use Rattle.words.proofs.Tests.{eq-same}
use Rattle.spec_language.specs.Check.{Verdict, accepted, refused, check_of}
use Rattle.spec_machine.specs.Program.{Program}
use Rattle.spec_machine.specs.Machine.{State}
use Rattle.spec_machine.specs.Fit.{Fit}
use Rattle.spec_machine.specs.File.{program_of}
use Rattle.spec_machine.specs.Run.{all_held}
use Rattle.spec_machine.proofs.Accepted.{Accepted}
use Rattle.spec_machine.proofs.Files.{accepted_program}
use Rattle.spec_machine.proofs.KeepWords.{ConstWords, Bytes, file_words}
use Rattle.spec_image.specs.Image.{image}
use Rattle.spec_image.specs.Decode.{state_of}
use Rattle.spec_image.specs.Sizes.{size}
use Rattle.spec_image.proofs.Images.{image_length}
use Rattle.spec_image.proofs.Sized.{fit_narrow, file_sized}
use Rattle.spec_image.proofs.Words.{image_words}
use Rattle.spec_image.proofs.Memory.{holds_fit, held_whole, held_state, whole_held, fit_holds, image_passes}
use Rattle.spec_answers.specs.Answers.{memory_answer, granted, by_verdict, written}
use Rattle.spec_answers.proofs.Questions.{memory_so, memory_if}
use Rattle.spec_log.specs.Records.{record_of, last_bytes}
use Rattle.spec_log.specs.Logged.{record_bytes, Logged, later, log_of}
use Rattle.spec_log.specs.Answers.{log_from, log_answer, log_memory, leads_to, words_before, back_to, back_verdict, back_answer, back_memory}
use Rattle.spec_log.specs.Back.{LogsOn, StepsBack}
use Rattle.spec_log.proofs.Questions.{back_if, back_tells}
use Rattle.spec_log.proofs.Records.{last_bytes_lem, has_record_lem, record_back, record_least}
use Rattle.spec_log.proofs.OneStep.{OneStep, run_one}
use Rattle.spec_log.proofs.Logged.{with_step, log_next, Keeps, by_steps, logs}

-- steps back after steps back
pub back_append : {s log m m' m'' : List ℕ} {u u' u'' n k : ℕ} → StepsBack s log n m u m' u' → StepsBack s log k m' u' m'' u'' → StepsBack s log (k + n) m u m'' u''
back_append {k = k} StepsBack.none b = let e : k + 0 ≡ k = omega arith in rw e b
back_append {k = k} (StepsBack.then {n = n} e a) b = let d : k + suc n ≡ suc (k + n) = omega arith in rw d (StepsBack.then e (back_append a b))

-- an accepted answer: its verdict and what it tells
granted_so : {A : Type 0} (v : Verdict) (a b : A) → by_verdict v a ≡ granted b → (v ≡ accepted) × (a ≡ b)
unfolding by_verdict
granted_so accepted a b e = (refl, cc)
granted_so (refused q p x) a b e = let z : ◌≡◌ {A = ℕ} 0 1 = cc in absurd (omega arith)

module _ (s : List ℕ) (bytes : Bytes s) (passed : check_of s ≡ accepted) where
  abbrev P : Program
  P = program_of s

  -- the last of some logged steps is gone back, whatever follows its record
  module _ (t u : State) (f : Fit P t) (g : Fit P u) (o : OneStep P t (all_held t) u (all_held u)) (R p q : List ℕ) (used : ℕ) (hp : length p ≡ used) where
    abbrev m : List ℕ
    m = image u ++ R

    abbrev log : List ℕ
    log = p ++ (record_of (image t) (image u) ++ q)

    abbrev end : ℕ
    end = used + record_bytes t u

    long : length (image t) ≡ size
    long = image_length t f.within

    whole : take size (image t) ≡ image t
    whole = take_all size (image t) (omega (arith, long))

    state_back : state_of (image t) ≡ t
    state_back = held_state (image t) t f.within (fit_narrow P (file_sized s passed) t f) whole

    words_back : words_before m log end ≡ image t
    unfolding words_before
    words_back = rw (whole_held u R g.within).0 (record_back (image t) (image u) long p q used hp (image_words s passed t f) (image_length u g.within))

    leads_back_lem : back_to P m log end ≡ true
    unfolding back_to leads_to
    leads_back_lem =
        let y = run_one o.step o.within in
        let h = has_record_lem (image t) (image u) long p q used hp in
        let w = fit_holds P (image t) (file_sized s passed) t f whole in
        rw (h, words_back, w, state_back, y.0, y.1, (whole_held u R g.within).0, eq-same (image u))

    accepted_back : back_verdict s m log end ≡ accepted
    accepted_back =
        let l : size ≤ length m = omega (arith, length-append (image u) R, image_length u g.within) in
        back_if s m log end (memory_if s m passed l (image_passes P (file_sized s passed) u R g)) leads_back_lem

    step_back : StepsBack s log 1 m end (image t ++ R) used
    unfolding back_memory written
    step_back =
        let e : end - last_bytes log end ≡ used = omega (arith, last_bytes_lem (image t) (image u) long p q used hp) in
        let a : back_answer s m log end ≡ granted used = back_tells s m log end accepted_back ∙ ap granted e in
        let b : back_memory s m log end ≡ image t ++ R = rw (accepted_back, words_back, state_back, (whole_held u R g.within).1) in
        let n : StepsBack s log 0 (back_memory s m log end) used (image t ++ R) used = rw b StepsBack.none in
        StepsBack.then a n

  -- the steps of one logged run, by any log that begins as the one that it left
  abbrev BackFrom : State → ℕ → Logged → Type 0
  BackFrom t used q = (l R : List ℕ) → take q.used l ≡ take q.used q.log → StepsBack s l q.steps (image q.state ++ R) q.used (image t ++ R) used

  run_back : (a : ℕ) (t : State) (log : List ℕ) (used : ℕ) → Fit P t → BackFrom t used (log_of P a t log used)
  run_back = by_steps c constants (λ a t log used q. BackFrom t used q) (λ a t log used o f l k R e. StepsBack.none) on
    where
      c : Accepted P
      c = accepted_program s passed

      constants : ConstWords P
      constants = file_words s bytes

      on : (a : ℕ) (t u : State) (log : List ℕ) (used : ℕ) → Fit P t → Fit P u → OneStep P t (all_held t) u (all_held u) → record_bytes t u ≤ length log - used
          → BackFrom u (used + record_bytes t u) (log_next P a t u log used) → BackFrom t used (later 1 (log_next P a t u log used))
      on a t u log used f g o free rest l R e =
          let r : List ℕ = record_of (image t) (image u) in
          let end : ℕ = used + length r in
          let q : Logged = log_next P a t u log used in
          let k : Keeps P u (all_held u) a (with_step log used t u) end q = logs c constants a u (all_held u) (with_step log used t u) end g refl in
          let n : end ≤ length log = omega (arith, record_least (image t) (image u) (image_length t f.within), free) in
          let i : length (take used log) ≡ used = length-take-le used log (omega arith) in
          let j : length (take used log ++ r) ≡ end = omega (arith, length-append (take used log) r, i) in
          let b : take end (with_step log used t u) ≡ take used log ++ r
          = rw (puts_at r log used n, ← append_assoc (take used log) r (drop end log)) (take_at (take used log ++ r) (drop end log) end j) in
          let d : take end l ≡ take used log ++ r
          = sym (take-take end q.used l k.grows) ∙ ap (λ (x : List ℕ). take end x) e ∙ take-take end q.used q.log k.grows ∙ k.before ∙ b in
          let x : take used log ++ (r ++ drop end l) ≡ l
          = sym (append_assoc (take used log) r (drop end l)) ∙ ap (λ (y : List ℕ). y ++ drop end l) (sym d) ∙ take-append-drop end l in
          back_append (rest l R e)
          (subst (λ (y : List ℕ). StepsBack s y 1 (image u ++ R) end (image t ++ R) used) x (step_back t u f g o R (take used log) (drop end l) used i))

-- what an accepted logged run keeps, and that its steps are gone back
record Call (s m : List ℕ) (a : ℕ) (log : List ℕ) (used : ℕ) (q : Logged) : Type 0 where
  pub keeps : Keeps (program_of s) (state_of m) (all_held (state_of m)) a log used q
  pub back : (l : List ℕ) → take q.used l ≡ take q.used q.log → StepsBack s l q.steps (log_memory s m a log used) q.used m used

-- runs in a row, each of them such a call
module _ (s : List ℕ) (call : (m : List ℕ) (a : ℕ) (log : List ℕ) (used : ℕ) (q : Logged) → log_answer s m a log used ≡ granted q → Call s m a log used q) where
  -- later runs leave what is in use
  kept : {n : ℕ} {m log m' log' : List ℕ} {used used' : ℕ} → LogsOn s n m log used m' log' used' → take used log' ≡ take used log
  kept LogsOn.none = refl
  kept (LogsOn.then {m} {log} {m'} {log'} {used} a q e rest) =
      let k = (call m a log used q e).keeps in
      sym (take-take used q.used log' k.grows) ∙ ap (λ (l : List ℕ). take used l) (kept rest) ∙ take-take used q.used q.log k.grows ∙ k.before

  -- their steps are gone back
  rows_back : {n : ℕ} {m log m' log' : List ℕ} {used used' : ℕ} → LogsOn s n m log used m' log' used' → StepsBack s log' n m' used' m used
  rows_back LogsOn.none = StepsBack.none
  rows_back (LogsOn.then {m} {log} {m'} {log'} {used} a q e rest) = back_append (rows_back rest) ((call m a log used q e).back log' (kept rest))

module _ (s : List ℕ) (bytes : Bytes s) where
  call : (m : List ℕ) (a : ℕ) (log : List ℕ) (used : ℕ) (q : Logged) → log_answer s m a log used ≡ granted q → Call s m a log used q
  unfolding log_answer log_memory log_from written
  call m a log used q e =
      let y = granted_so (memory_answer s m) (log_from s m a log used) q e in
      let x = memory_so s m y.0 in
      let h = holds_fit (program_of s) m x.2 in
      let d : image (state_of m) ++ drop size m ≡ m = sym (held_whole m (state_of m) h.0) in
      let b : log_memory s m a log used ≡ image q.state ++ drop size m = rw (y.0, ← y.1) in
      record {
        keeps = rw y.1 at (logs (accepted_program s x.0) (file_words s bytes) a (state_of m) (all_held (state_of m)) log used h.1 refl);
        back = λ l t. rw b (rw (y.1, d) at (run_back s bytes x.0 a (state_of m) log used h.1 l (drop size m) (rw y.1 t)));
      }

  pub all_back : {n : ℕ} {m log m' log' : List ℕ} {used used' : ℕ} → LogsOn s n m log used m' log' used' → StepsBack s log' n m' used' m used
  all_back runs = rows_back s call runs
