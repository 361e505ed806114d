-- What the six forms of call owe: a refusal leaves the memory, an accepted call does to the machine what its form says.
use mathlib.Core.Path.{◌≡◌, refl, sym, ◌∙◌}
use mathlib.Core.Bool.{true}
use mathlib.Core.List.{List, [], ◌++◌}
use mathlib.Core.Option.{Option, none, some}
use Prim.Native.Nat.{ℕ, ◌+◌, ◌-◌}
use native.Mathlib.Omega.{arith}
use lib.ListN.{length, drop, length-append, length-drop}
use Rattle.spec_language.specs.Check.{Verdict, accepted, refused, check_of}
use Rattle.spec_machine.specs.Values.{Value}
use Rattle.spec_machine.specs.Machine.{State, main_call}
use Rattle.spec_machine.specs.Fit.{WithinLimits, Fit}
use Rattle.spec_machine.specs.Run.{Ran, all_held, run_of, look_up}
use Rattle.spec_machine.specs.File.{program_of}
use Rattle.spec_machine.specs.Calls.{Machine}
use Rattle.spec_machine.proofs.Calls.{At, Owes}
use Rattle.spec_machine.proofs.Files.{accepted_program}
use Rattle.spec_machine.proofs.KeepWords.{file_words}
use Rattle.spec_machine.proofs.Runs.{Good, ran}
use Rattle.spec_machine.proofs.Safety.{starts_fit}
use Rattle.spec_image.specs.Image.{image}
use Rattle.spec_image.specs.Decode.{state_of}
use Rattle.spec_image.specs.Sizes.{size}
use Rattle.spec_image.proofs.Images.{image_length}
use Rattle.spec_image.proofs.Sized.{file_sized, fit_narrow}
use Rattle.spec_image.proofs.Memory.{held_length, held_state, whole_held}
use Rattle.spec_answers.specs.Answers.{is_present, value_or, Result, granted, denied, by_verdict, written, start_answer, start_memory, memory_answer, run_from, run_answer, run_memory, look_verdict, look_answer}
use Rattle.spec_log.specs.Records.{last_bytes}
use Rattle.spec_log.specs.Logged.{Logged, log_of}
use Rattle.spec_log.specs.Answers.{log_from, log_answer, log_memory, back_verdict, back_answer, back_memory}
use Rattle.spec_log.proofs.Questions.{back_so}
use Rattle.spec_log.proofs.Before.{state_before, back_before}
use Rattle.spec_log.proofs.Logged.{Keeps, logs}
use Rattle.spec_lists.specs.Forms.{Given, Asking, Logging, Returning, CallKind, Input, given_of, AnswerType, answer_of, memory_after, IsAccepted, IsGranted, Took, Does, form}
use Rattle.spec_lists.specs.Lists.{Image}
use Rattle.spec_answers.proofs.Questions.{start_so, memory_so, look_so}

-- ---- answers

passed? : (v : Verdict) → Dec (IsAccepted v)
passed? accepted = yes tt
passed? (refused q p x) = no (λ h. h)

describes? : {A : Type 0} (a : Result A) → Dec (IsGranted a)
describes? (granted a) = yes tt
describes? (denied q p x) = no (λ h. h)

pub took? : (k : CallKind) (a : AnswerType k) → Dec (Took k a)
took? CallKind.start a = passed? a
took? CallKind.run a = describes? a
took? CallKind.memory a = passed? a
took? CallKind.look a = describes? a
took? CallKind.logged a = describes? a
took? CallKind.back a = describes? a

-- an answer that is no refusal is the one to an accepted verdict
passed_is : (v : Verdict) → IsAccepted v → v ≡ accepted
passed_is accepted h = refl
passed_is (refused q p x) h = absurd h

describes_is : {A : Type 0} (v : Verdict) (a : A) → IsGranted (by_verdict v a) → v ≡ accepted
unfolding by_verdict
describes_is accepted a h = refl
describes_is (refused q p x) a h = absurd h

-- a refusal writes nothing
not_written : (v : Verdict) (m : List ℕ) (s : State) → ¬ IsAccepted v → written v m s ≡ m
unfolding written
not_written accepted m s n = absurd (n tt)
not_written (refused q p x) m s n = refl

not_granted : {A : Type 0} (v : Verdict) (a : A) → ¬ IsGranted (by_verdict v a) → ¬ IsAccepted v
unfolding by_verdict
not_granted accepted a n = n
not_granted (refused q p x) a n = n

pub refusal : (k : CallKind) (i : Input k) (m : List ℕ) → ¬ Took k (answer_of k i m) → memory_after k i m ≡ m
unfolding start_memory run_memory run_answer log_memory log_answer back_memory back_answer
refusal CallKind.start i m n = not_written (start_answer i.bytes m) m main_call n
refusal CallKind.run i m n = not_written (memory_answer i.file.bytes m) m _ (not_granted (memory_answer i.file.bytes m) (run_from i.file.bytes m i.number) n)
refusal CallKind.memory i m n = refl
refusal CallKind.look i m n = refl
refusal CallKind.logged i m n =
    not_written (memory_answer i.file.bytes m) m _ (not_granted (memory_answer i.file.bytes m) (log_from i.file.bytes m i.number i.log i.used) n)
refusal CallKind.back i m n =
    not_written (back_verdict i.file.bytes m i.log i.used) m _ (not_granted (back_verdict i.file.bytes m i.log i.used) (i.used - last_bytes i.log i.used) n)

-- ---- accepted calls

-- a variable that is there
there : (o : Option Value) → is_present o ≡ true → o ≡ some (value_or o)
there none e = let z : ◌≡◌ {A = ℕ} 0 1 = cc in absurd (omega arith)
there (some v) e = refl

-- the states that are fit for what a call is given to read: those fit for its file
abbrev pub FitFor : Given → State → Type 0
FitFor e s = Fit (program_of e.bytes) s

module _ (M : List ℕ) where
  -- what holds between two calls of a list begun from M
  abbrev pub Between : Given → List ℕ → Machine → Type 0
  Between e m σ = At (List ℕ) Given (List ℕ) (λ d. d.bytes) (Image M) FitFor e m σ

  -- what was given beside the file does not matter
  same_file : (d e : Given) (m : List ℕ) (σ : Machine) → d.bytes ≡ e.bytes → Between d m σ → Between e m σ
  same_file d e m σ q a = record { image = a.image; fit = rw (sym q) a.fit; same = a.same }

  -- the image of another state, written over the first words
  pub rewritten : (m : List ℕ) (s t : State) → WithinLimits s → WithinLimits t → Image M s m → Image M t (image t ++ drop size m)
  rewritten m s t v w h =
      let r = whole_held t (drop size m) w in
      let l : length (image t ++ drop size m) ≡ 16384 + (length m - 16384) = length-append (image t) (drop size m) ∙ rw (image_length t w, length-drop size m) in
      record { holds = r.0; rest = r.1 ∙ h.rest; long = omega (arith, held_length m s v h.holds, h.long) }

  -- the state in the memory is the machine's
  pub state_there : (e : Given) (m : List ℕ) (σ : Machine) → check_of e.bytes ≡ accepted → Between e m σ → state_of m ≡ σ.state
  state_there e m σ c a = held_state m σ.state a.fit.within (fit_narrow (program_of e.bytes) (file_sized e.bytes c) σ.state a.fit) a.image.holds

  abbrev pub Owed : (k : CallKind) → Input k → List ℕ → Machine → Type 0
  Owed k i m σ = (τ : Machine) × Does k i (answer_of k i m) σ τ × Between (given_of k i) (memory_after k i m) τ

  start_owes : (e : Given) (m : List ℕ) (σ : Machine) → Between e m σ → start_answer e.bytes m ≡ accepted → Owed CallKind.start e m σ
  unfolding start_memory written
  start_owes e m σ a t =
      let f = starts_fit e.bytes e.small (start_so e.bytes m t).0 in
      let w : start_memory e.bytes m ≡ image main_call ++ drop size m = rw t in (
        record { state = main_call; history = [] },
        (refl, refl),
        record { image = rw w (rewritten m σ.state main_call a.fit.within tt a.image); fit = f; same = refl },
      )

  run_owes : (i : Asking) (m : List ℕ) (σ : Machine) → Between i.file m σ → memory_answer i.file.bytes m ≡ accepted → Owed CallKind.run i m σ
  unfolding run_answer run_memory run_from by_verdict written
  run_owes i m σ a t =
      let s = i.file.bytes in
      let c = (memory_so s m t).0 in
      let d = state_there i.file m σ c a in
      let r : Ran = run_of (program_of s) i.number σ.state in
      let g : Good (program_of s) σ.state σ.history i.number r
      = ran (accepted_program s c) (file_words s i.file.small) i.number σ.state σ.history a.fit a.same in
      let w : run_memory s m i.number ≡ image r.state ++ drop size m = rw (t, d) in
      let b : run_answer s m i.number ≡ granted r = rw (t, d) in (
        record { state = r.state; history = g.history },
        record { outcome = r.outcome; steps = r.steps; answer = b; runs = g.runs },
        record { image = rw w (rewritten m σ.state r.state a.fit.within g.fit.within a.image); fit = g.fit; same = g.same },
      )

  look_owes : (i : Asking) (m : List ℕ) (σ : Machine) → Between i.file m σ → look_verdict i.file.bytes m i.number ≡ accepted → Owed CallKind.look i m σ
  unfolding look_answer by_verdict
  look_owes i m σ a t =
      let s = i.file.bytes in
      let v = look_so s m i.number t in
      let d = state_there i.file m σ v.0 a in
      let h : look_up σ.state i.number ≡ some (value_or (look_up σ.state i.number)) = there (look_up σ.state i.number) (rw d at v.1) in
      let b : look_answer s m i.number ≡ granted (value_or (look_up σ.state i.number)) = rw (t, d) in
      (σ, (refl, record { value = value_or (look_up σ.state i.number); there = h; answer = b }), a)

  logged_owes : (i : Logging) (m : List ℕ) (σ : Machine) → Between i.file m σ → memory_answer i.file.bytes m ≡ accepted → Owed CallKind.logged i m σ
  unfolding log_answer log_memory log_from by_verdict written
  logged_owes i m σ a t =
      let s = i.file.bytes in
      let c = (memory_so s m t).0 in
      let d = state_there i.file m σ c a in
      let q : Logged = log_of (program_of s) i.number σ.state i.log i.used in
      let g : Keeps (program_of s) σ.state σ.history i.number i.log i.used q
      = logs (accepted_program s c) (file_words s i.file.small) i.number σ.state σ.history i.log i.used a.fit a.same in
      let w : log_memory s m i.number i.log i.used ≡ image q.state ++ drop size m = rw (t, d) in
      let b : log_answer s m i.number i.log i.used ≡ granted q = rw (t, d) in (
        record { state = q.state; history = g.history },
        record { stop = q.stop; steps = q.steps; log = q.log; used = q.used; answer = b; logs = g.logs },
        record { image = rw w (rewritten m σ.state q.state a.fit.within g.fit.within a.image); fit = g.fit; same = g.same },
      )

  back_owes : (i : Returning) (m : List ℕ) (σ : Machine) → Between i.file m σ → back_verdict i.file.bytes m i.log i.used ≡ accepted → Owed CallKind.back i m σ
  unfolding back_answer back_memory by_verdict written
  back_owes i m σ a t =
      let s = i.file.bytes in
      let P = program_of s in
      let d = state_there i.file m σ (memory_so s m (back_so s m i.log i.used t).0).0 a in
      let b = back_before s m i.log i.used i.file.small t in
      let u : State = state_before P m i.log i.used in
      let w : back_memory s m i.log i.used ≡ image u ++ drop size m = rw t in
      let v : back_answer s m i.log i.used ≡ granted (i.used - last_bytes i.log i.used) = rw t in (
        record { state = u; history = all_held u },
        record { used = i.used - last_bytes i.log i.used; answer = v; fit = b.fit; rule = b.rule; event = b.event; step = rw d at b.step; same = refl },
        record { image = rw w (rewritten m σ.state u a.fit.within b.fit.within a.image); fit = b.fit; same = refl },
      )

  owes : (k : CallKind) (i : Input k) (m : List ℕ) (σ : Machine) → Between (given_of k i) m σ → Took k (answer_of k i m) → Owed k i m σ
  unfolding run_answer look_answer log_answer back_answer
  owes CallKind.start i m σ a t = start_owes i m σ a (passed_is (start_answer i.bytes m) t)
  owes CallKind.run i m σ a t = run_owes i m σ a (describes_is (memory_answer i.file.bytes m) (run_from i.file.bytes m i.number) t)
  owes CallKind.memory i m σ a t = (σ, refl, a)
  owes CallKind.look i m σ a t = look_owes i m σ a (describes_is (look_verdict i.file.bytes m i.number) (value_or (look_up (state_of m) i.number)) t)
  owes CallKind.logged i m σ a t =
      logged_owes i m σ a (describes_is (memory_answer i.file.bytes m) (log_from i.file.bytes m i.number i.log i.used) t)
  owes CallKind.back i m σ a t =
      back_owes i m σ a (describes_is (back_verdict i.file.bytes m i.log i.used) (i.used - last_bytes i.log i.used) t)

  -- what each form owes in a list begun from M
  pub owing : (k : CallKind) → Owes (List ℕ) Given (List ℕ) (λ d. d.bytes) (Image M) FitFor (form k)
  owing k = record { took? = took? k; refused = refusal k; accepted = λ i m σ e q a. owes k i m σ (same_file e (given_of k i) m σ q a) }
