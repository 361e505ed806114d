-- A step back: the words before the last step, tried by one step, and what is answered of them.
use Rattle.std.specs.Prelude.{Ok, Err}
use mathlib.Core.Path.{◌≡◌, refl, sym, ap, ◌∙◌}
use mathlib.Core.Bool.{Bool, true, false, ◌&&◌}
use mathlib.Core.List.{List, [], ◌++◌, append-nil}
use Prim.Native.Nat.{ℕ, ◌-◌, ◌≤◌}
use native.Mathlib.Omega.{arith}
use lib.Dec.{eqb}
use lib.ListN.{length, take, drop}
use lib.Seq.{take_all, length-take-le}
use Rattle.varset.specs.Lowest.{pick}
use Rattle.words.specs.Blocks.{eq_words}
use Rattle.words.proofs.Tests.{both}
use Rattle.spec_language.specs.Check.{accepted, refused, check_of}
use Rattle.spec_machine.specs.Program.{Program}
use Rattle.spec_machine.specs.Machine.{State}
use Rattle.spec_machine.specs.Next.{Move, stuck, next}
use Rattle.spec_machine.specs.Fit.{Fit}
use Rattle.spec_machine.specs.File.{program_of}
use Rattle.spec_machine.specs.Run as run
use Rattle.spec_machine.specs.Run.{within_limits, counted, stopped, onward, run_of}
use Rattle.spec_image.specs.Image.{image}
use Rattle.spec_image.specs.Decode.{state_of}
use Rattle.spec_image.specs.Sizes.{size}
use Rattle.spec_image.specs.Memory.{fit_words}
use Rattle.spec_image.proofs.Memory.{held_whole, holds_fit}
use Rattle.spec_answers.specs.Answers.{memory_answer, by_verdict, written}
use Rattle.spec_answers.proofs.Questions.{memory_so}
use Rattle.spec_log.specs.Records.{last_bytes, has_record, earlier}
use Rattle.spec_log.specs.Answers.{leads_to, words_before, back_to, back_answer, back_memory}
use Rattle.spec_log.proofs.OneStep.{stopped_at}
use Rattle.spec_log.proofs.Before.{length_earlier}
use Rattle.spec_log.proofs.Questions.{back_refused, back_if, back_none}
use Rattle.log_records.proofs.LastRecords.{last_least, has_so}
use Rattle.check_file.specs.declared.Refusal.{Refusal}
use Rattle.check_file.specs.Answers.{refusal_of}
use Rattle.run_loop.specs.declared.Outcome.{Outcome}
use Rattle.run_loop.specs.Runs.{HoldsFit, Ends}
use Rattle.entry_log.specs.Logs.{went_back}
use Rattle.run_loop.proofs.Holding.{words_held}
use Rattle.entry_log.specs.Replies.{BackReply, back_reply_of}

-- as many words as an image has are the image where they pass
whole_image : (P : Program) (w : List ℕ) → length w ≡ size → fit_words P w ≡ true → w ≡ image (state_of w)
whole_image P w l t =
    let k : length w ≤ size = omega (arith, l) in
    sym (take_all size w k) ∙ (holds_fit P w t).0

-- the words before the last step of a memory with room are as many as an image has
before_long : (m log : List ℕ) (used : ℕ) → size ≤ length m → length (earlier log used (take size m)) ≡ size
before_long m log used l = length_earlier log (take size m) used (length-take-le size m l)

-- a run with an allowance of one takes one step at most
few_steps : (P : Program) (s : State) → (run_of P 1 s).steps ≤ 1
unfolding run_of
few_steps P s = go (next P s)
  where
    within : (t : State) (b : Bool) → (pick b (counted (stopped t)) (record { outcome = run.Full; steps = 0; state = s })).steps ≤ 1
    within t true = omega (arith, (stopped_at t).0)
    within t false = omega arith

    go : (v : Move) → (onward s v (λ t. stopped t)).steps ≤ 1
    go stuck = omega (arith, (stopped_at s).0)
    go (Move.goes r t) = within t (within_limits t)

-- the words w before the last step of a memory m with room
module _ (P : Program) (m log : List ℕ) (used : ℕ) (t : has_record log used ≡ true) (l : size ≤ length m) (w : List ℕ) (e : w ≡ earlier log used (take size m)) where
  -- it does not lead back
  abbrev pub Stays : Type 0
  Stays = (false ≡ back_to P m log used) × (m ≡ went_back false m log used)

  -- the question without the record, which is there
  asked : back_to P m log used ≡ (fit_words P w && leads_to P (state_of w) (take size m))
  unfolding back_to words_before
  asked = rw (t, e)

  pub unfit : fit_words P w ≡ false → Stays
  unfolding went_back
  unfit f = (sym (asked ∙ rw f), refl)

  -- they are the image of a fit state, and its run of one step leaves the words v after n steps
  module _ (f : fit_words P w ≡ true) (o : Outcome) (n : ℕ) (v : List ℕ)
      (g : (s : State) (R : List ℕ) → w ≡ image s ++ R → Fit P s → Ends 0 (run_of P 1 s) o n v R) where
    abbrev one : run.Ran
    one = run_of P 1 (state_of w)

    ends : Ends 0 one o n v []
    ends = g (state_of w) [] (whole_image P w (rw e (before_long m log used l)) f ∙ sym (append-nil (image (state_of w)))) (holds_fit P w f).1

    left : v ≡ image one.state
    left = ends.held ∙ append-nil (image one.state)

    led : back_to P m log used ≡ (eqb one.steps 1 && eq_words v (take size m))
    unfolding leads_to
    led = asked ∙ rw (f, left)

    pub stood : n ≡ 0 → Stays
    unfolding went_back
    stood z =
        let y : one.steps ≡ 0 = omega (arith, ends.steps_are, z) in
        (sym (led ∙ rw y), refl)

    stepped : ¬ (n ≡ 0) → one.steps ≡ 1
    stepped z = omega (arith, ends.steps_are, few_steps P (state_of w), z)

    pub elsewhere : ¬ (n ≡ 0) → eq_words v (take size m) ≡ false → Stays
    unfolding went_back
    elsewhere z d = (sym (led ∙ rw (stepped z, d)), refl)

    pub leads_back_lem : ¬ (n ≡ 0) → eq_words v (take size m) ≡ true → (u : List ℕ) → u ≡ earlier log used (take size m)
        → (true ≡ back_to P m log used) × (u ++ drop size m ≡ went_back true m log used)
    unfolding went_back words_before
    leads_back_lem z d u q = (sym (led ∙ rw (stepped z, d)), rw q)

module _ (s m log : List ℕ) (used : ℕ) where
  -- an answer, and the memory after it
  abbrev pub Answers : BackReply → List ℕ → Type 0
  Answers r m' = (r ≡ back_reply_of (back_answer s m log used)) × (m' ≡ back_memory s m log used)

  pub back_early : (r : Refusal) → memory_answer s m ≡ refused r.question r.place r.item → Answers (Err r) m
  unfolding back_answer back_memory by_verdict written back_reply_of
  back_early r e = let q = back_refused s m log used _ _ _ e in (rw q, rw q)

  module _ (e : memory_answer s m ≡ accepted) where
    -- question 18 refuses
    refused_last : (m' : List ℕ) → m' ≡ m → back_to (program_of s) m log used ≡ false → Answers (Err (refusal_of 18 0 0)) m'
    unfolding back_answer back_memory by_verdict written back_reply_of
    refused_last m' d t = let q = back_none s m log used e t in (rw q, d ∙ rw q)

    -- r is the bytes of the last record, and 0 where there is none
    module _ (r : ℕ) (q : r ≡ pick (has_record log used) (last_bytes log used) 0) where
      pub no_record : r ≡ 0 → (m' : List ℕ) → m' ≡ m → Answers (Err (refusal_of 18 0 0)) m'
      unfolding back_to
      no_record z m' d = refused_last m' d (rw absent)
        where
          go : (b : Bool) → r ≡ pick b (last_bytes log used) 0 → b ≡ false
          go true y = let a = last_least log used in absurd (omega arith)
          go false y = refl

          absent : has_record log used ≡ false
          absent = go (has_record log used) q

      module _ (z : ¬ (r ≡ 0)) where
        there : has_record log used ≡ true
        there = go (has_record log used) q
          where
            go : (b : Bool) → r ≡ pick b (last_bytes log used) 0 → b ≡ true
            go true y = refl
            go false y = absurd (z y)

        bytes : r ≡ last_bytes log used
        bytes = q ∙ rw there

        pub record_within : r ≤ used
        record_within = rw bytes (has_so log used there).2

        -- all that going back needs
        pub may_go : HoldsFit s m × (size ≤ length m) × (has_record log used ≡ true)
        may_go = let a = memory_so s m e in (words_held s m a.0 a.2, a.1, there)

        -- what it answers, and the memory m' after it
        module _ (b : Bool) (m' : List ℕ) (t : b ≡ back_to (program_of s) m log used) (w : m' ≡ went_back b m log used) where
          pub not_back : b ≡ false → (l : List ℕ) → l ≡ m' → Answers (Err (refusal_of 18 0 0)) l
          unfolding went_back
          not_back y l d = refused_last l (d ∙ w ∙ rw y) (sym t ∙ y)

          pub went_back_lem : b ≡ true → Answers (Ok (used - r)) m'
          unfolding back_to back_answer back_memory by_verdict written back_reply_of went_back words_before
          went_back_lem y =
              let x : List ℕ = earlier log used (take size m) in
              let a = (both (has_record log used) _ (sym t ∙ y)).1 in
              let i = whole_image (program_of s) x (before_long m log used (memory_so s m e).1) (both (fit_words (program_of s) x) _ a).0 in
              let k = back_if s m log used e (sym t ∙ y) in
              (rw (k, bytes), w ∙ rw (y, k) (ap (λ (v : List ℕ). v ++ drop size m) i))
