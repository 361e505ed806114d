-- A value at hand over the top frame: what its step may rely on.
use mathlib.Core.Path.{◌≡◌, refl, ap, ◌∙◌}
use mathlib.Core.List.{List, [], ◌∷◌, ◌++◌}
use Prim.Native.Nat.{ℕ, ◌+◌, ◌*◌, ◌-◌, ◌≤◌, ◌<◌}
use native.Mathlib.Omega.{arith}
use lib.ListN.{length, get_or}
use Rattle.records.specs.Fields.{functions, count_of}
use Rattle.records.specs.Parts.{part_of}
use Rattle.records.proofs.PartWalks.{part_length}
use Rattle.spec_language.specs.Check.{accepted, check_of}
use Rattle.spec_machine.specs.Values as values
use Rattle.spec_machine.specs.Values.{int, t_bool, type_v}
use Rattle.spec_machine.specs.Program.{Operation, op, fn}
use Rattle.spec_machine.specs.Machine.{Frame, gather, and, val, Saved, saved, RunEnv, running}
use Rattle.spec_machine.specs.Fit as fit
use Rattle.spec_machine.specs.File.{program_of}
use Rattle.spec_image.specs.Sizes.{caller_room, frame_size, frames_at, size}
use Rattle.spec_image.specs.Image.{saved_frames}
use Rattle.spec_image.specs.Layout.{value_words, env_words}
use Rattle.spec_image.specs.Core.{core}
use Rattle.spec_image.proofs.Images.{length_frames}
use Rattle.spec_image.proofs.Operands.{read_value, read_node}
use Rattle.state_words.specs.declared.Value.{Value}
use Rattle.state_words.specs.Meaning.{value_is}
use Rattle.state_stack.specs.Shows.{Gathers}
use Rattle.run_rules.specs.declared.Registers as code
use Rattle.run_rules.specs.StepsTo.{Describes, Bounds, Called}
use Rattle.records.specs.Starts.{Starts}
use Rattle.run_rules.proofs.Steps.{counted_under}
use Rattle.run_step.specs.StepsBy.{IsInt, IsTruth, AtFitState}
use Rattle.run_step.proofs.Sorts.{is_int, is_truth}
use Rattle.run_step.proofs.GiveShapes.{ints, arguments, waits, conjunct, assigned, main_int, caller_known}

-- a fit state with a value at hand has a top frame
pub record Over (s table : List ℕ) (v : values.Value) (h : code.Registers) (l : List ℕ) : Type 0 where
  pub passed : check_of s ≡ accepted
  pub starts : Starts s table
  pub environment : RunEnv
  pub variables : List values.Value
  pub top : Frame
  pub frames : List Frame
  pub callers : List Saved
  pub rest : List ℕ
  pub held : l ≡ core h.function variables (top ∷ frames) callers ++ rest
  pub describes : Describes s h h.function (top ∷ frames) callers
  pub fit : fit.Fit (program_of s) (running (val v) environment h.function variables (top ∷ frames) callers)

pub over : (s table : List ℕ) (v : values.Value) (h : code.Registers) (l : List ℕ) → AtFitState s table (val v) h l → Over s table v h l
over s table v h l st = go st.frames st.held st.describes st.fit
  where
    go : (K : List Frame) → l ≡ core h.function st.variables K st.callers ++ (env_words st.environment ++ st.rest) → Describes s h h.function K st.callers
        → fit.Fit (program_of s) (running (val v) st.environment h.function st.variables K st.callers) → Over s table v h l
    go [] e t f = absurd f.proper.frames
    go (fr ∷ K) e t f =
        record {
          passed = st.passed;
          starts = st.starts;
          environment = st.environment;
          variables = st.variables;
          top = fr;
          frames = K;
          callers = st.callers;
          rest = env_words st.environment ++ st.rest;
          held = e;
          describes = t;
          fit = f;
        }

-- the limits of a fit state
pub limited : {s : List ℕ} {c : _} {h : code.Registers} {α : RunEnv} {f : ℕ} {η : List values.Value} {K : List Frame} {A : List Saved} → Describes s h f K A
    → fit.Fit (program_of s) (running c α f η K A) → (h.callers < fit.caller_limit) × (h.under + h.frames ≤ fit.frame_limit)
limited {K} {A} t f = (omega (arith, t.callers, f.within.0), omega (arith, t.under, t.frames, f.within.1, length_frames A))

pub shaped : {fr : Frame} {k : Operation} {vs ws : List values.Value} {ns : List ℕ} → fr ≡ gather k vs ns → vs ≡ ws → ns ≡ [] → fr ≡ gather k ws []
shaped e a b = e ∙ rw (a, b)

pub empty : (l : List ℕ) (z : ℕ) → z ≡ length l → z ≡ 0 → l ≡ []
empty [] z e h = refl
empty (x ∷ l) z e h = absurd (omega arith)

module _ (s table : List ℕ) (v : Value) (h : code.Registers) (l : List ℕ) (x : Over s table (value_is v) h l) where
  pub framed : 1 ≤ h.frames
  framed = omega (arith, x.describes.frames)

  pub bounded : size ≤ length l → Bounds h l
  bounded n = let q = limited x.describes x.fit in (n, q.0, q.1)

  pub few : length x.callers < caller_room
  few = omega (arith, (limited x.describes x.fit).0, x.describes.callers)

  pub under : h.under + (h.frames - 1) ≡ length (x.frames ++ saved_frames x.callers)
  under = counted_under x.describes (h.frames - 1) (omega (arith, framed))

  abbrev pub place : ℕ
  place = frames_at + (h.under + (h.frames - 1)) * frame_size

  module _ (y z : ℕ) where
    pub operate_ready : (o : ℕ) → Gathers x.top (op o) y z → z ≡ 0 → (o < 16) × IsInt v × (get_or l (place + (4 + 0 * 2)) 0 ≡ 1)
    unfolding value_words
    operate_ready o g e =
        let f = rw g.is at x.fit in
        let n = empty g.nodes z g.waits e in
        let i = ints s x.passed x.environment h.function x.variables (value_is v) x.frames x.callers o g.values g.nodes f n in
        let q : x.top ≡ gather (op o) (int i.first ∷ []) [] = shaped g.is i.stored n in
        let k = rw q at x.held in (
          i.known,
          is_int v i.second i.hand,
          rw k (read_value h.function x.variables x.frames x.callers x.rest _ _ few under refl (op o) (int i.first ∷ []) [] (omega arith) 0 0 _ (omega arith) (omega arith) refl),
        )

    pub operand_ready : (k : Operation) → Gathers x.top k y z → (z ≡ 0 → ⊥) → (y < 8) × (1 ≤ z) × (get_or l (place + (4 + y * 2)) 0 < count_of s h.function)
    operand_ready k g e = go g.nodes g.is g.waits
      where
        go : (ns : List ℕ) → x.top ≡ gather k g.values ns → z ≡ length ns → (y < 8) × (1 ≤ z) × (get_or l (place + (4 + y * 2)) 0 < count_of s h.function)
        go [] i w = absurd (e w)
        go (d ∷ ns) i w =
            let f = rw i at x.fit in
            let q = waits s x.passed x.environment h.function x.variables (value_is v) x.frames x.callers k g.values d ns f in
            let c = rw i at x.held in
            let r : get_or l (place + (4 + y * 2)) 0 ≡ d
            = rw c (read_node h.function x.variables x.frames x.callers x.rest _ _ few under refl k g.values (d ∷ ns) q.0 0 _ (omega arith) (omega (arith, g.done))) in
            (omega (arith, g.done, q.0), omega (arith, w), rw r q.1)

    pub enter_ready : (k : ℕ) → Gathers x.top (fn k) y z → z ≡ 0 → (k < functions s) × (y ≤ 7)
    enter_ready k g e =
        let f = rw g.is at x.fit in
        let q = arguments s x.passed x.environment h.function x.variables (value_is v) x.frames x.callers k g.values g.nodes f (empty g.nodes z g.waits e) in
        (q.0, omega (arith, g.done, q.3))

  pub and_ready : (n : ℕ) → x.top ≡ and n → IsTruth v × (n < count_of s h.function)
  and_ready n e =
      let q = conjunct s x.passed x.environment h.function x.variables (value_is v) x.frames x.callers n (rw e at x.fit) in
      (is_truth v q.0, q.1)

  pub store_ready : (n : ℕ) → x.top ≡ Frame.store n → n < 64
  store_ready n e =
      let q = assigned s x.passed x.environment h.function x.variables (value_is v) x.frames x.callers n (rw e at x.fit) in
      omega (arith, q.0, q.1)

  pub leave_main_ready : x.top ≡ Frame.leave → h.callers ≡ 0 → IsInt v
  leave_main_ready e z = go x.callers refl
    where
      go : (A : List Saved) → x.callers ≡ A → IsInt v
      go [] i =
          let q = main_int s x.passed x.environment h.function x.variables (value_is v) x.frames x.callers (rw e at x.fit) i in
          is_int v q.word q.is
      go (saved g θ L ∷ A) i = absurd (omega (arith, x.describes.callers, ap length i))

  pub leave_ready : x.top ≡ Frame.leave → 1 ≤ h.callers → Called s h l
  leave_ready e z = go x.callers refl
    where
      go : (A : List Saved) → x.callers ≡ A → Called s h l
      go [] i = absurd (omega (arith, x.describes.callers, ap length i))
      go (saved g θ L ∷ A) i =
          record {
            function = h.function;
            variables = x.variables;
            frames = x.top ∷ x.frames;
            caller = g;
            caller_variables = θ;
            caller_frames = L;
            callers = A;
            rest = x.rest;
            held = rw i at x.held;
            describes = rw i at x.describes;
            known = caller_known s x.passed x.environment h.function x.variables (value_is v) x.frames x.callers (rw e at x.fit) g θ L A i;
          }

  pub branch_ready : (type_v (value_is v) ≡ t_bool) → IsTruth v
  branch_ready e = is_truth v e

-- a node of the part lies in it
pub part_inside : (s table t : List ℕ) (f k : ℕ) → Starts s table → f < functions s → t ≡ part_of s f → k < count_of s f → 12 * k + 12 ≤ length t
part_inside s table t f k h n e i = rw e (rw (part_length s f (h.0.fits f n)) (omega arith))
