-- Whole lists of calls, from what each form of call owes.
use mathlib.Core.Path.{◌≡◌, sym, subst, ◌∙◌}
use mathlib.Core.List.{List, [], ◌∷◌}
use Rattle.spec_machine.specs.Machine.{State}
use Rattle.spec_machine.specs.Run.{all_held}
use Rattle.spec_machine.specs.Calls.{Machine, CallForm, Call, given_to, after_of, Accepts, OneFile, Handled, does, stays, Story, end, then}

-- files, what a call is given to read, memories, which memory holds a state's image, and which states are fit for what is read
module _ (File Given Mem : Type 0) (file : Given → File) (Image : State → Mem → Type 0) (FitFor : Given → State → Type 0) where
  -- what holds between two calls, with what the last accepted one was given to read
  pub record At (e : Given) (m : Mem) (σ : Machine) : Type 0 where
    pub image : Image σ.state m
    pub fit : FitFor e σ.state
    pub same : σ.history ≡ all_held σ.state

  -- what a form owes: a refusal leaves the memory, and an accepted call does what its form says, whatever the one before it was given beside the same file
  pub record Owes (F : CallForm File Given Mem file) : Type 0 where
    pub took? : (a : F.Answer) → Dec (F.Took a)
    pub refused : (i : F.In) (m : Mem) → ¬ F.Took (F.answer i m) → F.after i m ≡ m
    pub accepted : (i : F.In) (m : Mem) (σ : Machine) (e : Given) → file e ≡ file (F.reads i) → At e m σ → F.Took (F.answer i m)
        → (τ : Machine) × F.Does i (F.answer i m) σ τ × At (F.reads i) (F.after i m) τ

  module _ (Kind : Type 0) (form : Kind → CallForm File Given Mem file) (owes : (k : Kind) → Owes (form k)) where
    -- the calls, and what is said of them
    abbrev C : Type 0
    C = Call File Given Mem file Kind form

    abbrev reads : C → Given
    reads c = given_to File Given Mem file Kind form c

    abbrev after : C → Mem → Mem
    after c m = after_of File Given Mem file Kind form c m

    abbrev Took : C → Mem → Type 0
    Took c m = Accepts File Given Mem file Kind form c m

    module _ (φ : File) (Last : Given → Mem → Machine → Type 0) (close : (e : Given) (m : Mem) (σ : Machine) → file e ≡ φ → At e m σ → Last e m σ) where
      -- one call, from what holds before it
      record Next (c : C) (m : Mem) (σ : Machine) (e : Given) : Type 0 where
        machine : Machine
        given : Given
        handled : Handled File Given Mem file Kind form c m σ e machine given
        own : file given ≡ φ
        at : At given (after c m) machine

      step : (c : C) (m : Mem) (σ : Machine) (e : Given) → (Took c m → file (reads c) ≡ φ) → file e ≡ φ → At e m σ → Next c m σ e
      step c m σ e same own a = go ((owes c.kind).took? ((form c.kind).answer c.given m))
        where
          go : Dec (Took c m) → Next c m σ e
          go (yes t) =
              let q = same t in
              let r = (owes c.kind).accepted c.given m σ e (own ∙ sym q) a t in
              record { machine = r.0; given = reads c; handled = does t r.1; own = q; at = r.2 }
          go (no n) =
              let k = (owes c.kind).refused c.given m n in
              record { machine = σ; given = e; handled = stays n k; own = own; at = subst (λ l. At e l σ) (sym k) a }

      pub whole : (cs : List C) (e : Given) (m : Mem) (σ : Machine) → file e ≡ φ → OneFile File Given Mem file Kind form φ cs m → At e m σ
          → Story File Given Mem file Kind form Image Last cs e m σ
      whole [] e m σ own f a = end (close e m σ own a)
      whole (c ∷ cs) e m σ own f a =
          let s = step c m σ e f.0 own a in
          then s.handled s.at.image (whole cs s.given (after c m) s.machine s.own f.1 s.at)
