-- Demand 3: one theorem over lists of calls of any length.
use mathlib.Core.Path.{◌≡◌, refl}
use mathlib.Core.Logic.{◌⊎◌, inl, inr}
use mathlib.Core.List.{List, ◌++◌}
use Prim.Native.Nat.{ℕ}
use lib.ListN.{drop}
use Rattle.spec_language.specs.Check.{accepted, check_of}
use Rattle.spec_machine.specs.Machine.{State, exception, calling, main_call, returned, running}
use Rattle.spec_machine.specs.Fit.{Fit}
use Rattle.spec_machine.specs.File.{program_of}
use Rattle.spec_machine.specs.Applies.{One}
use Rattle.spec_machine.specs.Calls.{Machine}
use Rattle.spec_machine.proofs.Calls.{whole}
use Rattle.spec_machine.proofs.Safety.{starts_fit, one_applies, values_typed}
use Rattle.spec_image.specs.Image.{image}
use Rattle.spec_image.specs.Sizes.{size}
use Rattle.spec_image.specs.Memory.{Holds}
use Rattle.spec_image.proofs.Sized.{file_sized}
use Rattle.spec_image.proofs.Memory.{held_length, whole_held, holds_fit, fit_holds, one_state}
use Rattle.spec_answers.specs.Answers.{start_memory, written}
use Rattle.spec_lists.specs.Forms.{Given, CallKind, form}
use Rattle.spec_lists.specs.Lists.{Begins, by_start, stored, Image, Final, Last, AnyCall, OneFileIn, StoryOf}
use Rattle.spec_answers.proofs.Questions.{start_so, memory_so, memory_if}
use Rattle.spec_lists.proofs.Entries.{FitFor, Between, owing}

-- the file that the list begins with is accepted
begins_checked : (e : Given) {σ : Machine} {m : List ℕ} → Begins e σ m → check_of e.bytes ≡ accepted
begins_checked e (by_start M t) = (start_so e.bytes M t).0
begins_checked e (stored M t) = (memory_so e.bytes M t).0

-- what holds before the first call
begins_at : (e : Given) {σ : Machine} {m : List ℕ} → Begins e σ m → Between m e m σ
unfolding start_memory written
begins_at e (by_start M t) =
    let w : start_memory e.bytes M ≡ image main_call ++ drop size M = rw t in
    record {
      image = record { holds = rw w (whole_held main_call (drop size M) tt).0; rest = refl; long = refl };
      fit = starts_fit e.bytes e.small (start_so e.bytes M t).0;
      same = refl;
    }
begins_at e (stored M t) =
    let h = holds_fit (program_of e.bytes) M (memory_so e.bytes M t).2 in
    record { image = record { holds = h.0; rest = refl; long = refl }; fit = h.1; same = refl }

-- a fit state is final, or exactly one rule applies
onward : (e : Given) → check_of e.bytes ≡ accepted → (s : State) → Fit (program_of e.bytes) s → Final s ⊎ One (program_of e.bytes) s
onward e c (State.value k) f = inl tt
onward e c (exception x) f = inl tt
onward e c (calling α o) f = inr (one_applies e.bytes e.small c (calling α o) f tt)
onward e c (returned α k) f = inr (one_applies e.bytes e.small c (returned α k) f tt)
onward e c (running k α g η K A) f = inr (one_applies e.bytes e.small c (running k α g η K A) f tt)

-- what holds at the end
closes : (M : List ℕ) (e : Given) (m : List ℕ) (σ : Machine) → check_of e.bytes ≡ accepted → Between M e m σ → Last M e m σ
closes M e m σ c a =
    record {
      onward = onward e c σ.state a.fit;
      typed = values_typed e.bytes e.small c σ.state a.fit;
      checked =
          memory_if e.bytes m c (held_length m σ.state a.fit.within a.image.holds)
          (fit_holds (program_of e.bytes) m (file_sized e.bytes c) σ.state a.fit a.image.holds);
      held = a.image;
    }

-- demand 3: the machine goes as the calls say, after each call the memory holds its image, and at the end the machine is final or one rule
-- applies, its values are typed, and the memory passes the memory check
pub whole_lists : (e : Given) (σ : Machine) (M : List ℕ) → Begins e σ M → (cs : List AnyCall) → OneFileIn M e.bytes cs → StoryOf M cs e σ
whole_lists e σ M b cs one =
    let c = begins_checked e b in
    whole (List ℕ) Given (List ℕ) (λ d. d.bytes) (Image M) FitFor CallKind form (owing M) e.bytes (Last M)
    (λ d m τ q a. closes M d m τ (rw q c) a) cs e M σ refl one (begins_at e b)

-- the state that a list begins with is the one fit state whose image is there
pub begins_one : (e : Given) (σ : Machine) (M : List ℕ) → Begins e σ M → (s : State) → Fit (program_of e.bytes) s → Holds M s → s ≡ σ.state
begins_one e σ M b s f h =
    let a = begins_at e b in
    one_state (program_of e.bytes) M (file_sized e.bytes (begins_checked e b)) s σ.state f a.fit h a.image.holds
