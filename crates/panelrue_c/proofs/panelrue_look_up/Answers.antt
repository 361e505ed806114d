use mathlib.Core.Path.{sym, ◌∙◌}
use Rattle.panelrue_c.specs.HostAnswers.{look_number, look_words}
use Rattle.panelrue_c.proofs.panelrue_look_up.Goals as goal

pub pack-requires : goal.pack-requires
pack-requires c = rw c.in-Err.is at c.look_up.ensures.small

pub returns-in-Ok : goal.returns-in-Ok
unfolding look_number look_words
returns-in-Ok c = let e = sym c.look_up.ensures.answer ∙ c.in-Ok.is in record { number = rw e; told = rw (e, ← c.look_kind.ensures, ← c.look_word.ensures) c.tell_look.ensures }

pub returns-in-Err : goal.returns-in-Err
unfolding look_number look_words
returns-in-Err c = let e = sym c.look_up.ensures.answer ∙ c.in-Err.is in record { number = rw e c.pack.ensures; told = rw e }
