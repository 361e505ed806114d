use Rattle.panelrue_c.specs.HostAnswers.{look_kind}
use Rattle.panelrue_c.proofs.look_kind.Goals as goal

pub returns-in-Nothing : goal.returns-in-Nothing
unfolding look_kind
returns-in-Nothing c = rw c.in-Nothing.is

pub returns-in-Int : goal.returns-in-Int
unfolding look_kind
returns-in-Int c = rw c.in-Int.is

pub returns-in-Truth : goal.returns-in-Truth
unfolding look_kind
returns-in-Truth c = rw c.in-Truth.is
