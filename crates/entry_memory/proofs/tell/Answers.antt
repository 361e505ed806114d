use mir.Syntax.{w32}
use mir.ValLaws.{to_z-of_z}
use Rattle.state_words.specs.Meaning.{value_is}
use Rattle.entry_memory.specs.Looks.{look_of}
use Rattle.entry_memory.proofs.tell.Goals as goal

pub returns-in-Nothing : goal.returns-in-Nothing
unfolding look_of value_is
returns-in-Nothing c = rw c.in-Nothing.is

pub returns-in-Int : goal.returns-in-Int
unfolding look_of value_is
returns-in-Int c = rw (to_z-of_z w32 c.signed-z.result (record { sfits = c.signed-z.type_inv }), c.signed-z.ensures, c.in-Int.is)

pub returns-in-Truth : goal.returns-in-Truth
unfolding look_of value_is
returns-in-Truth c = rw c.in-Truth.is
