use mir.Syntax.{w32}
use mir.ValLaws.{to_z-of_z}
use Rattle.panelrue_c.specs.HostAnswers.{look_word}
use Rattle.panelrue_c.proofs.look_word.Goals as goal

pub returns-in-Nothing : goal.returns-in-Nothing
unfolding look_word
returns-in-Nothing c = rw c.in-Nothing.is

pub returns-in-Int : goal.returns-in-Int
unfolding look_word
returns-in-Int c = rw (c.bits.ensures, to_z-of_z w32 _ (record { sfits = c.in-Int.known_told-1-own.given.0.1 }), c.in-Int.is)

pub returns-in-Truth : goal.returns-in-Truth
unfolding look_word
returns-in-Truth c = rw (c.bit_of.ensures, c.in-Truth.is)
