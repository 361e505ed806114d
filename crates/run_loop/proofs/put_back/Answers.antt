use mathlib.Core.Path.{refl}
use Rattle.spec_machine.specs.Machine.{val, eval, exec}
use Rattle.spec_machine.specs.Values.{nothing, int, truth}
use Rattle.spec_image.specs.Layout.{control_words}
use Rattle.spec_image.specs.Decode.{ref_of}
use Rattle.spec_image.proofs.ValueWords.{ref_word_lem}
use Rattle.state_words.specs.Meaning.{control_is}
use Rattle.run_loop.proofs.put_back.Goals as goal

pub returns-in-Nothing : goal.returns-in-Nothing
unfolding control_is control_words
returns-in-Nothing c s α f η K A R e t = rw c.in-Nothing.is (c.store_head.ensures (val nothing) α f η K A R e t.callers t.frames refl)

pub returns-in-Int : goal.returns-in-Int
unfolding control_is control_words
returns-in-Int c s α f η K A R e t = rw c.in-Int.is (c.store_head-in-Int.ensures (val (int _)) α f η K A R e t.callers t.frames refl)

pub returns-in-Truth : goal.returns-in-Truth
unfolding control_is control_words
returns-in-Truth c s α f η K A R e t = rw c.in-Truth.is (c.store_head-in-Truth.ensures (val (truth _)) α f η K A R e t.callers t.frames (rw c.bit_of.ensures))

pub returns-in-Eval : goal.returns-in-Eval
unfolding control_is control_words
returns-in-Eval c s α f η K A R e t = rw c.in-Eval.is (c.store_head-in-Eval.ensures (eval _) α f η K A R e t.callers t.frames refl)

pub returns-in-Exec : goal.returns-in-Exec
unfolding control_is control_words
returns-in-Exec c s α f η K A R e t = rw c.in-Exec.is (c.store_head-in-Exec.ensures (exec (ref_of _)) α f η K A R e t.callers t.frames (rw (ref_word_lem c.in-Exec.r)))
