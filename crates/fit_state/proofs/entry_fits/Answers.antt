use Rattle.spec_machine.specs.File.{program_of}
use Rattle.spec_machine.proofs.Files.{accepted_program}
use Rattle.fit_state.proofs.Entries.{entry_law}
use Rattle.fit_state.proofs.entry_fits.Goals as goal

pub returns : goal.returns
returns c = λ b e s R q w. rw q (entry_law (program_of b) (accepted_program b e).main_takes s R w)
