use Rattle.panelrue_c.specs.HostLogs.{stop_word}
use Rattle.panelrue_c.proofs.logs.stop_word.Goals as goal

pub returns-in-Ended : goal.returns-in-Ended
unfolding stop_word
returns-in-Ended c = rw c.in-Ended.is c.outcome_word.ensures

pub returns-in-LogFull : goal.returns-in-LogFull
unfolding stop_word
returns-in-LogFull c = rw c.in-LogFull.is
