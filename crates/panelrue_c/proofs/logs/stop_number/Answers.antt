use Rattle.panelrue_c.specs.HostLogs.{stop_number}
use Rattle.panelrue_c.proofs.logs.stop_number.Goals as goal

pub returns-in-Ended : goal.returns-in-Ended
unfolding stop_number
returns-in-Ended c = rw c.in-Ended.is c.outcome_number.ensures

pub returns-in-LogFull : goal.returns-in-LogFull
unfolding stop_number
returns-in-LogFull c = rw c.in-LogFull.is
