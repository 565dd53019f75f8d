use Rattle.std.proofs.Common.{◌-◌, suc, arith}
use Rattle.schedule_text.proofs.Progress.{first_after-fires, first_after-ends}
use Rattle.schedule_text.proofs.law.firing_law.Goals as goal

pub returns-clause-fires : goal.returns-clause-fires
returns-clause-fires c = λ period moment now r first. first_after-fires period now (suc (now - moment)) moment r first

pub returns-clause-ends : goal.returns-clause-ends
returns-clause-ends c = λ period moment now low length first. first_after-ends period now length (suc (now - moment)) moment low (omega arith) first
