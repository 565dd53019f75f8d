use Rattle.actor_ports.proofs.Moments.{Rises-bound}
use Rattle.actor_ports.proofs.memory.clock.MemClockClock.now_ms.Goals as goal

pub returns-then-self-len-clause-bound : goal.returns-then-self-len-clause-bound
returns-then-self-len-clause-bound c = Rises-bound _ _ c.self.invariant.1
