-- After the read, what was read so far ends where what is left begins: at the new place.
use Rattle.std.proofs.Common.{◌+◌, ap, ◌∙◌, Some, Ok}
use Rattle.actor_ports.specs.Traffic.{took}
use Rattle.actor_ports.specs.Memory.{ConnMemory, conn_read}
use Rattle.actor_ports.proofs.Taken.{took_more}
use Rattle.actor_ports.proofs.memory.conn.MemConnSource.read.Goals as goal

pub returns-clause-receives : goal.returns-clause-receives
returns-clause-receives c =
    let more = took_more (record { ip = c.self.inside.ip; port = c.self.inside.port }) c.self.inside.incoming.items c.self.inside.written.items c.self.inside.place c.min-count.result in
    ap Some (more ∙ ap (λ (m : ConnMemory). took c.min-count.result m.traffic) c.self.view_is)

pub returns-clause-after : goal.returns-clause-after
returns-clause-after c =
    let more = took_more (record { ip = c.self.inside.ip; port = c.self.inside.port }) c.self.inside.incoming.items c.self.inside.written.items c.self.inside.place c.min-count.result in
    ap (λ t. record { traffic = t; calls = c.self.inside.calls + 1; faults = c.self.inside.faults; failing = c.self.inside.failing.items }) more
    ∙ ap (λ (m : ConnMemory). conn_read m (Ok c.min-count.result)) c.self.view_is
