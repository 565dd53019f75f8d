use Rattle.std.proofs.Common.{arith}
use Rattle.tx_journal.proofs.Batches.{one_more, added, no_room}
use Rattle.tx_journal.proofs.batch.Batch.add.Goals as goal

pub returns-then-self-size-ge-ROOM : goal.returns-then-self-size-ge-ROOM
returns-then-self-size-ge-ROOM c = no_room c.self.invariant c.args.self.now c.self.view_is c.args.payload.now (omega (arith, c.if-self-size-ge-ROOM.true))

pub invariant_of-self : goal.invariant_of-self
invariant_of-self c = one_more c.self.invariant c.deref_mut.result.now c.fill.new.buffer _ c.args.payload.now c.self.inside.buffer.len c.requires c.deref_mut.ensures.value c.deref_mut.ensures.len c.fill.ensures (omega (arith, c.if-self-size-ge-ROOM.false)) c.generation_with-self-inside.result c.generation_with-self-inside.ensures

pub returns : goal.returns
returns c = added c.self.invariant c.deref_mut.result.now c.fill.new.buffer _ c.args.payload.now c.self.inside.buffer.len c.requires c.deref_mut.ensures.value c.deref_mut.ensures.len c.fill.ensures (omega (arith, c.if-self-size-ge-ROOM.false)) c.generation_with-self-inside.result c.generation_with-self-inside.ensures c.args.self.now c.self.view_is
