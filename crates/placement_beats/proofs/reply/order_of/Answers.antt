use Rattle.std.proofs.Common.{List, subst}
use Rattle.place_table.specs.declared.host.HostInfo.{HostInfo}
use Rattle.frame_wire.specs.Frames.{payload}
use Rattle.placement_beats.specs.Replies.{IsTableOf}
use Rattle.placement_beats.proofs.Fits.{lock_range, unlock_range, table_range}
use Rattle.placement_beats.proofs.Turns.{order_other, order_update}
use Rattle.placement_beats.proofs.reply.order_of.Goals as goal

pub returns-in-Lock-clause-range : goal.returns-in-Lock-clause-range
returns-in-Lock-clause-range c = lock_range c.in-Lock.version (subst payload.Fits c.in-Lock.is c.requires.0)

pub returns-in-Unlock-clause-range : goal.returns-in-Unlock-clause-range
returns-in-Unlock-clause-range c = unlock_range c.in-Unlock.version (subst payload.Fits c.in-Unlock.is c.requires.0)

pub returns-in-Ok-clause-orders : goal.returns-in-Ok-clause-orders
returns-in-Ok-clause-orders c =
    order_update c.args.space.now c.args.now c.args.reply.now c.in-Update.version c.in-Update.hosts c.in-Ok.table c.in-Update.is
    (subst (λ (hs : List HostInfo). IsTableOf c.args.space.now c.in-Update.version hs c.in-Ok.table) c.as_slice.ensures c.in-Ok.ensures)

pub returns-in-Ok-clause-range : goal.returns-in-Ok-clause-range
returns-in-Ok-clause-range c =
    table_range c.args.space.now c.in-Update.version c.in-Update.hosts c.in-Ok.table (subst payload.Fits c.in-Update.is c.requires.0)
    (subst (λ (hs : List HostInfo). IsTableOf c.args.space.now c.in-Update.version hs c.in-Ok.table) c.as_slice.ensures c.in-Ok.ensures)

pub returns-in_default-clause-orders : goal.returns-in_default-clause-orders
returns-in_default-clause-orders c = order_other c.args.space.now c.args.now c.args.reply.now c.in_default.not-Lock c.in_default.not-Update c.in_default.not-Unlock
