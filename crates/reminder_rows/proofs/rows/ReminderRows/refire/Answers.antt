use Rattle.std.proofs.Common.{◌≡◌, true, false, sym, ◌∙◌}
use Rattle.reminder_rows.specs.Filing.{is_named}
use Rattle.reminder_rows.proofs.Newest.{fired-other, refired-named, refired-other, new-refired}
use Rattle.reminder_rows.proofs.rows.ReminderRows.refire.Goals as goal

pub returns-then-fire-clause-rows : goal.returns-then-fire-clause-rows
returns-then-fire-clause-rows c =
    let named : is_named c.args.actor.now c.args.name.now c.self.inside.fresh ≡ true = sym c.fire.ensures.named ∙ c.if-fire.true in
    rw (c.fire.ensures.fired, ← c.self.view_is) (refired-named c.args.actor.now c.args.name.now c.self.inside.filed c.in_order.ensures c.args.moment c.args.left c.self.inside.fresh named)

pub invariant_of-self-2 : goal.invariant_of-self-2
invariant_of-self-2 c =
    let not : is_named c.args.actor.now c.args.name.now c.self.inside.fresh ≡ false = sym c.fire.ensures.named ∙ c.if-fire.false in
    rw (c.refire.ensures, c.fire.ensures.fired, fired-other c.args.actor.now c.args.name.now c.self.inside.filed c.in_order.ensures c.args.moment c.args.left c.self.inside.fresh not)
    (new-refired c.args.actor.now c.args.name.now c.self.inside.filed c.in_order.ensures c.args.moment c.args.left c.self.inside.fresh not c.self.invariant)

pub returns-clause-rows : goal.returns-clause-rows
returns-clause-rows c =
    let not : is_named c.args.actor.now c.args.name.now c.self.inside.fresh ≡ false = sym c.fire.ensures.named ∙ c.if-fire.false in
    rw (c.refire.ensures, c.fire.ensures.fired, fired-other c.args.actor.now c.args.name.now c.self.inside.filed c.in_order.ensures c.args.moment c.args.left c.self.inside.fresh not, ← c.self.view_is)
    (refired-other c.args.actor.now c.args.name.now c.self.inside.filed c.in_order.ensures c.args.moment c.args.left c.self.inside.fresh not)
