use Rattle.std.proofs.Common.{◌≡◌, true, false, is_some, sym, ap, ◌∙◌}
use Rattle.reminder_rows.specs.Filing.{is_named, with_fresh}
use Rattle.reminder_rows.proofs.Newest.{other, new-without, there-named, without-named, without-other}
use Rattle.reminder_rows.proofs.rows.ReminderRows.delete.Goals as goal

pub returns-then-is_named-clause-there : goal.returns-then-is_named-clause-there
returns-then-is_named-clause-there c =
    let named : is_named c.args.actor.now c.args.name.now c.self.inside.fresh ≡ true = sym c.is_named.ensures ∙ c.if-is_named.true in
    rw (← c.self.view_is) (sym (there-named c.args.actor.now c.args.name.now c.self.inside.filed c.in_order.ensures c.self.inside.fresh named))

pub returns-then-is_named-clause-rows : goal.returns-then-is_named-clause-rows
returns-then-is_named-clause-rows c =
    let named : is_named c.args.actor.now c.args.name.now c.self.inside.fresh ≡ true = sym c.is_named.ensures ∙ c.if-is_named.true in
    rw (← c.self.view_is) (sym (without-named c.args.actor.now c.args.name.now c.self.inside.filed c.in_order.ensures c.self.inside.fresh named c.self.invariant))

pub invariant_of-self-2 : goal.invariant_of-self-2
invariant_of-self-2 c = rw c.remove.ensures.rest (new-without c.args.actor.now c.args.name.now c.self.inside.filed c.in_order.ensures c.self.inside.fresh c.self.invariant)

pub returns-clause-there : goal.returns-clause-there
returns-clause-there c =
    let not : is_named c.args.actor.now c.args.name.now c.self.inside.fresh ≡ false = sym c.is_named.ensures ∙ c.if-is_named.false in
    rw (← c.self.view_is) (c.remove.ensures.there ∙ ap is_some (sym (other c.args.actor.now c.args.name.now c.self.inside.filed c.self.inside.fresh not)))

pub returns-clause-rows : goal.returns-clause-rows
returns-clause-rows c =
    let not : is_named c.args.actor.now c.args.name.now c.self.inside.fresh ≡ false = sym c.is_named.ensures ∙ c.if-is_named.false in
    rw (← c.self.view_is) (ap (with_fresh c.self.inside.fresh) c.remove.ensures.rest ∙ sym (without-other c.args.actor.now c.args.name.now c.self.inside.filed c.in_order.ensures c.self.inside.fresh not))
