use Rattle.std.proofs.Common.{[], refl, subst, ℕ, Ok, Err}
use Rattle.actor_names.specs.declared.actor_key.ActorKey.{ActorKey}
use Rattle.actors_api.specs.declared.refusal.ApiRefusal.{ApiRefusal}
use Rattle.actors_api.specs.declared.refusal.ApiRefusal.TheVariants as refusals
use Rattle.exchanges.proofs.Diallings.{none_made}
use Rattle.sidecar_requests.specs.Outcomes.{refusal_of}
use Rattle.sidecar_requests.specs.Serving.{IsHeldExchange, IsHeldInVain}
use Rattle.sidecar_requests.proofs.Held.{lock_refused, held_write}
use Rattle.sidecar_requests.proofs.state.write_held.Goals as goal

pub returns-in-Err-clause-written : goal.returns-in-Err-clause-written
returns-in-Err-clause-written g c =
    let desk = c.args.desk.now in
    let node = desk.node.now in
    let v = c.hold_in_vain.ensures.vain in
    let after = c.hold_in_vain.new.seats in
    let first = g.K.Clock.shown desk.clock in
    let last = g.K.Clock.shown c.hold_in_vain.new.clock in
    let answer = c.hold_in_vain.result in
    let w = held_write node desk.links.store_at c.args.actor c.args.ask c.args.n desk.seats c.fence_step.new.seats after (Err c.in-Err.field-0) first last v.0 [] answer c.in-Err.ensures.entry c.in-Err.ensures.spent v.1
    (refl, subst (λ (a : ActorKey). IsHeldInVain node after a refusals.Spent first last v.0 answer) c.requires.release v.2) in
    (w.0, [], w.1, none_made _ _, w.2)

pub returns-in-TableStep-clause-written : goal.returns-in-TableStep-clause-written
returns-in-TableStep-clause-written g c =
    let desk = c.args.desk.now in
    let node = desk.node.now in
    let at = desk.links.store_at in
    let ask = c.args.ask in
    let x = c.exchange_held.ensures.held in
    let after = c.exchange_held.new.desk.seats in
    let first = g.K.Clock.shown desk.clock in
    let last = g.K.Clock.shown c.exchange_held.new.desk.clock in
    let answer = c.exchange_held.result in
    let exchanged = subst (λ (e : ℕ). IsHeldExchange node at after c.args.actor ask c.args.n e first last x.0 x.1 answer) c.opened-epoch.ensures.value x.4 in
    let w = held_write node at c.args.actor ask c.args.n desk.seats c.fence_step.new.seats after (Ok c.in-Ok.reply) first last x.0 x.1 answer c.in-Ok.ensures.entry tt x.2 (rw c.in-TableStep.is exchanged) in
    (w.0, x.1, w.1, x.3, w.2)

pub returns-in_default-clause-written : goal.returns-in_default-clause-written
returns-in_default-clause-written g c =
    let desk = c.args.desk.now in
    let node = desk.node.now in
    let at = desk.links.store_at in
    let ask = c.args.ask in
    let v = c.hold_in_vain-in_default.ensures.vain in
    let after = c.hold_in_vain-in_default.new.seats in
    let first = g.K.Clock.shown desk.clock in
    let last = g.K.Clock.shown c.hold_in_vain-in_default.new.clock in
    let answer = c.hold_in_vain-in_default.result in
    let reply = c.in-Ok.reply in
    let follows = lock_refused node at c.args.actor ask c.args.n after reply first last v.0 answer c.in_default.not-TableStep
    (subst (λ (a : ActorKey). IsHeldInVain node after a (refusal_of reply) first last v.0 answer) c.requires.release
    (subst (λ (r : ApiRefusal). IsHeldInVain node after c.args.release r first last v.0 answer) c.refusal_of-refusal.ensures v.2)) in
    let w = held_write node at c.args.actor ask c.args.n desk.seats c.fence_step.new.seats after (Ok reply) first last v.0 [] answer c.in-Ok.ensures.entry tt v.1 follows in
    (w.0, [], w.1, none_made _ _, w.2)
