use Rattle.std.proofs.Common.{[], refl}
use Rattle.sidecar_node.proofs.Actings.{acts_none}
use Rattle.exchanges.proofs.Diallings.{none_made}
use Rattle.sidecar_requests.proofs.Held.{state_wants, state_spent, state_follows, hold_ends}
use Rattle.sidecar_requests.proofs.state.serve_state.Goals as goal

pub returns-in-Err-clause-served : goal.returns-in-Err-clause-served
returns-in-Err-clause-served g c =
    let desk = c.args.desk.now in (
      [],
      [],
      acts_none desk.seats,
      none_made _ _,
      state_wants desk.node.now desk.links.store_at desk.seats c.args.actor c.args.ask _ (g.K.Clock.shown desk.clock) refl,
    )

pub returns-in-Err-said-clause-served : goal.returns-in-Err-said-clause-served
returns-in-Err-said-clause-served g c =
    let desk = c.args.desk.now in
    let entry = rw c.in-Err-said.is at c.hold_step-said.ensures.entry in
    let spent = rw c.in-Err-said.is at c.hold_step-said.ensures.spent in
    let s = state_spent desk.node.now desk.links.store_at c.args.actor c.in-Ok.keys.hold c.args.ask desk.seats c.hold_step-said.new.seats c.in-Err-said.field-0 _ (g.K.Clock.shown desk.clock) c.in-Ok.ensures.hold entry spent refl in
    (s.0, [], s.1, none_made _ _, s.2)

pub returns-in-Held-clause-served : goal.returns-in-Held-clause-served
returns-in-Held-clause-served g c =
    let desk = c.args.desk.now in
    let entry = rw c.in-Ok-said.is at c.hold_step-said.ensures.entry in
    let held = c.serve_held in
    let f = held.ensures.served in
    let s = state_follows desk.node.now desk.links.store_at c.args.actor c.in-Ok.keys.hold c.args.ask desk.seats c.hold_step-said.new.seats held.new.desk.seats c.in-Ok-said.reply held.result (g.K.Clock.shown desk.clock) (g.K.Clock.shown held.new.desk.clock) f.0 f.1
    c.in-Ok.ensures.hold entry f.2 (rw c.in-Held.is f.4) in
    (s.0, f.1, s.1, f.3, s.2)

pub returns-in_default-clause-served : goal.returns-in_default-clause-served
returns-in_default-clause-served g c =
    let desk = c.args.desk.now in
    let entry = rw c.in-Ok-said.is at c.hold_step-said.ensures.entry in
    let after = c.hold_step-said.new.seats in
    let now = g.K.Clock.shown desk.clock in
    let reply = c.in-Ok-said.reply in
    let answer = c.refused.result in
    let s = state_follows desk.node.now desk.links.store_at c.args.actor c.in-Ok.keys.hold c.args.ask desk.seats after after reply answer now now [] []
    c.in-Ok.ensures.hold entry (acts_none after)
    (hold_ends desk.node.now desk.links.store_at after c.args.actor c.args.ask reply c.refusal_of.result answer now c.in_default.not-Held c.refused.ensures c.refusal_of.ensures) in
    (s.0, [], s.1, none_made _ _, s.2)
