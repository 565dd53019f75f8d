use Rattle.std.proofs.Common.{[], subst}
use Rattle.actor_names.specs.declared.actor_key.ActorKey.{ActorKey}
use Rattle.timer_book.specs.declared.event.TimerEvent.TheVariants.{Set}
use Rattle.sidecar_node.proofs.Actings.{acts_none}
use Rattle.sidecar_requests.specs.Serving.{IsTimerServed}
use Rattle.sidecar_requests.proofs.Held.{timer_wants}
use Rattle.sidecar_requests.proofs.timer.set_timer.Goals as goal

pub returns-in-Err-clause-served : goal.returns-in-Err-clause-served
returns-in-Err-clause-served g c = (
  [],
  acts_none c.args.desk.now.seats,
  timer_wants c.args.desk.now.node.now c.args.actor (Set c.args.actor c.args.name c.args.timer) c.args.desk.now.seats c.refused.result (g.K.Clock.shown c.args.desk.now.clock) c.refused.ensures,
)

pub returns-in-Ok-clause-served : goal.returns-in-Ok-clause-served
returns-in-Ok-clause-served g c =
    let s = c.hold_timer.ensures.served in (
      s.0,
      s.1,
      subst (λ (k : ActorKey). IsTimerServed c.args.desk.now.node.now c.hold_timer.new.seats k (Set c.args.actor c.args.name c.args.timer) (g.K.Clock.shown c.args.desk.now.clock) (g.K.Clock.shown c.hold_timer.new.clock) s.0 [] c.hold_timer.result) c.in-Ok.ensures.hold s.2,
    )
