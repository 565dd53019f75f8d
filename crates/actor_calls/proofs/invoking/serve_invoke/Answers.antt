use Rattle.std.proofs.Common.{refl, [], ◌++◌, arith}
use Rattle.sidecar_node.specs.Nodes.{host_of}
use Rattle.sidecar_node.proofs.Actings.{acts_none, acts_at_then}
use Rattle.exchanges.proofs.Diallings.{none_made, dialling_then}
use Rattle.actor_calls.proofs.Servings.{idle, invoked_answered, invoked_moves}
use Rattle.actor_calls.proofs.Acting.{none_kept, none_before}
use Rattle.actor_calls.proofs.invoking.serve_invoke.Goals as goal

pub returns-in-Answered-clause-invoked : goal.returns-in-Answered-clause-invoked
returns-in-Answered-clause-invoked g c =
    let a = c.in-Answered.ensures.asked in (
      a.0,
      a.1,
      [],
      a.2,
      a.3,
      none_kept g.P.Dial.dialled g.P.Dial.dial_faults c.args.desk.now.links.peers c.ask_here.new.desk.links.peers c.in-Answered.ensures.others.0,
      invoked_answered _ c.ask_here.new.desk.seats _ c.args.desk.now.links.app_at c.args.invoke.now c.args.request.now c.args.side _ _ a.0 a.1 c.in-Answered.reply a.4,
    )

pub returns-in-Peer-clause-invoked : goal.returns-in-Peer-clause-invoked
returns-in-Peer-clause-invoked g c =
    let a = c.in-Moves.ensures.asked in
    let seats = c.ask_here.new.desk.seats in
    let host = (host_of c.args.desk.now.node.now).member in
    let at = c.args.desk.now.links.app_at in (
      a.0 ++ [],
      a.1 ++ [],
      [],
      acts_at_then _ a.0 [] _ _ _ a.2 (acts_none seats),
      dialling_then a.1 [] _ _ _ _ _ _ a.3 (none_made _ _),
      none_kept g.P.Dial.dialled g.P.Dial.dial_faults c.args.desk.now.links.peers c.ask_here.new.desk.links.peers c.in-Moves.ensures.others.0,
      invoked_moves _ seats host at c.args.invoke.now c.args.request.now c.args.side seats host at _ _ _ a.0 [] a.1 [] [] c.in-Moves.version c.in-Moves.owner _ refl refl a.4 (rw c.in-Peer.is (idle _, refl, refl)),
    )

pub returns-in-Caller-clause-invoked : goal.returns-in-Caller-clause-invoked
returns-in-Caller-clause-invoked g c =
    let a = c.in-Moves.ensures.asked in
    let routed = rw c.in-Moves.ensures.node at c.hop_on.ensures.routed in
    let o = rw c.start.ensures at routed in
    let before = c.ask_here.new.desk in
    let host = (host_of c.args.desk.now.node.now).member in (
      a.0 ++ o.0,
      a.1 ++ o.1,
      o.2,
      acts_at_then _ a.0 o.0 _ _ _ a.2 o.3,
      dialling_then a.1 o.1 _ _ _ _ _ _ a.3 o.4,
      none_before g.P.Dial.dialled g.P.Dial.dial_faults c.args.desk.now.links.peers before.links.peers c.in-Moves.ensures.others.0 o.2 _ _ o.5,
      invoked_moves _ c.hop_on.new.desk.seats host c.args.desk.now.links.app_at c.args.invoke.now c.args.request.now c.args.side before.seats host before.links.app_at _ _ _ a.0 o.0 a.1 o.1 o.2 c.in-Moves.version c.in-Moves.owner _
          refl c.in-Moves.ensures.places.0 a.4 (rw c.in-Caller.is o.6),
    )

pub hop_on-requires-clause-few : goal.hop_on-requires-clause-few
hop_on-requires-clause-few g c = rw c.start.ensures (omega arith)
