use Rattle.std.proofs.Common.{ap, refl, [], Ok, Err}
use Rattle.place_table.specs.declared.host.HostInfo.{HostInfo}
use Rattle.sidecar_node.specs.Entries.{at_part}
use Rattle.sidecar_node.specs.Nodes.{part_at}
use Rattle.sidecar_node.proofs.Actings.{acts_none}
use Rattle.exchanges.proofs.Diallings.{none_made}
use Rattle.actor_calls.proofs.Acting.{none_kept}
use Rattle.sidecar_requests.proofs.Requests.{is_record, refusal_follows, record_follows, request_by}
use Rattle.sidecar_requests.proofs.serving.serve_one.Goals as goal

pub returns-in-Err-clause-served : goal.returns-in-Err-clause-served
returns-in-Err-clause-served g c =
    let desk = c.args.desk.now in
    let clock = c.now_ms-now.ensures in (
      [],
      [],
      [],
      [],
      acts_none desk.seats,
      none_made _ _,
      none_made _ _,
      none_made _ _,
      request_by desk.node.now desk.links.app_at desk.links.store_at c.args.side c.args.request.now desk.seats _ _ _ c.now_ms-now.result _ (Err c.in-Err.refusal) [] [] [] [] _
          (ap (λ (h : HostInfo). h.member.space) c.host.ensures) clock.never_falls clock.shows c.in-Err.ensures
          (refusal_follows desk.node.now desk.links.app_at desk.links.store_at c.args.side c.args.request.now desk.seats _ _),
    )

pub returns-in-None-clause-served : goal.returns-in-None-clause-served
returns-in-None-clause-served g c =
    let desk = c.args.desk.now in
    let clock = c.now_ms-now.ensures in
    let done = c.serve_invoke in
    let i = done.ensures.invoked in
    let ns = at_part (part_at desk.node.now c.in-Invoke.actor) i.0 in (
      ns,
      i.1,
      i.2,
      [],
      i.3,
      i.4,
      i.5,
      none_kept g.S.Dial.dialled g.S.Dial.dial_faults desk.links.store done.new.desk.links.store done.ensures.store,
      request_by desk.node.now desk.links.app_at desk.links.store_at c.args.side c.args.request.now done.new.desk.seats _ _ _ c.now_ms-now.result _ (Ok c.in-Ok.command) ns i.1 i.2 [] _
          (ap (λ (h : HostInfo). h.member.space) c.host.ensures) clock.never_falls clock.shows c.in-Ok.ensures
          (rw c.in-Invoke.is (record { store_idle = refl; answered = rw c.in-None.is (record { es = i.0; entries = refl; invoked = i.6 }) })),
    )

pub returns-in-Invoke-clause-served : goal.returns-in-Invoke-clause-served
returns-in-Invoke-clause-served g c =
    let desk = c.args.desk.now in
    let clock = c.now_ms-now.ensures in
    let done = c.serve_forwarded in
    let s = done.ensures.served in (
      s.0,
      s.1,
      s.2,
      [],
      s.3,
      s.4,
      s.5,
      none_kept g.S.Dial.dialled g.S.Dial.dial_faults desk.links.store done.new.desk.links.store done.ensures.store,
      request_by desk.node.now desk.links.app_at desk.links.store_at c.args.side c.args.request.now done.new.desk.seats _ _ _ c.now_ms-now.result _ (Ok c.in-Ok.command) s.0 s.1 s.2 [] _
          (ap (λ (h : HostInfo). h.member.space) c.host.ensures) clock.never_falls clock.shows c.in-Ok.ensures
          (rw c.in-Invoke.is (record { store_idle = refl; answered = rw c.in-Some.is s.6 })),
    )

pub serve_record-requires-clause-record_ : goal.serve_record-requires-clause-record_
serve_record-requires-clause-record_ g c κs within = is_record c.in-Ok.command c.in_default.not-Invoke

pub returns-clause-served : goal.returns-clause-served
returns-clause-served g c =
    let desk = c.args.desk.now in
    let clock = c.now_ms-now.ensures in
    let done = c.serve_record in
    let r = done.ensures.served in (
      r.0,
      [],
      [],
      r.1,
      r.2,
      none_kept g.A.Dial.dialled g.A.Dial.dial_faults desk.links.app done.new.desk.links.app done.ensures.others.0,
      none_kept g.P.Dial.dialled g.P.Dial.dial_faults desk.links.peers done.new.desk.links.peers done.ensures.others.1,
      r.3,
      request_by desk.node.now desk.links.app_at desk.links.store_at c.args.side c.args.request.now done.new.desk.seats _ _ _ c.now_ms-now.result _ (Ok c.in-Ok.command) r.0 [] [] r.1 _
          (ap (λ (h : HostInfo). h.member.space) c.host.ensures) clock.never_falls clock.shows c.in-Ok.ensures
          (record_follows desk.node.now desk.links.app_at desk.links.store_at c.args.side c.args.request.now done.new.desk.seats c.in-Ok.command _ _ r.0 r.1 _ c.in_default.not-Invoke r.4),
    )
