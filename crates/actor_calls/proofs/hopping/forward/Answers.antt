use Rattle.std.proofs.Common.{refl, ap, subst, ◌∙◌, ℕ, [], Ok, Err}
use Rattle.actor_names.specs.declared.member.Member.{Member}
use Rattle.place_table.specs.declared.host.HostInfo.{HostInfo}
use Rattle.actors_api.specs.declared.reply.ApiReply.{ApiReply}
use Rattle.actors_api.specs.declared.refusal.ApiRefusal.{ApiRefusal}
use Rattle.part_model.specs.declared.event.PartEvent.TheVariants.{Draw}
use Rattle.sidecar_node.specs.Entries.{one_entry}
use Rattle.sidecar_node.specs.Nodes.{ActsAt, host_of}
use Rattle.sidecar_node.specs.Turns.{Said}
use Rattle.exchanges.proofs.Diallings.{none_made}
use Rattle.actor_calls.specs.declared.next.Next.TheVariants.{Answered}
use Rattle.actor_calls.specs.Outcomes.{refused}
use Rattle.actor_calls.specs.Hops.{name_of, IsPeerAsked}
use Rattle.actor_calls.proofs.Servings.{draw_refused, forward_at}
use Rattle.actor_calls.proofs.hopping.forward.Goals as goal

pub returns-in-Err-clause-forwarded : goal.returns-in-Err-clause-forwarded
returns-in-Err-clause-forwarded g c =
    let said : Said = Err c.in-Err.field-0 in
    let entry = rw c.in-Err.is at c.step_part.ensures.entry in
    let spent = rw c.in-Err.is at c.step_part.ensures.spent in
    let at = c.part_of-part.ensures.part in (
      one_entry Draw said,
      [],
      subst (λ (p : ℕ). ActsAt p (one_entry Draw said) c.args.desk.now.seats c.step_part.new.seats) at entry,
      none_made _ _,
      forward_at c.part_of-part.result _ at c.step_part.new.seats (host_of c.args.desk.now.node.now).member c.args.request.now c.args.least c.args.owner.now said [] _ spent (refl, ap (λ (a : ApiReply). Answered a) c.refused.ensures),
    )

pub returns-in-Drawn-clause-forwarded : goal.returns-in-Drawn-clause-forwarded
returns-in-Drawn-clause-forwarded g c =
    let said : Said = Ok c.in-Ok.reply in
    let entry = rw c.in-Ok.is at c.step_part.ensures.entry in
    let at = c.part_of-part.ensures.part in
    let p = c.call_peer.ensures in (
      one_entry Draw said,
      p.0,
      subst (λ (p : ℕ). ActsAt p (one_entry Draw said) c.args.desk.now.seats c.step_part.new.seats) at entry,
      p.2,
      forward_at c.part_of-part.result _ at c.step_part.new.seats (host_of c.args.desk.now.node.now).member c.args.request.now c.args.least c.args.owner.now said p.0 _ tt
          (rw c.in-Drawn.is
          (subst (λ (m : Member). IsPeerAsked c.args.request.now c.args.least c.args.owner.now (name_of m c.part_of-part.result c.in-Drawn.n) p.0 c.call_peer.result) (c.copy.ensures ∙ ap (λ (h : HostInfo). h.member) c.host.ensures) p.1)),
    )

pub returns-in_default-clause-forwarded : goal.returns-in_default-clause-forwarded
returns-in_default-clause-forwarded g c =
    let said : Said = Ok c.in-Ok.reply in
    let entry = rw c.in-Ok.is at c.step_part.ensures.entry in
    let at = c.part_of-part.ensures.part in
    let me = (host_of c.args.desk.now.node.now).member in (
      one_entry Draw said,
      [],
      subst (λ (p : ℕ). ActsAt p (one_entry Draw said) c.args.desk.now.seats c.step_part.new.seats) at entry,
      none_made _ _,
      forward_at c.part_of-part.result _ at c.step_part.new.seats me c.args.request.now c.args.least c.args.owner.now said [] _ tt
          (draw_refused c.part_of-part.result me c.args.request.now c.args.least c.args.owner.now c.in-Ok.reply _
          (ap (λ (a : ApiReply). Answered a) (c.refused-in_default.ensures ∙ ap (λ (r : ApiRefusal). refused r) c.refusal_of.ensures)) c.in_default.not-Drawn),
    )
