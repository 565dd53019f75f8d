use Rattle.std.proofs.Common.{[], refl, Ok, Err}
use Rattle.part_model.specs.declared.event.PartEvent.TheVariants.{Draw}
use Rattle.sidecar_node.specs.Entries.{at_part, one_entry}
use Rattle.sidecar_node.specs.Nodes.{part_at}
use Rattle.exchanges.proofs.Diallings.{none_made}
use Rattle.sidecar_requests.proofs.Held.{draw_ends, write_follows}
use Rattle.sidecar_requests.proofs.reminder.serve_write.Goals as goal

pub returns-in-Err-clause-served : goal.returns-in-Err-clause-served
returns-in-Err-clause-served g c =
    let desk = c.args.desk.now in
    let acts = c.in-Err.ensures.entry in (
      [],
      [],
      acts,
      none_made _ _,
      write_follows desk.node.now desk.links.store_at c.args.actor c.args.ask c.draw_step.new.seats (Err c.in-Err.field-0) [] c.refused.result c.in-Err.ensures.spent (refl, c.refused.ensures),
    )

pub returns-in-Drawn-clause-served : goal.returns-in-Drawn-clause-served
returns-in-Drawn-clause-served g c =
    let desk = c.args.desk.now in
    let acts = c.in-Ok.ensures.entry in
    let x = c.serve_asked.ensures in (
      at_part (part_at desk.node.now c.args.actor) (one_entry Draw (Ok c.in-Ok.reply)),
      x.0,
      acts,
      x.2,
      write_follows desk.node.now desk.links.store_at c.args.actor c.args.ask c.draw_step.new.seats (Ok c.in-Ok.reply) x.0 c.serve_asked.result tt (rw c.in-Drawn.is x.1),
    )

pub returns-in_default-clause-served : goal.returns-in_default-clause-served
returns-in_default-clause-served g c =
    let desk = c.args.desk.now in
    let reply = c.in-Ok.reply in
    let answer = c.refused-in_default.result in
    let acts = c.in-Ok.ensures.entry in (
      at_part (part_at desk.node.now c.args.actor) (one_entry Draw (Ok reply)),
      [],
      acts,
      none_made _ _,
      write_follows desk.node.now desk.links.store_at c.args.actor c.args.ask c.draw_step.new.seats (Ok reply) [] answer tt
          (draw_ends desk.node.now desk.links.store_at c.args.actor c.args.ask reply c.refusal_of.result answer c.in_default.not-Drawn c.refused-in_default.ensures c.refusal_of.ensures),
    )
