use Rattle.std.proofs.Common.{[], refl, Ok, Err}
use Rattle.part_model.specs.declared.event.PartEvent.TheVariants.{Draw}
use Rattle.sidecar_node.specs.Entries.{one_entry}
use Rattle.exchanges.proofs.Diallings.{none_made}
use Rattle.reminder_turns.specs.declared.results.Reported.TheVariants.{Undrawn, Told}
use Rattle.reminder_turns.proofs.Reports.{draw_refused, report_follows}
use Rattle.reminder_turns.proofs.reporting.report.Goals as goal

pub returns-in-Err-clause-reports : goal.returns-in-Err-clause-reports
returns-in-Err-clause-reports g c =
    let desk = c.args.desk.now in
    let acts = c.in-Err.ensures.entry in (
      [],
      [],
      acts,
      none_made _ _,
      report_follows desk.node.now desk.links.store_at c.args.key.now (Err c.in-Err.spent) [] (Undrawn (Err c.in-Err.spent)) (refl, refl),
    )

pub returns-in-Err-clause-full : goal.returns-in-Err-clause-full
returns-in-Err-clause-full g c = c.in-Err.ensures.spent

pub returns-in-Drawn-clause-reports : goal.returns-in-Drawn-clause-reports
returns-in-Drawn-clause-reports g c =
    let desk = c.args.desk.now in
    let acts = c.in-Ok.ensures.entry in
    let x = c.tell_fired.ensures in
    let got = c.tell_fired.result in (
      one_entry Draw (Ok c.in-Ok.reply),
      x.0,
      acts,
      x.2,
      report_follows desk.node.now desk.links.store_at c.args.key.now (Ok c.in-Ok.reply) x.0 (Told got) (rw c.in-Drawn.is (got, x.1, refl)),
    )

pub returns-in_default-clause-reports : goal.returns-in_default-clause-reports
returns-in_default-clause-reports g c =
    let desk = c.args.desk.now in
    let acts = c.in-Ok.ensures.entry in
    let reply = c.in-Ok.reply in (
      one_entry Draw (Ok reply),
      [],
      acts,
      none_made _ _,
      report_follows desk.node.now desk.links.store_at c.args.key.now (Ok reply) [] (Undrawn (Ok reply)) (draw_refused desk.node.now desk.links.store_at c.args.key.now reply c.in_default.not-Drawn),
    )
