use Rattle.std.proofs.Common.{◌∙◌, List, Option, sym, ap, subst}
use Rattle.reminder_rows.specs.declared.row.DueKey.{DueKey}
use Rattle.frame_wire.specs.declared.store_answer.DueEntry.{DueEntry}
use Rattle.reminder_turns.specs.Outcomes.{stand_after}
use Rattle.reminder_turns.specs.Runs.{RunsPage}
use Rattle.reminder_turns.proofs.Pages.{page_listed, page_ends}
use Rattle.reminder_turns.proofs.paging.take_page.Goals as goal

pub returns-in-Err-clause-takes : goal.returns-in-Err-clause-takes
returns-in-Err-clause-takes g c =
    let desk = c.args.desk.now in
    let x = c.ask_store-got.ensures in
    page_ends desk.node.now desk.links.app_at desk.links.store_at c.args.place c.ask_store-got.result x.0 (g.K.Clock.shown desk.clock) desk.seats _ _ _ _ _ _ c.in-Err.end x.1 x.2 (sym c.in-Err.ensures)

pub returns-in-Ok-clause-takes : goal.returns-in-Ok-clause-takes
returns-in-Ok-clause-takes g c =
    let desk = c.args.desk.now in
    let x = c.ask_store-got.ensures in
    let after = c.run_page-ran.new.desk in
    let ran = c.run_page-ran.result in
    page_listed c.args.place c.ask_store-got.result x.0 _ _ c.in-Ok.entries ran.end ran.turns ran.faulted c.stand_after-next.result x.1 x.2 (sym c.in-Ok.ensures)
    (subst (λ (es : List DueEntry). RunsPage desk.node.now desk.links.app_at desk.links.store_at es (g.K.Clock.shown desk.clock) (g.K.Clock.shown after.clock) desk.seats after.seats
    (g.A.Dial.dialled desk.links.app) (g.A.Dial.dialled after.links.app) (g.A.Dial.dial_faults desk.links.app) (g.A.Dial.dial_faults after.links.app)
    (g.S.Dial.dialled c.ask_store-got.new.dialler) (g.S.Dial.dialled after.links.store) (g.S.Dial.dial_faults c.ask_store-got.new.dialler) (g.S.Dial.dial_faults after.links.store) ran.turns ran.faulted ran.end)
    c.as_slice.ensures c.run_page-ran.ensures.runs)
    (c.stand_after-next.ensures ∙ ap (λ (k : Option DueKey). stand_after k ran.end) c.last_key.ensures)
