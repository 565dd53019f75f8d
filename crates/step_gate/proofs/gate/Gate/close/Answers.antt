use Rattle.std.proofs.Common.{◌≡◌, List, ap, ◌∙◌, subst}
use mathlib.Core.List.{IsPrefix}
use Rattle.step_gate.specs.declared.view.HistoryEntry.{HistoryEntry}
use Rattle.step_gate.specs.declared.view.View.{View}
use Rattle.step_gate.specs.declared.view.Turn.TheVariants.{Has, Shut}
use Rattle.step_gate.specs.History.{HistoryLeadsTo}
use Rattle.step_gate.specs.Kept.{holding}
use Rattle.step_gate.proofs.Keeps.{ends}
use Rattle.step_gate.proofs.gate.Gate.close.Goals as goal

pub returns : goal.returns
returns g c =
    let V : Type 0 = View g.row.M.Denot g.row.M-Event.Denot g.row.M-Reply.Denot in
    let moves = g.M.Machine.moves in let opening = c.args.self.table.shared.key.value in let took = c.take-at.ensures in
    let view : c.shut.new.seat.me.0 ≡ holding Shut (holding (Has c.take-at.result took.found) c.args.seat.me.0) = c.shut.ensures.1 ∙ ap (λ (v : V). holding Shut v) took.view in
    let P : V → Type 0 = λ v. (h : List (HistoryEntry g.row.M-Event.Denot g.row.M-Reply.Denot)) × IsPrefix v.seen h × HistoryLeadsTo moves opening h c.take-machine.result in
    subst P view (ends moves opening c.shut.new.seat.id c.shut.new.seat.me.0 _ _ c.take-machine.result (ap (λ (v : V). v.live) view ∙ c.requires.live) (ap (λ (v : V). v.turn) view) c.close_with-closed.ensures.values.2 c.take-machine.ensures.value)
