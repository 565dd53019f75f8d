use Rattle.std.proofs.Common.{◌≡◌, List, ap, ◌∙◌, subst}
use mathlib.Core.List.{IsPrefix}
use Rattle.group_gate.specs.declared.view.Core.{Core}
use Rattle.group_gate.specs.declared.view.GroupEntry.{GroupEntry}
use Rattle.group_gate.specs.declared.view.View.{View}
use Rattle.group_gate.specs.History.{HistoryLeadsTo}
use Rattle.group_gate.proofs.Meetings.{ends}
use Rattle.group_gate.proofs.gate.GroupGate.close.Goals as goal

pub take_machine-requires-clause-machine : goal.take_machine-requires-clause-machine
take_machine-requires-clause-machine g c =
    let V : Type 0 = View g.row.M.Denot g.row.M-Ask.Denot g.row.M-Answer.Denot in let kept = c.keep_turn.ensures in let seat = c.keep_turn.new.seat in
    let last = ends g.M.Grouped.takes g.M.Grouped.moves c.args.self.table.shared.key.value seat.id seat.me.0 _ _ (ap (λ (v : V). v.live) kept.1 ∙ c.requires.idle.live) (ap (λ (v : V). v.turn) kept.1) c.close_with.ensures.values.2 in
    (last.0, last.1)

pub returns : goal.returns
returns g c =
    let S : Type 0 = g.row.M.Denot in let A : Type 0 = g.row.M-Ask.Denot in let R : Type 0 = g.row.M-Answer.Denot in let V : Type 0 = View S A R in
    let kept = c.keep_turn.ensures in let seat = c.keep_turn.new.seat in let moves = g.M.Grouped.moves in let opening = c.args.self.table.shared.key.value in
    let last = ends g.M.Grouped.takes moves opening seat.id seat.me.0 _ _ (ap (λ (v : V). v.live) kept.1 ∙ c.requires.idle.live) (ap (λ (v : V). v.turn) kept.1) c.close_with.ensures.values.2 in
    let told = c.take_machine.ensures in let log : List (GroupEntry A R) = last.2.0 in
    let same : last.0 ≡ told.0 = cc (last.1, told.1) in (
      log,
      subst (λ (z : List (GroupEntry A R)). IsPrefix z log) (ap (λ (v : V). v.seen) kept.1) last.2.1,
      subst (λ (z : S). HistoryLeadsTo moves opening log z) (ap (λ (z : Core S A R). z.machine) same ∙ told.2) last.2.2,
    )
