use Rattle.std.proofs.Common.{rules, ◌≡◌, ℕ, ◌∷◌, arith, sym, ap, ◌∙◌, subst}
use mathlib.Core.Option.{none}
use Rattle.atomic_table.specs.Table.{Me, step, rest, Allows}
use Rattle.group_gate.specs.declared.view.Held.{Held}
use Rattle.group_gate.specs.declared.view.Held.TheVariants.{Answer}
use Rattle.group_gate.specs.declared.view.View.{View}
use Rattle.group_gate.specs.Kept.{Kept, answered_at}
use Rattle.group_gate.proofs.Duties.{puts}
use Rattle.group_gate.proofs.gate.GroupGate.put.Goals as goal

pub store-requires : goal.store-requires
store-requires g c =
    let A : Type 0 = g.row.M-Ask.Denot in let R : Type 0 = g.row.M-Answer.Denot in let H : Type 0 = Held g.row.M.Denot A R in let V : Type 0 = View g.row.M.Denot A R in
    let old = c.args.seat.now in let seat = c.exchange.new.seat in let table = c.args.self.now.table.shared in let i : ℕ = c.args.place in let slots : ℕ = table.table_id.slots in
    let sized = c.args.self.now.sized in let place = c.requires.place in let takes = g.M.Grouped.takes in let moves = g.M.Grouped.moves in let owed = c.requires.owed in
    let now : seat.me ≡ (old.me.0, (i, Answer owed.3.answer) ∷ rest old.me.1) = c.exchange.ensures.3 ∙ ap (λ (r : R). (old.me.0, (i, Answer r) ∷ rest old.me.1)) (sym owed.6) in
    let P : Me H V → Type 0 = λ z. Allows (Kept takes moves table.key.value) slots seat.id z i (λ _. 4) (λ _. answered_at takes moves (step slots i 4 0 none) z 4) in
    (search rules, omega arith, subst P (sym now) (puts takes moves table.key.value slots seat.id i old.me.0 (rest old.me.1) owed.0 owed.1 owed.2 owed.3 place.0 (omega arith) c.requires.seat.1 owed.4 owed.5))
