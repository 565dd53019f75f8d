use Rattle.std.proofs.Common.{rules, ◌≡◌, ℕ, ◌-◌, List, [], ◌∷◌, arith, sym, ap, ◌∙◌, subst}
use mathlib.Core.Option.{none}
use Rattle.atomic_table.specs.Table.{Me, step, rest, Allows}
use Rattle.group_gate.specs.declared.view.Held.{Held}
use Rattle.group_gate.specs.declared.view.Held.TheVariants.{Machine}
use Rattle.group_gate.specs.declared.view.View.{View}
use Rattle.group_gate.specs.Kept.{Kept, IsReady, gave_up}
use Rattle.group_gate.proofs.Steps.{gives_up}
use Rattle.group_gate.proofs.gate.GroupGate.give_up.Goals as goal

pub store-requires : goal.store-requires
store-requires g c =
    let H : Type 0 = Held g.row.M.Denot g.row.M-Ask.Denot g.row.M-Answer.Denot in let V : Type 0 = View g.row.M.Denot g.row.M-Ask.Denot g.row.M-Answer.Denot in
    let old = c.args.seat.now in let seat = c.exchange.new.seat in let table = c.args.self.now.table.shared in let n : ℕ = c.args.at - 1 in let slots : ℕ = table.table_id.slots in
    let sized = c.args.self.now.sized in let takes = g.M.Grouped.takes in let moves = g.M.Grouped.moves in let odd = c.requires.at in
    let now : seat.me ≡ (old.me.0, (0, Machine c.args.core) ∷ []) = c.exchange.ensures.3 ∙ ap (λ (z : List (ℕ × H)). (old.me.0, (0, Machine c.args.core) ∷ rest z)) c.requires.seat.2 in
    let ready : IsReady slots c.args.core = subst (λ (k : ℕ). IsReady k c.args.core) (sym sized.1) c.requires.ready in
    let P : Me H V → Type 0 = λ z. Allows (Kept takes moves table.key.value) slots seat.id z 0 (λ _. n) (λ _. gave_up takes moves (step slots 0 n 0 none) z n) in
    (search rules, omega arith, subst P (sym now) (gives_up takes moves table.key.value slots seat.id old.me.0 c.args.core c.args.at n c.requires.seat.1 c.requires.turn ready odd (omega arith)))
