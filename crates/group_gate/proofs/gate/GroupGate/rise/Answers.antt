use Rattle.std.proofs.Common.{rules, ℕ, List, arith, sym, subst}
use mathlib.Core.Option.{none}
use Rattle.atomic_table.specs.Table.{step, Allows}
use Rattle.group_gate.specs.declared.view.Held.{Held}
use Rattle.group_gate.specs.Kept.{Kept, rose}
use Rattle.group_gate.proofs.Places.{rises}
use Rattle.group_gate.proofs.gate.GroupGate.rise.Goals as goal

pub store-requires : goal.store-requires
store-requires g c =
    let seat = c.args.seat.now in let table = c.args.self.now.table.shared in let i : ℕ = c.args.place.at in let slots : ℕ = table.table_id.slots in let before = c.requires in
    let sized = c.args.self.now.sized in let below = before.below in let takes = g.M.Grouped.takes in let moves = g.M.Grouped.moves in
    let P : List (ℕ × Held g.row.M.Denot g.row.M-Ask.Denot g.row.M-Answer.Denot) → Type 0 =
    λ z. Allows (Kept takes moves table.key.value) slots seat.id (seat.me.0, z) i (λ _. 0) (λ _. rose takes moves (step slots i 0 0 none) (seat.me.0, z) 0) in (
      search rules,
      omega arith,
      subst P (sym before.empty) (rises takes moves table.key.value slots seat.id i seat.me.0 _ before.idle.live before.idle.idle before.sits),
    )
