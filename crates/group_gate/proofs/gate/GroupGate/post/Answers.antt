use Rattle.std.proofs.Common.{rules, ◌≡◌, ℕ, List, [], ◌∷◌, length, arith, sym, ap, ◌∙◌, subst}
use mathlib.Core.Option.{none}
use Rattle.atomic_table.specs.Table.{Me, step, rest, Allows}
use Rattle.group_gate.specs.declared.view.Held.{Held}
use Rattle.group_gate.specs.declared.view.Held.TheVariants.{Ask}
use Rattle.group_gate.specs.declared.view.View.{View}
use Rattle.group_gate.specs.declared.view.Sits.TheVariants.{Waits}
use Rattle.group_gate.specs.Kept.{Kept, posted, placed}
use Rattle.group_gate.specs.Gates.{mine_of}
use Rattle.group_gate.proofs.Places.{posts}
use Rattle.group_gate.proofs.Views.{waits_after_post}
use Rattle.group_gate.proofs.gate.GroupGate.post.Goals as goal

pub store-requires : goal.store-requires
store-requires g c =
    let H : Type 0 = Held g.row.M.Denot g.row.M-Ask.Denot g.row.M-Answer.Denot in let V : Type 0 = View g.row.M.Denot g.row.M-Ask.Denot g.row.M-Answer.Denot in
    let before = c.requires.seat in let old = c.args.seat.now in let seat = c.exchange.new.seat in let table = c.args.self.now.table.shared in let i : ℕ = c.args.place in let slots : ℕ = table.table_id.slots in
    let sized = c.args.self.now.sized in let below = before.below in let takes = g.M.Grouped.takes in let moves = g.M.Grouped.moves in
    let now : seat.me ≡ (old.me.0, (i, Ask c.args.ask) ∷ []) = c.exchange.ensures.3 ∙ ap (λ (z : List (ℕ × H)). (old.me.0, (i, Ask c.args.ask) ∷ rest z)) before.empty in
    let P : Me H V → Type 0 = λ z. Allows (Kept takes moves table.key.value) slots seat.id z i (λ _. 2) (λ _. posted takes moves (step slots i 2 0 none) z 2) in
    (search rules, omega arith, subst P (sym now) (posts takes moves table.key.value slots seat.id i old.me.0 _ c.args.ask before.idle.live before.idle.idle before.sits c.requires.ask))

pub returns-clause-waits : goal.returns-clause-waits
returns-clause-waits g c =
    let A : Type 0 = g.row.M-Ask.Denot in let R : Type 0 = g.row.M-Answer.Denot in let H : Type 0 = Held g.row.M.Denot A R in let V : Type 0 = View g.row.M.Denot A R in
    let before = c.requires.seat in let old = c.args.seat.now in let seat = c.exchange.new.seat in let told = c.store.ensures.2 in let i : ℕ = c.args.place in let ask = c.args.ask in
    let now : seat.me ≡ (old.me.0, (i, Ask ask) ∷ []) = c.exchange.ensures.3 ∙ ap (λ (z : List (ℕ × H)). (old.me.0, (i, Ask ask) ∷ rest z)) before.empty in
    let view : seat.me.0 ≡ old.me.0 = ap (λ (z : Me H V). z.0) now in
    let asked : c.store.new.seat.me.0 ≡ placed (Waits i (mine_of old) ask (length seat.me.0.seen)) seat.me.0 = told.1 (mine_of old) ask (ap (λ (v : V). v.sits) view ∙ before.sits) (ap (λ (z : Me H V). z.1) now) in
    waits_after_post _ _ _ _ _ _ before (c.store.ensures.0 ∙ c.exchange.ensures.0) told.0 (asked ∙ ap (λ (v : V). placed (Waits i (mine_of old) ask (length v.seen)) v) view)
