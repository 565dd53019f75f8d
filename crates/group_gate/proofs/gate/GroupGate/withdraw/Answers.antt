use Rattle.std.proofs.Common.{rules, ◌≡◌, ℕ, List, ◌∷◌, arith, ap, ◌∙◌}
use Rattle.atomic_table.specs.Table.{rest}
use Rattle.group_gate.specs.declared.view.Held.{Held}
use Rattle.group_gate.specs.declared.view.Held.TheVariants.{Nothing, Ask}
use Rattle.group_gate.proofs.Places.{withdraws}
use Rattle.group_gate.proofs.Views.{own_slot, same_value, sits_after_withdraw, lists_after_withdraw}
use Rattle.group_gate.proofs.gate.GroupGate.withdraw.Goals as goal

pub compare_exchange-found-requires : goal.compare_exchange-found-requires
compare_exchange-found-requires g c =
    let sized = c.args.self.now.sized in let waits = c.requires in let below = waits.below in
    (search rules, omega arith, withdraws _ _ _ _ _ _ _ _ _ _ waits.idle.live waits.idle.idle waits.sits)

pub exchange-requires : goal.exchange-requires
exchange-requires g c = let told = c.compare_exchange-found.ensures.2.0 c.if-found-ne-ASKED.false in (search rules, (Ask told.0, own_slot _ _ _ _ told.1))

pub returns-clause-seat : goal.returns-clause-seat
returns-clause-seat g c =
    let H : Type 0 = Held g.row.M.Denot g.row.M-Ask.Denot g.row.M-Answer.Denot in
    let found = c.compare_exchange-found.ensures in let told = found.2.0 c.if-found-ne-ASKED.false in let mine = told.2 _ _ _ c.requires.sits in let changed = c.exchange.ensures in
    sits_after_withdraw _ _ _ _ _ _ c.requires (changed.0 ∙ found.0)
    (ap (λ m. m.1) changed.3 ∙ ap (λ (z : List (ℕ × H)). (c.args.place, Nothing) ∷ z) (ap (rest {S = H}) told.1 ∙ c.requires.empty))
    (ap (λ m. m.0) changed.3 ∙ mine.1)

pub returns-clause-back : goal.returns-clause-back
returns-clause-back g c =
    let H : Type 0 = Held g.row.M.Denot g.row.M-Ask.Denot g.row.M-Answer.Denot in
    let told = c.compare_exchange-found.ensures.2.0 c.if-found-ne-ASKED.false in let mine = told.2 _ _ _ c.requires.sits in let changed = c.exchange.ensures in
    let ask : H = Ask told.0 in let held : ask ≡ c.exchange.result = same_value {H = H} _ _ _ _ _ _ _ told.1 changed.2 in
    let same : c.in-Ask.ask ≡ told.0 = cc (held, c.in-Ask.is) in let lists = lists_after_withdraw g.M.Grouped.moves c.args.self.now c.args.place c.args.seat.now c.exchange.new.seat (ap (λ m. m.0) changed.3 ∙ mine.1) in (same ∙ mine.0, lists.0, lists.1)
