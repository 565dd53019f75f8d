use Rattle.std.proofs.Common.{rules, ◌≡◌, ℕ, List, ◌∷◌, arith, ap, ◌∙◌, subst}
use Rattle.atomic_table.specs.Table.{rest}
use Rattle.group_gate.specs.declared.view.Held.{Held}
use Rattle.group_gate.specs.declared.view.Held.TheVariants.{Nothing, Answer}
use Rattle.group_gate.specs.Gates.{AnsweredIn}
use Rattle.group_gate.proofs.Places.{fetches}
use Rattle.group_gate.proofs.Views.{own_slot, same_value, sits_after_fetch, answered_after_fetch}
use Rattle.group_gate.proofs.gate.GroupGate.fetch.Goals as goal

pub compare_exchange-found-requires : goal.compare_exchange-found-requires
compare_exchange-found-requires g c =
    let sized = c.args.self.now.sized in let waits = c.requires in let below = waits.below in
    (search rules, omega arith, fetches _ _ _ _ _ _ _ _ _ _ waits.idle.live waits.idle.idle waits.sits)

pub exchange-requires : goal.exchange-requires
exchange-requires g c = let told = c.compare_exchange-found.ensures.2.0 c.if-found-ne-ANSWERED.false in (search rules, (Answer told.1.answer, own_slot _ _ _ _ told.2))

pub returns-clause-seat : goal.returns-clause-seat
returns-clause-seat g c =
    let H : Type 0 = Held g.row.M.Denot g.row.M-Ask.Denot g.row.M-Answer.Denot in
    let found = c.compare_exchange-found.ensures in let told = found.2.0 c.if-found-ne-ANSWERED.false in let mine = told.4 _ _ _ c.requires.sits in let changed = c.exchange.ensures in
    sits_after_fetch _ _ _ _ _ _ _ _ c.requires (changed.0 ∙ found.0)
    (ap (λ m. m.1) changed.3 ∙ ap (λ (z : List (ℕ × H)). (c.args.place, Nothing) ∷ z) (ap (rest {S = H}) told.2 ∙ c.requires.empty))
    (ap (λ m. m.0) changed.3 ∙ mine.0) told.3 mine.1

pub returns-clause-fetched : goal.returns-clause-fetched
returns-clause-fetched g c =
    let told = c.compare_exchange-found.ensures.2.0 c.if-found-ne-ANSWERED.false in let mine = told.4 _ _ _ c.requires.sits in let changed = c.exchange.ensures in
    let A : Type 0 = g.row.M-Ask.Denot in let R : Type 0 = g.row.M-Answer.Denot in let H : Type 0 = Held g.row.M.Denot A R in
    let answer : H = Answer told.1.answer in
    let held : answer ≡ c.exchange.result = same_value {H = H} _ _ _ _ _ _ _ told.2 changed.2 in
    let same : told.1.answer ≡ c.in-Answer.answer = cc (held, c.in-Answer.is) in
    subst (λ (r : R). AnsweredIn c.args.place c.args._ask.now.value r c.args.seat.now c.exchange.new.seat) same
    (answered_after_fetch g.M.Grouped.moves c.args.self.now _ _ _ _ _ _ (ap (λ m. m.0) changed.3 ∙ mine.0) told.3 mine.1)
