use Rattle.std.proofs.Common.{rules, ◌≡◌, ℕ, List, [], ◌∷◌, ◌++◌, refl, arith, sym, ap, ◌∙◌}
use Rattle.group_gate.proofs.Duties.{collects}
use Rattle.group_gate.specs.declared.view.Held.TheVariants.{Ask, Nothing}
use Rattle.group_gate.specs.declared.view.Held.{Held}
use Rattle.group_gate.specs.declared.view.View.{View}
use Rattle.group_gate.specs.declared.view.Turn.TheVariants.{Leads}
use Rattle.group_gate.specs.History.{asked}
use Rattle.group_gate.specs.Kept.{holding, released}
use Rattle.atomic_table.specs.Table.{rest}
use Rattle.group_gate.proofs.Views.{own_slot, same_value}
use Rattle.group_gate.proofs.Gathering.{gathers_more}
use Rattle.group_gate.proofs.gate.GroupGate.collect.Goals as goal

pub compare_exchange-found-requires : goal.compare_exchange-found-requires
compare_exchange-found-requires g c =
    let sized = c.args.self.now.sized in let held = c.requires.gathers in let place = c.requires.place in
    (search rules, omega arith, collects _ _ _ _ _ _ _ _ _ _ place.0 (omega arith) held.live held.turn)

pub exchange-requires : goal.exchange-requires
exchange-requires g c = let told = c.compare_exchange-found.ensures.2.0 c.if-found-eq-ASKED.true in (search rules, (Ask told.0, own_slot _ _ _ _ told.3))

pub returns-in-Ask-clause-view : goal.returns-in-Ask-clause-view
returns-in-Ask-clause-view g c =
    let A : Type 0 = g.row.M-Ask.Denot in let R : Type 0 = g.row.M-Answer.Denot in let V : Type 0 = View g.row.M.Denot A R in
    let held = c.requires.gathers in let told = c.compare_exchange-found.ensures.2.0 c.if-found-eq-ASKED.true in
    ap (λ m. released m.0) c.exchange.ensures.3 ∙ ap (λ (v : V). released v) (told.2 _ _ _ held.turn)

pub returns-in-Ask-clause-gathers : goal.returns-in-Ask-clause-gathers
returns-in-Ask-clause-gathers g c =
    let A : Type 0 = g.row.M-Ask.Denot in let R : Type 0 = g.row.M-Answer.Denot in let H : Type 0 = Held g.row.M.Denot A R in let V : Type 0 = View g.row.M.Denot A R in
    let held = c.requires.gathers in let found = c.compare_exchange-found.ensures in let told = found.2.0 c.if-found-eq-ASKED.true in let changed = c.exchange.ensures in let i : ℕ = c.args.place in
    let first : H = Ask told.0 in let had : first ≡ c.exchange.result = same_value {H = H} _ _ _ _ _ _ _ told.3 changed.2 in
    let same : told.0 ≡ c.in-Ask.ask = cc (had, c.in-Ask.is) in
    let view : V = holding (Leads c.args.at c.args.core.now.machine (held.asked ++ asked i told.0 ∷ [])) c.args.seat.now.me.0 in
    let me : c.exchange.new.seat.me ≡ (view, (i, Nothing) ∷ c.args.seat.now.me.1) = changed.3 ∙ (ap (λ (z : V). (z, (i, Nothing) ∷ rest c.compare_exchange-found.new.seat.me.1)) (told.2 _ _ _ held.turn) ∙ ap (λ (z : List (ℕ × H)). (view, (i, Nothing) ∷ z)) (ap (rest {S = H}) told.3)) in
    gathers_more g.M.Grouped.takes c.args.self.now c.args.at c.args.seat.now c.exchange.new.seat c.args.core.now
    record { machine = c.args.core.now.machine; asks = c.push_reserved.new.self; answers = c.args.core.now.answers; places = c.push_reserved-in-Ask.new.self } i told.0 held told.1 c.requires.place
    (changed.0 ∙ (found.0 ∙ held.table)) me refl (c.push_reserved.ensures.items ∙ ap (λ (z : A). c.args.core.now.asks.items ++ z ∷ []) (sym same)) c.push_reserved-in-Ask.ensures.items refl
    (omega (arith, held.room.0, c.push_reserved.ensures.capacity), held.room.1, omega (arith, held.room.2, c.push_reserved-in-Ask.ensures.capacity)) (search rules)
