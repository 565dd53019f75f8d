use Rattle.std.proofs.Common.{rules, ◌≡◌, ℕ, ◌+◌, List, [], ◌∷◌, arith, refl, ap, ◌∙◌, subst}
use Rattle.atomic_table.specs.Table.{rest}
use Rattle.group_gate.specs.declared.view.Held.{Held}
use Rattle.group_gate.specs.declared.view.View.{View}
use Rattle.group_gate.specs.declared.view.Turn.TheVariants.{Leads}
use Rattle.group_gate.specs.Kept.{IsReady, holding}
use Rattle.group_gate.specs.declared.view.Held.TheVariants.{Machine, Nothing}
use Rattle.group_gate.proofs.Steps.{takes_turn}
use Rattle.group_gate.proofs.Views.{own_slot, same_value}
use Rattle.group_gate.proofs.Gathering.{gathers_first}
use Rattle.group_gate.proofs.gate.GroupGate.try_take.Goals as goal

pub compare_exchange-found-requires : goal.compare_exchange-found-requires
compare_exchange-found-requires g c =
    let sized = c.args.self.now.sized in (search rules, omega arith, takes_turn _ _ _ _ _ _ _ _ c.requires.seat.1 c.requires.seat.2 c.requires.word.0 refl)

pub exchange-requires : goal.exchange-requires
exchange-requires g c = let told = c.compare_exchange-found.ensures.2.0 c.if-found-word.false in (search rules, (Machine told.0, own_slot _ _ _ _ told.2))

pub returns-clause-taken : goal.returns-clause-taken
returns-clause-taken g c =
    let A : Type 0 = g.row.M-Ask.Denot in let R : Type 0 = g.row.M-Answer.Denot in let H : Type 0 = Held g.row.M.Denot A R in let V : Type 0 = View g.row.M.Denot A R in
    let found = c.compare_exchange-found.ensures in let told = found.2.0 c.if-found-word.false in let changed = c.exchange.ensures in
    let first : H = Machine told.0 in let held : first ≡ c.exchange.result = same_value {H = H} _ _ _ _ _ _ _ told.2 changed.2 in
    let same : told.0 ≡ c.in-Machine.core = cc (held, c.in-Machine.is) in
    let me = changed.3 ∙ (ap (λ (z : V). (z, (0, Nothing) ∷ rest c.compare_exchange-found.new.seat.me.1)) told.1 ∙ ap (λ (z : List (ℕ × H)). (holding (Leads (c.args.word + 1) told.0.machine []) c.args.seat.now.me.0, (0, Nothing) ∷ z)) (ap (rest {S = H}) told.2)) in
    let ready : IsReady (c.args.self.now.places + 1) told.0 = subst (λ (k : ℕ). IsReady k told.0) c.args.self.now.sized.1 told.3 in
    gathers_first g.M.Grouped.takes c.args.self.now _ c.args.seat.now _ told.0 _ (changed.0 ∙ (found.0 ∙ c.requires.seat.0)) c.requires.seat.1 me ready same
