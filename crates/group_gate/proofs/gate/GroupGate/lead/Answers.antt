use Rattle.std.proofs.Common.{◌≡◌, ℕ, List, [], ◌∷◌, length, vec_len, eqb-true, refl, sym, ◌∙◌, arith}
use Rattle.group_gate.proofs.Paying.{ready_none, ready_done}
use Rattle.group_gate.proofs.gate.GroupGate.lead.Goals as goal

no_items : (xs : List ℕ) → length xs ≡ 0 → xs ≡ []
no_items [] e = refl
no_items (x ∷ xs) e = absurd (omega arith)

pub give_up-requires-clause-ready : goal.give_up-requires-clause-ready
give_up-requires-clause-ready g c =
    let places = c.collect_all.new.core.places in
    let none : vec_len places ≡ 0 = eqb-true (vec_len places) 0 (sym c.is_empty.ensures ∙ c.if-is_empty.true) in
    let empty : length places.items ≡ 0 = omega (arith, none, places.ok.0) in
    ready_none _ _ _ _ _ c.collect_all.ensures.gathers (no_items places.items empty)

pub give_up-requires-else-is_empty-clause-ready : goal.give_up-requires-else-is_empty-clause-ready
give_up-requires-else-is_empty-clause-ready g c = ready_done _ _ _ _ c.put_all.ensures.settles c.put_all.ensures.done
