use Rattle.std.proofs.Common.{◌≡◌, List, [], ◌∷◌, ◌++◌, sym, subst, ap, map, ◌∙◌}
use mathlib.Core.Option.{some}
use Rattle.step_gate.specs.Kept.{Kept, newcomer}
use Rattle.step_gate.proofs.Keeps.{opens}
use Rattle.step_gate.proofs.gate.Gate.new.Goals as goal

pub new-requires-2 : goal.new-requires-2
new-requires-2 g c =
    let items : c.push_reserved.new.self.items ≡ c.of-opening.result.value ∷ [] =
    c.push_reserved.ensures.items ∙ (ap (λ (z : List g.row.M.Denot). z ++ c.args.machine ∷ []) c.in_ok-slots.ensures.items ∙ ap (λ (z : g.row.M.Denot). z ∷ []) (sym c.of-opening.ensures)) in
    subst (λ (z : List g.row.M.Denot). Kept g.M.Machine.moves c.of-opening.result.value record { words = 0 ∷ []; homes = map some z; views = newcomer c.of-opening.result.value ∷ [] }) (sym items)
    (opens g.M.Machine.moves c.of-opening.result.value)
