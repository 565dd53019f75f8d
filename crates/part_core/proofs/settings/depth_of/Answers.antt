use Rattle.std.proofs.Common.{◌≤◌, sym, ap, subst, ℕ}
use Rattle.turn_core.specs.Cell.{greatest_depth}
use Rattle.part_model.specs.declared.settings.TypeSettings.{TypeSettings}
use Rattle.part_core.proofs.Shallow.{shallow_of}
use Rattle.part_core.proofs.settings.depth_of.Goals as goal

pub returns-in-Some-clause-shallow : goal.returns-in-Some-clause-shallow
returns-in-Some-clause-shallow c = subst (λ (n : ℕ). n ≤ greatest_depth) (ap (λ (s : TypeSettings). s.depth) (sym c.in-Some.ensures)) (shallow_of c.args.kinds.now c.args.kind.now c.requires)
