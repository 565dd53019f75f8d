-- Cells in order of key. Own.
use Rattle.std.specs.Prelude.{◌≡◌, true, List, [], ◌∷◌}
use Rattle.turn_core.specs.CellSound.{In}
use Rattle.part_model.specs.declared.actor_cell.ActorCell.{ActorCell}
use Rattle.actor_names.specs.Same.{key_before}

-- each key is before those that follow
abbrev pub AreInOrder : List ActorCell → Type 0
AreInOrder [] = Unit {0}
AreInOrder (c ∷ cs) = ((d : ActorCell) → In d cs → key_before c.key d.key ≡ true) × AreInOrder cs
