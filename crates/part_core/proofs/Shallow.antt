-- Depths of types.
use Rattle.std.proofs.Common.{ℕ, ◌≤◌, List, [], ◌∷◌, arith}
use Rattle.std.specs.Prelude.{if◌then◌else◌, bytes_eq}
use Rattle.std.proofs.lemmas.Bool.{cond_both}
use Rattle.std.proofs.lemmas.List.Elements.{All-head, All-tail}
use Rattle.turn_core.specs.Cell.{greatest_depth}
use Rattle.part_model.specs.declared.settings.TypeSettings.{TypeSettings}
use Rattle.part_model.specs.Settings.{default_settings, settings_or, settings_of, AreShallow}

shallow_or : (found : TypeSettings) (ts : List TypeSettings) (kind : List ℕ) → found.depth ≤ greatest_depth → AreShallow ts → (settings_or found ts kind).depth ≤ greatest_depth
shallow_or found [] kind f a = f
shallow_or found (t ∷ ts) kind f a =
    shallow_or (if bytes_eq t.kind kind then t else found) ts kind
    (cond_both (bytes_eq t.kind kind) _ _ (λ (s : TypeSettings). s.depth ≤ greatest_depth) (λ _. All-head (λ (s : TypeSettings). s.depth ≤ greatest_depth) t ts a) (λ _. f))
    (All-tail (λ (s : TypeSettings). s.depth ≤ greatest_depth) t ts a)

-- the depth of each type is in range if the listed ones are
pub shallow_of : (ts : List TypeSettings) (kind : List ℕ) → AreShallow ts → (settings_of ts kind).depth ≤ greatest_depth
shallow_of ts kind a = shallow_or (default_settings kind) ts kind (omega arith) a
