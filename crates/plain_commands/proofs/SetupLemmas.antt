-- The settings with which a cluster script opens its world.
use Rattle.std.proofs.Common.{◌≡◌, ℕ, List, [], ◌∷◌, map, refl, ap, arith}
use Rattle.std.specs.Prelude.{suc, zero}
use Rattle.part_model.specs.declared.settings.TypeSettings.{TypeSettings}
use Rattle.part_model.specs.Settings.{AreShallow}
use Rattle.plain_commands.specs.Scripts.{Setup, type_settings}
use Rattle.plain_commands.specs.SetupTold.{timed, type_depth}

-- other times change no depth
pub timed_shallow : (idle drain : ℕ) (ts : List TypeSettings) → AreShallow ts → AreShallow (map (timed idle drain) ts)
timed_shallow idle drain [] h k e l = absurd (omega arith)
timed_shallow idle drain (t ∷ ts) h zero e l = h zero t (omega arith)
timed_shallow idle drain (t ∷ ts) h (suc k) e l = timed_shallow idle drain ts (λ j d m. h (suc j) d (omega arith)) k e (omega arith)

-- the types with the times of the settings are those of the world
pub timed_types : (s : Setup) (ts : List TypeSettings) → map (timed s.idle s.drain) ts ≡ map (type_settings s) (map type_depth ts)
timed_types s [] = refl
timed_types s (t ∷ ts) = ap (λ (r : List TypeSettings). timed s.idle s.drain t ∷ r) (timed_types s ts)
