-- What a start dials.
use Rattle.std.proofs.Common.{◌≡◌, ◌⊎◌, inl, inr, ◌∙◌, refl, sym, subst, ℕ, List, [], ◌∷◌, ◌++◌, map, Option, Some, None, Result, Ok, Err}
use Rattle.actor_ports.specs.Traffic.{Place, Dialled}
use Rattle.http_edge.specs.Carry.{Carried}
use Rattle.exchanges.specs.Exchanges.{Exchange, Dialling, place_of, links_of}
use Rattle.exchanges.specs.Replies.{place_at}
use Rattle.sidecar_start.specs.declared.end.StartEnd.{StartEnd}
use Rattle.sidecar_start.specs.declared.hosting.Started.{Started}
use Rattle.sidecar_start.specs.declared.words.StartWords.{StartWords}
use Rattle.sidecar_start.specs.Tries.{IsTry, AreVain, IsRun, tried}
use Rattle.sidecar_start.specs.Booting.{boot_frame, BootCarries}
use Rattle.sidecar_start.specs.Configuring.{ConfigCarries}
use Rattle.sidecar_start.specs.Starting.{ByBoot, IsStart}
use Rattle.sidecar_command.specs.Commands.{AreOf, DialsOnly}

module _ (a b : Place) where
  -- each exchange is with one of the two places
  abbrev AreWith : List Exchange → Type 0
  AreWith [] = Unit {0}
  AreWith (x ∷ xs) = ((x.at ≡ a) ⊎ (x.at ≡ b)) × AreWith xs

  with_then : (xs ys : List Exchange) → AreWith xs → AreWith ys → AreWith (xs ++ ys)
  with_then [] ys p q = q
  with_then (x ∷ xs) ys p q = (p.0, with_then xs ys p.1 q)

  with_place : (x at : Place) → x ≡ at → (at ≡ a) ⊎ (at ≡ b) → (x ≡ a) ⊎ (x ≡ b)
  with_place x at is (inl e) = inl (is ∙ e)
  with_place x at is (inr e) = inr (is ∙ e)

  with_places : (xs : List Exchange) → AreWith xs → AreOf a b (map place_of xs)
  with_places [] p = tt
  with_places (x ∷ xs) p = (p.0, with_places xs p.1)

  module _ {T : Type 0} (Carries : Carried → ℕ → Result (Option T) StartEnd → Type 0) (at : Place) (is : (at ≡ a) ⊎ (at ≡ b)) where
    vain_with : (xs : List Exchange) → AreVain Carries at xs → AreWith xs
    vain_with [] v = tt
    vain_with (x ∷ xs) v = (with_place x.at at v.0.0 is, vain_with xs v.1)

    try_with : (xs : List Exchange) (got : Result (Option T) StartEnd) → IsTry Carries at xs got → AreWith xs
    try_with [] got t = tt
    try_with (x ∷ []) got t = (with_place x.at at t.0 is, tt)
    try_with (x ∷ y ∷ xs) got t = absurd t

    run_with : (xs : List Exchange) (got : Result T StartEnd) → IsRun Carries at xs got → AreWith xs
    run_with xs got run =
        subst AreWith (sym run.are) (with_then run.vain run.last (vain_with run.vain run.in_vain) (try_with run.last (tried got) run.ends))

  -- the application is asked after the store
  asks_with : (w : StartWords) → place_at w.app_at ≡ b → (asks : List Exchange) (drawn : Result ℕ StartEnd) (got : Result Started StartEnd) → ByBoot w asks drawn got → AreWith asks
  asks_with w is asks (Err e) got goes = subst AreWith (sym goes.0) tt
  asks_with w is asks (Ok n) got goes = run_with (ConfigCarries w.app_at) (place_at w.app_at) (inr is) asks goes.0 goes.1

  start_with : (w : StartWords) → place_at w.store_at ≡ a → place_at w.app_at ≡ b → (xs : List Exchange) (got : Result Started StartEnd) → IsStart w xs got → AreWith xs
  start_with w store app xs got start =
      subst AreWith (sym start.are)
      (with_then start.boots start.asks
      (run_with (BootCarries (boot_frame w)) (place_at w.store_at) (inl store) start.boots start.drawn start.draws)
      (asks_with w app start.asks start.drawn got start.goes_on))

  dials_with : (xs : List Exchange) (before after : Option Dialled) (f0 f1 : ℕ) → AreWith xs → Dialling xs before after f0 f1 → DialsOnly a b before after
  dials_with xs None after f0 f1 p d = tt
  dials_with xs (Some t) after f0 f1 p d = (map place_of xs, links_of xs, with_places xs p, d.told)

-- a start dials nothing but the two addresses that it is told
pub start_dials : (w : StartWords) (xs : List Exchange) (got : Result Started StartEnd) (before after : Option Dialled) (f0 f1 : ℕ)
    → IsStart w xs got → Dialling xs before after f0 f1 → DialsOnly (place_at w.store_at) (place_at w.app_at) before after
start_dials w xs got before after f0 f1 start d =
    dials_with (place_at w.store_at) (place_at w.app_at) xs before after f0 f1 (start_with (place_at w.store_at) (place_at w.app_at) w refl refl xs got start) d
