-- Tries: one dial and what went over its link, until one comes to something. Own.
use Rattle.std.specs.Prelude.{◌≡◌, ◌<◌, ℕ, List, [], ◌∷◌, ◌++◌, Option, Some, None, Result, Ok, Err}
use Rattle.actor_ports.specs.Traffic.{Place}
use Rattle.http_edge.specs.Carry.{Carried}
use Rattle.exchanges.specs.Exchanges.{Exchange}
use Rattle.sidecar_start.specs.declared.end.StartEnd.{StartEnd}
use Rattle.sidecar_start.specs.declared.end.StartEnd.TheVariants.{DialFault, OutOfMemory}

-- `Carries` says what bytes that went over a link, and the rise of the dialler's count, come to: a value, an end, or
-- nothing yet
module _ {T : Type 0} (Carries : Carried → ℕ → Result (Option T) StartEnd → Type 0) where
  -- a dial that failed is the end
  abbrev pub Comes : Option Carried → ℕ → Result (Option T) StartEnd → Type 0
  Comes None rise got = (0 < rise) × (got ≡ Err DialFault)
  Comes (Some c) rise got = Carries c rise got

  -- one dial of that place; with none, memory ran out before it
  abbrev pub IsTry : Place → List Exchange → Result (Option T) StartEnd → Type 0
  IsTry at [] got = got ≡ Err OutOfMemory
  IsTry at (x ∷ []) got = (x.at ≡ at) × Comes x.link x.rise got
  IsTry at (x ∷ y ∷ xs) got = ⊥

  -- tries of that place that each came to nothing
  abbrev pub AreVain : Place → List Exchange → Type 0
  AreVain at [] = Unit {0}
  AreVain at (x ∷ xs) = IsTry at (x ∷ []) (Ok None) × AreVain at xs

-- the last try comes to this
abbrev pub tried : {T : Type 0} → Result T StartEnd → Result (Option T) StartEnd
tried (Ok x) = Ok (Some x)
tried (Err e) = Err e

-- tries of that place, of which the last comes to this, and each one before it came to nothing
pub record IsRun {T : Type 0} (Carries : Carried → ℕ → Result (Option T) StartEnd → Type 0) (at : Place) (xs : List Exchange) (got : Result T StartEnd) : Type 0 where
  pub vain : List Exchange
  pub last : List Exchange
  pub are : xs ≡ vain ++ last
  pub in_vain : AreVain Carries at vain
  pub ends : IsTry Carries at last (tried got)
