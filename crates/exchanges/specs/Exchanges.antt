-- What a dialler was made to do: exchanges, in order. Own.
use Rattle.std.specs.Prelude.{◌≡◌, ◌<◌, ◌≤◌, ◌+◌, ℕ, List, [], ◌∷◌, ◌++◌, map, Option, Some, None}
use Rattle.actor_ports.specs.Traffic.{Place, Dialled, Returned}
use Rattle.http_edge.specs.Carry.{Carried}

-- one dial: its place, the bytes that went over its link if there was one, and by how much the dialler's count rose
pub record Exchange : Type 0 where
  pub at : Place
  pub link : Option Carried
  pub rise : ℕ

abbrev pub place_of : Exchange → Place
place_of x = x.at

-- the link that was given back, if there was one
abbrev pub link_of : Place → Option Carried → List Returned
link_of at None = []
link_of at (Some c) = record { at = at; read = c.read; written = c.written } ∷ []

abbrev pub links_of : List Exchange → List Returned
links_of [] = []
links_of (x ∷ xs) = link_of x.at x.link ++ links_of xs

abbrev pub total_rise : List Exchange → ℕ
total_rise [] = 0
total_rise (x ∷ xs) = x.rise + total_rise xs

-- a dialler that reports what it did reports these exchanges and no others
abbrev pub Tells : List Exchange → Option Dialled → Option Dialled → Type 0
Tells xs None after = Unit {0}
Tells xs (Some d) after = after ≡ Some (record { places = d.places ++ map place_of xs; links = d.links ++ links_of xs })

-- a dialler made these exchanges, and its count rose by theirs at least
pub record Dialling (xs : List Exchange) (told_before told_after : Option Dialled) (before after : ℕ) : Type 0 where
  pub told : Tells xs told_before told_after
  pub counted : before + total_rise xs ≤ after

-- An exchange that comes to an answer. `fault` and `memory` are the answers for a fault and for want of memory; what
-- bytes an answer carries is a parameter, since an application, another sidecar and the store are read differently.
module _ {G : Type 0} (fault memory : G) (Carries : Carried → G → Type 0) where
  -- what came of one dial: a failed one is a fault, and the count rises at each fault
  abbrev pub Comes : Option Carried → ℕ → G → Type 0
  Comes None rise got = (0 < rise) × (got ≡ fault)
  Comes (Some c) rise got = Carries c got × (got ≡ fault → 0 < rise)

  -- one exchange with that place; with none, memory ran out before the dial
  abbrev pub IsExchange : Place → List Exchange → G → Type 0
  IsExchange at [] got = got ≡ memory
  IsExchange at (x ∷ []) got = (x.at ≡ at) × Comes x.link x.rise got
  IsExchange at (x ∷ y ∷ xs) got = ⊥
