-- Leases, and clocks that go forward at like rates. Moments are in milliseconds. Own.
use Rattle.std.specs.Prelude.{ℕ, ◌+◌, ◌-◌, ◌*◌, ◌≤◌, max, Bool, false, ◌&&◌, ◌||◌, nat_le, if◌then◌else◌, List, [], ◌∷◌, length, min, ◌==◌, Option, None, Some}

-- how long a lease lasts: 5 seconds
abbrev pub lease_time : ℕ
lease_time = 5000

-- The bound of all moments, the year 9999: a clock stands below it.
abbrev pub moment_bound : ℕ
moment_bound = 253370764800000

-- the start of a lease after a request that was sent at a moment was answered: the later of the two
abbrev pub extended : ℕ → ℕ → ℕ
extended start sent = max start sent

-- the start of a lease that began at a moment, after answers to requests that were sent at these moments
abbrev pub lease_start : ℕ → List ℕ → ℕ
lease_start start [] = start
lease_start start (sent ∷ later) = lease_start (extended start sent) later

-- whether a lease has ended: the lease's time has passed since its start
abbrev pub has_ended : ℕ → ℕ → Bool
has_ended start now = nat_le lease_time (now - start)

-- Clocks drift by at most a factor of two: while one goes forward by x, the other goes forward by at least half of x.
abbrev pub RateBound : ℕ → ℕ → Type 0
RateBound placement member = (placement ≤ 2 * member) × (member ≤ 2 * placement)

-- the same, as a test
abbrev pub keeps_rate : ℕ → ℕ → Bool
keeps_rate placement member = nat_le placement (2 * member) && nat_le member (2 * placement)

-- the first of the members' steps that isn't within the rates, its place being counted from this number
abbrev pub first_unrated : ℕ → ℕ → List ℕ → Option ℕ
first_unrated placement at [] = None
first_unrated placement at (step ∷ steps) = if keeps_rate placement step then first_unrated placement (at + 1) steps else Some at

-- What is wrong with the steps of a pass, given how many members there are: another number of steps than members (then
-- the lesser of the two), or the first step that isn't within the rates.
abbrev pub bad_rate : ℕ → List ℕ → ℕ → Option ℕ
bad_rate placement steps members = if length steps == members then first_unrated placement 0 steps else Some (min (length steps) members)
