-- The ring: points in order, and the point that owns a place. Own, after the hash tables of Dapr's placement.
use Rattle.std.specs.Prelude.{◌≡◌, ℕ, ◌<◌, ◌≤◌, ◌⊎◌, Bool, false, ◌&&◌, ◌==◌, nat_le, if◌then◌else◌, List, [], ◌∷◌, Option, Some, None, filter, Contains}
use Rattle.std.specs.declared.cmp.Ordering.{Ordering}
use Rattle.std.specs.Ordering.{nat_cmp, is_lt, on, then_cmp}
use Rattle.std.specs.Cmp.Lexicographic.{slice_cmp}
use Rattle.std.specs.Str.{bytes_eq}
use Rattle.place_table.specs.declared.point.Point.{Point}

-- points in order of place, then in byte order of node
abbrev pub point_cmp : Point → Point → Ordering
point_cmp = then_cmp (on (λ p. p.place) nat_cmp) (on (λ p. p.node) (slice_cmp nat_cmp))

abbrev pub is_before : Point → Point → Bool
is_before p q = is_lt (point_cmp p q)

-- the same place and the same node
abbrev pub is_point : Point → Point → Bool
is_point p q = (p.place == q.place) && bytes_eq p.node q.node

-- the lesser of a point and another, if there is one
abbrev pub lesser : Point → Option Point → Option Point
lesser p None = Some p
lesser p (Some q) = if is_before q p then Some q else Some p

-- the least of the points
abbrev pub least : List Point → Option Point
least [] = None
least (p ∷ ps) = lesser p (least ps)

abbrev pub first_of : Option Point → Option Point → Option Point
first_of None second = second
first_of (Some p) second = Some p

-- the least of the points at or after the place, or else the least of all
abbrev pub owner_point : List Point → ℕ → Option Point
owner_point points place = first_of (least (filter (λ p. nat_le place p.place) points)) (least points)

-- p is one of the points, and none of them is before it
pub record IsLeast (points : List Point) (p : Point) : Type 0 where
  pub among : Contains points p
  pub first : (q : Point) → Contains points q → is_before q p ≡ false

-- p is one of the points, at or after the place, and none of the points there is before it
pub record IsLeastFrom (points : List Point) (place : ℕ) (p : Point) : Type 0 where
  pub among : Contains points p
  pub reached : place ≤ p.place
  pub first : (q : Point) → Contains points q → place ≤ q.place → is_before q p ≡ false

-- p is the least of the points at or after the place, or there are none and p is the least of all
abbrev pub IsOwner : List Point → ℕ → Point → Type 0
IsOwner points place p = IsLeastFrom points place p ⊎ (((q : Point) → Contains points q → q.place < place) × IsLeast points p)
