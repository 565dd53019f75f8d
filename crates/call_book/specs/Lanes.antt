-- Lanes in order of space, node and part. Own.
use Rattle.std.specs.Prelude.{ℕ, Bool, false, ◌==◌, max, List, Option, None, Some}
use Rattle.std.specs.declared.cmp.Ordering.{Ordering}
use Rattle.std.specs.Ordering.{nat_cmp, ordering_then}
use Rattle.std.specs.Cmp.Lexicographic.{slice_cmp}
use Rattle.lists_and_limits.specs.Lists.{found, with_changed, with_put}
use Rattle.actor_names.specs.declared.member.Member.{Member}
use Rattle.call_book.specs.declared.lane.LaneName.{LaneName}
use Rattle.call_book.specs.declared.lane.CallLane.{CallLane}

-- the lane of a member's part
abbrev pub lane_of : Member → ℕ → LaneName
lane_of origin part = record { space = origin.space; node = origin.node; part = part }

-- by space, then node, then part
abbrev pub lane_cmp : LaneName → LaneName → Ordering
lane_cmp a b = ordering_then (slice_cmp nat_cmp a.space b.space) (ordering_then (slice_cmp nat_cmp a.node b.node) (nat_cmp a.part b.part))

-- how a lane compares with a name
abbrev pub at_lane : LaneName → CallLane → Ordering
at_lane name lane = lane_cmp lane.name name

-- the lane with this name
abbrev pub lane_at : LaneName → List CallLane → Option CallLane
lane_at name lanes = found (at_lane name) lanes

-- puts a lane in its place, and replaces one with its name
abbrev pub put_lane : CallLane → List CallLane → List CallLane
put_lane lane lanes = with_put (λ a b. at_lane b.name a) lane lanes

-- a lane in its first moment of a boot
abbrev pub bare_lane : LaneName → ℕ → CallLane
bare_lane name boot = record { name = name; boot = boot; floor = 0 }

-- a lane whose call of this number was dropped
abbrev pub risen : ℕ → CallLane → CallLane
risen number lane = record lane { floor = max lane.floor number }

-- the lanes after the call of this number was dropped from the lane with this name
abbrev pub raise_lane : LaneName → ℕ → List CallLane → List CallLane
raise_lane name number lanes = with_changed (at_lane name) (risen number) lanes

-- whether a lane has this boot
abbrev pub has_boot : Option CallLane → ℕ → Bool
has_boot None boot = false
has_boot (Some lane) boot = lane.boot == boot

-- the floor of a lane, 0 if there is none
abbrev pub floor_of : Option CallLane → ℕ
floor_of None = 0
floor_of (Some lane) = lane.floor
