-- A lane: the accepted numbers of one part of a member. Own.
use Rattle.std.specs.Prelude.{◌≡◌, ◌≤◌, ℕ, max, nat_le, if◌then◌else◌, List, [], ◌∷◌, ◌++◌, length, Option, None, Some, Result, Ok, Err}
use Rattle.std.specs.declared.cmp.Ordering.{Ordering}
use Rattle.std.specs.Ordering.{nat_cmp}
use Rattle.lists_and_limits.specs.Lists.{found, with_put}
use Rattle.stamp_lanes.specs.declared.answer.LaneAnswer.{LaneAnswer}
use Rattle.stamp_lanes.specs.declared.answer.KeptNumber.{KeptNumber}
use Rattle.stamp_lanes.specs.declared.answer.StampLook.{StampLook}
use Rattle.stamp_lanes.specs.declared.answer.StampLook.TheVariants.{Fresh, Kept}
use Rattle.stamp_lanes.specs.declared.error.StampError.{StampError}
use Rattle.stamp_lanes.specs.declared.error.StampError.TheVariants.{OldSeq}
use Rattle.stamp_lanes.specs.declared.lane.Lane.{Lane}
use Rattle.stamp_lanes.specs.Kept.{kept_answer, Differ}

-- ---- one lane

-- a lane before its first number
abbrev pub new_lane : ℕ → Lane
new_lane part = record { part = part; floor = 0; kept = [] }

-- a number that is kept has its answer; another one at or below the floor is refused
abbrev pub answered : ℕ → ℕ → Option LaneAnswer → Result StampLook StampError
answered number floor (Some answer) = Ok (Kept answer)
answered number floor None = if nat_le number floor then Err (OldSeq floor) else Ok Fresh

abbrev pub look_lane : ℕ → Lane → Result StampLook StampError
look_lane number lane = answered number lane.floor (kept_answer number lane.kept)

-- without the number that was accepted longest ago; the floor is the greatest number dropped
abbrev pub dropped : Lane → List KeptNumber → Lane
dropped lane [] = lane
dropped lane (k ∷ ks) = record lane { floor = max lane.floor k.number; kept = ks }

-- a lane with 256 numbers drops one
abbrev pub with_space : Lane → Lane
with_space lane = if nat_le 256 (length lane.kept) then dropped lane lane.kept else lane

-- with one more number
abbrev pub joined : Lane → KeptNumber → Lane
joined lane k = record lane { kept = lane.kept ++ k ∷ [] }

-- the lane after a number is accepted
abbrev pub lane_after : Lane → KeptNumber → Lane
lane_after lane k = joined (with_space lane) k

-- at most 256 numbers, each once
pub record IsLane (lane : Lane) : Type 0 where
  pub fits : length lane.kept ≤ 256
  pub differ : Differ lane.kept

-- ---- the lanes of a node

abbrev pub at_part : ℕ → Lane → Ordering
at_part part lane = nat_cmp lane.part part

abbrev pub lane_cmp : Lane → Lane → Ordering
lane_cmp a b = nat_cmp a.part b.part

-- the lane of a part
abbrev pub lane_at : ℕ → List Lane → Option Lane
lane_at part lanes = found (at_part part) lanes

abbrev pub lane_or_new : ℕ → Option Lane → Lane
lane_or_new part None = new_lane part
lane_or_new part (Some lane) = lane

abbrev pub lane_of : ℕ → List Lane → Lane
lane_of part lanes = lane_or_new part (lane_at part lanes)

-- the lanes after a number of a part is accepted
abbrev pub lanes_after : ℕ → KeptNumber → List Lane → List Lane
lanes_after part k lanes = with_put lane_cmp (lane_after (lane_of part lanes) k) lanes
