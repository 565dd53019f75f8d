-- Worked examples of the definitions.
use Rattle.std.proofs.Common.{◌≡◌, ℕ, true, false, List, [], ◌∷◌, Ok, Err, Some, None, refl}
use Rattle.std.specs.Prelude.{codes}
use Rattle.actor_names.specs.declared.member.Member.{Member}
use Rattle.stamp_lanes.specs.declared.answer.LaneAnswer.{LaneAnswer}
use Rattle.stamp_lanes.specs.declared.answer.LaneAnswer.TheVariants.{Done}
use Rattle.stamp_lanes.specs.declared.answer.KeptNumber.{KeptNumber}
use Rattle.stamp_lanes.specs.declared.answer.StampLook.TheVariants.{Fresh, Kept}
use Rattle.stamp_lanes.specs.declared.error.BootError.TheVariants.{Spent}
use Rattle.stamp_lanes.specs.declared.error.StampError.TheVariants.{OtherBoot, OldSeq}
use Rattle.stamp_lanes.specs.declared.error.RestoreError.TheVariants.{SameNumber}
use Rattle.stamp_lanes.specs.declared.lane.Lane.{Lane}
use Rattle.stamp_lanes.specs.declared.node.NodeLanes.{NodeLanes}
use Rattle.stamp_lanes.specs.Lanes.{dropped, look_lane, lane_after, new_lane}
use Rattle.stamp_lanes.specs.Stamps.{after_draw, after_accept, bare_node, look, spent_fault}
use Rattle.stamp_lanes.specs.Restores.{numbers_fault}

default : List ℕ
default = codes "default"

a : List ℕ
a = codes "a"

b : List ℕ
b = codes "b"

member : ℕ → Member
member boot = record { space = default; node = a; boot = boot }

kept : ℕ → KeptNumber
kept number = record { number = number; answer = Done true }

drawn : List NodeLanes
drawn = after_draw default a []

one_counter_for_all_nodes : after_draw default b drawn ≡ bare_node default a 1 ∷ bare_node default b 2 ∷ []
unfolding drawn default a b
one_counter_for_all_nodes = refl

accepted : List NodeLanes
accepted = after_accept (member 1) 0 (kept 5) drawn

accepted_number_is_kept : look (member 1) 0 5 accepted ≡ Ok (Kept (Done true))
unfolding accepted drawn member kept default a
accepted_number_is_kept = refl

other_numbers_are_fresh : look (member 1) 0 4 accepted ≡ Ok Fresh
unfolding accepted drawn member kept default a
other_numbers_are_fresh = refl

number_0_is_old : look (member 1) 0 0 accepted ≡ Err (OldSeq 0)
unfolding accepted drawn member kept default a
number_0_is_old = refl

another_part_has_a_lane_of_its_own : look (member 1) 1 5 accepted ≡ Ok Fresh
unfolding accepted drawn member kept default a
another_part_has_a_lane_of_its_own = refl

new_boot_gives_lanes_up : after_draw default a accepted ≡ bare_node default a 2 ∷ []
unfolding accepted drawn member kept default a
new_boot_gives_lanes_up = refl

unknown_node_has_boot_0 : look (member 1) 0 5 [] ≡ Err (OtherBoot 0)
unknown_node_has_boot_0 = refl

two : Lane
two = record { part = 0; floor = 7; kept = kept 5 ∷ kept 9 ∷ [] }

floor_is_the_greatest_number_dropped : dropped two two.kept ≡ record { part = 0; floor = 7; kept = kept 9 ∷ [] }
unfolding two kept
floor_is_the_greatest_number_dropped = refl

number_below_the_floor_may_be_kept : look_lane 5 two ≡ Ok (Kept (Done true))
unfolding two kept
number_below_the_floor_may_be_kept = refl

number_that_comes_again_is_named : numbers_fault (kept 5 ∷ kept 9 ∷ kept 5 ∷ []) ≡ Some (SameNumber 5)
unfolding kept
number_that_comes_again_is_named = refl

counter_ends_at_2_62 : spent_fault 4611686018427387904 ≡ Some Spent
counter_ends_at_2_62 = refl
