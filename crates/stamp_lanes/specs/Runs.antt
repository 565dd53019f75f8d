-- Draws and acceptances one after another. Own.
use Rattle.std.specs.Prelude.{◌≡◌, ℕ, List, [], ◌∷◌, ◌++◌, None, Ok}
use Rattle.actor_names.specs.declared.member.Member.{Member}
use Rattle.stamp_lanes.specs.declared.answer.LaneAnswer.{LaneAnswer}
use Rattle.stamp_lanes.specs.declared.answer.StampLook.TheVariants.{Fresh}
use Rattle.stamp_lanes.specs.declared.node.NodeLanes.{NodeLanes}
use Rattle.stamp_lanes.specs.Stamps.{draw_fault, after_draw, look, after_accept}

-- a node draws a boot, or a stamp is accepted with an answer
pub data LaneEvent : Type 0 where
  Draws : (space node : List ℕ) → LaneEvent
  Accepts : (member : Member) → (part number : ℕ) → (answer : LaneAnswer) → LaneEvent

-- a draw isn't refused, and a stamp is fresh
abbrev pub MayCome : LaneEvent → List NodeLanes → Type 0
MayCome (Draws space node) nodes = draw_fault space node nodes ≡ None
MayCome (Accepts member part number answer) nodes = look member part number nodes ≡ Ok Fresh

abbrev pub after_event : LaneEvent → List NodeLanes → List NodeLanes
after_event (Draws space node) nodes = after_draw space node nodes
after_event (Accepts member part number answer) nodes = after_accept member part (record { number = number; answer = answer }) nodes

-- each event may come where it does
abbrev pub MayRun : List LaneEvent → List NodeLanes → Type 0
MayRun [] nodes = Unit {0}
MayRun (e ∷ es) nodes = MayCome e nodes × MayRun es (after_event e nodes)

abbrev pub after_events : List LaneEvent → List NodeLanes → List NodeLanes
after_events [] nodes = nodes
after_events (e ∷ es) nodes = after_events es (after_event e nodes)
