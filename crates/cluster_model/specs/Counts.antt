-- How many turns began, and how many are open, by the marks; and what one step of a part adds. Own.
use Rattle.std.specs.Prelude.{◌≡◌, ◌≤◌, ℕ, ◌+◌, ◌-◌, List, [], ◌∷◌, length}
use Rattle.part_model.specs.declared.actor_cell.ActorCell.{ActorCell}
use Rattle.part_model.specs.Cells.{total}
use Rattle.part_model.specs.declared.event.PartEvent.{PartEvent}
use Rattle.part_model.specs.declared.event.PartEvent.TheVariants as events
use Rattle.part_model.specs.Receipts.{PartReply}
use Rattle.part_model.specs.declared.event.Reply.TheVariants as replies
use Rattle.part_model.specs.Marks.{PartMark, TurnBegan, TurnEnded}
use Rattle.part_model.specs.Part.{PartState}
use Rattle.cluster_model.specs.World.{ClusterState, TraceMark}

-- one for the beginning of a turn, and one for its end
abbrev pub begins : PartMark → ℕ
begins (TurnBegan key call chain) = 1
begins mark = 0

abbrev pub ends : PartMark → ℕ
ends (TurnEnded key call) = 1
ends mark = 0

-- how many turns began
abbrev pub begun_turns : List TraceMark → ℕ
begun_turns [] = 0
begun_turns (x ∷ xs) = begins x.what + begun_turns xs

-- how many turns have ended
abbrev pub over_turns : List TraceMark → ℕ
over_turns [] = 0
over_turns (x ∷ xs) = ends x.what + over_turns xs

-- how many began and haven't ended
abbrev pub open_turns : List TraceMark → ℕ
open_turns marks = begun_turns marks - over_turns marks

-- the turns that are open in a part's cells, and in those of all parts
abbrev pub turns_in : ActorCell → ℕ
turns_in c = length c.inner.turns

abbrev pub open_in : List PartState → ℕ
open_in [] = 0
open_in (p ∷ ps) = total turns_in p.cells + open_in ps

-- No more turns have ended than began, and as many as began and haven't ended are open in the parts.
pub record TurnsAreCounted (w : ClusterState) : Type 0 where
  pub enough : over_turns w.marks ≤ begun_turns w.marks
  pub same : open_turns w.marks ≡ open_in w.parts

-- ---- one step of a part, by its event, its reply and the calls that the part lends after it

-- the turns that it began
abbrev pub begun_by : PartEvent → List ℕ → ℕ
begun_by (events.Tick now) recent = 0
begun_by events.StopPart recent = 0
begun_by event recent = length recent

abbrev pub ended_in : PartReply → ℕ
ended_in (replies.Ended next) = 1
ended_in reply = 0

-- and those that it ended
abbrev pub ended_by : PartEvent → PartReply → List ℕ → ℕ
ended_by (events.Tick now) reply recent = length recent
ended_by events.StopPart reply recent = length recent
ended_by (events.End call now) reply recent = ended_in reply
ended_by event reply recent = 0
