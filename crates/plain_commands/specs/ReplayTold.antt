-- The program's replay against the defined one: a line, all lines, and the whole command.
use Rattle.std.specs.Prelude.{◌≡◌, ◌≤◌, ◌++◌, ℕ, List, [], length, take, drop, true, Option, None, Some, Result, Ok, Err}
use Rattle.actor_ports.specs.declared.port.PortError.{PortError}
use Rattle.actor_ports.specs.declared.port.PortError.TheVariants as port
use Rattle.solo_run.specs.Runs.{solo_run}
use Rattle.world_run.specs.Worlds.{WorldView, view_of}
use Rattle.script_text.specs.Lines.{lines_of}
use Rattle.outcome_text.specs.Outcomes.{bad_line_text}
use Rattle.plain_commands.specs.Scripts.{Setup, ScriptLog, Unread, SoloLog, ClusterLog, any_of}
use Rattle.plain_commands.specs.Replay.{LineStep, Goes, Stops, ReplayRun, replay_of, cluster_after, most_bytes}
use Rattle.plain_commands.specs.Headline.{HeadlineHolds}
use Rattle.plain_commands.specs.Told.{TellsRun}
use Rattle.plain_commands.specs.declared.script.Script.{Script}
use Rattle.plain_commands.specs.declared.script.Script.TheVariants as script
use Rattle.plain_commands.specs.declared.line_end.LineEnd.{LineEnd}
use Rattle.plain_commands.specs.declared.line_end.LineEnd.TheVariants as ending
use Rattle.plain_commands.specs.declared.status.Status.{Status}
use Rattle.plain_commands.specs.declared.status.Status.TheVariants as status

-- ---- the program's script between two lines

-- the program's script is that of what its lines so far name; the first event of a cluster script opens its world
abbrev pub IsOf : ScriptLog → Script → Type 0
IsOf Unread script.Unread = Unit {0}
IsOf (SoloLog depths events) (script.Solo solo) = (solo.started ≡ any_of events) × (solo.world ≡ solo_run depths events)
IsOf (ClusterLog s events) (script.Opening setup) = (events ≡ []) × (setup ≡ s)
IsOf (ClusterLog s events) (script.Cluster world) = (any_of events ≡ true) × (world ≡ view_of (cluster_after s events))
IsOf log other = ⊥

-- a cluster script with its settings, or with the world that its first event opened
abbrev pub opened_script : Setup → Option WorldView → Script
opened_script setup None = script.Opening setup
opened_script setup (Some world) = script.Cluster world

-- the step goes on to this script and appends its text
abbrev pub GoesTo : LineStep → Script → List ℕ → List ℕ → Type 0
GoesTo (Goes log text) new before after = IsOf log new × (after ≡ before ++ text)
GoesTo (Stops column) new before after = ⊥

-- Ok is a step that goes on, Refused a step that stops at this column; an error appends nothing
abbrev pub GivesLine : {X : Type 0} → Result X LineEnd → LineStep → Script → List ℕ → List ℕ → Type 0
GivesLine (Ok x) step new before after = GoesTo step new before after
GivesLine (Err (ending.Refused column)) step new before after = (step ≡ Stops column) × (after ≡ before)
GivesLine (Err ending.OutOfMemory) step new before after = after ≡ before

-- a prefix of the text
abbrev pub IsFront : List ℕ → List ℕ → Type 0
IsFront front text = (n : ℕ) × (front ≡ take n text)

-- the lines printed all of the run and end with its status; if they ran out of memory, a prefix of it
abbrev pub Prints : ReplayRun → Status → List ℕ → Type 0
Prints run status.OutOfMemory text = IsFront text run.text
Prints run status.Done text = (0 ≡ run.status) × (text ≡ run.text)
Prints run status.Refused text = (3 ≡ run.status) × (text ≡ run.text)
Prints run status.Limit text = (10 ≡ run.status) × (text ≡ run.text)
Prints run status.Usage text = ⊥
Prints run status.SourceFault text = ⊥
Prints run status.SinkFault text = ⊥

-- if the sink shows its bytes, this text was written, and nothing else
abbrev pub Writes : Option (List ℕ) → Option (List ℕ) → List ℕ → Type 0
Writes None after text = Unit {0}
Writes (Some held) after text = after ≡ Some (held ++ text)

-- if the sink shows its bytes, a prefix of this text was written, and nothing else
abbrev pub WritesFrontOf : Option (List ℕ) → Option (List ℕ) → List ℕ → Type 0
WritesFrontOf None after text = Unit {0}
WritesFrontOf (Some held) after text = (front : List ℕ) × IsFront front text × (after ≡ Some (held ++ front))

-- What the run of a script's bytes wrote. Without a fault, and if memory didn't run out, it is all of the run, and the
-- status is the run's; after a fault of the sink or out of memory it is a prefix.
abbrev pub RunEnds : ReplayRun → Status → Option (List ℕ) → Option (List ℕ) → Type 0
RunEnds run status.Done before after = (0 ≡ run.status) × Writes before after run.text
RunEnds run status.Refused before after = (3 ≡ run.status) × Writes before after run.text
RunEnds run status.Limit before after = (10 ≡ run.status) × Writes before after run.text
RunEnds run status.SinkFault before after = WritesFrontOf before after run.text
RunEnds run status.OutOfMemory before after = WritesFrontOf before after run.text
RunEnds run status.Usage before after = ⊥
RunEnds run status.SourceFault before after = ⊥

-- The same for a replay, which a fault of the source ends before anything is written.
abbrev pub EndsAs : ReplayRun → Status → Option (List ℕ) → Option (List ℕ) → Type 0
EndsAs run status.SourceFault before after = after ≡ before
EndsAs run status.Done before after = RunEnds run status.Done before after
EndsAs run status.Refused before after = RunEnds run status.Refused before after
EndsAs run status.Limit before after = RunEnds run status.Limit before after
EndsAs run status.SinkFault before after = RunEnds run status.SinkFault before after
EndsAs run status.OutOfMemory before after = RunEnds run status.OutOfMemory before after
EndsAs run status.Usage before after = ⊥

-- the bytes are all that the source has, if it shows them
abbrev pub AreAllOf : Option (List ℕ) → List ℕ → Type 0
AreAllOf None bytes = Unit {0}
AreAllOf (Some left) bytes = bytes ≡ left

-- At most one byte more than the limit is read; this is what remains of the source, if it shows that. Out of memory
-- less may have been read, and after a fault of the source nothing is said.
abbrev pub most_read : ℕ
most_read = 67108865

abbrev pub IsReadSoFar : Option (List ℕ) → Option (List ℕ) → Status → Type 0
IsReadSoFar None rest ended = Unit {0}
IsReadSoFar (Some left) rest status.Done = rest ≡ Some (drop most_read left)
IsReadSoFar (Some left) rest status.Refused = rest ≡ Some (drop most_read left)
IsReadSoFar (Some left) rest status.Limit = rest ≡ Some (drop most_read left)
IsReadSoFar (Some left) rest status.SinkFault = rest ≡ Some (drop most_read left)
IsReadSoFar (Some left) rest status.OutOfMemory = (n : ℕ) × (n ≤ most_read) × (rest ≡ Some (drop n left))
IsReadSoFar (Some left) rest status.SourceFault = Unit {0}
IsReadSoFar (Some left) rest status.Usage = Unit {0}

-- A replay: there are bytes, all that the source has, whose replay is what was written; unless the source failed, no
-- more than the limit and one byte were read. What was printed is the outcomes of the events that the script's lines
-- name, and the headline holds of them.
pub record Replays (left rest : Option (List ℕ)) (ended : Status) (before after : Option (List ℕ)) : Type 0 where
  pub bytes : List ℕ
  pub all : AreAllOf left bytes
  pub read : IsReadSoFar left rest ended
  pub ends : EndsAs (replay_of bytes) ended before after
  pub tells : TellsRun (lines_of bytes) (replay_of bytes)
  pub headline : HeadlineHolds (replay_of bytes).log

-- A prefix of the source was read: all of it, or one byte more than the limit. Out of memory it was no more than that;
-- after a fault nothing is said.
abbrev pub ReadsAll : {X : Type 0} → Option (List ℕ) → Option (List ℕ) → List ℕ → Result X PortError → Type 0
ReadsAll None rest bytes result = Unit {0}
ReadsAll (Some left) rest bytes (Ok x) = (behind : List ℕ) × (left ≡ bytes ++ behind) × (rest ≡ Some behind) × (length bytes ≤ most_bytes → behind ≡ []) × (length bytes ≤ most_read)
ReadsAll (Some left) rest bytes (Err port.OutOfMemory) = (n : ℕ) × (n ≤ most_read) × (rest ≡ Some (drop n left))
ReadsAll (Some left) rest bytes (Err port.Failed) = Unit {0}

-- the line that reports a refused line was added, or there was no memory and nothing was added
abbrev pub RefusesLine : ℕ → ℕ → List ℕ → List ℕ → Status → Type 0
RefusesLine number column before after status.Refused = after ≡ before ++ bad_line_text number column
RefusesLine number column before after status.OutOfMemory = after ≡ before
RefusesLine number column before after status.Done = ⊥
RefusesLine number column before after status.Usage = ⊥
RefusesLine number column before after status.SourceFault = ⊥
RefusesLine number column before after status.SinkFault = ⊥
RefusesLine number column before after status.Limit = ⊥

-- how the lines ended: the line that reports a refused line was added, or there was no memory for an event
abbrev pub EndsLines : LineEnd → ℕ → List ℕ → List ℕ → Status → Type 0
EndsLines (ending.Refused column) number before after ended = RefusesLine number column before after ended
EndsLines ending.OutOfMemory number before after ended = (ended ≡ status.OutOfMemory) × (after ≡ before)

-- All of the text was written and the status is the run's; or the sink failed, or memory ran out, and a prefix of the
-- text was written.
abbrev pub WritesAs : Option (List ℕ) → Option (List ℕ) → List ℕ → Status → Status → Type 0
WritesAs before after text run status.SinkFault = WritesFrontOf before after text
WritesAs before after text run status.OutOfMemory = WritesFrontOf before after text
WritesAs before after text run status.Done = (run ≡ status.Done) × Writes before after text
WritesAs before after text run status.Refused = (run ≡ status.Refused) × Writes before after text
WritesAs before after text run status.Limit = (run ≡ status.Limit) × Writes before after text
WritesAs before after text run status.Usage = (run ≡ status.Usage) × Writes before after text
WritesAs before after text run status.SourceFault = (run ≡ status.SourceFault) × Writes before after text

-- A piece of the text that waited was written, and the rest waits; after a fault or out of memory a prefix of the text
-- was written.
abbrev pub PieceEnds : Option (List ℕ) → Option (List ℕ) → List ℕ → List ℕ → Status → Type 0
PieceEnds before after waiting rest status.Done = (piece : List ℕ) × Writes before after piece × (piece ++ rest ≡ waiting)
PieceEnds before after waiting rest status.SinkFault = WritesFrontOf before after waiting
PieceEnds before after waiting rest status.OutOfMemory = WritesFrontOf before after waiting
PieceEnds before after waiting rest status.Refused = ⊥
PieceEnds before after waiting rest status.Limit = ⊥
PieceEnds before after waiting rest status.Usage = ⊥
PieceEnds before after waiting rest status.SourceFault = ⊥

-- these bytes came from the source, and the rest remains
abbrev pub HasRead : Option (List ℕ) → Option (List ℕ) → List ℕ → Type 0
HasRead None rest bytes = Unit {0}
HasRead (Some left) rest bytes = (behind : List ℕ) × (left ≡ bytes ++ behind) × (rest ≡ Some behind)
