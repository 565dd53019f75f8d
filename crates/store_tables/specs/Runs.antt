-- Commands one after another, whether they are accepted or not. Own.
use Rattle.std.specs.Prelude.{◌≡◌, List, [], ◌∷◌, ◌++◌, Option, None, Some}
use Rattle.frame_wire.specs.declared.store_command.StoreCommand.{StoreCommand}
use Rattle.frame_wire.specs.declared.store_command.StoreCommand.TheVariants.{Boot, Tx, Get, PutReminder, GetReminder, DeleteReminder, Due, Fired}
use Rattle.frame_wire.specs.declared.store_command.Stamp.{Stamp}
use Rattle.frame_wire.specs.declared.store_answer.StoreAnswer.{StoreAnswer}
use Rattle.store_tables.specs.Tables.{Tables, Outcome, Told, Accepted}
use Rattle.store_tables.specs.Contents.{Timed, outcome_of, after_accepted}

-- the stamp of a command
abbrev pub stamp_of : StoreCommand → Option Stamp
stamp_of (Boot space node) = None
stamp_of (Tx s actor ops) = Some s
stamp_of (Get actor key) = None
stamp_of (PutReminder s actor name reminder) = Some s
stamp_of (GetReminder actor name) = None
stamp_of (DeleteReminder s actor name) = Some s
stamp_of (Due after limit) = None
stamp_of (Fired s actor name moment) = Some s

abbrev pub tables_after : Outcome → Tables → Tables
tables_after (Told answer) t = t
tables_after (Accepted answer after) t = after

-- the tables after commands, of which those that are told an answer change nothing
abbrev pub after_calls : List Timed → Tables → Tables
after_calls [] t = t
after_calls (c ∷ cs) t = after_calls cs (tables_after (outcome_of t c) t)

abbrev pub if_accepted : Outcome → Timed → List Timed → List Timed
if_accepted (Told answer) c cs = cs
if_accepted (Accepted answer after) c cs = c ∷ cs

-- those of the commands that are accepted
abbrev pub accepted_of : List Timed → Tables → List Timed
accepted_of [] t = []
accepted_of (c ∷ cs) t = if_accepted (outcome_of t c) c (accepted_of cs (tables_after (outcome_of t c) t))

-- it is accepted, and answered so
abbrev pub IsAccepted : Tables → Timed → Type 0
IsAccepted t c = (answer : StoreAnswer) × (after : Tables) × (outcome_of t c ≡ Accepted answer after)

-- it carries this stamp
abbrev pub Carries : Stamp → Timed → Type 0
Carries s c = stamp_of c.command ≡ Some s

-- What commands leave is what the accepted ones alone leave.
abbrev pub FoldsAccepted : Type 0
FoldsAccepted = (cs : List Timed) (t : Tables) → after_accepted (accepted_of cs t) t ≡ Some (after_calls cs t)

-- No stamp is accepted twice, whatever comes before, between and after.
abbrev pub AcceptsOnce : Type 0
AcceptsOnce =
    (s : Stamp) (c d : Timed) (before between : List Timed) (t : Tables)
    → Carries s c → Carries s d → IsAccepted (after_calls before t) c → IsAccepted (after_calls (before ++ c ∷ between) t) d → ⊥

-- A repeat of the command that was accepted last, or any other one with its stamp, is told its answer.
abbrev pub RepeatsAnswer : Type 0
RepeatsAnswer =
    (s : Stamp) (c d : Timed) (t after : Tables) (answer : StoreAnswer)
    → Carries s c → Carries s d → outcome_of t c ≡ Accepted answer after → outcome_of after d ≡ Told answer
