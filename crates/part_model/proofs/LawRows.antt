-- Worked examples of what marks say and which replies refuse. The first host of a table owns every actor here.
use Rattle.std.proofs.Common.{◌≡◌, true, false, List, [], ◌∷◌, ◌++◌, Option, None, Some, refl}
use Rattle.actor_names.specs.declared.actor_key.ActorKey.{ActorKey}
use Rattle.actor_names.specs.Names.{default_space}
use Rattle.actor_names.specs.declared.member.Member.{Member}
use Rattle.place_table.specs.declared.host.HostInfo.{HostInfo}
use Rattle.place_table.specs.Hosts.{PlacementTable}
use Rattle.turn_core.specs.CellMarks.{Began, Ended}
use Rattle.part_model.specs.declared.event.PartEvent.{PartEvent}
use Rattle.part_model.specs.declared.event.PartEvent.TheVariants as events
use Rattle.part_model.specs.declared.event.Reply.TheVariants as replies
use Rattle.part_model.specs.Cells.{cell_at}
use Rattle.part_model.specs.Part.{PartState, new_part}
use Rattle.part_model.specs.Activity.{no_activity, activity_of, replay, turn_marks}
use Rattle.part_model.specs.PartRuns.{part_after, marks_after, refuses}

abbrev a : Member
a = record { space = default_space; node = 97 ∷ []; boot = 1 }

abbrev key : ActorKey
key = record { space = default_space; kind = 99 ∷ []; id = 55 ∷ [] }

abbrev other : ActorKey
other = record { space = default_space; kind = 99 ∷ []; id = 56 ∷ [] }

abbrev table : PlacementTable
table = record { space = default_space; version = 1; hosts = record { member = a; app = 120 ∷ []; address = record { ip = 1; port = 1 }; kinds = (99 ∷ []) ∷ [] } ∷ [] }

abbrev first_host : List HostInfo → Option HostInfo
first_host [] = None
first_host (h ∷ hs) = Some h

abbrev owner : PlacementTable → ActorKey → Option HostInfo
owner t k = first_host t.hosts

abbrev fresh : PartState
fresh = new_part a 0 []

-- a part opens, two callers ask one actor and a third asks another, and the first turn ends
abbrev handed_over : List PartEvent
handed_over =
    events.Lock 1 ∷ events.Update table 7 ∷ events.Unlock 1 ∷ events.Ask key None 8 ∷ events.Ask key None 8 ∷ events.Ask other None 8 ∷ events.End 1 9 ∷ []

abbrev stopped : List PartEvent
stopped = handed_over ++ events.StopPart ∷ []

turns_in_order : turn_marks key (marks_after owner fresh handed_over) ≡ Began 1 None ∷ Ended 1 ∷ Began 2 None ∷ []
turns_in_order = refl

turns_of_other : turn_marks other (marks_after owner fresh handed_over) ≡ Began 3 None ∷ []
turns_of_other = refl

second_is_open : replay (marks_after owner fresh handed_over) key no_activity ≡ record { active = true; turns = record { call = 2; chain = None } ∷ [] }
second_is_open = refl

-- and so the actor's cell has it
second_in_cell : activity_of (cell_at (part_after owner fresh handed_over).cells key) ≡ record { active = true; turns = record { call = 2; chain = None } ∷ [] }
second_in_cell = refl

stop_ends_all : replay (marks_after owner fresh stopped) key no_activity ≡ no_activity
stop_ends_all = refl

-- NoHost refuses a call that is asked, but not a poll: there it says that the moved call is forgotten
no_host_refuses_ask : refuses (events.Ask key None 8) (replies.NoHost 1) ≡ true
no_host_refuses_ask = refl

no_host_tells_poll : refuses (events.Poll 1) (replies.NoHost 1) ≡ false
no_host_tells_poll = refl

full_queue_refuses : refuses (events.Ask key None 8) (replies.QueueFull 1024) ≡ true
full_queue_refuses = refl

waiting_is_no_refusal : refuses (events.Ask key None 8) (replies.Waits 2 1) ≡ false
waiting_is_no_refusal = refl

early_end_is_refused : refuses (events.End 2 8) replies.StillWaiting ≡ true
early_end_is_refused = refl
