-- Worked examples of the part state machine. The last host of a table owns every actor here.
use Rattle.std.proofs.Common.{◌≡◌, ℕ, true, false, List, [], ◌∷◌, ◌++◌, Option, None, Some, refl}
use Rattle.std.specs.Prelude.{codes}
use Rattle.std.specs.Fmt.{digits}
use Rattle.actor_names.specs.declared.actor_key.ActorKey.{ActorKey}
use Rattle.actor_names.specs.Names.{default_space}
use Rattle.actor_names.specs.declared.member.Member.{Member}
use Rattle.place_table.specs.declared.host.HostInfo.{HostInfo}
use Rattle.place_table.specs.Hosts.{PlacementTable}
use Rattle.part_model.specs.declared.stage.SeenStage.{SeenStage}
use Rattle.part_model.specs.declared.stage.SeenStage.TheVariants as seen
use Rattle.part_model.specs.declared.event.PartEvent.{PartEvent}
use Rattle.part_model.specs.declared.event.PartEvent.TheVariants as events
use Rattle.part_model.specs.Receipts.{PartReply}
use Rattle.part_model.specs.declared.event.Reply.TheVariants as replies
use Rattle.part_model.specs.Receipts.{ReceiptState}
use Rattle.part_model.specs.Marks.{PartMark, TurnBegan, TurnEnded, BecameActive, BecameInactive, PartOpened, ended_calls}
use Rattle.part_model.specs.Part.{PartState, new_part, made_chain, part_step}

abbrev a : Member
a = record { space = default_space; node = 97 ∷ []; boot = 1 }

abbrev b : Member
b = record { space = default_space; node = 98 ∷ []; boot = 2 }

-- `counter/7` and `counter/8`, and `nested/7`, whose type has reentrancy on at a depth of 2
abbrev counter : List ℕ
counter = 99 ∷ []

abbrev nested : List ℕ
nested = 110 ∷ []

abbrev key : ActorKey
key = record { space = default_space; kind = counter; id = 55 ∷ [] }

abbrev other : ActorKey
other = record { space = default_space; kind = counter; id = 56 ∷ [] }

abbrev chained : ActorKey
chained = record { space = default_space; kind = nested; id = 55 ∷ [] }

abbrev host : Member → HostInfo
host m = record { member = m; app = 120 ∷ []; address = record { ip = 1; port = 1 }; kinds = counter ∷ [] }

abbrev last_host : List HostInfo → Option HostInfo
last_host [] = None
last_host (h ∷ []) = Some h
last_host (h ∷ i ∷ hs) = last_host (i ∷ hs)

abbrev owner : PlacementTable → ActorKey → Option HostInfo
owner table k = last_host table.hosts

abbrev table_1 : PlacementTable
table_1 = record { space = default_space; version = 1; hosts = host a ∷ [] }

abbrev table_2 : PlacementTable
table_2 = record { space = default_space; version = 2; hosts = host a ∷ host b ∷ [] }

abbrev fresh : PartState
fresh = new_part a 3 (record { kind = nested; idle_ms = 1000; drain_ms = 0; depth = 2 } ∷ [])

abbrev after : PartState → List PartEvent → PartState
after p [] = p
after p (e ∷ es) = after (part_step owner p e).part es

abbrev reply_after : List PartEvent → PartEvent → PartReply
reply_after es e = (part_step owner (after fresh es) e).reply

abbrev marks_after : List PartEvent → PartEvent → List PartMark
marks_after es e = (part_step owner (after fresh es) e).marks

abbrev ask : ActorKey → PartEvent
ask k = events.Ask k None 5

abbrev shown : ℕ → ℕ → SeenStage → ReceiptState
shown version opened stage = record { member = a; part = 3; version = version; opened = opened; stage = stage }

-- a round of the first table, up to its unlock
abbrev updated : List PartEvent
updated = events.Lock 1 ∷ events.Update table_1 7 ∷ []

abbrev opened : List PartEvent
opened = updated ++ events.Unlock 1 ∷ []

new_part_draws_one : reply_after [] events.Draw ≡ replies.Drawn 1
new_part_draws_one = refl

-- ---- a part opens

locks : reply_after [] (events.Lock 1) ≡ replies.TableStep (shown 1 0 seen.Locked) true
locks = refl

locks_once : reply_after (events.Lock 1 ∷ []) (events.Lock 1) ≡ replies.TableStep (shown 1 0 seen.Locked) false
locks_once = refl

updates : reply_after (events.Lock 1 ∷ []) (events.Update table_1 7) ≡ replies.TableStep (shown 1 0 seen.Drained) true
updates = refl

opens : reply_after updated (events.Unlock 1) ≡ replies.Opened (shown 1 1 seen.Open) 0 0
opens = refl

-- a table of another version is not installed, and another unlock opens nothing
other_table_stays : reply_after (events.Lock 2 ∷ []) (events.Update table_1 7) ≡ replies.TableStep (shown 2 0 seen.Locked) false
other_table_stays = refl

other_unlock_stays : reply_after (events.Lock 1 ∷ []) (events.Unlock 1) ≡ replies.TableStep (shown 1 0 seen.Locked) false
other_unlock_stays = refl

-- a waiting call begins when the part opens
waits_while_locked : reply_after [] (ask key) ≡ replies.Waits 1 1
waits_while_locked = refl

begins_at_opening : marks_after (ask key ∷ updated) (events.Unlock 1) ≡ PartOpened 3 1 ∷ BecameActive key 1 ∷ TurnBegan key 1 None ∷ []
begins_at_opening = refl

-- ---- calls

first_call_begins : reply_after opened (ask key) ≡ replies.Begun 1 None
first_call_begins = refl

second_call_waits : reply_after (opened ++ ask key ∷ []) (ask key) ≡ replies.Waits 2 1
second_call_waits = refl

turn_is_handed_over : marks_after (opened ++ ask key ∷ ask key ∷ []) (events.End 1 9) ≡ TurnEnded key 1 ∷ TurnBegan key 2 None ∷ []
turn_is_handed_over = refl

later_call_has_begun : reply_after (opened ++ ask key ∷ ask key ∷ events.End 1 9 ∷ []) (events.Poll 2) ≡ replies.Begun 2 None
later_call_has_begun = refl

ended_call_is_gone : reply_after (opened ++ ask key ∷ ask key ∷ events.End 1 9 ∷ []) (events.End 1 9) ≡ replies.AlreadyEnded
ended_call_is_gone = refl

caller_knows_more : reply_after opened (events.AskAt key None 2 5) ≡ replies.Behind 1
caller_knows_more = refl

-- a call without a chain gets one that names the part and its number
chain_is_made : made_chain a 3 17 ≡ codes "a.1.3.17"
unfolding digits
chain_is_made = refl

-- ---- an actor moves to another member

abbrev moving : List PartEvent
moving = opened ++ ask key ∷ ask key ∷ events.Lock 2 ∷ events.Update table_2 20 ∷ []

draining : reply_after (opened ++ ask key ∷ events.Lock 2 ∷ []) (events.Update table_2 20) ≡ replies.TableStep (shown 2 1 seen.Draining) true
draining = refl

is_not_drained : reply_after moving (events.Unlock 2) ≡ replies.NotDrained (shown 2 1 seen.Draining)
is_not_drained = refl

drain_time_runs : reply_after moving (events.Tick 60019) ≡ replies.Ticked (shown 2 1 seen.Draining) 0
drain_time_runs = refl

drain_time_is_over : ended_calls (marks_after moving (events.Tick 60020)) ≡ 1 ∷ []
drain_time_is_over = refl

-- without a drain time a turn ends at the next Tick, but at no moment before the table's
abbrev hurried : List PartEvent
hurried = opened ++ ask chained ∷ events.Lock 2 ∷ events.Update table_2 20 ∷ []

no_drain_time_is_over : ended_calls (marks_after hurried (events.Tick 20)) ≡ 1 ∷ []
no_drain_time_is_over = refl

clock_that_went_back_ends_none : reply_after hurried (events.Tick 19) ≡ replies.Ticked (shown 2 1 seen.Draining) 0
clock_that_went_back_ends_none = refl

foreign_actor_closes : reply_after (moving ++ events.End 1 21 ∷ []) (events.TakeClosing 21) ≡ replies.Close key
foreign_actor_closes = refl

is_drained_now : reply_after (moving ++ events.End 1 21 ∷ events.TakeClosing 21 ∷ events.Closed key ∷ []) (events.Tick 22) ≡ replies.Ticked (shown 2 1 seen.Drained) 0
is_drained_now = refl

-- the call that still waited is moved, and its poll says where to go
abbrev moved : List PartEvent
moved = moving ++ events.End 1 21 ∷ events.TakeClosing 21 ∷ events.Closed key ∷ events.Unlock 2 ∷ []

waiting_call_moves : reply_after (moving ++ events.End 1 21 ∷ events.TakeClosing 21 ∷ events.Closed key ∷ []) (events.Unlock 2) ≡ replies.Opened (shown 2 2 seen.Open) 0 1
waiting_call_moves = refl

moved_call_goes_elsewhere : reply_after moved (events.Poll 2) ≡ replies.Elsewhere 2 (host b)
moved_call_goes_elsewhere = refl

moved_call_is_polled_once : reply_after (moved ++ events.Poll 2 ∷ []) (events.Poll 2) ≡ replies.AlreadyEnded
moved_call_is_polled_once = refl

foreign_call_is_refused : reply_after moved (ask key) ≡ replies.Elsewhere 2 (host b)
foreign_call_is_refused = refl

-- ---- holds and deactivation

held_actor_stays : reply_after (opened ++ ask key ∷ events.Hold key ∷ events.End 1 9 ∷ []) (events.TakeClosing 9999999) ≡ replies.NoneClosing
held_actor_stays = refl

idle_actor_closes : reply_after (opened ++ ask key ∷ events.Hold key ∷ events.End 1 9 ∷ events.Release key 10 ∷ []) (events.TakeClosing 3600010) ≡ replies.Close key
idle_actor_closes = refl

idle_time_runs : reply_after (opened ++ ask key ∷ events.Hold key ∷ events.End 1 9 ∷ events.Release key 10 ∷ []) (events.TakeClosing 3600009) ≡ replies.NoneClosing
idle_time_runs = refl

-- a call of a closing actor waits, and begins when the deactivation is over
closing_then_active : marks_after (opened ++ ask key ∷ events.End 1 9 ∷ events.TakeClosing 3600009 ∷ ask key ∷ []) (events.Closed key)
    ≡ BecameInactive key ∷ BecameActive key 1 ∷ TurnBegan key 2 None ∷ []
closing_then_active = refl

least_key_closes_first : reply_after (opened ++ ask other ∷ ask key ∷ events.End 1 9 ∷ events.End 2 9 ∷ []) (events.TakeClosing 3600009) ≡ replies.Close key
least_key_closes_first = refl

-- ---- the part stops

stopping_ends_turns : marks_after (opened ++ ask other ∷ ask key ∷ []) events.StopPart ≡ TurnEnded key 2 ∷ BecameInactive key ∷ TurnEnded other 1 ∷ BecameInactive other ∷ []
stopping_ends_turns = refl

stopped_answers_receipt : reply_after (opened ++ events.StopPart ∷ []) events.StopPart ≡ replies.StoppedNow (shown 1 1 seen.Stopped)
stopped_answers_receipt = refl

stopped_answers_stopped : reply_after (opened ++ events.StopPart ∷ []) (ask key) ≡ replies.Stopped
stopped_answers_stopped = refl
