-- What a timer's turn comes to: whether a call began, whether the application's connection failed, and what ends the
-- tick. Own.
use Rattle.std.specs.Prelude.{ℕ, ◌+◌, nat_lt, if◌then◌else◌, Bool, true, false, Option, Some, None, Ok, Err}
use Rattle.part_model.specs.Receipts.{PartReply}
use Rattle.part_model.specs.declared.event.Reply.TheVariants as replies
use Rattle.exchanges.specs.Replies.{Got}
use Rattle.sidecar_node.specs.Turns.{Said}
use Rattle.clock_turns.specs.declared.ends.TickEnd.{TickEnd}
use Rattle.clock_turns.specs.declared.ends.TickEnd.TheVariants as ends
use Rattle.clock_turns.specs.Closings.{BookSaid, is_fault, told_end}
use Rattle.clock_turns.specs.Timers.{Called, Run, Fired}

-- ---- what ends the tick: a gate that took no entry, then a part that has stopped, then want of memory

abbrev pub spent_or : BookSaid → Option TickEnd → Option TickEnd
spent_or (Err spent) end = Some (ends.Spent spent.count)
spent_or (Ok reply) end = end

-- want of memory for what was to be said to the application
abbrev pub got_end : Option Got → Option TickEnd
got_end None = None
got_end (Some got) = told_end got

abbrev pub over_end : Said → Option Got → Option TickEnd
over_end (Err spent) got = Some (ends.Spent spent.count)
over_end (Ok replies.Stopped) got = Some ends.Stopped
over_end (Ok reply) got = got_end got

abbrev pub called_end : Called → Option TickEnd
called_end c = spent_or c.again (over_end c.over c.got)

-- a turn that doesn't begin: any other refusal of its Ask ends that turn alone
abbrev pub refused_end : PartReply → Option TickEnd
refused_end (replies.Spent count) = Some (ends.Spent count)
refused_end replies.Stopped = Some ends.Stopped
refused_end replies.OutOfMemory = Some ends.OutOfMemory
refused_end reply = None

abbrev pub turn_end : Said → Option Called → Option TickEnd
turn_end (Err spent) called = Some (ends.Spent spent.count)
turn_end (Ok reply) None = refused_end reply
turn_end (Ok reply) (Some c) = called_end c

abbrev pub run_end : Option Run → Option TickEnd
run_end None = None
run_end (Some r) = spent_or r.done (turn_end r.turn.said r.turn.called)

abbrev pub timer_end : Fired → Option TickEnd
timer_end f = spent_or f.begun (run_end f.run)

-- ---- whether the application's connection failed

abbrev pub got_fault : Option Got → Bool
got_fault None = false
got_fault (Some got) = is_fault got

abbrev pub called_fault : Option Called → Bool
called_fault None = false
called_fault (Some c) = got_fault c.got

abbrev pub run_fault : Option Run → Bool
run_fault None = false
run_fault (Some r) = called_fault r.turn.called

-- ---- whether a call began

abbrev pub called_begun : Option Called → Bool
called_begun None = false
called_begun (Some c) = true

abbrev pub run_begun : Option Run → Bool
run_begun None = false
run_begun (Some r) = called_begun r.turn.called

-- one more, up to 4,294,967,295
abbrev pub one_more : ℕ → ℕ
one_more n = if nat_lt n 4294967295 then n + 1 else n

abbrev pub more_if : Bool → ℕ → ℕ
more_if true n = one_more n
more_if false n = n
