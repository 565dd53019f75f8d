-- Calls in the order in which they began. Own.
use Rattle.std.specs.Prelude.{ℕ, Bool, true, false, not, nat_lt, if◌then◌else◌, List, [], ◌∷◌, length, filter, map, Option, None, Some}
use Rattle.std.specs.declared.cmp.Ordering.{Ordering}
use Rattle.std.specs.Ordering.{nat_cmp, ordering_then, is_eq}
use Rattle.lists_and_limits.specs.Lists.{found}
use Rattle.http_edge.specs.declared.message.HttpResponse.{HttpResponse}
use Rattle.call_book.specs.declared.lane.LaneName.{LaneName}
use Rattle.call_book.specs.declared.entry.CallStage.{CallStage}
use Rattle.call_book.specs.declared.entry.CallStage.TheVariants as stages
use Rattle.call_book.specs.declared.entry.CallEntry.{CallEntry}
use Rattle.call_book.specs.Lanes.{lane_cmp}

-- ---- one call

-- done with this response, of which a body of more than 65,536 bytes isn't kept
abbrev pub stage_of : HttpResponse → CallStage
stage_of response = if nat_lt 65536 (length response.body) then stages.Gone response.status else stages.Kept response

abbrev pub is_done : CallStage → Bool
is_done stages.Running = false
is_done (stages.Kept response) = true
is_done (stages.Gone status) = true

-- how a call compares with a lane and a number: by lane, then by number
abbrev pub at_call : LaneName → ℕ → CallEntry → Ordering
at_call name number e = ordering_then (lane_cmp e.lane name) (nat_cmp e.number number)

abbrev pub is_at : LaneName → ℕ → CallEntry → Bool
is_at name number e = is_eq (at_call name number e)

abbrev pub is_in : LaneName → CallEntry → Bool
is_in name e = is_eq (lane_cmp e.lane name)

-- a call that begins now
abbrev pub new_entry : LaneName → ℕ → CallEntry
new_entry name number = record { lane = name; number = number; stage = stages.Running }

-- ---- the calls of a book

-- the call of a lane and a number
abbrev pub entry_at : LaneName → ℕ → List CallEntry → Option CallEntry
entry_at name number entries = found (at_call name number) entries

abbrev pub without_call : LaneName → ℕ → List CallEntry → List CallEntry
without_call name number entries = filter (λ e. not (is_at name number e)) entries

abbrev pub without_lane : LaneName → List CallEntry → List CallEntry
without_lane name entries = filter (λ e. not (is_in name e)) entries

-- the call that began first of those that are done
abbrev pub first_done : List CallEntry → Option CallEntry
first_done [] = None
first_done (e ∷ entries) = if is_done e.stage then Some e else first_done entries

-- a call that is at this stage now, if it is the one of this lane and number
abbrev pub at_stage : LaneName → ℕ → CallStage → CallEntry → CallEntry
at_stage name number stage e = if is_at name number e then record e { stage = stage } else e

abbrev pub with_stage : LaneName → ℕ → CallStage → List CallEntry → List CallEntry
with_stage name number stage entries = map (at_stage name number stage) entries
