-- The messages of a node fit frames.
use Rattle.std.proofs.Common.{◌≡◌, ℕ, ◌<◌, ◌≤◌, Bool, true, false, cond, List, [], ◌∷◌, length, Option, Some, None, Result, Ok, Err, refl, sym, ap, ◌∙◌, subst, arith}
use Rattle.std.specs.Prelude.{bytes_eq, nat_le, ◌==◌, unwrap_or, IfOk}
use Rattle.std.specs.List.{AllByRecursion}
use Rattle.std.specs.Cmp.Lexicographic.{slice_cmp}
use Rattle.std.specs.Ordering.{nat_cmp, is_lt}
use Rattle.std.proofs.lemmas.Bool.{le-leb, cond_both}
use Rattle.std.proofs.lemmas.Slice.Eq.{bytes_eq-Decides}
use Rattle.actor_names.specs.Names.{default_space}
use Rattle.actor_names.specs.declared.member.Member.{Member}
use Rattle.place_table.specs.declared.host.HostInfo.{HostInfo}
use Rattle.place_table.specs.declared.ack_stage.AckStage.TheVariants as stages
use Rattle.member_roster.specs.declared.book.Known.{Known}
use Rattle.member_roster.specs.Members.{Joined, joined_node, greatest_boot, of_node, is_here, is_pending}
use Rattle.member_roster.specs.Places.{IsBelowAll, Ascends, host_node}
use Rattle.round_core.specs.declared.event.PlaceEvent.{PlaceEvent}
use Rattle.round_core.specs.declared.event.PlaceEvent.TheVariants as events
use Rattle.round_core.specs.declared.event.PlaceReply.{PlaceReply}
use Rattle.round_core.specs.declared.event.PlaceReply.TheVariants as replies
use Rattle.round_core.specs.declared.phase.RoundPhase.{RoundPhase}
use Rattle.round_core.specs.declared.phase.RoundPhase.TheVariants.{Quiet, Running}
use Rattle.round_core.specs.Room.{RoomState, new_room, Conclusion, Stays, Says, Tells, last_version, settle_round, phase_reply, reply_for, conclude, not_member, join_free, join_node, register, apply_membership, is_full, room_step}
use Rattle.wire_fields.specs.Fields.{AllFit, byte, number16, number64}
use Rattle.wire_fields.specs.Parts.{space_name, counter, small, node_place, member_after, host_after, host_behind, place_follows, hosts}
use Rattle.frame_wire.specs.declared.refusal.Refusal.{Refusal}
use Rattle.frame_wire.specs.declared.refusal.Refusal.TheVariants as refusals
use Rattle.frame_wire.specs.declared.frame.Frame.TheVariants as frames
use Rattle.frame_wire.specs.Frames.{payload}
use Rattle.frame_wire.specs.Refusals.{refusal}
use Rattle.placement_payloads.specs.Payloads.{local_place, local_app, local_host}
use Rattle.placement_core.specs.Placement.{PlacementState, most_spaces, room_at, room_of, refused, room_stepped, in_room, joins_room, placement_step}
use Rattle.placement_node.specs.Ranges.{EventFits, RoomFits, StateFits, NumbersFit, ReplyFits}
use Rattle.placement_node.specs.declared.reply.NodeReply.{NodeReply}
use Rattle.placement_node.specs.Replies.{event_space, reply_of}
use Rattle.placement_node.proofs.Rooms.{at_fits}
use Rattle.placement_node.proofs.Fits.{host_is_local, member_is_local, new_fits, host_boot, IsOf, BootFits, counter_small, counter_most, settle_fits, EventIn, apply_fits}

-- ---- numbers

pub small_fits : (n : ℕ) → n ≤ 4294967295 → small.Fits n
unfolding small number64
small_fits n few = (omega arith, le-leb n 4294967295 few)

greatest_fits : (ks : List Known) (node : List ℕ) → AllByRecursion BootFits ks → counter.Fits (greatest_boot ks node)
greatest_fits [] node all = counter_small 0 (omega arith)
greatest_fits (k ∷ ks) node all = cond_both (bytes_eq node k.node) k.greatest (greatest_boot ks node) counter.Fits (λ e. all.0) (λ e. greatest_fits ks node all.1)

node_boot : (space : List ℕ) (js : List Joined) (node : List ℕ) (j : Joined) → AllByRecursion (IsOf space) js → of_node js node ≡ Some j → counter.Fits j.host.member.boot
node_boot space [] node j all is = absurd cc
node_boot space (x ∷ js) node j all is = go (node_boot space js node j all.1) (bytes_eq node (joined_node x)) is
  where
    go : (of_node js node ≡ Some j → counter.Fits j.host.member.boot) → (b : Bool) → cond b (Some x) (of_node js node) ≡ Some j → counter.Fits j.host.member.boot
    go ih true is = let same : x ≡ j = cc in subst (λ (y : Joined). counter.Fits y.host.member.boot) same (host_boot space x.host all.0)
    go ih false is = ih is

version_fits : (space : List ℕ) (s : RoomState) → RoomFits space s → counter.Fits (last_version s)
version_fits space s fits = let most = counter_most s.next_version fits.version in counter_small (last_version s) (omega arith)

phase_fits : (phase : RoundPhase) (version : ℕ) → counter.Fits version → NumbersFit (phase_reply phase version)
phase_fits Quiet version fits = tt
phase_fits (Running stages.Lock) version fits = fits
phase_fits (Running stages.Update) version fits = fits
phase_fits (Running stages.Unlock) version fits = fits

told_fits : (space : List ℕ) (s : RoomState) (m : Member) → RoomFits space s → NumbersFit (reply_for s m)
told_fits space s m fits = cond_both (is_pending s.members m) (phase_reply s.phase (last_version s)) replies.Idle NumbersFit
    (λ e. phase_fits s.phase (last_version s) (version_fits space s fits))
    (λ e. tt)

-- a conclusion that says a reply has one whose numbers fit
abbrev SaysFit : Conclusion → Type 0
SaysFit (Stays reply) = NumbersFit reply
SaysFit (Says reply) = NumbersFit reply
SaysFit (Tells m) = Unit {0}

concludes_fit : (space : List ℕ) (s : RoomState) (c : Conclusion) → RoomFits space s → SaysFit c → NumbersFit (conclude s c).reply
concludes_fit space s (Stays reply) fits says = says
concludes_fit space s (Says reply) fits says = says
concludes_fit space s (Tells m) fits says = told_fits space (settle_round s) m (settle_fits space s fits)

module _ (space : List ℕ) (s : RoomState) (fits : RoomFits space s) where
  stranger_says : (m : Member) → SaysFit (not_member s m).conclusion
  stranger_says m = greatest_fits s.boots m.node fits.boots

  full_says : (h : HostInfo) (now : ℕ) (b : Bool) → is_full s h.member.node ≡ b → SaysFit (join_free s h now).conclusion
  full_says h now true is = rw is (small_fits (length s.members) (omega (arith, fits.few)))
  full_says h now false is = rw is tt

  node_says : (h : HostInfo) (now : ℕ) (o : Option Joined) → of_node s.members h.member.node ≡ o → SaysFit (join_node s h now o).conclusion
  node_says h now (Some j) is = node_boot space s.members h.member.node j fits.members is
  node_says h now None is = full_says h now (is_full s h.member.node) refl

  register_says : (h : HostInfo) (now : ℕ) (a b : Bool) → is_here s.members h.member ≡ a → nat_le h.member.boot (greatest_boot s.boots h.member.node) ≡ b → SaysFit (register s h now).conclusion
  register_says h now true b here stale = rw here tt
  register_says h now false true here stale = rw (here, stale) (greatest_fits s.boots h.member.node fits.boots)
  register_says h now false false here stale = rw (here, stale) (node_says h now (of_node s.members h.member.node) refl)

  apply_says : (event : PlaceEvent) (now : ℕ) → SaysFit (apply_membership s event now).conclusion
  apply_says (events.Register h) now = register_says h now (is_here s.members h.member) (nat_le h.member.boot (greatest_boot s.boots h.member.node)) refl refl
  apply_says (events.Beat m) now = go (is_here s.members m) refl
    where
      go : (b : Bool) → is_here s.members m ≡ b → SaysFit (apply_membership s (events.Beat m) now).conclusion
      go true is = rw is tt
      go false is = rw is (stranger_says m)
  apply_says (events.Ack m stage version) now = go (is_here s.members m) refl
    where
      go : (b : Bool) → is_here s.members m ≡ b → SaysFit (apply_membership s (events.Ack m stage version) now).conclusion
      go true is = rw is tt
      go false is = rw is (stranger_says m)
  apply_says (events.Leave m) now = go (is_here s.members m) refl
    where
      go : (b : Bool) → is_here s.members m ≡ b → SaysFit (apply_membership s (events.Leave m) now).conclusion
      go true is = rw is tt
      go false is = rw is (stranger_says m)
  apply_says (events.Lost m) now = go (is_here s.members m) refl
    where
      go : (b : Bool) → is_here s.members m ≡ b → SaysFit (apply_membership s (events.Lost m) now).conclusion
      go true is = rw is tt
      go false is = rw is (stranger_says m)
  apply_says events.Tick now = tt
  apply_says events.Look now = tt

  pub room_numbers : (event : PlaceEvent) (now : ℕ) → EventIn space event → NumbersFit (room_step s event now).reply
  room_numbers event now here = let change = apply_membership s event now in concludes_fit space change.state change.conclusion (apply_fits space s fits event now here).room (apply_says event now)

-- ---- the hosts of a table

host_follows : (space : List ℕ) (before : Option Member) (h : HostInfo) → space_name.Fits space → (local_host space).Fits h → place_follows before (h.member.space, h.member.node) ≡ true → (host_after before).Fits h
unfolding host_after member_after node_place local_host local_app local_place
host_follows space before h named fits follows =
    let here : space_name.Fits h.member.space = subst space_name.Fits (sym fits.1) named in
    ((((here, fits.0.0.0), follows), fits.0.0.1), fits.0.1)

local_space : (space : List ℕ) (h : HostInfo) → (local_host space).Fits h → h.member.space ≡ space
unfolding local_host
local_space space h fits = fits.1

-- the nodes behind this one ascend
rows_fit : (space : List ℕ) (before : HostInfo) (hs : List HostInfo) → space_name.Fits space → before.member.space ≡ space → IsBelowAll host_node before.member.node hs → Ascends host_node hs → AllByRecursion (local_host space).Fits hs → AllFit host_behind (Some before) hs
rows_fit space before [] named of_space below ascends all = tt
rows_fit space before (h ∷ hs) named of_space below ascends all =
    let in_space = local_space space h all.0 in
    let later : is_lt (slice_cmp nat_cmp before.member.node h.member.node) ≡ true = ap is_lt below.0 in
    let same : bytes_eq before.member.space h.member.space ≡ true = (bytes_eq-Decides before.member.space h.member.space).1 (of_space ∙ sym in_space) in
    (host_follows space (Some before.member) h named all.0 (rw (later, same) refl), rows_fit space h hs named in_space ascends.0 ascends.1 all.1)

pub hosts_fit : (space : List ℕ) (hs : List HostInfo) → space_name.Fits space → Ascends host_node hs → AllByRecursion (local_host space).Fits hs → length hs ≤ 256 → hosts.Fits hs
unfolding hosts number16
hosts_fit space [] named ascends all few = ((omega arith, refl), tt)
hosts_fit space (h ∷ hs) named ascends all few = ((omega (arith, few), le-leb (length (h ∷ hs)) 256 few), (host_follows space None h named all.0 refl, rows_fit space h hs named (local_space space h all.0) ascends.0 ascends.1 all.1))

-- ---- messages

pub refusal_sent : (r : Refusal) → refusal.Fits r → payload.Fits (frames.Refused r)
unfolding payload
refusal_sent r fits = fits

-- ---- the replies of a placement

in_numbers : (s : PlacementState) (space : List ℕ) (event : PlaceEvent) (now : ℕ) → EventIn space event → StateFits s → NumbersFit (in_room s space event now (room_at s.rooms space)).reply
in_numbers s space event now here fits = go (room_at s.rooms space) refl
  where
    go : (o : Option RoomState) → room_at s.rooms space ≡ o → NumbersFit (in_room s space event now o).reply
    go None is = counter_small 0 (omega arith)
    go (Some room) is = room_numbers space room (at_fits s.rooms space room fits is) event now here

joins_numbers : (s : PlacementState) (h : HostInfo) (now : ℕ) → (local_host h.member.space).Fits h → StateFits s → length s.rooms ≤ 64 → NumbersFit (joins_room s h now (room_at s.rooms h.member.space)).reply
joins_numbers s h now here fits few = go (room_at s.rooms h.member.space) refl
  where
    made : (b c : Bool) → NumbersFit (cond b (refused s (replies.SpacesFull (length s.rooms))) (cond c (refused s (replies.StaleBoot 0)) (room_stepped s h.member.space (room_step new_room (events.Register h) now)))).reply
    made true c = small_fits (length s.rooms) (omega arith)
    made false true = counter_small 0 (omega arith)
    made false false = room_numbers h.member.space new_room (new_fits h.member.space) (events.Register h) now here

    go : (o : Option RoomState) → room_at s.rooms h.member.space ≡ o → NumbersFit (joins_room s h now o).reply
    go None is = made (nat_le most_spaces (length s.rooms)) (h.member.boot == 0)
    go (Some room) is = room_numbers h.member.space room (at_fits s.rooms h.member.space room fits is) (events.Register h) now here

pub numbers_fit : (s : PlacementState) (event : PlaceEvent) (now : ℕ) → EventFits event → StateFits s → length s.rooms ≤ 64 → NumbersFit (placement_step s event now).reply
numbers_fit s (events.Register h) now event fits few = joins_numbers s h now (host_is_local h event).1 fits few
numbers_fit s (events.Beat m) now event fits few = in_numbers s m.space (events.Beat m) now tt fits
numbers_fit s (events.Ack m stage version) now event fits few = in_numbers s m.space (events.Ack m stage version) now tt fits
numbers_fit s (events.Leave m) now event fits few = in_numbers s m.space (events.Leave m) now (member_is_local m event).1 fits
numbers_fit s (events.Lost m) now event fits few = in_numbers s m.space (events.Lost m) now (member_is_local m event).1 fits
numbers_fit s events.Tick now event fits few = tt
numbers_fit s events.Look now event fits few = tt

pub default_named : space_name.Fits default_space
unfolding space_name byte
default_named = (omega arith, refl)

-- the space that an event is about
pub event_named : (event : PlaceEvent) → EventFits event → space_name.Fits (event_space event)
event_named (events.Register h) event = (host_is_local h event).0
event_named (events.Beat m) event = (member_is_local m event).0
event_named (events.Ack m stage version) event = (member_is_local m event).0
event_named (events.Leave m) event = (member_is_local m event).0
event_named (events.Lost m) event = (member_is_local m event).0
event_named events.Tick event = default_named
event_named events.Look event = default_named

-- the table of a space
table_fits : (s : PlacementState) (space : List ℕ) → StateFits s → AllByRecursion (local_host space).Fits (room_of s space).table × (length (room_of s space).table ≤ 256)
table_fits s space fits = go (room_at s.rooms space) refl
  where
    go : (o : Option RoomState) → room_at s.rooms space ≡ o → AllByRecursion (local_host space).Fits (unwrap_or o new_room).table × (length (unwrap_or o new_room).table ≤ 256)
    go None is = (tt, omega arith)
    go (Some room) is = let here = at_fits s.rooms space room fits is in (here.table, here.few_hosts)

pub update_sent : (s : PlacementState) (space : List ℕ) (version : ℕ) → StateFits s → space_name.Fits space → counter.Fits version → Ascends host_node (room_of s space).table → payload.Fits (frames.Update version (room_of s space).table)
unfolding payload
update_sent s space version fits named number ascends = let table = table_fits s space fits in (number, hosts_fit space (room_of s space).table named ascends table.0 table.1)

-- refusals that the node adds
pub reopen_sent : payload.Fits (frames.Refused refusals.Reopen)
unfolding payload refusal number64
reopen_sent = (omega arith, refl)

pub fault_sent : payload.Fits (frames.Refused refusals.DiskFault)
unfolding payload refusal number64
fault_sent = (omega arith, refl)

pub memory_sent : payload.Fits (frames.Refused refusals.OutOfMemory)
unfolding payload refusal number64
memory_sent = (omega arith, refl)

pub full_sent : (len : ℕ) → len < 18446744073709551616 → payload.Fits (frames.Refused (refusals.JournalFull len))
unfolding payload refusal number64
full_sent len few = omega arith

-- a reply of the placement
reply_sent : (s : PlacementState) (space : List ℕ) (reply : PlaceReply) → space_name.Fits space → StateFits s → NumbersFit reply → Ascends host_node (room_of s space).table → ReplyFits (reply_of s space reply)
unfolding payload refusal
reply_sent s space (replies.Lock version) named kept number order = number
reply_sent s space (replies.Update version) named kept number order = update_sent s space version kept named number order
reply_sent s space (replies.Unlock version) named kept number order = number
reply_sent s space replies.Idle named kept number order = tt
reply_sent s space replies.Gone named kept number order = tt
reply_sent s space (replies.Ticked dropped) named kept number order = tt
reply_sent s space replies.Looked named kept number order = tt
reply_sent s space (replies.StaleBoot greatest) named kept number order = number
reply_sent s space (replies.NodeBusy at) named kept number order = number
reply_sent s space (replies.NotMember greatest) named kept number order = number
reply_sent s space (replies.SpacesFull spaces) named kept number order = number
reply_sent s space (replies.Full members nodes) named kept number order = number
reply_sent s space replies.OutOfMemory named kept number order = memory_sent

pub given_sent : {E : Type 0} (s : PlacementState) (space : List ℕ) (reply : PlaceReply) (result : Result NodeReply E) → space_name.Fits space → StateFits s → NumbersFit reply → Ascends host_node (room_of s space).table → IfOk result (λ a. a ≡ reply_of s space reply) → IfOk result ReplyFits
given_sent s space reply (Ok a) named kept number order is = subst ReplyFits (sym is) (reply_sent s space reply named kept number order)
given_sent s space reply (Err e) named kept number order is = tt
