-- How turns end.
use Rattle.std.proofs.Common.{◌≡◌, ◌∙◌, ℕ, ◌≤◌, Bool, true, false, List, length, Option, Some, None, Result, Ok, Err, refl, sym, ap, subst, arith, inl, inr}
use Rattle.std.specs.Prelude.{OnOk}
use Rattle.actor_ports.specs.Traffic.{Traffic}
use Rattle.http_edge.specs.Carry.{Carried, nothing, Over}
use Rattle.http_edge.proofs.Carried.{over_nothing}
use Rattle.place_table.specs.declared.host.HostInfo.{HostInfo}
use Rattle.part_model.specs.declared.ack.Ack.{Ack}
use Rattle.member_core.specs.declared.ack.CollectError.{CollectError}
use Rattle.member_core.specs.Answers.{collect_answer}
use Rattle.part_model.specs.Receipts.{ReceiptState}
use Rattle.part_model.specs.declared.event.PartEvent.TheVariants as events
use Rattle.frame_wire.specs.declared.frame.Frame.{Frame}
use Rattle.frame_wire.specs.declared.frame.Frame.TheVariants as frames
use Rattle.frame_wire.specs.declared.refusal.Refusal.{Refusal}
use Rattle.frame_wire.specs.declared.refusal.Refusal.TheVariants as refusals
use Rattle.step_gate.specs.declared.gate.Spent.{Spent}
use Rattle.frame_wire.specs.Frames.{frame_bytes, IsFrame}
use Rattle.exchanges.specs.declared.frame_end.FrameEnd.{FrameEnd}
use Rattle.exchanges.specs.declared.frame_end.FrameEnd.TheVariants as fails
use Rattle.exchanges.specs.FrameExchanges.{ExchangesFrame, EndCause}
use Rattle.sidecar_node.specs.declared.node.SidecarNode.{SidecarNode}
use Rattle.sidecar_node.specs.declared.node.Seats.{Seats}
use Rattle.sidecar_node.specs.declared.rounds.RoundEvent.{RoundEvent}
use Rattle.sidecar_node.specs.declared.rounds.RoundEvent.TheVariants as rounds
use Rattle.place_table.specs.Hosts.{PlacementTable}
use Rattle.sidecar_node.specs.Turns.{Said, first_spent}
use Rattle.sidecar_node.specs.Rounds.{part_event, MayWantMemory}
use Rattle.sidecar_node.specs.Nodes.{host_of, part_gates, GivesEach}
use Rattle.placement_beats.specs.declared.book.PlacementBook.{PlacementBook}
use Rattle.placement_beats.specs.declared.book.TurnEnd.{TurnEnd}
use Rattle.placement_beats.specs.declared.book.TurnEnd.TheVariants.{BadReply, OutOfMemory}
use Rattle.placement_beats.specs.declared.book.TurnEnd.TheVariants as ends
use Rattle.placement_beats.specs.Answers.{receipts_of, any_stopped, hindered, hindrance, end_or}
use Rattle.placement_beats.specs.Replies.{reply_fault, refused_end, reply_end, acked_after, IsTableOf, Orders}
use Rattle.placement_beats.specs.Beats.{heartbeat_frame, new_ack, failed_end, GivenEnd, GivesOrder, GivesOrNot, Obeys, Hears, AfterTicks, HeartbeatTurn, TurnCause, left_end, leave_end, AfterStops, LeaveTurn}

-- ---- what the parts are given

pub given : (whole : Bool) (parts : ℕ) (event : RoundEvent) (saids : List Said) (done end : TurnEnd)
    → (whole ≡ true → length saids ≡ parts) → (whole ≡ false → MayWantMemory event)
    → (whole ≡ true → end ≡ end_or (hindrance saids) done) → (whole ≡ false → end ≡ end_or (hindrance saids) OutOfMemory)
    → GivenEnd parts event saids done end
given true parts event saids done end each memory all some = inl (each refl, all refl)
given false parts event saids done end each memory all some = inr (memory refl, some refl)

pub gives_event : (whole : Bool) (parts : ℕ) (event : RoundEvent) (saids : List Said) (done end : TurnEnd) (before after : Seats)
    → GivesEach (part_event event) saids before after
    → (whole ≡ true → length saids ≡ parts) → (whole ≡ false → MayWantMemory event)
    → (whole ≡ true → end ≡ end_or (hindrance saids) done) → (whole ≡ false → end ≡ end_or (hindrance saids) OutOfMemory)
    → GivesOrNot parts (Some event) done before after end
gives_event whole parts event saids done end before after gives each memory all some = inr (saids, gives, given whole parts event saids done end each memory all some)

pub gives_order : (parts : ℕ) (order : Option RoundEvent) (event : RoundEvent) (done end : TurnEnd) (before after : Seats) → order ≡ Some event → GivesOrNot parts (Some event) done before after end → GivesOrNot parts order done before after end
gives_order parts order event done end before after is g = subst (λ (o : Option RoundEvent). GivesOrNot parts o done before after end) (sym is) g

pub gives_nothing : (parts : ℕ) (order : Option RoundEvent) (done end : TurnEnd) (seats : Seats) → order ≡ None → end ≡ done → GivesOrNot parts order done seats seats end
gives_nothing parts order done end seats is e = subst (λ (o : Option RoundEvent). GivesOrNot parts o done seats seats end) (sym is) (inr (refl, e))

pub obeys : (h : HostInfo) (node : SidecarNode) (parts : ℕ) (reply : Frame) (now : ℕ) (before after : Seats) (order : Option RoundEvent) (done end : TurnEnd)
    → h ≡ host_of node → Orders h.member.space now reply order → done ≡ reply_end reply → GivesOrNot parts order done before after end
    → Obeys (host_of node).member.space parts reply now before after end
obeys h node parts reply now before after order done end is o d g =
    let orders : Orders (host_of node).member.space now reply order = subst (λ (x : HostInfo). Orders x.member.space now reply order) is o in
    elim (subst (λ (e : TurnEnd). GivesOrNot parts order e before after end) d g) [
      | inl a ↦ inl a
      | inr b ↦ inr (order, orders, b)
    ]

-- a reply with no event for the parts
pub order_other : (space : List ℕ) (now : ℕ) (reply : Frame) → ((v : ℕ) → reply ≡ frames.Lock v → ⊥) → ((v : ℕ) (hs : List HostInfo) → reply ≡ frames.Update v hs → ⊥) → ((v : ℕ) → reply ≡ frames.Unlock v → ⊥) → Orders space now reply None
order_other space now (frames.Lock v) l u n = absurd (l v refl)
order_other space now (frames.Update v hs) l u n = absurd (u v hs refl)
order_other space now (frames.Unlock v) l u n = absurd (n v refl)
order_other space now reply l u n = refl

pub order_update : (space : List ℕ) (now : ℕ) (reply : Frame) (v : ℕ) (hs : List HostInfo) (table : PlacementTable) → reply ≡ frames.Update v hs → IsTableOf space v hs table → Orders space now reply (Some (rounds.Update table now))
order_update space now reply v hs table is t = subst (λ (f : Frame). Orders space now f (Some (rounds.Update table now))) (sym is) (table, t, refl)

pub heard_fault : (h : HostInfo) (node : SidecarNode) (parts : ℕ) (ack : Option Ack) (reply : Frame) (now : ℕ) (book : PlacementBook) (seats : Seats) (at : ℕ) → h ≡ host_of node → Some at ≡ reply_fault h.member.space reply
    → Hears (host_of node).member.space parts (reply_fault (host_of node).member.space reply) ack reply now book book seats seats (BadReply at)
heard_fault h node parts ack reply now book seats at is f =
    let fault : Some at ≡ reply_fault (host_of node).member.space reply = subst (λ (x : HostInfo). Some at ≡ reply_fault x.member.space reply) is f in
    subst (λ (x : Option ℕ). Hears (host_of node).member.space parts x ack reply now book book seats seats (BadReply at)) fault (refl, refl, refl)

pub heard_reply : (h : HostInfo) (node : SidecarNode) (parts : ℕ) (ack acked : Option Ack) (reply : Frame) (now : ℕ) (book : PlacementBook) (before after : Seats) (end : TurnEnd) → h ≡ host_of node → None ≡ reply_fault h.member.space reply
    → acked ≡ acked_after book.acked ack reply → Obeys (host_of node).member.space parts reply now before after end
    → Hears (host_of node).member.space parts (reply_fault (host_of node).member.space reply) ack reply now book (record { acked = acked; heard = now }) before after end
heard_reply h node parts ack acked reply now book before after end is f a o =
    let fault : None ≡ reply_fault (host_of node).member.space reply = subst (λ (x : HostInfo). None ≡ reply_fault x.member.space reply) is f in
    subst (λ (x : Option ℕ). Hears (host_of node).member.space parts x ack reply now book (record { acked = acked; heard = now }) before after end) fault
    (ap (λ (x : Option Ack). record { acked = x; heard = now }) a, o)

-- ---- one exchange

abbrev pub Exchange : HostInfo → Option Ack → Result (Option Ack) CollectError → Option Traffic → Option Traffic → Result Frame FrameEnd → Type 0
Exchange host acked answer t0 t1 got = (c : Carried) × Over t0 t1 c × ExchangesFrame (frame_bytes (heartbeat_frame host acked answer)) c t0 t1 got

abbrev pub Exchanged : List ℕ → Option Traffic → Option Traffic → Result Frame FrameEnd → Type 0
Exchanged text t0 t1 got = (c : Carried) × Over t0 t1 c × ExchangesFrame text c t0 t1 got

pub exchange_of : (h : HostInfo) (node : SidecarNode) (acked : Option Ack) (rs : List ReceiptState) (t0 t1 : Option Traffic) (got : Result Frame FrameEnd) → h ≡ host_of node
    → Exchange h acked (collect_answer h.member rs) t0 t1 got → Exchange (host_of node) acked (collect_answer (host_of node).member rs) t0 t1 got
exchange_of h node acked rs t0 t1 got is x = subst (λ (k : HostInfo). Exchange k acked (collect_answer k.member rs) t0 t1 got) is x

pub sent_of : (h : HostInfo) (node : SidecarNode) (ack acked : Option Ack) (rs : List ReceiptState) (got : Result Frame FrameEnd) → h ≡ host_of node
    → OnOk got (ack ≡ new_ack acked (collect_answer h.member rs)) → OnOk got (ack ≡ new_ack acked (collect_answer (host_of node).member rs))
sent_of h node ack acked rs got is x = subst (λ (k : HostInfo). OnOk got (ack ≡ new_ack acked (collect_answer k.member rs))) is x

pub exchange_text : (frame : Frame) (text slice : List ℕ) (t0 t1 : Option Traffic) (got : Result Frame FrameEnd) → slice ≡ text → text ≡ frame_bytes frame → Exchanged slice t0 t1 got → Exchanged (frame_bytes frame) t0 t1 got
exchange_text frame text slice t0 t1 got e f x = subst (λ (b : List ℕ). Exchanged b t0 t1 got) (e ∙ f) x

pub exchange_frame_of : (frame made : Frame) (t0 t1 : Option Traffic) (got : Result Frame FrameEnd) → made ≡ frame → Exchanged (frame_bytes made) t0 t1 got → Exchanged (frame_bytes frame) t0 t1 got
exchange_frame_of frame made t0 t1 got e x = subst (λ (f : Frame). Exchanged (frame_bytes f) t0 t1 got) e x

pub exchange_answer : (host : HostInfo) (acked : Option Ack) (a b : Result (Option Ack) CollectError) (t0 t1 : Option Traffic) (got : Result Frame FrameEnd) → a ≡ b → Exchange host acked a t0 t1 got → Exchange host acked b t0 t1 got
exchange_answer host acked a b t0 t1 got e x = subst (λ (r : Result (Option Ack) CollectError). Exchange host acked r t0 t1 got) e x

pub sent_answer : (acked : Option Ack) (a b : Result (Option Ack) CollectError) (ack : Option Ack) (got : Result Frame FrameEnd) → a ≡ b → OnOk got (ack ≡ new_ack acked a) → OnOk got (ack ≡ new_ack acked b)
sent_answer acked a b ack got e x = subst (λ (r : Result (Option Ack) CollectError). OnOk got (ack ≡ new_ack acked r)) e x

-- memory ran out before anything was written
pub no_exchange : (text : List ℕ) (t : Option Traffic) → (c : Carried) × Over t t c × ExchangesFrame text c t t (Err fails.OutOfMemory)
no_exchange text t = (nothing, over_nothing t, (record { count = 0; is = refl }, inr refl))

pub is_frame : (text : List ℕ) (t0 t1 : Option Traffic) (got : Result Frame FrameEnd) (reply : Frame) → got ≡ Ok reply → ((c : Carried) × Over t0 t1 c × ExchangesFrame text c t0 t1 got) → IsFrame reply
is_frame text t0 t1 got reply is x =
    let y : (c : Carried) × Over t0 t1 c × ExchangesFrame text c t0 t1 (Ok reply) = subst (λ (g : Result Frame FrameEnd). (c : Carried) × Over t0 t1 c × ExchangesFrame text c t0 t1 g) is x in
    y.2.1.0

pub after_err : (host : HostInfo) (parts : ℕ) (ticks : List Said) (now : ℕ) (book : PlacementBook) (seats : Seats) (t0 t1 : Option Traffic) (got : Result Frame FrameEnd) (e : FrameEnd) (end : TurnEnd)
    → got ≡ Err e → Exchange host book.acked (collect_answer host.member (receipts_of ticks)) t0 t1 got → end ≡ failed_end e → AfterTicks None host parts ticks now book book seats seats t0 t1 end
after_err host parts ticks now book seats t0 t1 got e end is x f =
    let y : Exchange host book.acked (collect_answer host.member (receipts_of ticks)) t0 t1 (Err e) = subst (λ (g : Result Frame FrameEnd). Exchange host book.acked (collect_answer host.member (receipts_of ticks)) t0 t1 g) is x in
    record { carried = y.0; got = Err e; over = y.1; exchanges = y.2; follows = (refl, refl, f) }

pub after_ok : (host : HostInfo) (parts : ℕ) (ticks : List Said) (now : ℕ) (book new : PlacementBook) (before after : Seats) (t0 t1 : Option Traffic) (got : Result Frame FrameEnd) (ack : Option Ack) (reply : Frame) (end : TurnEnd)
    → got ≡ Ok reply → Exchange host book.acked (collect_answer host.member (receipts_of ticks)) t0 t1 got
    → OnOk got (ack ≡ new_ack book.acked (collect_answer host.member (receipts_of ticks)))
    → Hears host.member.space parts (reply_fault host.member.space reply) ack reply now book new before after end
    → AfterTicks None host parts ticks now book new before after t0 t1 end
after_ok host parts ticks now book new before after t0 t1 got ack reply end is x sent h =
    let answer : Result (Option Ack) CollectError = collect_answer host.member (receipts_of ticks) in
    let y : Exchange host book.acked answer t0 t1 (Ok reply) = subst (λ (g : Result Frame FrameEnd). Exchange host book.acked answer t0 t1 g) is x in
    let same : ack ≡ new_ack book.acked answer = subst (λ (g : Result Frame FrameEnd). OnOk g (ack ≡ new_ack book.acked answer)) is sent in
    record {
      carried = y.0;
      got = Ok reply;
      over = y.1;
      exchanges = y.2;
      follows = subst (λ (a : Option Ack). Hears host.member.space parts (reply_fault host.member.space reply) a reply now book new before after end) same h;
    }

-- ---- a whole turn

pub goes_hindered : (host : HostInfo) (parts : ℕ) (ticks : List Said) (now : ℕ) (book : PlacementBook) (seats : Seats) (t : Option Traffic) (end : TurnEnd)
    → Some end ≡ hindrance ticks → AfterTicks (hindrance ticks) host parts ticks now book book seats seats t t end
goes_hindered host parts ticks now book seats t end is = subst (λ (h : Option TurnEnd). AfterTicks h host parts ticks now book book seats seats t t end) is (refl, refl, over_nothing t, refl)

pub goes_on : (host : HostInfo) (parts : ℕ) (ticks : List Said) (now : ℕ) (book new : PlacementBook) (before after : Seats) (t0 t1 : Option Traffic) (end : TurnEnd)
    → None ≡ hindrance ticks → AfterTicks None host parts ticks now book new before after t0 t1 end → AfterTicks (hindrance ticks) host parts ticks now book new before after t0 t1 end
goes_on host parts ticks now book new before after t0 t1 end is h = subst (λ (x : Option TurnEnd). AfterTicks x host parts ticks now book new before after t0 t1 end) is h

-- a Tick takes no memory
pub tick_whole : (whole : Bool) (parts now : ℕ) (saids : List Said) → (whole ≡ true → length saids ≡ parts) → (whole ≡ false → MayWantMemory (rounds.Tick now)) → length saids ≡ parts
tick_whole true parts now saids each memory = each refl
tick_whole false parts now saids each memory = absurd (memory refl)

pub turn_done : (node : SidecarNode) (since shown ticked : ℕ) (book new : PlacementBook) (before mid after : Seats) (t0 t1 : Option Traffic) (end : TurnEnd) (ticks slice : List Said)
    → since ≤ ticked → ticked ≤ shown → GivesEach (events.Tick ticked) ticks before mid → length ticks ≡ length (part_gates node) → slice ≡ ticks
    → AfterTicks (hindrance slice) (host_of node) (length (part_gates node)) slice shown book new mid after t0 t1 end
    → HeartbeatTurn node since shown book new before after t0 t1 end
turn_done node since shown ticked book new before mid after t0 t1 end ticks slice late early gives each is h = record {
  ticked = ticked;
  late = late;
  early = early;
  ticks = ticks;
  mid = mid;
  gives = gives;
  each = each;
  goes_on = subst (λ (ts : List Said). AfterTicks (hindrance ts) (host_of node) (length (part_gates node)) ts shown book new mid after t0 t1 end) is h;
}

-- ---- leaving

pub stop_whole : (whole : Bool) (parts : ℕ) (saids : List Said) → (whole ≡ true → length saids ≡ parts) → (whole ≡ false → MayWantMemory rounds.StopPart) → length saids ≡ parts
stop_whole true parts saids each memory = each refl
stop_whole false parts saids each memory = absurd (memory refl)

pub stops_spent : (host : HostInfo) (stops : List Said) (t : Option Traffic) (spent : Spent) → Some spent ≡ first_spent stops → AfterStops (first_spent stops) host stops t t (ends.Spent spent.count)
stops_spent host stops t spent is = subst (λ (s : Option Spent). AfterStops s host stops t t (ends.Spent spent.count)) is (over_nothing t, refl)

pub stops_left : (host : HostInfo) (stops : List Said) (t0 t1 : Option Traffic) (end : TurnEnd) → None ≡ first_spent stops → AfterStops None host stops t0 t1 end → AfterStops (first_spent stops) host stops t0 t1 end
stops_left host stops t0 t1 end is h = subst (λ (s : Option Spent). AfterStops s host stops t0 t1 end) is h

pub leave_done : (h : HostInfo) (node : SidecarNode) (before after : Seats) (t0 t1 : Option Traffic) (end : TurnEnd) (stops slice : List Said)
    → h ≡ host_of node → GivesEach events.StopPart stops before after → length stops ≡ length (part_gates node) → slice ≡ stops
    → AfterStops (first_spent slice) h slice t0 t1 end → LeaveTurn node before after t0 t1 end
leave_done h node before after t0 t1 end stops slice host gives each is g = record {
  stops = stops;
  gives = gives;
  each = each;
  goes_on = subst (λ (x : HostInfo). AfterStops (first_spent stops) x stops t0 t1 end) host (subst (λ (ts : List Said). AfterStops (first_spent ts) h ts t0 t1 end) is g);
}

-- ---- causes

pub failed_cause : (x y : ℕ) (got : Result Frame FrameEnd) (e : FrameEnd) (end : TurnEnd) → got ≡ Err e → EndCause x y got → end ≡ failed_end e → TurnCause x y end
failed_cause x y got e end is h ends = subst (TurnCause x y) (sym ends) (go e (subst (λ (g : Result Frame FrameEnd). EndCause x y g) is h))
  where
    go : (e : FrameEnd) → EndCause {A = Frame} x y (Err e) → TurnCause x y (failed_end e)
    go (fails.NoFrame at) h = h
    go fails.ConnFault h = h
    go fails.OutOfMemory h = h

refused_calm : (r : Refusal) (x y : ℕ) → x ≤ y → TurnCause x y (refused_end r)
refused_calm (refusals.StaleBoot n) x y h = h
refused_calm (refusals.NodeBusy n) x y h = h
refused_calm (refusals.NotMember n) x y h = h
refused_calm (refusals.Full n) x y h = h
refused_calm refusals.DiskFault x y h = h
refused_calm refusals.Reopen x y h = h
refused_calm refusals.OutOfMemory x y h = h
refused_calm (refusals.JournalFull n) x y h = h
refused_calm (refusals.SpacesFull n) x y h = h

pub ok_calm : (x y : ℕ) (got : Result Frame FrameEnd) (reply : Frame) → got ≡ Ok reply → EndCause x y got → x ≤ y
ok_calm x y got reply is h = subst (λ (g : Result Frame FrameEnd). EndCause x y g) is h

pub reply_calm : (f : Frame) (x y : ℕ) → x ≤ y → TurnCause x y (reply_end f)
reply_calm (frames.Refused r) x y h = refused_calm r x y h
reply_calm f x y h = h

pub hindrance_calm : (saids : List Said) (end : TurnEnd) (x : ℕ) → Some end ≡ hindrance saids → TurnCause x x end
hindrance_calm saids end x is = go (first_spent saids) (any_stopped saids) is
  where
    same : x ≤ x
    same = omega arith

    go : (s : Option Spent) (t : Bool) → Some end ≡ hindered s t → TurnCause x x end
    go (Some spent) t e = let is : end ≡ ends.Spent spent.count = cc in subst (λ (n : TurnEnd). TurnCause x x n) (sym is) same
    go None true e = let is : end ≡ ends.Stopped = cc in subst (λ (n : TurnEnd). TurnCause x x n) (sym is) same
    go None false e = absurd (let h : ⊥ = cc in h)

pub hindered_calm : (s : Option Spent) (t : Bool) (done : TurnEnd) (x y : ℕ) → x ≤ y → TurnCause x y done → TurnCause x y (end_or (hindered s t) done)
hindered_calm (Some e) t done x y h d = h
hindered_calm None true done x y h d = h
hindered_calm None false done x y h d = d

given_calm : (parts : ℕ) (event : RoundEvent) (saids : List Said) (done end : TurnEnd) (x y : ℕ) → x ≤ y → TurnCause x y done → GivenEnd parts event saids done end → TurnCause x y end
given_calm parts event saids done end x y h d g = elim g [
  | inl a ↦ subst (λ (e : TurnEnd). TurnCause x y e) (sym a.1) (hindered_calm (first_spent saids) (any_stopped saids) done x y h d)
  | inr b ↦ subst (λ (e : TurnEnd). TurnCause x y e) (sym b.1) (hindered_calm (first_spent saids) (any_stopped saids) OutOfMemory x y h h)
]

order_calm : (parts : ℕ) (order : Option RoundEvent) (done : TurnEnd) (before after : Seats) (end : TurnEnd) (x y : ℕ) → x ≤ y → TurnCause x y done → GivesOrder parts order done before after end → TurnCause x y end
order_calm parts None done before after end x y h d g = subst (λ (e : TurnEnd). TurnCause x y e) (sym g.1) d
order_calm parts (Some event) done before after end x y h d g = given_calm parts event g.0 done end x y h d g.2

obeys_calm : (space : List ℕ) (parts : ℕ) (reply : Frame) (now : ℕ) (before after : Seats) (end : TurnEnd) (x y : ℕ) → x ≤ y → Obeys space parts reply now before after end → TurnCause x y end
obeys_calm space parts reply now before after end x y h o = elim o [
  | inl a ↦ subst (λ (e : TurnEnd). TurnCause x y e) (sym a.1) h
  | inr b ↦ order_calm parts b.0 (reply_end reply) before after end x y h (reply_calm reply x y h) b.2
]

-- no end by a reply is a fault of the connection
pub hears_calm : (space : List ℕ) (parts : ℕ) (fault : Option ℕ) (ack : Option Ack) (reply : Frame) (now : ℕ) (book new : PlacementBook) (before after : Seats) (end : TurnEnd) (x y : ℕ) → x ≤ y → Hears space parts fault ack reply now book new before after end → TurnCause x y end
hears_calm space parts (Some at) ack reply now book new before after end x y h o = subst (λ (e : TurnEnd). TurnCause x y e) (sym o.2) h
hears_calm space parts None ack reply now book new before after end x y h o = obeys_calm space parts reply now before after end x y h o.1

pub leave_cause : (space : List ℕ) (x y : ℕ) (got : Result Frame FrameEnd) (end : TurnEnd) → EndCause x y got → end ≡ leave_end space got → TurnCause x y end
leave_cause space x y got end h e = subst (λ (n : TurnEnd). TurnCause x y n) (sym e) (go got h)
  where
    left : (fault : Option ℕ) (reply : Frame) → x ≤ y → TurnCause x y (left_end fault reply)
    left (Some at) reply h = h
    left None reply h = reply_calm reply x y h

    go : (got : Result Frame FrameEnd) → EndCause x y got → TurnCause x y (leave_end space got)
    go (Ok reply) h = left (reply_fault space reply) reply h
    go (Err (fails.NoFrame at)) h = h
    go (Err fails.ConnFault) h = h
    go (Err fails.OutOfMemory) h = h
