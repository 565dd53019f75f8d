-- The entries of served requests.
use Rattle.std.proofs.Common.{◌≡◌, sym, subst, ℕ, List, [], ◌∷◌, ◌++◌, Option, Some, None, Result, Ok, Err}
use Rattle.step_gate.specs.declared.gate.Spent.{Spent}
use Rattle.actor_names.specs.declared.actor_key.ActorKey.{ActorKey}
use Rattle.actor_names.specs.declared.address.Address.{Address}
use Rattle.actor_names.specs.declared.member.Member.{Member}
use Rattle.call_names.specs.declared.name.CallName.{CallName}
use Rattle.part_model.specs.declared.event.PartEvent.{PartEvent}
use Rattle.part_model.specs.declared.event.PartEvent.TheVariants as events
use Rattle.call_book.specs.declared.event.BookReply.{BookReply}
use Rattle.call_book.specs.declared.event.BookReply.TheVariants as book
use Rattle.http_edge.specs.declared.message.HttpRequest.{HttpRequest}
use Rattle.actors_api.specs.declared.command.ApiCommand.{ApiCommand}
use Rattle.actors_api.specs.declared.command.ApiCommand.TheVariants as commands
use Rattle.actors_api.specs.declared.refusal.ApiRefusal.{ApiRefusal}
use Rattle.actors_api.specs.declared.reply.ApiReply.{ApiReply}
use Rattle.actors_api.specs.declared.side.Side.{Side}
use Rattle.actors_api.specs.Responses.{response_of}
use Rattle.sidecar_node.specs.declared.node.SidecarNode.{SidecarNode}
use Rattle.sidecar_node.specs.declared.node.Seats.{Seats}
use Rattle.sidecar_node.specs.Entries.{PartEntry, CallsEntry, NodeEntry, OnPart, OnBook, OnCalls, at_part, at_calls, one_entry}
use Rattle.sidecar_node.specs.Nodes.{part_at}
use Rattle.exchanges.specs.Exchanges.{Exchange}
use Rattle.actor_calls.specs.declared.invoke.Invoke.{Invoke}
use Rattle.actor_calls.specs.Forwards.{begin_of, finish_of}
use Rattle.actor_calls.specs.Serving.{IsInvoked, IsCallAnswered, AfterBegin}
use Rattle.actor_calls.specs.Causes.{IsCallEvent, AreCallEntries}
use Rattle.sidecar_requests.specs.Causes.{actor_of, IsRecordEvent, AreRecordEntries}
use Rattle.sidecar_requests.specs.Requests.{FollowsReading, IsRequestServed}
use Rattle.sidecar_requests.specs.Events.{IsRequestEvent, AreRequestEntries}
use Rattle.sidecar_requests.proofs.Causes.{record_entries}

record_event : (actor : ActorKey) (event : PartEvent) → IsRecordEvent actor event → IsRequestEvent event
record_event actor (events.Hold key) h = tt
record_event actor (events.Release key now) h = tt
record_event actor events.Draw h = tt
record_event actor (events.Lock version) h = h
record_event actor event h = absurd h

records : (place : ℕ) (actor : ActorKey) (ns : List NodeEntry) → AreRecordEntries place actor ns → AreRequestEntries ns
records place actor [] h = tt
records place actor (OnPart part e ∷ ns) h = (record_event actor e.event h.0.1, records place actor ns h.1)
records place actor (OnBook book e ∷ ns) h = records place actor ns h.1
records place actor (OnCalls e ∷ ns) h = absurd h

call_event : (q : Invoke) (event : PartEvent) → IsCallEvent q event → IsRequestEvent event
call_event q (events.Ask key chain now) h = tt
call_event q (events.AskAt key chain least now) h = tt
call_event q (events.Poll call) h = tt
call_event q (events.End call now) h = tt
call_event q events.Draw h = tt
call_event q event h = absurd h

calls : (q : Invoke) (part : ℕ) (es : List PartEntry) → AreCallEntries q es → AreRequestEntries (at_part part es)
calls q part [] h = tt
calls q part (e ∷ es) h = (call_event q e.event h.0, calls q part es h.1)

book_calls : (es : List CallsEntry) → AreRequestEntries (at_calls es)
book_calls [] = tt
book_calls (e ∷ es) = book_calls es

both : (ms ns : List NodeEntry) → AreRequestEntries ms → AreRequestEntries ns → AreRequestEntries (ms ++ ns)
both [] ns a b = b
both (OnPart part e ∷ ms) ns a b = (a.0, both ms ns a.1 b)
both (OnBook book e ∷ ms) ns a b = both ms ns a b
both (OnCalls e ∷ ms) ns a b = both ms ns a b

none : (ns : List NodeEntry) → ns ≡ [] → AreRequestEntries ns
none ns e = subst AreRequestEntries (sym e) tt

-- what is known of the entries of a call on its actor's part
abbrev AreCalls : Type 0
AreCalls =
    (part : ℕ) (after : Seats) (me : Member) (app : Address) (q : Invoke) (request : HttpRequest) (side : Side) (first last : ℕ) (es : List PartEntry) (xs ys : List Exchange) (answer : ApiReply)
    → IsInvoked part after me app q request side first last es xs ys answer → AreCallEntries q es

module _ (invoked : AreCalls) (node : SidecarNode) (after : Seats) (app : Address) (side : Side) (request : HttpRequest) where
  begun : (call : CallName) (q : Invoke) (said : Result BookReply Spent) (first last : ℕ) (ns : List NodeEntry) (xs ys : List Exchange) (answer : ApiReply)
      → AfterBegin node after app side request call q said first last ns xs ys answer → AreRequestEntries ns
  begun call q (Ok book.New) first last ns xs ys answer h =
      subst AreRequestEntries (sym h.entries)
      (both (at_part (part_at node q.actor) h.es) (at_calls (one_entry (finish_of call (response_of side h.sent)) h.said)) (calls q (part_at node q.actor) h.es (invoked _ _ _ _ q _ _ _ _ h.es _ _ _ h.invoked)) (book_calls (one_entry (finish_of call (response_of side h.sent)) h.said)))
  begun call q (Ok reply) first last ns xs ys answer h = none ns h.0.entries
  begun call q (Err spent) first last ns xs ys answer h = none ns h.0.entries

  answered : (call : Option CallName) (q : Invoke) (first last : ℕ) (ns : List NodeEntry) (xs ys : List Exchange) (answer : ApiReply) → IsCallAnswered node after app side request call q first last ns xs ys answer → AreRequestEntries ns
  answered None q first last ns xs ys answer h = subst AreRequestEntries (sym h.entries) (calls q (part_at node q.actor) h.es (invoked _ _ _ _ q _ _ _ _ h.es _ _ _ h.invoked))
  answered (Some call) q first last ns xs ys answer h =
      subst AreRequestEntries (sym h.entries) (both (at_calls (one_entry (begin_of call) h.said)) h.back (book_calls (one_entry (begin_of call) h.said)) (begun call q h.said first last h.back xs ys answer h.follows))

  module _ (store : Address) where
    follows : (read : Result ApiCommand ApiRefusal) (first last : ℕ) (ns : List NodeEntry) (xs ys zs : List Exchange) (answer : ApiReply) → FollowsReading node app store side request after read first last ns xs ys zs answer → AreRequestEntries ns
    follows (Ok (commands.Invoke actor method chain least call)) first last ns xs ys zs answer h = answered call _ first last ns xs ys answer h.answered
    follows (Ok command) first last ns xs ys zs answer h = records (part_at node (actor_of command)) (actor_of command) ns (record_entries node store after command first last ns zs answer h.2)
    follows (Err refusal) first last ns xs ys zs answer h = none ns h.entries

    pub request_entries : (first last : ℕ) (ns : List NodeEntry) (xs ys zs : List Exchange) (answer : ApiReply) → IsRequestServed node app store side request after first last ns xs ys zs answer → AreRequestEntries ns
    request_entries first last ns xs ys zs answer h = follows h.read h.now last ns xs ys zs answer h.follows
