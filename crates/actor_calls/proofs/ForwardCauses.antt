-- Which entries a forwarded call makes, and what its answer goes back to, by the reply to its Begin.
use Rattle.std.proofs.Common.{refl, sym, ap, subst, inl, inr, ℕ, List, ◌++◌, Result, Ok, Err}
use Rattle.step_gate.specs.declared.gate.Spent.{Spent}
use Rattle.actor_names.specs.declared.address.Address.{Address}
use Rattle.http_edge.specs.declared.message.HttpRequest.{HttpRequest}
use Rattle.call_names.specs.declared.name.CallName.{CallName}
use Rattle.call_book.specs.declared.event.BookReply.{BookReply}
use Rattle.call_book.specs.declared.event.BookReply.TheVariants as book
use Rattle.actors_api.specs.declared.side.Side.{Side}
use Rattle.actors_api.specs.declared.reply.ApiReply.{ApiReply}
use Rattle.actors_api.specs.Responses.{response_of}
use Rattle.sidecar_node.specs.declared.node.SidecarNode.{SidecarNode}
use Rattle.sidecar_node.specs.declared.node.Seats.{Seats}
use Rattle.sidecar_node.specs.Entries.{NodeEntry, at_calls, one_entry}
use Rattle.sidecar_node.specs.Nodes.{part_at, host_of, SpentAtCalls}
use Rattle.exchanges.specs.Exchanges.{Exchange}
use Rattle.actor_calls.specs.declared.invoke.Invoke.{Invoke}
use Rattle.actor_calls.specs.Forwards.{begin_of, finish_of, known_answer, GoesOut, finish_answer}
use Rattle.actor_calls.specs.Serving.{IsNewServed, AfterBegin, IsForwardServed}
use Rattle.actor_calls.specs.ForwardCauses.{AreServed, AreBehind, AreForwardEntries, HasBegun, IsNewResponse, ForwardHasCause}
use Rattle.actor_calls.proofs.Causes.{invoked_entries, invoked_caused}

module _ (node : SidecarNode) (after : Seats) (app : Address) (side : Side) (request : HttpRequest) (call : CallName) (q : Invoke) (first last : ℕ) (xs ys : List Exchange) (answer : ApiReply) where
  -- ---- entries

  served_entries : (back : List NodeEntry) → IsNewServed node after app side request call q first last back xs ys answer → AreServed (part_at node q.actor) call q back
  served_entries back s = record {
    es = s.es;
    response = response_of side s.sent;
    said = s.said;
    entries = s.entries;
    calls = invoked_entries (part_at node q.actor) s.middle (host_of node).member app q request side first last s.es xs ys s.reply s.invoked;
  }

  behind_begin : (said : Result BookReply Spent) (back : List NodeEntry) → AfterBegin node after app side request call q said first last back xs ys answer → AreBehind (part_at node q.actor) call q said back
  behind_begin (Ok book.New) back a = served_entries back a
  behind_begin (Ok reply) back a = a.0.entries
  behind_begin (Err spent) back a = a.0.entries

  pub forward_entries : (ns : List NodeEntry) → IsForwardServed node after app side request call q first last ns xs ys answer → AreForwardEntries (part_at node q.actor) call q ns
  forward_entries ns s = record { said = s.said; back = s.back; entries = s.entries; behind = behind_begin s.said s.back s.follows }

  -- ---- causes

  abbrev Caused : List NodeEntry → ApiReply → Type 0
  Caused ns reply = ForwardHasCause (part_at node q.actor) after call side ns xs ys reply

  has_begun : (reply : BookReply) (back : List NodeEntry) → HasBegun call reply (at_calls (one_entry (begin_of call) (Ok reply)) ++ back)
  has_begun reply back = record { back = back; entries = refl }

  -- of an answer by the book alone
  known_caused : (reply : BookReply) (back : List NodeEntry) → Caused (at_calls (one_entry (begin_of call) (Ok reply)) ++ back) (known_answer reply)
  known_caused book.New back = tt
  known_caused book.Running back = has_begun book.Running back
  known_caused (book.Kept response) back = inl (has_begun (book.Kept response) back)
  known_caused (book.Gone status) back = has_begun (book.Gone status) back
  known_caused (book.TooOld floor) back = has_begun (book.TooOld floor) back
  known_caused (book.OldBoot greatest) back = has_begun (book.OldBoot greatest) back
  known_caused (book.LanesFull n) back = (n, has_begun (book.LanesFull n) back)
  known_caused (book.BookFull n) back = (n, has_begun (book.BookFull n) back)
  known_caused book.Finished back = tt
  known_caused book.NotBegun back = tt
  known_caused book.OutOfMemory back = tt

  module _ (back : List NodeEntry) (s : IsNewServed node after app side request call q first last back xs ys answer) where
    abbrev behind : List NodeEntry
    behind = at_calls (one_entry (finish_of call (response_of side s.sent)) s.said)

    abbrev front : List NodeEntry → List NodeEntry
    front ns = at_calls (one_entry (begin_of call) (Ok book.New)) ++ ns

    new_response : IsNewResponse (part_at node q.actor) after call side (front back) xs ys (response_of side s.reply)
    new_response = record {
      es = s.es;
      behind = behind;
      middle = s.middle;
      reply = s.reply;
      entries = ap (λ (ns : List NodeEntry). front ns) s.entries;
      cause = invoked_caused (part_at node q.actor) s.middle (host_of node).member app q request side first last s.es xs ys s.reply s.invoked;
      is = refl;
    }

    out_caused : (sent : ApiReply) → GoesOut side s.reply sent → Caused (at_calls (one_entry (begin_of call) (Ok book.New)) ++ back) sent
    out_caused sent (inl made) = subst (λ (r : ApiReply). Caused (front back) r) (sym made) (inr new_response)
    out_caused sent (inr none) = subst (λ (r : ApiReply). Caused (front back) r) (sym none) (has_begun book.New back)

  finish_caused : (ns : List NodeEntry) (said : Result BookReply Spent) (sent : ApiReply) → SpentAtCalls said after → Caused ns sent → Caused ns (finish_answer said sent)
  finish_caused ns (Ok reply) sent full c = c
  finish_caused ns (Err spent) sent full c = full.1

  new_caused : (back : List NodeEntry) → IsNewServed node after app side request call q first last back xs ys answer → Caused (at_calls (one_entry (begin_of call) (Ok book.New)) ++ back) answer
  new_caused back s =
      let ns = at_calls (one_entry (begin_of call) (Ok book.New)) ++ back in
      subst (λ (r : ApiReply). Caused ns r) (sym s.answered) (finish_caused ns s.said s.sent s.full (out_caused back s s.sent s.goes_out))

  by_reply : (reply : BookReply) (back : List NodeEntry) → AfterBegin node after app side request call q (Ok reply) first last back xs ys answer → Caused (at_calls (one_entry (begin_of call) (Ok reply)) ++ back) answer
  by_reply book.New back a = new_caused back a
  by_reply reply back a = subst (λ (r : ApiReply). Caused (at_calls (one_entry (begin_of call) (Ok reply)) ++ back) r) (sym a.1) (known_caused reply back)

  by_begin : (said : Result BookReply Spent) (back : List NodeEntry) → SpentAtCalls said after → AfterBegin node after app side request call q said first last back xs ys answer → Caused (at_calls (one_entry (begin_of call) said) ++ back) answer
  by_begin (Ok reply) back full a = by_reply reply back a
  by_begin (Err spent) back full a = subst (λ (r : ApiReply). Caused (at_calls (one_entry (begin_of call) (Err spent)) ++ back) r) (sym a.1) full.1

  pub forward_caused : (ns : List NodeEntry) → IsForwardServed node after app side request call q first last ns xs ys answer → ForwardHasCause (part_at node q.actor) after call side ns xs ys answer
  forward_caused ns s = subst (λ (l : List NodeEntry). Caused l answer) (sym s.entries) (by_begin s.said s.back s.full s.follows)
