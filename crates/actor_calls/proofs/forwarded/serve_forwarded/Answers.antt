use Rattle.std.proofs.Common.{◌∙◌, refl, ap, subst, [], ◌++◌, Result, Ok, Err}
use Rattle.step_gate.specs.declared.gate.Spent.{Spent}
use Rattle.http_edge.specs.declared.message.HttpResponse.{HttpResponse}
use Rattle.call_book.specs.declared.event.BookEvent.{BookEvent}
use Rattle.call_book.specs.declared.event.BookReply.{BookReply}
use Rattle.actors_api.specs.Responses.{response_of}
use Rattle.sidecar_node.specs.Entries.{at_part, at_calls, one_entry}
use Rattle.sidecar_node.specs.Nodes.{part_at, ActsAtCalls}
use Rattle.sidecar_node.proofs.Actings.{acts_none, acts_then}
use Rattle.exchanges.proofs.Diallings.{none_made}
use Rattle.actor_calls.specs.Forwards.{begin_of, finish_of}
use Rattle.actor_calls.proofs.Forwards.{nothing, known_follows, forward_follows}
use Rattle.actor_calls.proofs.forwarded.serve_forwarded.Goals as goal

pub returns-in-Err-clause-served : goal.returns-in-Err-clause-served
returns-in-Err-clause-served g c =
    let said : Result BookReply Spent = Err c.in-Err.field-0 in
    let after = c.step_calls.new.seats in
    let entry = rw c.in-Err.is at c.step_calls.ensures.entry in
    let spent = rw c.in-Err.is at c.step_calls.ensures.spent in
    let begun = subst (λ (e : BookEvent). ActsAtCalls (one_entry e said) c.args.desk.now.seats after) c.begin_of.ensures entry in (
      at_calls (one_entry (begin_of c.args.call.now) said) ++ [],
      [],
      [],
      acts_then (at_calls (one_entry (begin_of c.args.call.now) said)) [] _ _ _ begun (acts_none after),
      none_made _ _,
      none_made _ _,
      forward_follows c.args.desk.now.node.now after c.args.desk.now.links.app_at c.args.side c.args.request.now c.args.call.now c.args.invoke.now said _ _ [] [] [] _ spent (nothing _, c.refused.ensures),
    )

pub returns-in-New-clause-served : goal.returns-in-New-clause-served
returns-in-New-clause-served g c =
    let call = c.args.call.now in
    let node = c.args.desk.now.node.now in
    let said : Result BookReply Spent = Ok c.in-Ok.reply in
    let begins = at_calls (one_entry (begin_of call) said) in
    let entry = rw c.in-Ok.is at c.step_calls.ensures.entry in
    let begun = subst (λ (e : BookEvent). ActsAtCalls (one_entry e said) c.args.desk.now.seats c.step_calls.new.seats) c.begin_of.ensures entry in
    let i = c.serve_invoke-answer.ensures.invoked in
    let part = part_at node c.args.invoke.now.actor in
    let out = c.go_out-sent in
    let over = c.step_calls-said.result in
    let middle = c.serve_invoke-answer.new.desk.seats in
    let after = c.step_calls-said.new.seats in
    let finish = finish_of call (response_of c.args.side out.result.0) in
    let is = c.finish_of-finish.ensures ∙ ap (λ (r : HttpResponse). finish_of call r) out.ensures.noted in
    let kept = subst (λ (e : BookEvent). ActsAtCalls (one_entry e over) middle after) is c.step_calls-said.ensures.entry in
    let served = at_part part i.0 ++ at_calls (one_entry finish over) in (
      begins ++ served,
      i.1,
      i.2,
      acts_then begins served _ _ _ begun (acts_then (at_part part i.0) (at_calls (one_entry finish over)) _ _ _ i.3 kept),
      i.4,
      i.5,
      forward_follows node after c.args.desk.now.links.app_at c.args.side c.args.request.now call c.args.invoke.now said _ _ served i.1 i.2 _ tt
          (rw c.in-New.is
          (record {
            es = i.0;
            reply = c.serve_invoke-answer.result;
            sent = out.result.0;
            said = over;
            middle = middle;
            entries = refl;
            invoked = i.6;
            goes_out = out.ensures.sent;
            kept = kept;
            full = c.step_calls-said.ensures.spent;
            answered = c.finish_answer.ensures;
          })),
    )

pub returns-in_default-clause-served : goal.returns-in_default-clause-served
returns-in_default-clause-served g c =
    let said : Result BookReply Spent = Ok c.in-Ok.reply in
    let after = c.step_calls.new.seats in
    let begins = at_calls (one_entry (begin_of c.args.call.now) said) in
    let entry = rw c.in-Ok.is at c.step_calls.ensures.entry in
    let begun = subst (λ (e : BookEvent). ActsAtCalls (one_entry e said) c.args.desk.now.seats after) c.begin_of.ensures entry in (
      begins ++ [],
      [],
      [],
      acts_then begins [] _ _ _ begun (acts_none after),
      none_made _ _,
      none_made _ _,
      forward_follows c.args.desk.now.node.now after c.args.desk.now.links.app_at c.args.side c.args.request.now c.args.call.now c.args.invoke.now said _ _ [] [] [] _ tt
          (known_follows c.args.desk.now.node.now after c.args.desk.now.links.app_at c.args.side c.args.request.now c.args.call.now c.args.invoke.now c.in-Ok.reply _ _ c.known_answer.ensures c.in_default.not-New),
    )
