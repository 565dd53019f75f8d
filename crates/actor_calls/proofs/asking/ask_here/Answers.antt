use Rattle.std.proofs.Common.{[], ◌++◌, Ok, subst, ℕ, List, Option}
use Rattle.sidecar_node.proofs.Actings.{acts_none, acts_at_then}
use Rattle.exchanges.specs.Replies.{IsHttpExchange, place_at}
use Rattle.exchanges.proofs.Diallings.{none_made}
use Rattle.actor_calls.specs.Texts.{call_text}
use Rattle.actor_calls.proofs.Servings.{follows_next, asked_follows, asked_turn, asked_spent}
use Rattle.actor_calls.proofs.asking.ask_here.Goals as goal

pub returns-in-Err-clause-asked : goal.returns-in-Err-clause-asked
returns-in-Err-clause-asked g c =
    let b = rw c.in-Err.is at c.begin_turn-said.ensures.begins in
    let full = rw c.in-Err.is at c.begin_turn-said.ensures.spent in (
      b.0,
      [],
      b.1,
      none_made _ _,
      asked_spent _ _ c.args.desk.now.links.app_at c.args.invoke.now c.args.request.now c.args.least _ _ _ c.in-Err.field-0 b.0 c.as_ref.ensures.value c.begin_turn-said.ensures.clock b.2 full,
    )

pub returns-in-Begun-clause-asked : goal.returns-in-Begun-clause-asked
returns-in-Begun-clause-asked g c =
    let begun = rw c.in-Ok.is at c.begin_turn-said.ensures.begins in
    let b = rw c.in-Begun.is at begun in
    let x = c.call_app-got.ensures.exchange in
    let e = c.end_turn-over.ensures.ends in
    let at = c.args.desk.now.links.app_at in
    let invoke = c.args.invoke.now in (
      b.0 ++ e.0,
      x.0,
      acts_at_then _ b.0 e.0 _ _ _ b.1 e.1,
      x.2,
      asked_turn _ _ at invoke c.args.request.now c.args.least _ c.in-Begun.chain _ _ _ c.in-Begun.call b.0 e.0 x.0 c.turn_answer.result c.as_ref.ensures.value c.begin_turn-said.ensures.clock b.2
          (record {
            got = c.call_app-got.result;
            said = c.end_turn-over.result;
            exchange = subst (λ (m : Option (List ℕ)). IsHttpExchange (call_text at invoke.actor invoke.method m c.args.request.now) (place_at at) x.0 c.call_app-got.result) c.as_ref-in-Begun.ensures.value x.1;
            later = c.end_turn-over.ensures.clock;
            ends = e.2;
            full = c.end_turn-over.ensures.spent;
            answered = c.turn_answer.ensures;
          }),
    )

pub returns-in_default-clause-asked : goal.returns-in_default-clause-asked
returns-in_default-clause-asked g c =
    let b = rw c.in-Ok.is at c.begin_turn-said.ensures.begins in
    let seats = c.begin_turn-said.new.seats in
    let at = c.args.desk.now.links.app_at in (
      b.0 ++ [],
      [],
      acts_at_then _ b.0 [] _ _ _ b.1 (acts_none seats),
      none_made _ _,
      asked_follows _ seats at c.args.invoke.now c.args.request.now c.args.least _ _ _ _ (Ok c.in-Ok.reply) b.0 [] [] _ c.as_ref.ensures.value c.begin_turn-said.ensures.clock b.2 tt
          (follows_next _ seats at c.args.invoke.now c.args.request.now c.in-Ok.reply c.next_of.result _ c.next_of.ensures c.in_default.not-Begun),
    )
