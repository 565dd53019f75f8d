use Rattle.std.proofs.Common.{[], ◌++◌, refl, subst, ℕ, List, Option, Ok}
use Rattle.sidecar_node.proofs.Actings.{acts_none, acts_at_then}
use Rattle.exchanges.specs.Replies.{IsHttpExchange, place_at}
use Rattle.exchanges.proofs.Diallings.{none_made}
use Rattle.reminder_turns.specs.Callbacks.{entry_text}
use Rattle.reminder_turns.proofs.Turns.{turn_follows, turn_spent, follows_other}
use Rattle.reminder_turns.proofs.calling.take_turn.Goals as goal

pub returns-in-Err-clause-turn : goal.returns-in-Err-clause-turn
returns-in-Err-clause-turn g c =
    let b = rw c.in-Err.is at c.begin_turn-said.ensures.begins in (
      b.0,
      [],
      b.1,
      none_made _ _,
      turn_spent c.args.desk.now.links.app_at c.args.entry.now _ _ c.in-Err.spent b.0 c.begin_turn-said.ensures.clock b.2,
    )

pub returns-in-Err-clause-full : goal.returns-in-Err-clause-full
returns-in-Err-clause-full g c = rw c.in-Err.is at c.begin_turn-said.ensures.spent

pub returns-in-Begun-clause-turn : goal.returns-in-Begun-clause-turn
returns-in-Begun-clause-turn g c =
    let at = c.args.desk.now.links.app_at in
    let b = rw c.in-Ok.is at c.begin_turn-said.ensures.begins in
    let x = c.call_back-got.ensures in
    let got = c.call_back-got.result in
    let over = c.end_turn-ended.ensures in
    let e = over.ends in (
      b.0 ++ e.0,
      x.0,
      acts_at_then _ b.0 e.0 _ _ _ b.1 e.1,
      x.2,
      turn_follows at c.args.entry.now _ _ _ (Ok c.in-Ok.reply) b.0 e.0 x.0 _ c.begin_turn-said.ensures.clock b.2
          (rw c.in-Begun.is (
            got,
            c.end_turn-ended.result,
            record {
              exchange = subst (λ (m : Option (List ℕ)). IsHttpExchange (entry_text at c.args.entry.now m) (place_at at) x.0 got) c.as_ref.ensures.value x.1;
              later = over.clock;
              ends = e.2;
            },
            refl,
          )),
    )

pub returns-in_default-clause-turn : goal.returns-in_default-clause-turn
returns-in_default-clause-turn g c =
    let at = c.args.desk.now.links.app_at in
    let b = rw c.in-Ok.is at c.begin_turn-said.ensures.begins in
    let seats = c.begin_turn-said.new.seats in (
      b.0 ++ [],
      [],
      acts_at_then _ b.0 [] _ _ _ b.1 (acts_none seats),
      none_made _ _,
      turn_follows at c.args.entry.now _ _ _ (Ok c.in-Ok.reply) b.0 [] [] _ c.begin_turn-said.ensures.clock b.2
          (follows_other at c.args.entry.now c.in-Ok.reply (g.K.Clock.shown c.begin_turn-said.new.clock) c.in_default.not-Begun),
    )
