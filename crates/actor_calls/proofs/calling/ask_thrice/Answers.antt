use Rattle.std.proofs.Common.{sym, ◌∙◌, ◌++◌}
use Rattle.http_edge.specs.Texts.{request_text}
use Rattle.exchanges.specs.Replies.{IsHttpExchange, place_at}
use Rattle.exchanges.proofs.Diallings.{dialling_then}
use Rattle.actor_calls.specs.Hops.{AtMostTwice}
use Rattle.actor_calls.proofs.Tries.{tries_on, tries_once}
use Rattle.actor_calls.proofs.calling.ask_thrice.Goals as goal

pub returns-then-is_fault : goal.returns-then-is_fault
returns-then-is_fault g c =
    let x = c.exchange_at-got.ensures in
    let y = c.ask_twice.ensures in (
      x.0 ++ y.0,
      tries_on (IsHttpExchange (request_text c.args.asked.now) (place_at c.args.at.now)) (AtMostTwice (request_text c.args.asked.now) (place_at c.args.at.now)) x.0 y.0 c.exchange_at-got.result _ (sym c.is_fault.ensures ∙ c.if-is_fault.true) x.1 y.1,
      dialling_then x.0 y.0 _ _ _ _ _ _ x.2 y.2,
    )

pub returns : goal.returns
returns g c =
    let x = c.exchange_at-got.ensures in (
      x.0,
      tries_once (IsHttpExchange (request_text c.args.asked.now) (place_at c.args.at.now)) (AtMostTwice (request_text c.args.asked.now) (place_at c.args.at.now)) x.0 c.exchange_at-got.result (sym c.is_fault.ensures ∙ c.if-is_fault.false) x.1,
      x.2,
    )
