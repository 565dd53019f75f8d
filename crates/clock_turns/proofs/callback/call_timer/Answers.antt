use Rattle.std.proofs.Common.{subst, ℕ, List, Option}
use Rattle.std.specs.Option.{option_copied}
use Rattle.exchanges.specs.Replies.{IsHttpExchange, place_at}
use Rattle.clock_turns.specs.Callbacks.{plain_timer_text}
use Rattle.clock_turns.proofs.callback.call_timer.Goals as goal

pub returns : goal.returns
returns g c =
    let x = c.call_back.ensures in
    let at = c.args.at.now in (
      x.0,
      subst (λ (p : List ℕ × Option (List ℕ) × List ℕ × List ℕ). IsHttpExchange (plain_timer_text at p.0 c.args.due.now.key c.args.due.now.name (option_copied c.args.chain) p.1 p.2 p.3) (place_at at) x.0 c.call_back.result)
          (λ i. (c.as_str-method.ensures i, c.payload_bytes-payload.ensures i, c.as_str-first.ensures i, c.as_str-period.ensures i)) x.1,
      x.2,
    )
