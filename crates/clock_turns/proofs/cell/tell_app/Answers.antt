use Rattle.std.proofs.Common.{refl, subst, List, ℕ, []}
use Rattle.exchanges.specs.Replies.{IsHttpExchange, place_at}
use Rattle.exchanges.proofs.Diallings.{none_made}
use Rattle.clock_turns.proofs.cell.tell_app.Goals as goal

pub returns-in-Err : goal.returns-in-Err
returns-in-Err g c = ([], refl, none_made _ _)

pub returns-in-Ok : goal.returns-in-Ok
returns-in-Ok g c =
    let x = c.exchange_waiting.ensures in (
      x.0,
      subst (λ (t : List ℕ). IsHttpExchange t (place_at c.args.at.now) x.0 c.exchange_waiting.result) c.in-Ok.ensures x.1,
      x.2,
    )
