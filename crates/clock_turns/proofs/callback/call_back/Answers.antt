use Rattle.std.proofs.Common.{refl, subst, ◌∙◌, ℕ, List, []}
use Rattle.exchanges.specs.Replies.{IsHttpExchange, place_at}
use Rattle.exchanges.proofs.Diallings.{none_made}
use Rattle.clock_turns.proofs.Texts.{timer_text_of}
use Rattle.clock_turns.proofs.callback.call_back.Goals as goal

pub returns-in-Err : goal.returns-in-Err
returns-in-Err g c = ([], refl, none_made _ _)

pub returns-in-Ok : goal.returns-in-Ok
returns-in-Ok g c =
    let x = c.exchange_at.ensures in (
      x.0,
      subst (λ (t : List ℕ). IsHttpExchange t (place_at c.args.at.now) x.0 c.exchange_at.result) (c.in-Ok.ensures ∙ timer_text_of c.args.at.now c.args.method.now c.args.callback.now) x.1,
      x.2,
    )
