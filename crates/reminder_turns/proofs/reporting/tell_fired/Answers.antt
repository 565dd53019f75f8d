use Rattle.std.proofs.Common.{refl, subst, []}
use Rattle.reminder_rows.specs.declared.row.DueKey.{DueKey}
use Rattle.exchanges.specs.Replies.{place_at}
use Rattle.exchanges.proofs.Diallings.{none_made}
use Rattle.exchanges.specs.Asked.{IsStoreExchange}
use Rattle.reminder_turns.specs.Reports.{fired_command}
use Rattle.reminder_turns.proofs.reporting.tell_fired.Goals as goal

pub returns-in-Err : goal.returns-in-Err
returns-in-Err g c = ([], refl, none_made _ _)

pub returns-in-Ok : goal.returns-in-Ok
returns-in-Ok g c =
    let x = c.tell_store.ensures in (
      x.0,
      subst (λ (k : DueKey). IsStoreExchange (fired_command c.args.node.now k c.args.n) (place_at c.args.at.now) x.0 c.tell_store.result) c.in-Ok.ensures x.1,
      x.2,
    )
