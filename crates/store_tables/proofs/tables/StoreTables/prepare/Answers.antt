use Rattle.std.proofs.Common.{◌≡◌, refl}
use Rattle.store_tables.specs.Tables.{store_outcome}
use Rattle.store_tables.specs.Prepared.{prepared_outcome}
use Rattle.store_tables.proofs.Preparing.{no-fault, tx-leads}
use Rattle.store_tables.proofs.tables.StoreTables.prepare.Goals as goal
use Rattle.store_tables.proofs.tables.StoreTables.prepare.Goals.{in-Boot+in-Ok, in-Tx+in_ok-reserve-in-Tx+in-Ok-prepare, in-PutReminder+in_ok-reserve-in-PutReminder+in_ok-reserve-in-PutReminder-2, in-DeleteReminder+in_ok-reserve-in-DeleteReminder, in-Fired+in_ok-reserve-in-Fired}

pub returns-clause-leads : goal.returns-clause-leads
unfolding store_outcome prepared_outcome
returns-clause-leads c t =
    elim c.match-command.branch [
      | in-Boot+in-Ok w ↦ rw (w.step-is, w.in-Boot.is, w.in-Ok.ensures.of_space, w.in-Ok.ensures.of_node) refl
      | in-Tx+in_ok-reserve-in-Tx+in-Ok-prepare w ↦ rw (w.step-is, w.in-Tx.is) (let e : w.into_vec.result.items ≡ w.in-Tx.ops = w.into_vec.ensures in rw (← e) (tx-leads w.in-Tx.stamp w.in-Ok-prepare.tx w.in-Tx.actor w.into_vec.result.items c.args.now t w.in-Ok-prepare.ensures.leads (no-fault _ w.in-Ok-prepare.tx w.in-Ok-prepare.ensures.refused)))
      | in-PutReminder+in_ok-reserve-in-PutReminder+in_ok-reserve-in-PutReminder-2 w ↦ rw (w.step-is, w.in-PutReminder.is) refl
      | in-DeleteReminder+in_ok-reserve-in-DeleteReminder w ↦ rw (w.step-is, w.in-DeleteReminder.is) refl
      | in-Fired+in_ok-reserve-in-Fired w ↦ rw (w.step-is, w.in-Fired.is, w.moment_of.ensures) refl
    ]
