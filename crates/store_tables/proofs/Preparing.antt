-- A prepared transaction comes to what its command does.
use Rattle.std.proofs.Common.{◌≡◌, ℕ, true, List, Option, Some, None, Result, Ok, Err, refl}
use Rattle.std.specs.Prelude.{IfSome}
use Rattle.actor_names.specs.declared.actor_key.ActorKey.{ActorKey}
use Rattle.state_rows.specs.declared.entry.StateEntry.{StateEntry}
use Rattle.state_rows.specs.declared.error.StateError.{StateError}
use Rattle.state_rows.specs.declared.op.StateOp.{StateOp}
use Rattle.state_rows.specs.declared.prepared.PreparedTx.{PreparedTx}
use Rattle.state_rows.specs.Checks.{ops_fault}
use Rattle.state_rows.specs.Entries.{after_ops}
use Rattle.state_rows.specs.Prepared.{after_tx}
use Rattle.stamp_lanes.specs.declared.answer.LaneAnswer.TheVariants as lane_answers
use Rattle.frame_wire.specs.declared.store_command.Stamp.{Stamp}
use Rattle.store_tables.specs.Tables.{Tables, told_or, stamp_answer, accepted, tx_outcome}

abbrev pub ok_tx : PreparedTx → Result PreparedTx StateError
ok_tx tx = Ok tx

-- operations that were prepared have no fault
pub no-fault : (o : Option StateError) (tx : PreparedTx) → IfSome o (λ e. ok_tx tx ≡ Err e) → o ≡ None
no-fault None tx h = refl
no-fault (Some e) tx h = absurd (cc)

pub tx-leads :
    (s : Stamp) (tx : PreparedTx) (actor : ActorKey) (ops : List StateOp) (now : ℕ) (t : Tables)
    → ((rows : List StateEntry) → after_tx tx rows ≡ after_ops actor now ops rows) → ops_fault ops ≡ None
    → told_or (stamp_answer s t) (accepted s (lane_answers.Done true) (record t { rows = after_tx tx t.rows })) ≡ told_or (stamp_answer s t) (tx_outcome s actor ops now t)
tx-leads s tx actor ops now t leads fine = rw (fine, leads t.rows) refl
