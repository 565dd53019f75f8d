use Rattle.std.proofs.Common.{ℕ, List, ◌++◌, ap, sym, subst, ◌∙◌}
use Rattle.disk_model.proofs.Stages.{ok_from_test}
use Rattle.store_tables.specs.declared.row.TableRow.TheVariants as rows
use Rattle.store_payloads.specs.Fields.{table_row}
use Rattle.store_payloads.specs.Payloads.{row_payload}
use Rattle.store_core.specs.Compacts.{AddsRow}
use Rattle.store_core.proofs.Adding.{row_added, may_on, stopped_here}
use Rattle.store_core.proofs.staging.add_entry.Goals as goal

pub put_state_row-requires : goal.put_state_row-requires
unfolding table_row
put_state_row-requires g c = c.requires.fits

pub returns-then-is_err-clause-adds : goal.returns-then-is_err-clause-adds
returns-then-is_err-clause-adds g c t consistent = stopped_here t c.args.journal.now c.requires.may consistent

pub returns-clause-adds : goal.returns-clause-adds
returns-clause-adds g c t consistent =
    let payload =
    c.as_slice.ensures.value ∙ ok_from_test c.put_state_row.result _ (sym c.is_err.ensures.value ∙ c.if-is_err.false) c.put_state_row.ensures ∙ ap (λ (l : List ℕ). l ++ row_payload c.args.now (rows.State c.args.row.now)) c.clear.ensures.items in
    subst (λ (p : List ℕ). AddsRow t p c.compact_add.result c.args.journal.now c.compact_add.new.self) payload
    (row_added t c.as_slice.result.now c.args.journal.now c.compact_add.new.self c.requires.may consistent c.compact_add.result
    (record { refused = c.compact_add.ensures.refused; taken = c.compact_add.ensures.taken; crash = c.compact_add.ensures.crash; kept = c.compact_add.ensures.kept; count = c.compact_add.ensures.count; added = c.compact_add.ensures.added }))

pub returns-clause-may : goal.returns-clause-may
returns-clause-may g c =
    may_on c.as_slice.result.now c.args.journal.now c.compact_add.new.self c.requires.may c.compact_add.result
    (record { refused = c.compact_add.ensures.refused; taken = c.compact_add.ensures.taken; crash = c.compact_add.ensures.crash; kept = c.compact_add.ensures.kept; count = c.compact_add.ensures.count; added = c.compact_add.ensures.added })
