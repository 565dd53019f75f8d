use Rattle.std.proofs.Common.{◌≡◌, false, sym, ◌∙◌, ap, arith}
use Rattle.tx_journal.specs.Calls.{JournalState}
use Rattle.tx_journal.proofs.Batches.{staged_fits}
use Rattle.tx_journal.proofs.journal.Journal.stage.Goals as goal

pub returns-clause-fits : goal.returns-clause-fits
returns-clause-fits g c =
    let works : c.args.self.now.is_broken ≡ false = sym (ap (λ (j : JournalState). j.is_broken) c.self.view_is) ∙ c.if-self.false in
    let end_is : c.self.inside.end ≡ c.args.self.now.end = ap (λ (j : JournalState). j.end) c.self.view_is in
    staged_fits c.args.self.now c.args.batch.now c.add.new.self c.args.payload.now c.add.result works (omega (arith, end_is, c.if-end-n-gt-MOST_BYTES.false, c.size.ensures.is)) c.add.ensures
