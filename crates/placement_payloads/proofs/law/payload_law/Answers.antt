use Rattle.placement_payloads.proofs.PayloadLaws.{reads_payload, reads_old_form, spells_payload, fits_again, spells_one, begins_entries}
use Rattle.placement_payloads.proofs.law.payload_law.Goals as goal

pub returns-clause-reads : goal.returns-clause-reads
returns-clause-reads c = reads_payload

pub returns-clause-reads_old_form : goal.returns-clause-reads_old_form
returns-clause-reads_old_form c = reads_old_form

pub returns-clause-spells : goal.returns-clause-spells
returns-clause-spells c = spells_payload

pub returns-clause-fits : goal.returns-clause-fits
returns-clause-fits c = fits_again

pub returns-clause-spells_one : goal.returns-clause-spells_one
returns-clause-spells_one c = spells_one

pub returns-clause-begins : goal.returns-clause-begins
returns-clause-begins c = begins_entries
