use Rattle.std.proofs.Common.{ap, sym, ◌∙◌}
use Rattle.store_core.specs.Contents.{is_old}
use Rattle.store_core.proofs.Openings.{form_is}
use Rattle.store_core.proofs.opening.is_first_form.Goals as goal

pub returns-clause-format : goal.returns-clause-format
returns-clause-format g c = sym (form_is c.args.journal.now.format c.format.result c.format.ensures.first c.format.ensures.second)

pub returns-clause-form : goal.returns-clause-form
returns-clause-form g c files tells held holds = ap is_old (c.format.ensures.held c.requires files tells held holds) ∙ form_is c.args.journal.now.format c.format.result c.format.ensures.first c.format.ensures.second
