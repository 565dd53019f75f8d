use Rattle.actor_names.proofs.AddressTexts.{address-form, address-only}
use Rattle.actor_names.proofs.law.address_law.Goals as goal

pub returns-clause-form : goal.returns-clause-form
returns-clause-form c = address-form

pub returns-clause-only : goal.returns-clause-only
returns-clause-only c = address-only
