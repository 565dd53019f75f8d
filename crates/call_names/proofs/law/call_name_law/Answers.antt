use Rattle.call_names.proofs.CallTexts.{call_read}
use Rattle.call_names.proofs.law.call_name_law.Goals as goal

pub returns : goal.returns
returns c = call_read c.member_law.ensures.form
