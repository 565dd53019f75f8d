use Rattle.actor_calls.proofs.PeerReads.{told_read}
use Rattle.actor_calls.proofs.law.peer_law.Goals as goal

pub returns : goal.returns
returns c = told_read c.member_law.ensures.form c.address_law.ensures.form
