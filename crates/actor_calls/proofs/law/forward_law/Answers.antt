use Rattle.actor_calls.proofs.ForwardCauses.{forward_entries, forward_caused}
use Rattle.actor_calls.proofs.law.forward_law.Goals as goal

pub returns : goal.returns
returns c = record {
  entries = λ node after app side request call q first last ns xs ys answer. forward_entries node after app side request call q first last xs ys answer ns;
  causes = λ node after app side request call q first last ns xs ys answer. forward_caused node after app side request call q first last xs ys answer ns;
}
