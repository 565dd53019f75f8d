use Rattle.cluster_model.proofs.Targets.{run_sent, run_targets, run_begun}
use Rattle.cluster_model.proofs.target.targets_law.Goals as goal

pub returns : goal.returns
returns c =
    record {
      sent = λ owner part_of settings events space version m k. run_sent owner part_of space version settings events m k;
      targets = λ owner part_of settings events space. run_targets owner part_of settings events space;
      begun = λ owner part_of settings events event space. run_begun owner part_of settings events event space;
    }
