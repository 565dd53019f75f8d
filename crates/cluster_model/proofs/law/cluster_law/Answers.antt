use Rattle.cluster_model.specs.World.{opening_cluster, cluster_run}
use Rattle.cluster_model.proofs.AskedRuns.{run_named, run_settings}
use Rattle.cluster_model.proofs.Askings.{run_asked}
use Rattle.cluster_model.proofs.Balances.{run_counted}
use Rattle.cluster_model.proofs.Bootings.{run_booted}
use Rattle.cluster_model.proofs.Clusters.{run_invariant}
use Rattle.cluster_model.proofs.Endings.{run_ended}
use Rattle.cluster_model.proofs.Growths.{run_came}
use Rattle.cluster_model.proofs.Memories.{world_forgets}
use Rattle.cluster_model.proofs.Worlds.{run_safe, run_active_once}
use Rattle.cluster_model.proofs.law.cluster_law.Goals as goal

pub returns : goal.returns
returns c =
    record {
      invariant = λ owner part_of settings events keeps. run_invariant owner part_of keeps settings events;
      once = λ owner part_of settings events keeps. run_active_once owner part_of keeps settings events;
      asked = λ owner part_of settings events. run_asked owner part_of settings events;
      named = λ owner part_of settings events keeps. run_named owner part_of keeps settings events;
      ended = λ owner part_of settings events keeps. run_ended owner part_of keeps settings events;
      counted = λ owner part_of settings events. run_counted owner part_of settings events;
      settings = λ owner part_of settings events. run_settings owner part_of settings events;
      came = λ owner part_of settings earlier later p i. run_came owner part_of settings earlier later p i;
      booted = λ owner part_of settings events some. (let t = run_booted owner part_of settings some events in record { messages = t.named; members = t.joined });
      memory = λ owner part_of settings events event. world_forgets owner part_of (cluster_run owner part_of (opening_cluster settings) events) event (run_safe owner part_of settings events);
    }
