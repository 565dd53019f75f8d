use Rattle.solo_run.proofs.Laws.{turns_isolated, turns_open, turns_each}
use Rattle.solo_run.proofs.RunFollows.{solo_follows, solo_busy}
use Rattle.solo_run.proofs.RunTurns.{solo_turns}
use Rattle.solo_run.proofs.law.solo_law.Goals as goal

pub returns : goal.returns
returns c =
    record {
      isolated = λ depths events key. turns_isolated depths events key;
      left_open = λ depths events key. turns_open depths events key;
      told = λ depths events. solo_turns depths events;
      each_told = λ depths events. turns_each depths events;
      no_idle_waiter = λ depths events. solo_busy depths events;
      numbered = λ depths events. (solo_follows depths events).numbered;
      counted = λ depths events. (solo_follows depths events).counted;
      depths = λ depths events. (solo_follows depths events).same_depths;
    }
