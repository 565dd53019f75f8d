-- No stamp is acknowledged twice.
use Rattle.std.proofs.Common.{◌≡◌, List, ◌∷◌, ◌++◌, Some, subst}
use Rattle.store_tables.specs.Contents.{Timed, after_accepted}
use Rattle.store_tables.specs.Runs.{AcceptsOnce}
use Rattle.store_core.specs.Runs.{AcknowledgesOnce}
use Rattle.store_core.proofs.Accepted.{led_once}
use Rattle.store_core.proofs.Running.{keeps_acknowledged}

pub acknowledges_once : AcceptsOnce → AcknowledgesOnce
acknowledges_once once maybe old new entries s c d before between behind stands runs is first second =
    let led : after_accepted (before ++ c ∷ between ++ d ∷ behind) old.contents ≡ Some new.contents = subst (λ (l : List Timed). after_accepted l old.contents ≡ Some new.contents) is (keeps_acknowledged maybe old new entries stands runs).1 in
    led_once once s c d before between behind old.contents new.contents first second led
