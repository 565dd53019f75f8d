-- What a command makes of the tables, by its outcome.
use Rattle.std.proofs.Common.{◌≡◌, Option, Some, None, refl, ap}
use Rattle.std.specs.Prelude.{option_map}
use Rattle.frame_wire.specs.declared.store_answer.StoreAnswer.{StoreAnswer}
use Rattle.store_tables.specs.Tables.{Tables, Outcome, Told, Accepted, told_in}
use Rattle.store_tables.specs.Contents.{accepted_in}
use Rattle.store_payloads.specs.Folds.{Folded, with_act}

-- what is told an answer isn't accepted
pub told_none : (o : Outcome) (answer : StoreAnswer) → told_in o ≡ Some answer → option_map with_act (accepted_in o) ≡ None
told_none (Told given) answer is = refl
told_none (Accepted given after) answer is = absurd (let e : None ≡ Some answer = is in cc)

-- what is accepted leaves these tables
pub accepted_some : (o : Outcome) (answer : StoreAnswer) (after : Tables) → o ≡ Accepted answer after → option_map with_act (accepted_in o) ≡ Some (with_act after)
accepted_some o answer after is = ap (λ (x : Outcome). option_map with_act (accepted_in x)) is
