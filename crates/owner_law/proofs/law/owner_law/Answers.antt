use Rattle.std.proofs.Common.{refl}
use Rattle.place_table.proofs.Moves.{given_permuted, given_to_new}
use Rattle.owner_law.proofs.Owning.{owner_among, nobody_owns}
use Rattle.owner_law.proofs.law.owner_law.Goals as goal

pub returns-clause-among : goal.returns-clause-among
returns-clause-among c = λ space hosts key node e. owner_among space hosts key node e

pub returns-clause-nobody : goal.returns-clause-nobody
returns-clause-nobody c = λ space hosts key. nobody_owns space hosts key

pub returns-clause-order : goal.returns-clause-order
returns-clause-order c = λ space xs ys key same. given_permuted space space xs ys key refl same

pub returns-clause-more : goal.returns-clause-more
returns-clause-more c = λ space hosts more key moved. given_to_new space hosts more key moved
