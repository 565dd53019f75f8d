-- A text written over zeros is padded.
use Rattle.std.proofs.Common.{◌≡◌, ℕ, ◌≤◌, List, ◌++◌, length, take, drop, replicate, arith, ap, sym}
use Rattle.std.proofs.lemmas.Grind.{common_steps}
use Rattle.std.proofs.lemmas.List.{drop-replicate}
use Rattle.actor_names.specs.Padding.{IsPadded}

-- the text is what comes before the zeros
pub take-fill : (text : List ℕ) → length text ≤ 64 → take (length text) (text ++ drop (length text) (replicate 64 0)) ≡ text
take-fill text low = grind (arith, common_steps)

pub IsPadded-fill : (text : List ℕ) → length text ≤ 64 → IsPadded (length text) (text ++ drop (length text) (replicate 64 0))
IsPadded-fill text low =
    record {
      within = low;
      whole = grind (arith, common_steps);
      zeros = rw (take-fill text low) (ap (λ zs. text ++ zs) (sym (drop-replicate (length text) 64 0)));
    }
