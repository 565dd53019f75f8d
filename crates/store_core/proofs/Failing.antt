-- The answers of a batch that isn't on the disk.
use Rattle.std.proofs.Common.{append_assoc, ◌≡◌, ℕ, zero, suc, ◌+◌, ◌-◌, ◌<◌, ◌≤◌, List, [], ◌∷◌, ◌++◌, length, take, slice_set, refl, sym, ◌∙◌, ap, arith}
use Rattle.std.specs.List.{AllByRecursion}
use Rattle.std.proofs.lemmas.List.{take_more_set}
use Rattle.store_core.specs.Listings.{all_so}

-- one more at the end
so_more : {B : Type 0} (b : B) (n : ℕ) → all_so b n ++ b ∷ [] ≡ all_so b (suc n)
so_more b zero = refl
so_more b (suc n) = ap (λ l. b ∷ l) (so_more b n)

-- an answer is replaced behind those that were
pub failed_more :
    {B : Type 0} (xs head : List B) (b : B) (at first : ℕ)
    → at < length xs → first ≤ at → take at xs ≡ head ++ all_so b (at - first) → take (at + 1) (slice_set xs at b) ≡ head ++ all_so b (at + 1 - first)
failed_more xs head b at first below from is =
    let more : suc (at - first) ≡ at + 1 - first = omega (arith, from) in
    take_more_set xs at b below ∙ ap (λ l. l ++ b ∷ []) is ∙ append_assoc head (all_so b (at - first)) (b ∷ []) ∙ ap (λ l. head ++ l) (so_more b (at - first) ∙ ap (all_so b) more)

-- all still hold where one is replaced
pub each_set : {B : Type 0} (P : B → Type 0) (xs : List B) (at : ℕ) (b : B) → P b → AllByRecursion P xs → AllByRecursion P (slice_set xs at b)
each_set P [] at b holds all = tt
each_set P (x ∷ xs) zero b holds all = (holds, all.1)
each_set P (x ∷ xs) (suc at) b holds all = (all.0, each_set P xs at b holds all.1)
