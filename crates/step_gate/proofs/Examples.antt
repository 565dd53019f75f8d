-- Worked examples of histories. A counter answers each event with its new count.
use Rattle.std.proofs.Common.{◌≡◌, ℕ, ◌+◌, List, [], ◌∷◌, refl}
use Rattle.step_gate.specs.declared.view.HistoryEntry.{HistoryEntry}
use Rattle.step_gate.specs.History.{HistoryLeadsTo, entry, made, made_by, longer, shorter}

counts : ℕ → ℕ → ℕ → ℕ → Type 0
counts old event reply new = (new ≡ old + event) × (reply ≡ new)

-- two seats that take turns
both : List (HistoryEntry ℕ ℕ)
both = entry 0 5 5 ∷ entry 1 1 6 ∷ entry 0 2 8 ∷ []

-- from 0 it leads to 8
leads : HistoryLeadsTo counts 0 both 8
unfolding both counts
leads = (5, (refl, refl), (6, (refl, refl), (8, (refl, refl), refl)))

-- each seat's entries, with their places
first : made_by 0 both ≡ made 0 (entry 0 5 5) ∷ made 2 (entry 0 2 8) ∷ []
unfolding both
first = refl

second : made_by 1 both ≡ made 1 (entry 1 1 6) ∷ []
unfolding both
second = refl

-- the longer of two lists, or the first if they are equally long
longer_of_two : longer {A = ℕ} (1 ∷ []) (1 ∷ 2 ∷ []) ≡ 1 ∷ 2 ∷ []
longer_of_two = refl

first_of_equal : longer {A = ℕ} (1 ∷ []) (2 ∷ []) ≡ 1 ∷ []
first_of_equal = refl

other_of_two : shorter {A = ℕ} (1 ∷ []) (1 ∷ 2 ∷ []) ≡ 1 ∷ []
other_of_two = refl
