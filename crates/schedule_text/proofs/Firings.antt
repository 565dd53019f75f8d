-- What the list of moments begins with.
use Rattle.std.proofs.Common.{◌≡◌, ℕ, suc, [], ◌∷◌, Option, refl}
use Rattle.schedule_text.specs.declared.advance.Schedule.{Schedule}
use Rattle.schedule_text.specs.declared.advance.Next.TheVariants.{At, Done, OutOfRange}
use Rattle.schedule_text.specs.Firing.{next_firing, firings_from}

module _ (schedule : Schedule) (moment : ℕ) where
  pub firings_from-zero : firings_from 0 schedule moment ≡ []
  unfolding firings_from
  firings_from-zero = refl

  module _ (most : ℕ) where
    pub firings_from-at : (next : ℕ) (left : Option ℕ) → next_firing schedule moment moment ≡ At next left → firings_from (suc most) schedule moment ≡ moment ∷ firings_from most (record schedule { left = left }) next
    unfolding firings_from
    firings_from-at next left is = rw is refl

    pub firings_from-done : next_firing schedule moment moment ≡ Done → firings_from (suc most) schedule moment ≡ moment ∷ []
    unfolding firings_from
    firings_from-done is = rw is refl

    pub firings_from-out_of_range : next_firing schedule moment moment ≡ OutOfRange → firings_from (suc most) schedule moment ≡ moment ∷ []
    unfolding firings_from
    firings_from-out_of_range is = rw is refl
