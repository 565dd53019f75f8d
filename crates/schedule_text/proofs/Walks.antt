-- The first moment after now, before and after one step to the next moment.
use Rattle.std.proofs.Common.{◌≡◌, ℕ, zero, suc, ◌-◌, ◌<◌, ◌≤◌, Some, None, arith, refl}
use Rattle.std.proofs.lemmas.Bool.{le-ltb, lt-ltb}
use Rattle.schedule_text.specs.declared.advance.Period.{Period}
use Rattle.schedule_text.specs.Firing.{add_period, first_after}
use Rattle.schedule_text.proofs.Jumps.{first_step}

module _ (period : Period) (now m : ℕ) where
  pub step-none : (most : ℕ) → 0 < most → add_period m period ≡ None → first_after most period now m ≡ None
  step-none zero some none = absurd (omega arith)
  step-none (suc most) some none = rw (first_step most period now m, none) refl

  pub step-found : (most next : ℕ) → 0 < most → add_period m period ≡ Some next → now < next → first_after most period now m ≡ Some next
  step-found zero next some found after = absurd (omega arith)
  step-found (suc most) next some found after = rw (first_step most period now m, found, lt-ltb now next after) refl

  pub step-on : (most next : ℕ) → 0 < most → add_period m period ≡ Some next → next ≤ now → first_after most period now m ≡ first_after (most - 1) period now next
  step-on zero next some found missed = absurd (omega arith)
  step-on (suc most) next some found missed =
      let back : suc most - 1 ≡ most = omega arith in
      rw (first_step most period now m, found, le-ltb now next missed, back) refl

  pub step-ended : (most : ℕ) → most ≤ 0 → first_after most period now m ≡ None
  unfolding first_after
  step-ended zero ended = refl
  step-ended (suc most) ended = absurd (omega arith)
