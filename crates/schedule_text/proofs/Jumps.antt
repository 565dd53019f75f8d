-- With a period without months, all missed moments are passed in one step.
use Rattle.std.proofs.Common.{◌≡◌, ℕ, zero, suc, ◌+◌, ◌-◌, ◌%◌, ◌<◌, ◌≤◌, nat_lt, true, false, inl, inr, Some, None, arith, refl}
use Rattle.std.proofs.lemmas.Bool.{cases_lt, le-ltb, lt-ltb}
use Rattle.std.proofs.Math.Nat.{add-mod_right, mod-le, mod-eq_of_lt}
use Rattle.schedule_text.specs.declared.advance.Period.{Period}
use Rattle.schedule_text.specs.Range.{end_of_time, moment_of}
use Rattle.schedule_text.specs.Firing.{sum_of, add_period, first_after}

abbrev pub jumped : ℕ → ℕ → ℕ → ℕ
jumped nanos now m = m + (now - m - (now - m) % nanos + nanos)

add_period-nanos : (m : ℕ) (period : Period) → period.months ≡ 0 → add_period m period ≡ moment_of (m + period.nanos)
unfolding add_period sum_of
add_period-nanos m period none = rw none refl

pub first_step : (most : ℕ) (period : Period) (now m : ℕ) → first_after (suc most) period now m ≡ elim (add_period m period) [ None ↦ None | Some next ↦ elim (nat_lt now next) [ true ↦ Some next | false ↦ first_after most period now next ] ]
unfolding first_after
first_step most period now m = refl

pub moment_of-some : (n : ℕ) → n < end_of_time → moment_of n ≡ Some n
moment_of-some n low = rw (lt-ltb n end_of_time low) refl

pub moment_of-none : (n : ℕ) → end_of_time ≤ n → moment_of n ≡ None
moment_of-none n high = rw (le-ltb n end_of_time high) refl

mod_less : (gap n : ℕ) → n ≤ gap → gap % n ≡ (gap - n) % n
mod_less gap n low =
    let again : gap - n + n ≡ gap = omega arith in
    rw again at (add-mod_right (gap - n) n)

-- the jump from a missed moment leads where the jump from the moment before it leads
jumped-step : (nanos now m : ℕ) → m + nanos ≤ now → 0 < nanos → jumped nanos now (m + nanos) ≡ jumped nanos now m
jumped-step nanos now m missed some =
    let gap : now - (m + nanos) ≡ now - m - nanos = omega arith in
    let same = mod_less (now - m) nanos (omega arith) in
    let below : (now - m - nanos) % nanos ≤ now - m - nanos = mod-le (now - m - nanos) nanos in
    rw (gap, same) (omega arith)

jumped-first : (nanos now m : ℕ) → now < m + nanos → 0 < nanos → jumped nanos now m ≡ m + nanos
jumped-first nanos now m later some =
    let same : (now - m) % nanos ≡ now - m = mod-eq_of_lt (omega arith) in
    rw same (omega arith)

jumped-least : (nanos now m : ℕ) → m + nanos ≤ jumped nanos now m
jumped-least nanos now m = omega arith

-- one step, if the claim is known for the moment after it
one_step : (most : ℕ) (period : Period) (now m : ℕ) → period.months ≡ 0 → 0 < period.nanos
    → (m + period.nanos ≤ now → first_after most period now (m + period.nanos) ≡ moment_of (jumped period.nanos now (m + period.nanos)))
    → first_after (suc most) period now m ≡ moment_of (jumped period.nanos now m)
one_step most period now m none some rest = elim (cases_lt (m + period.nanos) end_of_time) [
  | inl low ↦ elim (cases_lt now (m + period.nanos)) [
    | inl after ↦ rw (first_step most period now m, add_period-nanos m period none, moment_of-some _ low, lt-ltb now (m + period.nanos) after, jumped-first period.nanos now m after some, moment_of-some _ low) refl
    | inr missed ↦ rw (first_step most period now m, add_period-nanos m period none, moment_of-some _ low, le-ltb now (m + period.nanos) missed, rest missed, jumped-step period.nanos now m missed some) refl
  ]
  | inr high ↦
      let least = jumped-least period.nanos now m in
      rw (first_step most period now m, add_period-nanos m period none, moment_of-none _ high, moment_of-none (jumped period.nanos now m) (omega arith)) refl
]

pub first_after-jumped : (most : ℕ) (period : Period) (now m : ℕ) → period.months ≡ 0 → 0 < period.nanos → now - m ≤ most → first_after (suc most) period now m ≡ moment_of (jumped period.nanos now m)
first_after-jumped zero period now m none some enough = one_step zero period now m none some (λ missed. absurd (omega arith))
first_after-jumped (suc most) period now m none some enough = one_step (suc most) period now m none some (λ missed. first_after-jumped most period now (m + period.nanos) none some (omega arith))
