use Rattle.std.proofs.Common.{◌≡◌, ℕ, List, [], ◌∷◌, ◌++◌, replicate, refl, ap, ◌∙◌, arith}
use Rattle.std.proofs.lemmas.List.{replicate_more}
use Rattle.group_gate.specs.declared.view.Core.{Core}
use Rattle.group_gate.specs.declared.view.Held.{Held}
use Rattle.group_gate.specs.declared.view.Held.TheVariants.{Machine, Nothing}
use Rattle.group_gate.proofs.opening.first_slots.Goals as goal

pub loop-filled-init : goal.loop-filled-init
loop-filled-init g c =
    let H : Type 0 = Held g.row.M.Denot g.row.A.Denot g.row.R.Denot in
    let asks = c.in_ok-with_capacity in let answers = c.in_ok-with_capacity-2 in let places = c.in_ok-with_capacity-3 in
    let core : Core g.row.M.Denot g.row.A.Denot g.row.R.Denot = record { machine = c.args.machine; asks = asks.field-0; answers = answers.field-0; places = places.field-0 } in (
      (
        core,
        c.push_reserved.ensures.items ∙ ap (λ (z : List H). z ++ Machine core ∷ []) c.in_ok-slots.ensures.items,
        (asks.ensures.items, answers.ensures.items, places.ensures.items, omega (arith, asks.ensures.exact), omega (arith, answers.ensures.exact), omega (arith, places.ensures.exact)),
        refl,
      ),
      omega (arith, c.push_reserved.ensures.capacity, c.in_ok-slots.ensures.exact),
    )

pub loop-filled-preserved : goal.loop-filled-preserved
loop-filled-preserved g c =
    let H : Type 0 = Held g.row.M.Denot g.row.A.Denot g.row.R.Denot in let nothing : H = Nothing in
    let inv = c.loop-filled.invariant in let first = inv.0 in let pushed = c.push_reserved-in-loop-filled.ensures in (
      (
        first.0,
        pushed.items ∙ (ap (λ (z : List H). z ++ nothing ∷ []) first.1 ∙ ap (λ (z : List H). Machine first.0 ∷ z) (replicate_more c.loop-filled.filled nothing)),
        first.2,
        first.3,
      ),
      omega (arith, inv.1, pushed.capacity),
    )

pub returns : goal.returns
returns g c =
    let H : Type 0 = Held g.row.M.Denot g.row.A.Denot g.row.R.Denot in let nothing : H = Nothing in
    let first = c.loop-filled.invariant.0 in let whole : c.loop-filled.filled ≡ c.args.places = omega arith in
    (first.0, first.1 ∙ ap (λ (n : ℕ). Machine first.0 ∷ replicate n nothing) whole, first.2, first.3)
