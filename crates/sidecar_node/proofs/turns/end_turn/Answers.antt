use Rattle.std.proofs.Common.{ℕ, sym, subst}
use Rattle.part_model.specs.declared.event.PartEvent.TheVariants.{End}
use Rattle.sidecar_node.specs.Turns.{MakesOne}
use Rattle.sidecar_node.specs.Nodes.{ActsAt, SpentAt}
use Rattle.sidecar_node.proofs.Stops.{step_acts, step_spent}
use Rattle.sidecar_node.proofs.turns.end_turn.Goals as goal

pub returns-clause-ends : goal.returns-clause-ends
returns-clause-ends g c =
    let said = c.call_part.result in
    let s = step_acts c.part_of-part.result (End c.args.call c.now_ms-now.result) said c.args.seats.now c.call_part.new.seats c.call_part.ensures.steps c.call_part.ensures.others in (
      s.0,
      subst (λ (p : ℕ). ActsAt p s.0 c.args.seats.now c.call_part.new.seats) c.part_of-part.ensures.part s.1,
      subst (λ (n : ℕ). MakesOne (End c.args.call n) s.0 said) (sym c.now_ms-now.ensures.shows) s.2,
    )

pub returns-clause-spent : goal.returns-clause-spent
returns-clause-spent g c =
    let said = c.call_part.result in
    subst (λ (p : ℕ). SpentAt p said c.call_part.new.seats) c.part_of-part.ensures.part
    (step_spent c.part_of-part.result (End c.args.call c.now_ms-now.result) said c.args.seats.now c.call_part.new.seats c.call_part.ensures.steps)
