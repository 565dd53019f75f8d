use Rattle.std.proofs.Common.{ℕ, sym, subst}
use Rattle.part_model.specs.declared.event.PartEvent.TheVariants.{Release}
use Rattle.sidecar_node.specs.Entries.{one_entry}
use Rattle.sidecar_node.specs.Nodes.{part_at, ActsAt, SpentAt}
use Rattle.sidecar_requests.proofs.stepping.release_step.Goals as goal

pub returns-clause-entry : goal.returns-clause-entry
returns-clause-entry g c =
    let key = c.args.key in
    let said = c.step_part.result in
    let before = c.args.seats.now in
    let after = c.step_part.new.seats in
    subst (λ (n : ℕ). ActsAt (part_at c.args.node.now key) (one_entry (Release key n) said) before after) (sym c.now_ms-now.ensures.shows)
    (subst (λ (p : ℕ). ActsAt p (one_entry (Release key c.now_ms-now.result) said) before after) c.part_of-part.ensures.part c.step_part.ensures.entry)

pub returns-clause-spent : goal.returns-clause-spent
returns-clause-spent g c = subst (λ (p : ℕ). SpentAt p c.step_part.result c.step_part.new.seats) c.part_of-part.ensures.part c.step_part.ensures.spent
