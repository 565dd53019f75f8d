use Rattle.std.proofs.Common.{◌≡◌, ◌∙◌, sym, ap}
use Rattle.stamp_lanes.specs.Kept.{kept_answer}
use Rattle.stamp_lanes.proofs.KeptFacts.{in-first, in-second}
use Rattle.stamp_lanes.proofs.kept.KeptNumbers.answer.Goals as goal

pub returns-in-Some : goal.returns-in-Some
returns-in-Some c =
    let found = in-first c.args.number c.as_slices.result.0.now c.as_slices.result.1.now c.in-Some.answer (sym c.answer_in.ensures ∙ c.in-Some.is) in
    sym (ap (kept_answer c.args.number) (sym c.self.view_is ∙ sym c.as_slices.ensures.items) ∙ found)

pub returns-in-None : goal.returns-in-None
returns-in-None c =
    let left = in-second c.args.number c.as_slices.result.0.now c.as_slices.result.1.now (sym c.answer_in.ensures ∙ c.in-None.is) in
    c.answer_in-in-None.ensures ∙ sym (ap (kept_answer c.args.number) (sym c.self.view_is ∙ sym c.as_slices.ensures.items) ∙ left)
