use Rattle.std.proofs.Common.{rules, ◌≡◌, ◌+◌, replicate, sym, ◌∙◌}
use Rattle.group_gate.proofs.Meetings.{opens_with}
use Rattle.group_gate.proofs.gate.GroupGate.new.Goals as goal

pub new-requires-2 : goal.new-requires-2
new-requires-2 g c =
    let made = c.in_ok-slots.ensures in
    let zeros : c.in_ok-words.words.items ≡ replicate (c.args.places + 1) 0 = c.in_ok-words.ensures.items_if_clones_equal (λ y e. search rules) in
    opens_with g.M.Grouped.takes g.M.Grouped.moves c.of-opening.result.value c.args.places made.0 c.as_slice.result.now c.in_ok-slots.slots.items (made.3 ∙ sym c.of-opening.ensures) made.2
    (c.as_slice.ensures.value ∙ zeros) made.1
