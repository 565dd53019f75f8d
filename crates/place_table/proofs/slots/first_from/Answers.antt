use Rattle.std.proofs.Common.{sym, ◌∙◌, ◌+◌, ◌-◌, ◌/◌, ◌<◌, ◌≤◌, length, arith}
use Rattle.std.specs.Prelude.{nat_le}
use Rattle.std.proofs.lemmas.List.Sums.{position_or_len_is}
use Rattle.place_table.specs.declared.table.Slot.{Slot}
use Rattle.place_table.proofs.Halving.{one_look, rises_before, rises_from}
use Rattle.place_table.proofs.SlotOrder.{no_slot}
use Rattle.place_table.proofs.slots.first_from.Goals as goal

pub loop-low-preserved-then-is_from : goal.loop-low-preserved-then-is_from
loop-low-preserved-then-is_from g c =
    let low = c.loop-low.low in
    let high = c.loop-low.high in
    let mid = low + (high - low) / 2 in
    let going : low < high = c.loop-low-test.true in
    let ordered = c.loop-low.invariant.ordered in
    let within = c.loop-low.invariant.within in
    let inside : mid < length c.args.slots.now = omega arith in
    let cost = one_look c.args.steps.now c.loop-low.steps c.is_from.new.steps (high - low) (mid - low) (length c.args.slots.now) c.is_from.ensures.one c.loop-low.invariant.counted (omega arith) (omega arith) c.loop-low.invariant.halves in
    record {
      ordered = omega arith;
      within = omega arith;
      before = c.loop-low.invariant.before;
      from = λ k d after below. rises_from c.args.slots.now c.args.place k mid d _ c.requires after inside below (sym c.is_from.ensures.from ∙ c.if-is_from.true);
      counted = omega (arith, c.is_from.ensures.one, c.loop-low.invariant.counted);
      halves = cost.0;
      few = cost.1;
    }

pub loop-low-preserved : goal.loop-low-preserved
loop-low-preserved g c =
    let low = c.loop-low.low in
    let high = c.loop-low.high in
    let mid = low + (high - low) / 2 in
    let going : low < high = c.loop-low-test.true in
    let ordered = c.loop-low.invariant.ordered in
    let within = c.loop-low.invariant.within in
    let inside : mid < length c.args.slots.now = omega arith in
    let cost = one_look c.args.steps.now c.loop-low.steps c.is_from.new.steps (high - low) (high - (mid + 1)) (length c.args.slots.now) c.is_from.ensures.one c.loop-low.invariant.counted (omega arith) (omega arith) c.loop-low.invariant.halves in
    record {
      ordered = omega arith;
      within = within;
      before = λ k d below. rises_before c.args.slots.now c.args.place k mid d _ c.requires (omega arith) inside (sym c.is_from.ensures.from ∙ c.if-is_from.false);
      from = c.loop-low.invariant.from;
      counted = omega (arith, c.is_from.ensures.one, c.loop-low.invariant.counted);
      halves = cost.0;
      few = cost.1;
    }

pub returns-clause-first : goal.returns-clause-first
returns-clause-first g c =
    let over : c.loop-low.high ≤ c.loop-low.low = c.loop-low-test.false in
    let ordered = c.loop-low.invariant.ordered in
    let within = c.loop-low.invariant.within in
    sym (position_or_len_is (λ (s : Slot). nat_le c.args.place s.place) c.args.slots.now c.loop-low.low no_slot (omega arith)
    (λ k below. c.loop-low.invariant.before k no_slot below)
    (λ below. c.loop-low.invariant.from c.loop-low.low no_slot over below))
