use Rattle.std.proofs.Common.{ℕ, ◌<◌, ◌≤◌, ◌∙◌, refl, length, arith}
use Rattle.sidecar_node.specs.Nodes.{part_gates}
use Rattle.clock_turns.proofs.ClosingGoings.{start, went_on, through, went_over}
use Rattle.clock_turns.proofs.closing.close_cells.Goals as goal

pub loop-init : goal.loop-init
loop-init g c =
    let desk = c.args.desk.now in
    record {
      node = refl;
      seats = c.requires;
      progress = start desk.links.app_at c.args.now (length (part_gates desk.node.now)) desk.seats _ _;
      clock = refl;
      places = (refl, refl);
      others = (refl, refl);
    }

pub loop-preserved : goal.loop-preserved
loop-preserved g c =
    let desk = c.args.desk.now in
    let i = c.loop.invariant in
    let t = c.take_one-taken in
    let parts : ℕ = length (part_gates desk.node.now) in
    let many = c.parts.ensures.many in
    let less : c.loop.part < parts = omega arith in
    record {
      node = t.ensures.node ∙ i.node;
      seats = rw i.node at t.ensures.seats;
      progress = went_on desk.links.app_at c.args.now parts c.loop.part c.in-On.next desk.seats c.loop.desk.seats t.new.desk.seats _ _ _ _ _ _ c.loop.faulted t.result.faulted c.either-faulted.result t.result.stand
          less i.progress (rw i.places.0 at t.ensures.takes) c.in-On.is c.either-faulted.ensures;
      clock = t.ensures.clock ∙ i.clock;
      places = (t.ensures.places.0 ∙ i.places.0, t.ensures.places.1 ∙ i.places.1);
      others = (t.ensures.others.0 ∙ i.others.0, t.ensures.others.1 ∙ i.others.1);
    }

pub returns-then-part-parts-clause-closes : goal.returns-then-part-parts-clause-closes
returns-then-part-parts-clause-closes g c =
    let desk = c.args.desk.now in
    let many = c.parts.ensures.many in
    let all : length (part_gates desk.node.now) ≤ c.loop.part = omega arith in
    through desk.node.now desk.links.app_at c.args.now desk.seats c.loop.desk.seats _ _ _ _ c.loop.part c.loop.faulted all c.loop.invariant.progress

pub returns-in-Over-clause-closes : goal.returns-in-Over-clause-closes
returns-in-Over-clause-closes g c =
    let desk = c.args.desk.now in
    let i = c.loop.invariant in
    let t = c.take_one-taken in
    let parts : ℕ = length (part_gates desk.node.now) in
    let many = c.parts.ensures.many in
    let less : c.loop.part < parts = omega arith in
    went_over desk.node.now desk.links.app_at c.args.now c.loop.part desk.seats c.loop.desk.seats t.new.desk.seats _ _ _ _ _ _ c.in-Over.end c.loop.faulted t.result.faulted c.either-faulted.result t.result.stand
    less i.progress (rw i.places.0 at t.ensures.takes) c.in-Over.is c.either-faulted.ensures
