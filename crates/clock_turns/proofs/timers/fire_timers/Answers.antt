use Rattle.std.proofs.Common.{◌<◌, ◌≤◌, ◌∙◌, refl, length, arith}
use Rattle.sidecar_node.specs.Nodes.{part_gates}
use Rattle.clock_turns.proofs.TickGoings.{start, went_on, through, went_over}
use Rattle.clock_turns.proofs.timers.fire_timers.Goals as goal

pub loop-init : goal.loop-init
loop-init g c =
    let desk = c.args.desk.now in
    record {
      node = refl;
      seats = c.requires.seats;
      progress = start desk.node.now desk.links.app_at c.args.now desk.seats _ _ _;
      clock = omega arith;
      places = (refl, refl);
      others = (refl, refl);
    }

pub loop-preserved : goal.loop-preserved
loop-preserved g c =
    let desk = c.args.desk.now in
    let i = c.loop.invariant in
    let t = c.take_due-firing in
    let many = c.parts.ensures.many in
    let less : c.loop.book < length (part_gates desk.node.now) = omega arith in
    let before = i.clock in
    let later = t.ensures.clock in
    let due = rw i.node at t.ensures.due in
    let taken = rw i.places.0 at due in
    record {
      node = t.ensures.node ∙ i.node;
      seats = rw i.node at t.ensures.seats;
      progress = went_on desk.node.now desk.links.app_at c.args.now c.loop.book c.in-On.next desk.seats c.loop.desk.seats t.new.desk.seats _ _ _ _ _ _ _ _ _ c.loop.turns c.more_if-turns.result t.result.begun c.loop.faulted t.result.faulted c.either-faulted.result t.result.stand
          less i.progress taken c.in-On.is c.more_if-turns.ensures c.either-faulted.ensures;
      clock = omega arith;
      places = (t.ensures.places.0 ∙ i.places.0, t.ensures.places.1 ∙ i.places.1);
      others = (t.ensures.others.0 ∙ i.others.0, t.ensures.others.1 ∙ i.others.1);
    }

pub returns-then-book-parts-clause-fires : goal.returns-then-book-parts-clause-fires
returns-then-book-parts-clause-fires g c =
    let desk = c.args.desk.now in
    let many = c.parts.ensures.many in
    let all : length (part_gates desk.node.now) ≤ c.loop.book = omega arith in
    through desk.node.now desk.links.app_at c.args.now desk.seats c.loop.desk.seats _ _ _ _ _ _ c.loop.book c.loop.turns c.loop.faulted all c.loop.invariant.progress

pub returns-in-Over-clause-fires : goal.returns-in-Over-clause-fires
returns-in-Over-clause-fires g c =
    let desk = c.args.desk.now in
    let i = c.loop.invariant in
    let t = c.take_due-firing in
    let many = c.parts.ensures.many in
    let less : c.loop.book < length (part_gates desk.node.now) = omega arith in
    let due = rw i.node at t.ensures.due in
    let taken = rw i.places.0 at due in
    went_over desk.node.now desk.links.app_at c.args.now c.loop.book desk.seats c.loop.desk.seats t.new.desk.seats _ _ _ _ _ _ _ _ _ c.loop.turns c.more_if-turns.result t.result.begun c.loop.faulted t.result.faulted c.either-faulted.result t.result.stand c.in-Over.end
    less i.progress taken c.in-Over.is c.more_if-turns.ensures c.either-faulted.ensures
