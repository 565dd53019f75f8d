use Rattle.std.proofs.Common.{◌≡◌, ℕ, ◌+◌, ◌<◌, ◌≤◌, [], ◌∷◌, length, arith, vec_len, append-nil}
use Rattle.std.proofs.lemmas.Option.{slice_get_within}
use Rattle.sidecar_node.proofs.Places.{get_here, get_popped, pop_front}
use Rattle.sidecar_node.proofs.Joins.{seats_set, joined_none, joined_next, joined_all}
use Rattle.sidecar_node.proofs.seating.join_row.Goals as goal

pub loop-seat-init : goal.loop-seat-init
loop-seat-init g c =
    let many = c.requires.kept.many in
    let also = c.requires.given.many in
    let few : length c.args.kept.now.items ≤ vec_len c.args.given = omega arith in
    record { seats = c.requires.kept; rest = ([], append-nil _); joined = joined_none _ _ _ few }

pub join_in-requires-clause-kept : goal.join_in-requires-clause-kept
join_in-requires-clause-kept g c =
    let inv = c.loop-seat.invariant in
    let k : ℕ = c.len-k.result in
    let front : length c.pop.new.self.items ≡ k = omega arith in
    let popped = rw c.in-Some.is at c.pop.ensures.items in
    let there = get_popped _ _ c.pop.new.self.items inv.rest.0 c.in-Some.seat k inv.rest.1 popped front in
    let within = slice_get_within _ k _ there in
    let many = c.requires.given.many in
    let also = inv.seats.many in
    let first : k < length c.args.gates.now.items = omega arith in
    let second : k < length c.loop-seat.kept.items = omega arith in
    inv.seats.each k _ _ (get_here _ k _ first c.index.ensures) (get_here _ k _ second c.index_mut.ensures.value)

pub join_in-requires-clause-given : goal.join_in-requires-clause-given
join_in-requires-clause-given g c =
    let inv = c.loop-seat.invariant in
    let k : ℕ = c.len-k.result in
    let front : length c.pop.new.self.items ≡ k = omega arith in
    let popped = rw c.in-Some.is at c.pop.ensures.items in
    let there = get_popped _ _ c.pop.new.self.items inv.rest.0 c.in-Some.seat k inv.rest.1 popped front in
    let within = slice_get_within _ k _ there in
    let many = c.requires.given.many in
    let first : k < length c.args.gates.now.items = omega arith in
    c.requires.given.each k _ _ (get_here _ k _ first c.index.ensures) there

pub loop-seat-preserved : goal.loop-seat-preserved
loop-seat-preserved g c =
    let inv = c.loop-seat.invariant in
    let k : ℕ = c.len-k.result in
    let front : length c.pop.new.self.items ≡ k = omega arith in
    let popped = rw c.in-Some.is at c.pop.ensures.items in
    let fewer = rw c.in-Some.is at c.pop.ensures.cases in
    let there = get_popped _ _ c.pop.new.self.items inv.rest.0 c.in-Some.seat k inv.rest.1 popped front in
    let within = slice_get_within _ k _ there in
    let many = c.requires.given.many in
    let also = inv.seats.many in
    let first : k < length c.args.gates.now.items = omega arith in
    let second : k < length c.loop-seat.kept.items = omega arith in
    let next : vec_len c.loop-seat.given ≡ k + 1 = omega arith in
    let at_gate = get_here _ k _ first c.index.ensures in
    let at_seat = get_here _ k _ second c.index_mut.ensures.value in
    record {
      seats = seats_set g.M.Machine.moves _ _ k c.index.result.now _ inv.seats at_gate c.join_in.ensures.seat.0;
      rest = (c.in-Some.seat ∷ inv.rest.0, pop_front _ _ _ _ _ inv.rest.1 popped);
      joined = joined_next k _ _ _ _ _ _ _ c.in-Some.seat c.len-k.ensures next inv.joined at_seat there
          (record { keeps = c.join_in.ensures.seat.1; seen = c.join_in.ensures.seen; given_seen = c.join_in.ensures.given });
    }

pub returns-clause-meet : goal.returns-clause-meet
returns-clause-meet g c =
    let none = rw c.in_default.is at c.pop.ensures.cases in
    joined_all _ _ _ _ none.0 c.loop-seat.invariant.joined
