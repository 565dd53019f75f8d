use Rattle.std.proofs.Common.{ℕ, ◌+◌, ◌<◌, length, sym, subst, arith, rules, take}
use Rattle.sidecar_node.specs.Rows.{Along, AreSeatsOf, StartsFrom}
use Rattle.sidecar_node.proofs.Places.{get_here}
use Rattle.sidecar_node.proofs.Joins.{seats_set, kept_set, seats_more, starts_more}
use Rattle.sidecar_node.proofs.seating.split_row.Goals as goal

pub split_in-other-requires : goal.split_in-other-requires
split_in-other-requires g c =
    let inv = c.loop-k.invariant in
    let many = inv.seats.many in
    let first : c.loop-k.k < length c.args.gates.now.items = search rules in
    let second : c.loop-k.k < length c.loop-k.seats.items = omega arith in
    inv.seats.each c.loop-k.k _ _ (get_here _ _ _ first c.index.ensures) (get_here _ _ _ second c.index_mut.ensures.value)

pub loop-k-preserved : goal.loop-k-preserved
loop-k-preserved g c =
    let inv = c.loop-k.invariant in
    let many = inv.seats.many in
    let k : ℕ = c.loop-k.k in
    let moves = g.M.Machine.moves in
    let kept = c.split_in-other.ensures.kept in
    let given = c.split_in-other.ensures.given in
    let gate = c.index.result.now in
    let seat = c.index_mut.result.now in
    let other = c.split_in-other.result in
    let first : c.loop-k.k < length c.args.gates.now.items = search rules in
    let second : c.loop-k.k < length c.loop-k.seats.items = omega arith in
    let at_gate = get_here _ k gate first c.index.ensures in
    let at_seat = get_here _ k seat second c.index_mut.ensures.value in
    record {
      seats = seats_set moves _ _ k gate _ inv.seats at_gate kept.0;
      kept = kept_set _ _ k seat _ inv.kept at_seat kept.1 kept.2;
      count = omega arith;
      room = search rules;
      others = subst (λ (zs : _). AreSeatsOf moves (take (k + 1) c.args.gates.now.items) zs) (sym c.push_reserved.ensures.items) (seats_more moves _ _ k gate other inv.others at_gate given.0);
      given = subst (λ (zs : _). Along (λ k old new. StartsFrom old new) (take (k + 1) c.args.seats.now.items) zs) (sym c.push_reserved.ensures.items) (starts_more _ _ _ k seat other inv.kept inv.given at_seat given.1 given.2);
    }
