use Rattle.std.proofs.Common.{◌≡◌, ◌<◌, Bool, length, ap, arith}
use Rattle.member_roster.specs.Members.{heard_of, late_of}
use Rattle.member_roster.specs.Roster.{RosterState}
use Rattle.round_core.specs.Views.{RoundState}
use Rattle.round_core.proofs.Giving.{counted, dirty_more, dirty_same}
use Rattle.round_core.proofs.rounds.Rounds.drop_late.Goals as goal

pub overflow_sub-dropped : goal.overflow_sub-dropped
overflow_sub-dropped c =
    let n = counted c.self.inside.roster.members c.args.now in
    let e = ap (λ (r : RosterState). length r.members) c.drop_late.ensures.members in
    let a = c.len.ensures.count in
    let b = c.len-before.ensures.count in
    omega arith

pub returns-then-dropped-gt0-clause-state : goal.returns-then-dropped-gt0-clause-state
returns-then-dropped-gt0-clause-state c =
    let n = counted c.self.inside.roster.members c.args.now in
    let e = ap (λ (r : RosterState). length r.members) c.drop_late.ensures.members in
    let a = c.len.ensures.count in
    let b = c.len-before.ensures.count in
    let more : 0 < length (late_of c.self.inside.roster.members c.args.now) = omega arith in
    let f : Bool → RoundState = λ d. record { state = record { next_version = c.self.inside.next_version; boots = c.self.inside.boots; members = heard_of c.self.inside.roster.members c.args.now; phase = c.self.inside.phase; dirty = d; table = c.self.inside.roster.table }; capacity = c.self.inside.roster.capacity } in
    rw (← c.self.view_is, c.drop_late.ensures.members) (ap f (dirty_more c.self.inside.dirty (length (late_of c.self.inside.roster.members c.args.now)) more))

pub returns-then-dropped-gt0-clause-count : goal.returns-then-dropped-gt0-clause-count
returns-then-dropped-gt0-clause-count c =
    let n = counted c.self.inside.roster.members c.args.now in
    let e = ap (λ (r : RosterState). length r.members) c.drop_late.ensures.members in
    let a = c.len.ensures.count in
    let b = c.len-before.ensures.count in
    rw (← c.self.view_is) (omega arith)

pub returns-else-dropped-gt0-clause-state : goal.returns-else-dropped-gt0-clause-state
returns-else-dropped-gt0-clause-state c =
    let n = counted c.self.inside.roster.members c.args.now in
    let e = ap (λ (r : RosterState). length r.members) c.drop_late.ensures.members in
    let a = c.len.ensures.count in
    let b = c.len-before.ensures.count in
    let none : length (late_of c.self.inside.roster.members c.args.now) ≡ 0 = omega arith in
    let f : Bool → RoundState = λ d. record { state = record { next_version = c.self.inside.next_version; boots = c.self.inside.boots; members = heard_of c.self.inside.roster.members c.args.now; phase = c.self.inside.phase; dirty = d; table = c.self.inside.roster.table }; capacity = c.self.inside.roster.capacity } in
    rw (← c.self.view_is, c.drop_late.ensures.members) (ap f (dirty_same c.self.inside.dirty (length (late_of c.self.inside.roster.members c.args.now)) none))

pub returns-else-dropped-gt0-clause-count : goal.returns-else-dropped-gt0-clause-count
returns-else-dropped-gt0-clause-count c =
    let n = counted c.self.inside.roster.members c.args.now in
    let e = ap (λ (r : RosterState). length r.members) c.drop_late.ensures.members in
    let a = c.len.ensures.count in
    let b = c.len-before.ensures.count in
    rw (← c.self.view_is) (omega arith)
