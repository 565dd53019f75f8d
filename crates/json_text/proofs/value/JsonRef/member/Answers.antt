use Rattle.std.proofs.Common.{◌≤◌, sym, arith}
use Rattle.serde_json.specs.Data.{depth}
use Rattle.serde_json.specs.View.{view}
use Rattle.json_text.proofs.Found.{some_member, no_member, member_depth}
use Rattle.json_text.proofs.value.JsonRef.member.Goals as goal

pub invariant_of-result : goal.invariant_of-result
invariant_of-result c =
    let below : depth (view c.in-Some.value.now) ≤ depth (view c.self.inside.value.now) =
    member_depth c.args.key.now (view c.self.inside.value.now) (view c.in-Some.value.now) (sym c.in-Some.ensures) in
    omega (arith, below, c.self.invariant)

pub returns-in-Some : goal.returns-in-Some
returns-in-Some c = rw (← c.self.view_is) (some_member c.args.key.now (view c.self.inside.value.now) (view c.in-Some.value.now) c.in-Some.ensures)

pub returns-in-None : goal.returns-in-None
returns-in-None c = rw (← c.self.view_is) (no_member c.args.key.now (view c.self.inside.value.now) c.in-None.ensures)
