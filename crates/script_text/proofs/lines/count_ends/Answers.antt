use Rattle.std.proofs.Common.{◌==◌, ap, arith}
use Rattle.std.specs.List.{count_by}
use Rattle.std.proofs.lemmas.List.Sums.{count_by-le-length}
use Rattle.script_text.proofs.CountLemmas.{count_split}
use Rattle.script_text.proofs.lines.count_ends.Goals as goal

pub overflow_add-ends : goal.overflow_add-ends
overflow_add-ends c =
    let front = ap (count_by (λ b. b == 10)) c.split_at.ensures.front in
    let split = count_split 240 c.loop-rest.rest.now in
    let all = count_by-le-length (λ b. b == 10) c.args.text.now in
    omega (arith, front, split, all, c.loop-rest.invariant)

pub overflow_add-result : goal.overflow_add-result
overflow_add-result c =
    let all = count_by-le-length (λ b. b == 10) c.args.text.now in
    omega (arith, all, c.loop-rest.invariant)

pub loop-rest-preserved : goal.loop-rest-preserved
loop-rest-preserved c =
    let front = ap (count_by (λ b. b == 10)) c.split_at.ensures.front in
    let back = ap (count_by (λ b. b == 10)) c.split_at.ensures.back in
    let split = count_split 240 c.loop-rest.rest.now in
    omega (arith, front, back, split, c.loop-rest.invariant)

pub returns-clause-within : goal.returns-clause-within
returns-clause-within c =
    let all = count_by-le-length (λ b. b == 10) c.args.text.now in
    omega (arith, all, c.loop-rest.invariant)
