use Rattle.std.proofs.Common.{sym, ap, subst, ◌∙◌, List, ℕ, [], drop, length, ◌≤◌, ◌≡◌, ◌+◌, ◌-◌, arith}
use Rattle.http_edge.proofs.Extended.{extends_none}
use Rattle.http_edge.proofs.Behind.{sized_whole, sized_cut}
use Rattle.http_edge.proofs.content.read_sized.Goals as goal

pub returns-then-is_err-clause-reads : goal.returns-then-is_err-clause-reads
returns-then-is_err-clause-reads g c = ([], (c.args.arrivals.rest, extends_none c.args.arrivals.rest _, tt), tt)

pub returns-in-Err-clause-reads : goal.returns-in-Err-clause-reads
returns-in-Err-clause-reads g c =
    let at = c.into_front-at.result.0 in
    let new = c.read_rest.new.body.items in
    let front = c.reserve.new.self.items in
    let same = c.reserve.ensures.items in
    let from = ap (drop at) same ∙ c.into_front-at.ensures.front in
    let le = subst (λ (l : List ℕ). at ≤ length l) (sym same) c.into_front-at.ensures.behind in
    let shown = c.taken-taken.ensures in
    let within = c.into_front-at.ensures.taken in
    let count : (c.taken-taken.result - at) + at ≡ c.args.arrivals.taken = omega arith in
    (drop at new, sized_cut (Unit {0}) c.args.size at _ c.args.arrivals front new _ _ c.in-Err.error from le count c.in-Err.ensures.fills, tt)

pub returns-in-Ok-clause-reads : goal.returns-in-Ok-clause-reads
returns-in-Ok-clause-reads g c =
    let at = c.into_front-at.result.0 in
    let new = c.read_rest.new.body.items in
    let front = c.reserve.new.self.items in
    let same = c.reserve.ensures.items in
    let from = ap (drop at) same ∙ c.into_front-at.ensures.front in
    let le = subst (λ (l : List ℕ). at ≤ length l) (sym same) c.into_front-at.ensures.behind in
    let shown = c.taken-taken.ensures in
    let within = c.into_front-at.ensures.taken in
    let count : (c.taken-taken.result - at) + at ≡ c.args.arrivals.taken = omega arith in
    (drop at new, sized_whole c.in-Ok.field-0 c.args.size at _ c.args.arrivals front new _ _ from le count c.in-Ok.ensures.fills, c.behind.ensures)
