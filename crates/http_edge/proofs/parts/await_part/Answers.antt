use Rattle.std.proofs.Common.{subst, ◌≤◌, ◌+◌, length, Ok, Err, None}
use Rattle.http_edge.specs.Arrivals.{LooksAtPart, BreaksPart}
use Rattle.http_edge.proofs.Extended.{part_fails, part_full, part_cut, wait_fails}
use Rattle.http_edge.proofs.parts.await_part.Goals as goal

pub returns-in-Err-clause-awaits : goal.returns-in-Err-clause-awaits
returns-in-Err-clause-awaits g c =
    let stream = c.looks.arrivals.rest in
    let seen : LooksAtPart c.args.part stream (Err c.in-Err.error) = subst (λ l. LooksAtPart c.args.part l (Err c.in-Err.error)) c.rest.ensures.rest c.in-Err.ensures in
    (stream, c.looks.invariant.came, part_fails c.args.part stream (c.args.arrivals.now.taken + length stream) _ _ c.in-Err.error (subst (λ l. length l ≤ 16384) c.rest.ensures.rest c.rest.ensures.short) seen)

pub returns-in-Err-fetch-clause-awaits : goal.returns-in-Err-fetch-clause-awaits
returns-in-Err-fetch-clause-awaits g c =
    let stream = c.looks.arrivals.rest in
    let seen : LooksAtPart c.args.part c.rest.result.now (Ok None) = rw c.in-Ok-None.field-0-is at c.in-Ok-None.ensures in
    let open_ : LooksAtPart c.args.part stream (Ok None) = subst (λ l. LooksAtPart c.args.part l (Ok None)) c.rest.ensures.rest seen in
    wait_fails (Unit {0}) (BreaksPart c.args.part) c.args.arrivals.now c.looks.arrivals c.fetch.new.self _ _ _ c.in-Err-fetch.error c.looks.invariant.came c.looks.invariant.taken
    (part_full c.args.part stream open_) (λ n. part_cut c.args.part stream n open_) c.in-Err-fetch.ensures.fetches
