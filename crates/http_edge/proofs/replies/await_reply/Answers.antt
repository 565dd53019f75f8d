use Rattle.std.proofs.Common.{subst, ◌≤◌, ◌+◌, length, Ok, Err, None, inl}
use Rattle.http_edge.specs.Arrivals.{LooksAtReply, BreaksAtHead}
use Rattle.http_edge.proofs.Extended.{look_fails, wait_fails}
use Rattle.http_edge.proofs.replies.await_reply.Goals as goal

pub returns-in-Err-clause-awaits : goal.returns-in-Err-clause-awaits
returns-in-Err-clause-awaits g c =
    let stream = c.looks.arrivals.rest in
    let seen : LooksAtReply stream (Err c.in-Err.error) = subst (λ l. LooksAtReply l (Err c.in-Err.error)) c.rest.ensures.rest c.in-Err.ensures in
    (stream, c.looks.invariant.came, look_fails stream (c.args.arrivals.now.taken + length stream) _ _ c.in-Err.error (subst (λ l. length l ≤ 16384) c.rest.ensures.rest c.rest.ensures.short) seen)

pub returns-in-Err-fetch-clause-awaits : goal.returns-in-Err-fetch-clause-awaits
returns-in-Err-fetch-clause-awaits g c =
    let stream = c.looks.arrivals.rest in
    let seen : LooksAtReply c.rest.result.now (Ok None) = rw c.in-Ok-None.field-0-is at c.in-Ok-None.ensures in
    let open_ : LooksAtReply stream (Ok None) = subst (λ l. LooksAtReply l (Ok None)) c.rest.ensures.rest seen in
    wait_fails (Unit {0}) BreaksAtHead c.args.arrivals.now c.looks.arrivals c.fetch.new.self _ _ _ c.in-Err-fetch.error c.looks.invariant.came c.looks.invariant.taken
    (λ full. inl (full, open_.0, open_.1)) (λ n short. inl (short, open_.0, open_.1)) c.in-Err-fetch.ensures.fetches
