use Rattle.std.proofs.Common.{drop, Ok, Err}
use Rattle.http_edge.proofs.Bodies.{whole_next, failed_next}
use Rattle.http_edge.proofs.Behind.{fills_behind, from_start, within_message, behind_message, behind_both}
use Rattle.http_edge.proofs.reader.take_body.Goals as goal

pub returns-in-Err-clause-takes : goal.returns-in-Err-clause-takes
returns-in-Err-clause-takes g c =
    let h = c.args.head in
    let stream = c.args.kept.now.items in
    let old = c.in-Ok.message.items in
    let new = c.read_rest.new.body.items in
    failed_next (Unit {0}) stream c.split_message.new.kept.items (drop h.len old) (drop h.len new) h _ _ c.in-Err.error c.requires.head (behind_message stream old h c.in-Ok.ensures.message)
    (fills_behind (Unit {0}) h.len 0 h.len h.size old new _ _ (Err c.in-Err.error) (within_message stream old h c.requires.head c.in-Ok.ensures.message) (from_start h.len) c.in-Err.ensures.fills)

pub returns-in-Ok-read_rest-clause-takes : goal.returns-in-Ok-read_rest-clause-takes
returns-in-Ok-read_rest-clause-takes g c =
    let h = c.args.head in
    let p = c.with_body.ensures.parts in
    let x = c.in-Ok-read_rest.field-0 in
    let stream = c.args.kept.now.items in
    let old = c.in-Ok.message.items in
    let new = c.read_rest.new.body.items in
    whole_next x stream c.split_message.new.kept.items (drop h.len old) (drop h.len new) h c.with_body.result _ _ c.requires.head
    (behind_message stream old h c.in-Ok.ensures.message) (behind_both stream _ h c.in-Ok.ensures.rest)
    (fills_behind (Unit {0}) h.len 0 h.len h.size old new _ _ (Ok x) (within_message stream old h c.requires.head c.in-Ok.ensures.message) (from_start h.len) c.in-Ok-read_rest.ensures.fills) p.0 p.1 p.2 p.3 c.with_body.ensures.body
