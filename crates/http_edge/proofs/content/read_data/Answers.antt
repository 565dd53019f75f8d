use Rattle.std.proofs.Common.{rules, ◌≡◌, ◌<◌, ◌≤◌, ◌+◌, ◌-◌, min, length}
use Rattle.http_edge.specs.Fields.{most_body}
use Rattle.http_edge.proofs.Extended.{extends_none}
use Rattle.http_edge.proofs.Chunked.{long_data, end_fails, data_ended}
use Rattle.http_edge.proofs.content.read_data.Goals as goal

pub returns-then-size-have-clause-reads : goal.returns-then-size-have-clause-reads
returns-then-size-have-clause-reads g c =
    let have = length c.args.body.now.items in
    let small : have ≤ most_body = search rules in
    let more : most_body - have < c.args.size = search rules in
    let is : c.saturating_add.result ≡ min (c.args.size + have) 18446744073709551615 = search rules in
    (c.args.arrivals.now.rest, extends_none c.args.arrivals.now.rest _, long_data have c.args.size c.saturating_add.result small more is)

pub returns-in-Err-await_part-clause-reads : goal.returns-in-Err-await_part-clause-reads
returns-in-Err-await_part-clause-reads g c =
    let fits : length c.args.body.now.items + c.args.size ≤ most_body = search rules in
    end_fails (Unit {0}) c.args.size c.args.arrivals.now c.take_data.new.arrivals c.await_part.new.arrivals c.args.body.now.items c.take_data.new.body.items c.in-Ok.field-0 _ _ _ c.in-Err-await_part.error fits c.in-Ok.ensures.takes c.in-Err-await_part.ensures.awaits

pub returns-in-Ok-await_part-clause-reads : goal.returns-in-Ok-await_part-clause-reads
returns-in-Ok-await_part-clause-reads g c =
    let fits : length c.args.body.now.items + c.args.size ≤ most_body = search rules in
    data_ended tt c.args.size c.in-Ok-await_part.field-0 c.args.arrivals.now c.take_data.new.arrivals c.await_part.new.arrivals c.args.body.now.items c.take_data.new.body.items c.in-Ok.field-0 _ _ _ fits c.in-Ok.ensures.takes c.in-Ok-await_part.ensures.awaits
