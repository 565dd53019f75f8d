use Rattle.std.proofs.Common.{rules, ap, ◌∙◌, ◌≡◌, ◌+◌, ◌-◌, length, drop}
use Rattle.http_edge.proofs.Extended.{extends_none}
use Rattle.http_edge.specs.Arrivals.{Arrived}
use Rattle.http_edge.proofs.Filled.{data_whole, data_cut, front_counted}
use Rattle.http_edge.proofs.content.take_data.Goals as goal

pub returns-in_default-clause-takes : goal.returns-in_default-clause-takes
returns-in_default-clause-takes g c = (c.args.arrivals.now.rest, extends_none c.args.arrivals.now.rest _, tt)

pub returns-in-Err-clause-takes : goal.returns-in-Err-clause-takes
returns-in-Err-clause-takes g c =
    let have = c.in-Ok.have in
    let old = c.args.arrivals.now in
    let mid = c.take_front.new.body.items in
    let sum : c.len.result + (c.args.size - have) ≡ length mid + (c.args.size - have) = search rules in
    let taken : c.taken.result ≡ old.taken + have = c.taken.ensures ∙ ap (λ (a : Arrived). a.taken) c.in-Ok.ensures.left in
    let long : c.len-2.result ≡ length mid = search rules in
    let count : (c.taken.result - c.len-2.result) + length mid ≡ old.taken + have = front_counted c.args.size have c.taken.result c.len-2.result old.taken old.rest c.args.body.now.items mid c.in-Ok.ensures.count c.in-Ok.ensures.bytes taken long c.requires.counted in
    data_cut (Unit {0}) c.args.size have _ _ old c.take_front.new.arrivals c.args.body.now.items mid c.read_rest.new.body.items _ _ c.in-Err.error c.in-Ok.ensures.count sum c.in-Ok.ensures.bytes count c.in-Err.ensures.fills

pub returns-in-Ok-read_rest-clause-takes : goal.returns-in-Ok-read_rest-clause-takes
returns-in-Ok-read_rest-clause-takes g c =
    let have = c.in-Ok.have in
    let old = c.args.arrivals.now in
    let mid = c.take_front.new.body.items in
    let sum : c.len.result + (c.args.size - have) ≡ length mid + (c.args.size - have) = search rules in
    let then : c.count.new.self ≡ record { rest = drop have old.rest; taken = old.taken + have + (c.args.size - have) } = c.count.ensures ∙ ap (λ (a : Arrived). record { rest = a.rest; taken = a.taken + (c.args.size - have) }) c.in-Ok.ensures.left in
    data_whole c.in-Ok-read_rest.field-0 c.args.size have (c.taken.result - c.len-2.result) (c.len.result + (c.args.size - have)) old c.count.new.self c.args.body.now.items mid c.read_rest.new.body.items _ _ c.in-Ok.ensures.count sum c.in-Ok.ensures.bytes c.in-Ok-read_rest.ensures.fills then
