use Rattle.actor_names.proofs.AddressParts.{port-none, port-late, port-read}
use Rattle.actor_names.proofs.address.read_port.Goals as goal

pub returns-in-None-clause-reading : goal.returns-in-None-clause-reading
returns-in-None-clause-reading c = port-none _ _ c.args.text.now _ c.numeral_end-end.ensures.end c.read_decimal.ensures c.in-None.is

pub returns-then-end-text-clause-reading : goal.returns-then-end-text-clause-reading
returns-then-end-text-clause-reading c = port-late _ _ c.args.text.now _ c.numeral_end-end.ensures.end _ c.read_decimal.ensures c.in-Some.is c.if-end-text.true

pub returns-else-end-text-clause-reading : goal.returns-else-end-text-clause-reading
returns-else-end-text-clause-reading c = port-read _ _ c.args.text.now _ c.numeral_end-end.ensures.end _ c.read_decimal.ensures c.in-Some.is c.if-end-text.false
