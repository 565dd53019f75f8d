use Rattle.actor_names.proofs.AddressParts.{part-none, part-ended, part-other, part-joined}
use Rattle.actor_names.proofs.address.read_part.Goals as goal

pub returns-in-None-clause-reading : goal.returns-in-None-clause-reading
returns-in-None-clause-reading c = part-none _ _ c.args.text.now _ c.numeral_end-end.ensures.end _ c.read_decimal.ensures c.in-None.is

pub returns-then-end-text-clause-reading : goal.returns-then-end-text-clause-reading
returns-then-end-text-clause-reading c = part-ended _ _ c.args.text.now _ c.numeral_end-end.ensures.end _ _ c.read_decimal.ensures c.in-Some.is c.if-end-text.true

pub returns-then-text-end-clause-reading : goal.returns-then-text-end-clause-reading
returns-then-text-end-clause-reading c = part-other _ _ c.args.text.now _ c.numeral_end-end.ensures.end _ _ c.read_decimal.ensures c.in-Some.is c.if-end-text.false c.if-text-end.true

pub returns-else-text-end-clause-reading : goal.returns-else-text-end-clause-reading
returns-else-text-end-clause-reading c = part-joined _ _ c.args.text.now _ c.numeral_end-end.ensures.end _ _ c.read_decimal.ensures c.in-Some.is c.if-end-text.false c.if-text-end.false
