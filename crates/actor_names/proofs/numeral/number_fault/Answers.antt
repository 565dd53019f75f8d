use Rattle.std.proofs.Common.{arith, length}
use Rattle.actor_names.proofs.Numerals.{number_fault-piece, placed_late, placed_low, placed_none}
use Rattle.actor_names.proofs.numeral.number_fault.Goals as goal

pub returns-in-None : goal.returns-in-None
returns-in-None c =
    let piece = number_fault-piece c.args.low c.args.most c.args.start c.numeral_end-end.result c.args.text.now _ c.numeral_end-end.ensures.end c.read_decimal.ensures in
    rw (piece, c.in-None.is) (placed_none c.args.low c.args.start c.numeral_end-end.result (length c.args.text.now))

pub returns-then-number-low : goal.returns-then-number-low
returns-then-number-low c =
    let piece = number_fault-piece c.args.low c.args.most c.args.start c.numeral_end-end.result c.args.text.now _ c.numeral_end-end.ensures.end c.read_decimal.ensures in
    rw (piece, c.in-Some.is) (placed_low c.args.low c.args.start c.numeral_end-end.result (length c.args.text.now) c.in-Some.number (omega arith))

pub returns-then-end-text : goal.returns-then-end-text
returns-then-end-text c =
    let piece = number_fault-piece c.args.low c.args.most c.args.start c.numeral_end-end.result c.args.text.now _ c.numeral_end-end.ensures.end c.read_decimal.ensures in
    rw (piece, c.in-Some.is) (placed_late c.args.low c.args.start c.numeral_end-end.result (length c.args.text.now) c.in-Some.number (omega arith) (omega arith) (omega arith))
