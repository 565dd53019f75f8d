use Rattle.std.proofs.Common.{◌≡◌, arith, ap, drop, length, length-drop}
use Rattle.std.proofs.lemmas.Fmt.{length-decimal-le}
use Rattle.outcome_text.proofs.line_buffer.OutcomeLine.put_number.Goals as goal

pub write_digits-self-inside-requires : goal.write_digits-self-inside-requires
write_digits-self-inside-requires c =
    let digits = length-decimal-le 20 c.args.number (omega arith) (omega arith) c.ranges.number.fits in
    let now : drop c.self.inside.start c.self.inside.bytes ≡ c.args.self.now = c.self.view_is in
    (omega (arith, digits, length-drop c.self.inside.start c.self.inside.bytes, ap length now), omega arith)

pub returns-clause-short : goal.returns-clause-short
returns-clause-short c =
    let digits = length-decimal-le 20 c.args.number (omega arith) (omega arith) c.ranges.number.fits in
    let now : drop c.self.inside.start c.self.inside.bytes ≡ c.args.self.now = c.self.view_is in
    let w = c.write_digits-self-inside in
    omega (arith, digits, length-drop w.result w.new.buf, length-drop c.self.inside.start c.self.inside.bytes, ap length now)
