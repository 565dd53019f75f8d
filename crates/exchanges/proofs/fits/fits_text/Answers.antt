use Rattle.std.proofs.Common.{arith}
use Rattle.exchanges.proofs.Fitting.{text_fits}
use Rattle.exchanges.proofs.fits.fits_text.Goals as goal

pub returns : goal.returns
returns c =
    let short = c.if-as_bytes-gt65535.false in
    let same = c.as_bytes.ensures.len in
    text_fits c.args.one.now (omega arith) c.utf8.one
