use Rattle.std.proofs.Common.{sym}
use Rattle.command_words.proofs.server.store_words.Goals as goal

pub returns : goal.returns
returns c =
    let h = rw (c.as_slice.ensures, c.server_options-options.ensures) at c.in_ok-matches.ensures in
    rw h.1 (sym (c.in-Some.ensures.server h.0 h.2))
