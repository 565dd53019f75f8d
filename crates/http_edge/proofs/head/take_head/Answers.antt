use Rattle.std.proofs.Common.{sym}
use Rattle.http_edge.proofs.Looked.{head_there}
use Rattle.http_edge.proofs.head.take_head.Goals as goal

pub returns-in-Ok-copy_head : goal.returns-in-Ok-copy_head
returns-in-Ok-copy_head c =
    let e = c.in-Ok-copy_head.ensures in
    head_there c.args.bytes.now c.args.spans.now c.args.head c.requires.is.0 c.in-Ok-copy_head.head c.in-Ok.size c.requires.is.1 c.requires.within c.requires.few c.requires.short
    (sym c.in-Ok.ensures)
    e.method e.target e.fields e.close e.lengths.0 e.lengths.1
