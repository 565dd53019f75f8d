use Rattle.std.proofs.Common.{ℕ, List, ◌++◌, ap, subst, ◌∙◌}
use Rattle.http_edge.specs.Carry.{Writes}
use Rattle.http_edge.proofs.Carried.{over_nothing}
use Rattle.frame_wire.specs.Frames.{frame_bytes}
use Rattle.frame_session.proofs.turn.write_answer.Goals as goal

pub returns-in-Err-clause-writes : goal.returns-in-Err-clause-writes
returns-in-Err-clause-writes g c = over_nothing _

pub returns-in-Ok-clause-writes : goal.returns-in-Ok-clause-writes
returns-in-Ok-clause-writes g c =
    let bytes = frame_bytes c.args.answer.now in
    subst (λ (l : List ℕ). Writes (g.C.Source.read_traffic c.args.conn.now) (g.C.Source.read_traffic c.send.new.conn) l c.send.result)
    (c.as_slice.ensures.value ∙ c.in-Ok.ensures.written ∙ ap (λ (l : List ℕ). l ++ bytes) c.clear.ensures.items)
    c.send.ensures.writes
