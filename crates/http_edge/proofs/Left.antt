-- What a connection has left.
use Rattle.std.proofs.Common.{sym, ap, ◌∙◌, ◌≡◌, List, [], ◌++◌, ℕ, Option, Some, None}
use Rattle.actor_ports.specs.Traffic.{Traffic}
use Rattle.http_edge.specs.Carry.{Carried, Over, AtEnd}

left_of : Option Traffic → List ℕ
left_of None = []
left_of (Some t) = t.left

-- at its end it has nothing left
pub none_left : (t : Traffic) (d : Option Traffic) (c : Carried) (o : Over (Some t) d c) → AtEnd (Some t) d → o.0 ≡ []
unfolding left_of
none_left t d c o end =
    let same : ◌≡◌ {A = Option Traffic} (Some (record { at = t.at; read = t.read ++ c.read; left = o.0; written = t.written ++ c.written })) (Some end.0) = sym o.2 ∙ end.1 in
    ap left_of same ∙ end.2
