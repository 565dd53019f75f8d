use Rattle.std.proofs.Common.{ap, ◌∙◌, arith}
use Rattle.cluster_model.specs.World.{call_at}
use Rattle.cluster_parts.specs.CallIndex.{CallsView}
use Rattle.cluster_parts.proofs.CallNumbers.{call_found}
use Rattle.cluster_parts.proofs.calls.Calls.at.Goals as goal

pub returns : goal.returns
returns c =
    call_found c.self.inside.items.items c.args.call c.index.result.now (λ e. omega arith) (omega arith) c.index.ensures ∙ ap (λ (v : CallsView). call_at v.calls c.args.call) c.self.view_is
