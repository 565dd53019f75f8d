use Rattle.std.proofs.Common.{◌≡◌, ◌<◌, ℕ, ◌+◌, ◌*◌, List, length, Some, None, ap, sym, ◌∙◌, subst, arith}
use Rattle.std.specs.Prelude.{slice_get}
use Rattle.std.proofs.lemmas.Option.{slice_get-get_or}
use Rattle.cluster_parts.specs.declared.home.Home.{Home}
use Rattle.cluster_parts.specs.Layout.{booted_at}
use Rattle.cluster_parts.specs.Views.{PartsView, member_in, states_of}
use Rattle.cluster_parts.proofs.Members.{member_laid, none_laid}
use Rattle.cluster_parts.proofs.parts.Parts.member.Goals as goal

pub returns-then-n-len : goal.returns-then-n-len
returns-then-n-len c =
    subst (λ (v : PartsView). None ≡ member_in (slice_get v.parts (c.args.n * v.per))) c.self.view_is
    (none_laid c.self.inside.per c.args.n c.self.inside.homes.items (states_of c.self.inside.items.items) c.self.invariant.laid (omega arith))

pub returns : goal.returns
returns c =
    let nodes = c.self.inside.homes.items in
    let node : Home = c.index-home.result.now in
    let here = slice_get-get_or nodes c.args.n node (omega arith) ∙ ap (λ (u : Home). Some u) (sym c.index-home.ensures) in
    subst (λ (v : PartsView). Some (booted_at node (c.args.n + 1)) ≡ member_in (slice_get v.parts (c.args.n * v.per))) c.self.view_is
    (member_laid c.self.inside.per c.args.n nodes (states_of c.self.inside.items.items) node c.self.invariant.many c.self.invariant.laid here)
