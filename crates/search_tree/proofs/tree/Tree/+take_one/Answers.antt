use Rattle.std.proofs.Common.{rules, ◌∷◌, sym, ◌∙◌}
use Rattle.search_tree.proofs.Runs.{run_front, run_behind, takes_right, takes_left}
use Rattle.search_tree.proofs.Tops.{opened, sides_shorter}
use Rattle.search_tree.proofs.tree.Tree.+take_one.Goals as goal

pub take_one-taken-requires : goal.take_one-taken-requires
take_one-taken-requires g t c κs within =
    let n = c.in-Full.node.value in
    let e = opened c.emptied.ensures.taken c.open.ensures c.in-Full.is in
    let a = rw e at c.requires in
    (let s = sides_shorter n.left n.element n.right in search rules, rw c.deref_mut.ensures.value (search rules, (search rules, (search rules, run_behind (g.P.Probe.at c.args.probe.now) n.left n.element n.right a))))

pub take_one-taken-requires-in-Greater : goal.take_one-taken-requires-in-Greater
take_one-taken-requires-in-Greater g t c κs within =
    let n = c.in-Full.node.value in
    let e = opened c.emptied.ensures.taken c.open.ensures c.in-Full.is in
    let a = rw e at c.requires in
    (let s = sides_shorter n.left n.element n.right in search rules, rw c.deref_mut-in-Greater.ensures.value (search rules, (search rules, (search rules, run_front (g.P.Probe.at c.args.probe.now) n.left (n.element ∷ n.right) a))))

pub returns-in-Less : goal.returns-in-Less
returns-in-Less g t c =
    let n = c.in-Full.node.value in
    let e = opened c.emptied.ensures.taken c.open.ensures c.in-Full.is in
    let a = rw e at c.requires in
    let less = let k = rw c.deref.ensures at c.compare.ensures in sym k ∙ c.in-Less.is in
    let b = rw c.deref_mut.ensures.value at c.balanced.ensures in
    let h = rw c.deref_mut.ensures.value at c.take_one-taken.ensures in
    rw (e, b) (takes_right (g.P.Probe.at c.args.probe.now) n.left n.element n.right c.take_one-taken.new.self c.take_one-taken.result a less h)

pub returns-in-Greater : goal.returns-in-Greater
returns-in-Greater g t c =
    let n = c.in-Full.node.value in
    let e = opened c.emptied.ensures.taken c.open.ensures c.in-Full.is in
    let a = rw e at c.requires in
    let more = let k = rw c.deref.ensures at c.compare.ensures in sym k ∙ c.in-Greater.is in
    let b = rw c.deref_mut-in-Greater.ensures.value at c.balanced-in-Greater.ensures in
    let h = rw c.deref_mut-in-Greater.ensures.value at c.take_one-taken-in-Greater.ensures in
    rw (e, b) (takes_left (g.P.Probe.at c.args.probe.now) n.left n.element n.right c.take_one-taken-in-Greater.new.self c.take_one-taken-in-Greater.result a more h)
