use Rattle.std.proofs.Common.{rules, ◌∷◌, ◌++◌, sym, ap, ◌∙◌}
use Rattle.search_tree.proofs.Cuts.{cut_front, cut_behind, changed_right, changed_here, changed_left}
use Rattle.search_tree.proofs.Tops.{opened, sides_shorter}
use Rattle.search_tree.proofs.tree.Tree.+change.Goals as goal

pub change-requires : goal.change-requires
change-requires g t c κs within =
    let n = c.in-Full.node.value in
    let e = opened c.emptied.ensures.taken c.open.ensures c.in-Full.is in
    let a = rw e at c.requires in
    (let s = sides_shorter n.left n.element n.right in search rules, rw c.deref_mut.ensures.value (search rules, (search rules, (search rules, (search rules, cut_behind (g.P.Probe.at c.args.probe.now) n.left n.element n.right a)))))

pub change-requires-in-Greater : goal.change-requires-in-Greater
change-requires-in-Greater g t c κs within =
    let n = c.in-Full.node.value in
    let e = opened c.emptied.ensures.taken c.open.ensures c.in-Full.is in
    let a = rw e at c.requires in
    (let s = sides_shorter n.left n.element n.right in search rules, rw c.deref_mut-in-Greater.ensures.value (search rules, (search rules, (search rules, (search rules, cut_front (g.P.Probe.at c.args.probe.now) n.left (n.element ∷ n.right) a)))))

pub returns-in-Less : goal.returns-in-Less
returns-in-Less g t c =
    let n = c.in-Full.node.value in
    let e = opened c.emptied.ensures.taken c.open.ensures c.in-Full.is in
    let a = rw e at c.requires in
    let less = let k = rw c.deref.ensures at c.compare.ensures in sym k ∙ c.in-Less.is in
    let b = rw c.deref_mut.ensures.value at c.close.ensures in
    let h = rw c.deref_mut.ensures.value at c.change.ensures in
    rw e (b ∙ ap (λ ys. n.left ++ n.element ∷ ys) h ∙ sym (changed_right (g.P.Probe.at c.args.probe.now) n.element n.right (g.C.Change.changed c.args.change.now) n.left a less))

pub returns-in-Equal : goal.returns-in-Equal
returns-in-Equal g t c =
    let n = c.in-Full.node.value in
    let e = opened c.emptied.ensures.taken c.open.ensures c.in-Full.is in
    let a = rw e at c.requires in
    let same = let k = rw c.deref.ensures at c.compare.ensures in sym k ∙ c.in-Equal.is in
    let b = rw c.deref_mut-in-Equal.ensures.value at c.close-in-Equal.ensures in
    let h = rw c.deref_mut-in-Equal.ensures.value at c.change-in-Equal.ensures in
    rw e (b ∙ ap (λ y. n.left ++ y ∷ n.right) h ∙ sym (changed_here (g.P.Probe.at c.args.probe.now) n.element n.right (g.C.Change.changed c.args.change.now) n.left a same))

pub returns-in-Greater : goal.returns-in-Greater
returns-in-Greater g t c =
    let n = c.in-Full.node.value in
    let e = opened c.emptied.ensures.taken c.open.ensures c.in-Full.is in
    let a = rw e at c.requires in
    let more = let k = rw c.deref.ensures at c.compare.ensures in sym k ∙ c.in-Greater.is in
    let b = rw c.deref_mut-in-Greater.ensures.value at c.close-in-Greater.ensures in
    let h = rw c.deref_mut-in-Greater.ensures.value at c.change-in-Greater.ensures in
    rw e (b ∙ ap (λ ys. ys ++ n.element ∷ n.right) h ∙ sym (changed_left (g.P.Probe.at c.args.probe.now) n.element n.right (g.C.Change.changed c.args.change.now) n.left a more))
