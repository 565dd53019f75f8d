use Rattle.std.proofs.Common.{rules, ◌∷◌, sym, ◌∙◌}
use Rattle.search_tree.proofs.Cuts.{cut_front, cut_behind, found_right, found_here, found_left}
use Rattle.search_tree.proofs.Tops.{at_Full, sides_shorter}
use Rattle.search_tree.proofs.tree.Tree.+get.Goals as goal

pub get-requires : goal.get-requires
get-requires g t c κs within =
    let n = c.in-Full.node.value in
    let a = rw (at_Full c.self.view_is c.in-Full.is) at c.requires in
    (let s = sides_shorter n.left n.element n.right in search rules, rw c.deref-in-Less.ensures (search rules, (search rules, (search rules, cut_behind (g.P.Probe.at c.args.probe.now) n.left n.element n.right a))))

pub get-requires-in-Greater : goal.get-requires-in-Greater
get-requires-in-Greater g t c κs within =
    let n = c.in-Full.node.value in
    let a = rw (at_Full c.self.view_is c.in-Full.is) at c.requires in
    (let s = sides_shorter n.left n.element n.right in search rules, rw c.deref-in-Greater.ensures (search rules, (search rules, (search rules, cut_front (g.P.Probe.at c.args.probe.now) n.left (n.element ∷ n.right) a))))

pub returns-in-Less : goal.returns-in-Less
returns-in-Less g t c =
    let n = c.in-Full.node.value in
    let e = at_Full c.self.view_is c.in-Full.is in
    let a = rw e at c.requires in
    let less = let k = rw c.deref.ensures at c.compare.ensures in sym k ∙ c.in-Less.is in
    rw e ((let h = rw c.deref-in-Less.ensures at c.get.ensures in h) ∙ sym (found_right (g.P.Probe.at c.args.probe.now) n.element n.right n.left a less))

pub returns-in-Equal : goal.returns-in-Equal
returns-in-Equal g t c =
    let n = c.in-Full.node.value in
    let e = at_Full c.self.view_is c.in-Full.is in
    let a = rw e at c.requires in
    let same = let k = rw c.deref.ensures at c.compare.ensures in sym k ∙ c.in-Equal.is in
    rw (e, c.deref-in-Equal.ensures) (sym (found_here (g.P.Probe.at c.args.probe.now) n.element n.right n.left a same))

pub returns-in-Greater : goal.returns-in-Greater
returns-in-Greater g t c =
    let n = c.in-Full.node.value in
    let e = at_Full c.self.view_is c.in-Full.is in
    let a = rw e at c.requires in
    let more = let k = rw c.deref.ensures at c.compare.ensures in sym k ∙ c.in-Greater.is in
    rw e ((let h = rw c.deref-in-Greater.ensures at c.get-in-Greater.ensures in h) ∙ sym (found_left (g.P.Probe.at c.args.probe.now) n.element n.right n.left a more))
