use Rattle.std.proofs.Common.{rules, Some, ◌∷◌, sym, ap, ◌∙◌}
use Rattle.search_tree.proofs.Cuts.{less-greater, equal-greater, cut_front, cut_behind, or_else, next_right, next_left}
use Rattle.search_tree.proofs.Tops.{at_Full, sides_shorter}
use Rattle.search_tree.proofs.tree.Tree.+next.Goals as goal

pub next-requires : goal.next-requires
next-requires g t c κs within =
    let n = c.in-Full.node.value in
    let a = rw (at_Full c.self.view_is c.in-Full.is) at c.requires in
    (let s = sides_shorter n.left n.element n.right in search rules, rw c.deref-in-Less.ensures (search rules, (search rules, (search rules, cut_behind (g.P.Probe.at c.args.probe.now) n.left n.element n.right a))))

pub next-requires-in-Equal : goal.next-requires-in-Equal
next-requires-in-Equal g t c κs within =
    let n = c.in-Full.node.value in
    let a = rw (at_Full c.self.view_is c.in-Full.is) at c.requires in
    (let s = sides_shorter n.left n.element n.right in search rules, rw c.deref-in-Equal.ensures (search rules, (search rules, (search rules, cut_behind (g.P.Probe.at c.args.probe.now) n.left n.element n.right a))))

pub next-requires-in-Greater : goal.next-requires-in-Greater
next-requires-in-Greater g t c κs within =
    let n = c.in-Full.node.value in
    let a = rw (at_Full c.self.view_is c.in-Full.is) at c.requires in
    (let s = sides_shorter n.left n.element n.right in search rules, rw c.deref-in-Greater.ensures (search rules, (search rules, (search rules, cut_front (g.P.Probe.at c.args.probe.now) n.left (n.element ∷ n.right) a))))

pub returns-in-Less : goal.returns-in-Less
returns-in-Less g t c =
    let n = c.in-Full.node.value in
    let e = at_Full c.self.view_is c.in-Full.is in
    let a = rw e at c.requires in
    let less = let k = rw c.deref.ensures at c.compare.ensures in sym k ∙ c.in-Less.is in
    rw e ((let h = rw c.deref-in-Less.ensures at c.next.ensures in h) ∙ sym (next_right (g.P.Probe.at c.args.probe.now) n.element n.right n.left a (less-greater less)))

pub returns-in-Equal : goal.returns-in-Equal
returns-in-Equal g t c =
    let n = c.in-Full.node.value in
    let e = at_Full c.self.view_is c.in-Full.is in
    let a = rw e at c.requires in
    let same = let k = rw c.deref.ensures at c.compare.ensures in sym k ∙ c.in-Equal.is in
    rw e ((let h = rw c.deref-in-Equal.ensures at c.next-in-Equal.ensures in h) ∙ sym (next_right (g.P.Probe.at c.args.probe.now) n.element n.right n.left a (equal-greater same)))

pub returns-in-None : goal.returns-in-None
returns-in-None g t c =
    let n = c.in-Full.node.value in
    let e = at_Full c.self.view_is c.in-Full.is in
    let more = let k = rw c.deref.ensures at c.compare.ensures in sym k ∙ c.in-Greater.is in
    let h = rw (c.in-None.is, c.deref-in-Greater.ensures) at c.next-in-Greater.ensures in
    rw (e, c.deref-in-None.ensures) (ap (λ o. or_else o (Some n.element)) h ∙ sym (next_left (g.P.Probe.at c.args.probe.now) n.element n.right n.left more))

pub returns-in-Some : goal.returns-in-Some
returns-in-Some g t c =
    let n = c.in-Full.node.value in
    let e = at_Full c.self.view_is c.in-Full.is in
    let more = let k = rw c.deref.ensures at c.compare.ensures in sym k ∙ c.in-Greater.is in
    let h = rw (c.in-Some.is, c.deref-in-Greater.ensures) at c.next-in-Greater.ensures in
    rw e (ap (λ o. or_else o (Some n.element)) h ∙ sym (next_left (g.P.Probe.at c.args.probe.now) n.element n.right n.left more))
