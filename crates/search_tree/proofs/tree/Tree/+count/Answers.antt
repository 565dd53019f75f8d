use Rattle.std.proofs.Common.{rules, arith, ◌∷◌, sym, ◌∙◌}
use Rattle.search_tree.proofs.Runs.{run_front, run_behind, count_right, count_here, count_left, count_le}
use Rattle.search_tree.proofs.Tops.{at_Full, sides_shorter}
use Rattle.search_tree.proofs.tree.Tree.+count.Goals as goal

pub count-requires : goal.count-requires
count-requires g t c κs within =
    let n = c.in-Full.node.value in
    let e = at_Full c.self.view_is c.in-Full.is in
    let s = sides_shorter n.left n.element n.right in
    let f = rw e at c.requires.fits in
    (search rules, rw c.deref-in-Less.ensures (search rules, (search rules, (search rules, (run_behind (g.P.Probe.at c.args.probe.now) n.left n.element n.right (rw e at c.requires.run), omega arith)))))

pub count-requires-in-Equal : goal.count-requires-in-Equal
count-requires-in-Equal g t c κs within =
    let n = c.in-Full.node.value in
    let e = at_Full c.self.view_is c.in-Full.is in
    let s = sides_shorter n.left n.element n.right in
    let f = rw e at c.requires.fits in
    (search rules, rw c.deref-in-Equal.ensures (search rules, (search rules, (search rules, (run_front (g.P.Probe.at c.args.probe.now) n.left (n.element ∷ n.right) (rw e at c.requires.run), omega arith)))))

pub overflow_add-result : goal.overflow_add-result
overflow_add-result g t c =
    let n = c.in-Full.node.value in
    let e = at_Full c.self.view_is c.in-Full.is in
    let s = sides_shorter n.left n.element n.right in
    let f = rw e at c.requires.fits in
    let l = count_le (g.P.Probe.at c.args.probe.now) n.left in
    let k = rw c.deref-in-Equal.ensures at c.count-in-Equal.ensures in
    omega arith

pub count-requires-in-Equal-2 : goal.count-requires-in-Equal-2
count-requires-in-Equal-2 g t c κs within =
    let n = c.in-Full.node.value in
    let e = at_Full c.self.view_is c.in-Full.is in
    let s = sides_shorter n.left n.element n.right in
    let f = rw e at c.requires.fits in
    (search rules, rw c.deref-in-Equal-2.ensures (search rules, (search rules, (search rules, (run_behind (g.P.Probe.at c.args.probe.now) n.left n.element n.right (rw e at c.requires.run), omega arith)))))

pub overflow_add-result-in-Equal : goal.overflow_add-result-in-Equal
overflow_add-result-in-Equal g t c =
    let n = c.in-Full.node.value in
    let e = at_Full c.self.view_is c.in-Full.is in
    let s = sides_shorter n.left n.element n.right in
    let f = rw e at c.requires.fits in
    let l = count_le (g.P.Probe.at c.args.probe.now) n.left in
    let r = count_le (g.P.Probe.at c.args.probe.now) n.right in
    let k = rw c.deref-in-Equal.ensures at c.count-in-Equal.ensures in
    let m = rw c.deref-in-Equal-2.ensures at c.count-in-Equal-2.ensures in
    omega arith

pub count-requires-in-Greater : goal.count-requires-in-Greater
count-requires-in-Greater g t c κs within =
    let n = c.in-Full.node.value in
    let e = at_Full c.self.view_is c.in-Full.is in
    let s = sides_shorter n.left n.element n.right in
    let f = rw e at c.requires.fits in
    (search rules, rw c.deref-in-Greater.ensures (search rules, (search rules, (search rules, (run_front (g.P.Probe.at c.args.probe.now) n.left (n.element ∷ n.right) (rw e at c.requires.run), omega arith)))))

pub returns-in-Less : goal.returns-in-Less
returns-in-Less g t c =
    let n = c.in-Full.node.value in
    let e = at_Full c.self.view_is c.in-Full.is in
    let less = let k = rw c.deref.ensures at c.compare.ensures in sym k ∙ c.in-Less.is in
    let k = rw c.deref-in-Less.ensures at c.count.ensures in
    rw e (k ∙ sym (count_right (g.P.Probe.at c.args.probe.now) n.element n.right n.left (rw e at c.requires.run) less))

pub returns-in-Equal : goal.returns-in-Equal
returns-in-Equal g t c =
    let n = c.in-Full.node.value in
    let e = at_Full c.self.view_is c.in-Full.is in
    let same = let k = rw c.deref.ensures at c.compare.ensures in sym k ∙ c.in-Equal.is in
    let k = rw c.deref-in-Equal.ensures at c.count-in-Equal.ensures in
    let m = rw c.deref-in-Equal-2.ensures at c.count-in-Equal-2.ensures in
    rw (e, count_here (g.P.Probe.at c.args.probe.now) n.element n.right n.left same) (omega arith)

pub returns-in-Greater : goal.returns-in-Greater
returns-in-Greater g t c =
    let n = c.in-Full.node.value in
    let e = at_Full c.self.view_is c.in-Full.is in
    let more = let k = rw c.deref.ensures at c.compare.ensures in sym k ∙ c.in-Greater.is in
    let k = rw c.deref-in-Greater.ensures at c.count-in-Greater.ensures in
    rw e (k ∙ sym (count_left (g.P.Probe.at c.args.probe.now) n.element n.right n.left (rw e at c.requires.run) more))
