use Rattle.std.proofs.Common.{rules, ◌∷◌, ◌++◌, sym, ap, ◌∙◌}
use Rattle.search_tree.proofs.Cuts.{cut_front, cut_behind, put_right, put_here, put_left}
use Rattle.search_tree.proofs.Tops.{opened, sides_shorter}
use Rattle.search_tree.proofs.tree.Tree.+put.Goals as goal

pub put-requires : goal.put-requires
put-requires g t c κs within =
    let n = c.in-Full.top.value in
    let e = opened c.emptied.ensures.taken c.open.ensures c.in-Full.is in
    let a = rw e at c.requires in
    (let s = sides_shorter n.left n.element n.right in search rules, rw c.deref_mut-in-Less.ensures.value (search rules, (search rules, cut_behind (λ x. g.E.Element.cmp x c.args.node.value.element) n.left n.element n.right a)))

pub put-requires-in-Greater : goal.put-requires-in-Greater
put-requires-in-Greater g t c κs within =
    let n = c.in-Full.top.value in
    let e = opened c.emptied.ensures.taken c.open.ensures c.in-Full.is in
    let a = rw e at c.requires in
    (let s = sides_shorter n.left n.element n.right in search rules, rw c.deref_mut-in-Greater.ensures.value (search rules, (search rules, cut_front (λ x. g.E.Element.cmp x c.args.node.value.element) n.left (n.element ∷ n.right) a)))

pub returns-in-Less : goal.returns-in-Less
returns-in-Less g t c =
    let n = c.in-Full.top.value in
    let e = opened c.emptied.ensures.taken c.open.ensures c.in-Full.is in
    let a = rw e at c.requires in
    let less = let k = rw (c.deref.ensures, c.deref-in-Full.ensures) at c.order.ensures in sym k ∙ c.in-Less.is in
    let b = rw c.deref_mut-in-Less.ensures.value at c.balanced.ensures in
    let h = rw c.deref_mut-in-Less.ensures.value at c.put.ensures in
    rw e (b ∙ ap (λ ys. n.left ++ n.element ∷ ys) h ∙ sym (put_right g.E.Element.cmp c.args.node.value.element n.element n.right n.left a less))

pub returns-in-Equal : goal.returns-in-Equal
returns-in-Equal g t c =
    let n = c.in-Full.top.value in
    let e = opened c.emptied.ensures.taken c.open.ensures c.in-Full.is in
    let a = rw e at c.requires in
    let same = let k = rw (c.deref.ensures, c.deref-in-Full.ensures) at c.order.ensures in sym k ∙ c.in-Equal.is in
    let l = rw c.deref_mut-in-Equal.ensures.value at c.emptied-in-Equal.ensures.taken in
    let r = rw (c.deref_mut-in-Equal-4.ensures.value, c.deref_mut-in-Equal.ensures.value) at c.emptied-in-Equal-2.ensures.taken in
    let b = rw (c.deref_mut-in-Equal-5.ensures.value, c.deref_mut-in-Equal-2.ensures.value) at c.close-in-Equal.ensures in
    rw e (b ∙ (λ i. l i ++ c.args.node.value.element ∷ r i) ∙ sym (put_here g.E.Element.cmp c.args.node.value.element n.element n.right n.left a same))

pub returns-in-Greater : goal.returns-in-Greater
returns-in-Greater g t c =
    let n = c.in-Full.top.value in
    let e = opened c.emptied.ensures.taken c.open.ensures c.in-Full.is in
    let more = let k = rw (c.deref.ensures, c.deref-in-Full.ensures) at c.order.ensures in sym k ∙ c.in-Greater.is in
    let b = rw c.deref_mut-in-Greater.ensures.value at c.balanced-in-Greater.ensures in
    let h = rw c.deref_mut-in-Greater.ensures.value at c.put-in-Greater.ensures in
    rw e (b ∙ ap (λ ys. ys ++ n.element ∷ n.right) h ∙ sym (put_left g.E.Element.cmp c.args.node.value.element n.element n.right n.left more))
