-- What is known of a tree's elements once its top is a node.
use Rattle.std.proofs.Common.{◌≡◌, ◌<◌, List, ◌∷◌, ◌++◌, length, Box, sym, ap, ◌∙◌, arith, length-append}
use Rattle.std.specs.declared.alloc.Global.{Global}
use Rattle.search_tree.specs.declared.tree.Node.{Node}
use Rattle.search_tree.specs.declared.tree.Root.{Root}
use Rattle.search_tree.specs.declared.tree.Root.TheVariants.{Full}
use Rattle.search_tree.specs.Trees.{root_items}

module _ {E S : Type 0} where
  pub at_Full : {root : Root E S} {xs : List E} {n : Box (Node E S) Global} → root_items root ≡ xs → root ≡ Full n → xs ≡ n.value.left ++ n.value.element ∷ n.value.right
  at_Full view_is is = sym view_is ∙ ap root_items is

  -- the elements of the tree that was taken out
  pub opened : {old taken : List E} {root : Root E S} {n : Box (Node E S) Global} → taken ≡ old → root_items root ≡ taken → root ≡ Full n → old ≡ n.value.left ++ n.value.element ∷ n.value.right
  opened same view_is is = sym same ∙ at_Full view_is is

pub sides_shorter : {E : Type 0} (l : List E) (x : E) (r : List E) → (length l < length (l ++ x ∷ r)) × (length r < length (l ++ x ∷ r))
sides_shorter l x r = omega (arith, length-append l (x ∷ r))
