-- A search tree, seen as its elements in order. Own.
use Rattle.std.specs.Prelude.{◌≡◌, List, [], ◌∷◌, ◌++◌, Option, None, Some, Box}
use Rattle.std.specs.declared.alloc.Global.{Global}
use Rattle.std.specs.declared.cmp.Ordering.{Ordering}
use Rattle.std.specs.declared.cmp.Ordering.TheVariants.{Equal}
use Rattle.search_tree.specs.declared.tree.Node.{Node}
use Rattle.search_tree.specs.declared.tree.Root.{Root}
use Rattle.search_tree.specs.declared.tree.Root.TheVariants.{Empty, Full}
use Rattle.lists_and_limits.specs.Lists.{count_at}

module _ {E S : Type 0} where
  -- the element of a node and those below it, from left to right
  abbrev pub node_items : Node E S → List E
  node_items n = n.left ++ n.element ∷ n.right

  abbrev pub root_items : Root E S → List E
  root_items Empty = []
  root_items (Full n) = node_items n.value

  -- the node's summary is that of its element and those below it
  abbrev pub IsSummed : (List E → S) → Root E S → Type 0
  IsSummed summary Empty = Unit {0}
  IsSummed summary (Full n) = n.value.summary ≡ summary (node_items n.value)

  -- the first element is gone, or there was none
  abbrev pub IsWithoutFirst : List E → List E → Option (Box (Node E S) Global) → Type 0
  IsWithoutFirst old new None = (old ≡ []) × (new ≡ [])
  IsWithoutFirst old new (Some n) = old ≡ n.value.element ∷ new

  -- one of the matches is gone, or there was none
  abbrev pub IsWithoutOne : (E → Ordering) → List E → List E → Option (Box (Node E S) Global) → Type 0
  IsWithoutOne at old new None = (new ≡ old) × (count_at at old ≡ 0)
  IsWithoutOne at old new (Some n) = (a : List E) × (b : List E) × (old ≡ a ++ n.value.element ∷ b) × (new ≡ a ++ b) × (at n.value.element ≡ Equal)

  -- the element in a node that was taken out
  abbrev pub element_in : Option (Box (Node E S) Global) → Option E
  element_in None = None
  element_in (Some n) = Some n.value.element
