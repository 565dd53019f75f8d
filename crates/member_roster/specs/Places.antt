-- The place of a node in a list in byte order of node. Own.
use Rattle.std.specs.Prelude.{◌≡◌, ℕ, suc, List, [], ◌∷◌}
use Rattle.std.specs.declared.cmp.Ordering.{Ordering}
use Rattle.std.specs.declared.cmp.Ordering.TheVariants.{Less, Equal, Greater}
use Rattle.std.specs.declared.result.Result.{Result}
use Rattle.std.specs.declared.result.Result.TheVariants.{Ok, Err}
use Rattle.std.specs.Ordering.{nat_cmp}
use Rattle.std.specs.Cmp.Lexicographic.{slice_cmp}
use Rattle.place_table.specs.declared.host.HostInfo.{HostInfo}

abbrev pub host_node : HostInfo → List ℕ
host_node h = h.member.node

-- the node is before that of each element
abbrev pub IsBelowAll : {X : Type 0} → (X → List ℕ) → List ℕ → List X → Type 0
IsBelowAll key node [] = Unit {0}
IsBelowAll key node (x ∷ xs) = (slice_cmp nat_cmp node (key x) ≡ Less) × IsBelowAll key node xs

-- in byte order of node, no node twice
abbrev pub Ascends : {X : Type 0} → (X → List ℕ) → List X → Type 0
Ascends key [] = Unit {0}
Ascends key (x ∷ xs) = IsBelowAll key (key x) xs × Ascends key xs

abbrev pub one_more : Result ℕ ℕ → Result ℕ ℕ
one_more (Ok i) = Ok (suc i)
one_more (Err i) = Err (suc i)

abbrev pub place_from : Ordering → Result ℕ ℕ → Result ℕ ℕ
place_from Less later = one_more later
place_from Equal later = Ok 0
place_from Greater later = Err 0

-- the index of the node, or the index at which it would be inserted
abbrev pub place_by : {X : Type 0} → (X → List ℕ) → List ℕ → List X → Result ℕ ℕ
place_by key node [] = Err 0
place_by key node (x ∷ xs) = place_from (slice_cmp nat_cmp (key x) node) (place_by key node xs)
