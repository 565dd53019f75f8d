-- Hosts in byte order of node, at most 256, make a table unless one has too many types or is of another space.
use Rattle.std.proofs.Common.{◌≡◌, ℕ, ◌<◌, ◌≤◌, Bool, true, false, List, [], ◌∷◌, ◌++◌, length, None, refl, arith}
use Rattle.std.specs.Prelude.{bytes_eq, nat_lt}
use Rattle.std.specs.List.{AllByRecursion, list_any}
use Rattle.std.specs.declared.cmp.Ordering.TheVariants.{Greater}
use Rattle.std.proofs.lemmas.Bool.{ltb-true, or_parts, or_from}
use Rattle.place_table.specs.declared.host.HostInfo.{HostInfo}
use Rattle.place_table.specs.Hosts.{node_of, types_fault, same_node_fault}
use Rattle.member_roster.specs.Places.{IsBelowAll, Ascends, host_node}
use Rattle.member_roster.proofs.Places.{greater, same_texts}
use Rattle.round_core.specs.Sound.{HasFewTypes, MakesTable}

pub not_above : (a b : ℕ) → b ≤ a → nat_lt a b ≡ false
not_above a b l = go (nat_lt a b) refl
  where
    go : (t : Bool) → nat_lt a b ≡ t → nat_lt a b ≡ false
    go true e = let h : a < b = ltb-true a b e in absurd (omega arith)
    go false e = e

pub few_types : (hs : List HostInfo) → AllByRecursion HasFewTypes hs → types_fault hs ≡ None
few_types [] a = refl
few_types (h ∷ hs) a = rw (not_above 32 (length h.kinds) a.0) (few_types hs a.1)

-- none of the hosts has the node of this one
abbrev has_node : List HostInfo → HostInfo → Bool
has_node earlier h = list_any (λ e. bytes_eq (node_of e) (node_of h)) earlier

-- none of the hosts has the node of one of the earlier ones
abbrev AreApart : List HostInfo → List HostInfo → Type 0
AreApart earlier hs = AllByRecursion (λ h. has_node earlier h ≡ false) hs

one_more : (earlier : List HostInfo) (x h : HostInfo) → has_node earlier h ≡ false → bytes_eq (node_of x) (node_of h) ≡ false → has_node (earlier ++ x ∷ []) h ≡ false
one_more [] x h e f = or_from (bytes_eq (node_of x) (node_of h)) false f refl
one_more (y ∷ ys) x h e f =
    let p = or_parts (bytes_eq (node_of y) (node_of h)) (has_node ys h) e in
    or_from (bytes_eq (node_of y) (node_of h)) (has_node (ys ++ x ∷ []) h) p.0 (one_more ys x h p.1 f)

apart_on : (earlier : List HostInfo) (x : HostInfo) (hs : List HostInfo) → AreApart earlier hs → IsBelowAll host_node (node_of x) hs → AreApart (earlier ++ x ∷ []) hs
apart_on earlier x [] a b = tt
apart_on earlier x (h ∷ hs) a b =
    (one_more earlier x h a.0 (same_texts (node_of h) (node_of x) Greater (greater (node_of x) (node_of h) b.0)), apart_on earlier x hs a.1 b.1)

no_node_twice : (earlier hs : List HostInfo) → AreApart earlier hs → Ascends host_node hs → same_node_fault earlier hs ≡ None
no_node_twice earlier [] a o = refl
no_node_twice earlier (h ∷ hs) a o = rw a.0 (no_node_twice (earlier ++ h ∷ []) hs (apart_on earlier h hs a.1 o.0) o.1)

all_apart : (hs : List HostInfo) → AreApart [] hs
all_apart [] = tt
all_apart (h ∷ hs) = (refl, all_apart hs)

pub table_made : (hs : List HostInfo) → length hs ≤ 256 → Ascends host_node hs → MakesTable hs
table_made hs few order = λ space types e.
    rw (not_above 256 (length hs) few, types, no_node_twice [] hs (all_apart hs) order, e) refl
