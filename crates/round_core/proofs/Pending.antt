-- Whom a round waits for, by the place of a member and by its node.
use Rattle.std.proofs.Common.{◌≡◌, ℕ, suc, zero, List, [], ◌∷◌, Some, get_or, refl, sym, ap, ◌∙◌}
use Rattle.std.specs.List.{slice_get}
use Rattle.std.specs.declared.cmp.Ordering.TheVariants.{Less}
use Rattle.place_table.specs.declared.host.HostInfo.{HostInfo}
use Rattle.member_roster.specs.Members.{Joined, joined_node, of_node, hosts_of, is_pending, is_pending_in}
use Rattle.member_roster.specs.Places.{IsBelowAll, Ascends}
use Rattle.member_roster.proofs.Places.{cmp, same_texts}
use Rattle.round_core.proofs.Hosts.{same_bytes}

below_place : (node : List ℕ) (js : List Joined) (i : ℕ) (j : Joined) → IsBelowAll joined_node node js → slice_get js i ≡ Some j → cmp node (joined_node j) ≡ Less
below_place node [] i j b e = absurd cc
below_place node (x ∷ js) zero j b e = let same : x ≡ j = cc in ap (λ (z : Joined). cmp node (joined_node z)) (sym same) ∙ b.0
below_place node (x ∷ js) (suc i) j b e = below_place node js i j b.1 e

-- the member at a place is that of its node
of_place : (js : List Joined) (i : ℕ) (j : Joined) → Ascends joined_node js → slice_get js i ≡ Some j → of_node js (joined_node j) ≡ Some j
of_place [] i j a e = absurd cc
of_place (x ∷ js) zero j a e =
    let same : x ≡ j = cc in
    rw (← same, same_bytes (joined_node x)) refl
of_place (x ∷ js) (suc i) j a e = rw (same_texts (joined_node x) (joined_node j) Less (below_place (joined_node x) js i j a.0 e)) (of_place js i j a.1 e)

host_place : (js : List Joined) (i : ℕ) (j : Joined) (d : HostInfo) → slice_get js i ≡ Some j → get_or (hosts_of js) i d ≡ j.host
host_place [] i j d e = absurd cc
host_place (x ∷ js) zero j d e = let same : x ≡ j = cc in ap (λ (z : Joined). z.host) same
host_place (x ∷ js) (suc i) j d e = host_place js i j d e

-- whether the host at a place is pending by its node is whether the member there is
pub pending_place : (js : List Joined) (i : ℕ) (d : HostInfo) (j : Joined) → Ascends joined_node js → slice_get js i ≡ Some j → is_pending js (get_or (hosts_of js) i d).member ≡ j.pending
pending_place js i d j a e =
    ap (λ (h : HostInfo). is_pending js h.member) (host_place js i j d e) ∙ ap is_pending_in (of_place js i j a e)
