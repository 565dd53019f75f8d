-- How many are pending, through each change of the marks; the hosts of a table in their order.
use Rattle.std.proofs.Common.{◌≡◌, ℕ, suc, zero, ◌+◌, ◌<◌, ◌≤◌, Bool, true, false, ◌||◌, cond, List, [], ◌∷◌, length, map, get_or, set, take, Some, refl, arith}
use Rattle.std.specs.Prelude.{nat_lt, bytes_eq}
use Rattle.std.specs.List.{insert, remove, list_any}
use Rattle.std.proofs.lemmas.Bool.{lt-ltb}
use Rattle.place_table.specs.declared.host.HostInfo.{HostInfo}
use Rattle.member_roster.specs.declared.marks.Mark.{Mark}
use Rattle.member_roster.specs.Members.{of_node, is_pending_in, target_hosts}
use Rattle.member_roster.specs.Places.{host_node, IsBelowAll, Ascends}
use Rattle.member_roster.specs.Roster.{joined_of, joined_all, is_mark_pending, mark_weight, pending_count, targeted_mark, restarted_mark}

pub count-set : (ms : List Mark) (i : ℕ) (k d : Mark) → i < length ms → pending_count (set ms i k) + mark_weight (get_or ms i d) ≡ pending_count ms + mark_weight k
count-set [] i k d l = absurd (omega arith)
count-set (m ∷ ms) zero k d l = omega arith
count-set (m ∷ ms) (suc i) k d l = let e = count-set ms i k d (omega arith) in omega arith

pub count-insert : (ms : List Mark) (i : ℕ) (k : Mark) → pending_count (insert ms i k) ≡ pending_count ms + mark_weight k
count-insert [] zero k = omega arith
count-insert [] (suc i) k = omega arith
count-insert (m ∷ ms) zero k = omega arith
count-insert (m ∷ ms) (suc i) k = let e = count-insert ms i k in omega arith

pub count-remove : (ms : List Mark) (i : ℕ) (d : Mark) → i < length ms → pending_count (remove ms i) + mark_weight (get_or ms i d) ≡ pending_count ms
count-remove [] i d l = absurd (omega arith)
count-remove (m ∷ ms) zero d l = omega arith
count-remove (m ∷ ms) (suc i) d l = let e = count-remove ms i d (omega arith) in omega arith

pub count-take : (ms : List Mark) (i : ℕ) (d : Mark) → i < length ms → pending_count (take (suc i) ms) ≡ pending_count (take i ms) + mark_weight (get_or ms i d)
count-take [] i d l = absurd (omega arith)
count-take (m ∷ ms) zero d l = omega arith
count-take (m ∷ ms) (suc i) d l = let e = count-take ms i d (omega arith) in omega arith

pub count-targeted : (ms : List Mark) → pending_count (map targeted_mark ms) ≡ length ms
count-targeted [] = refl
count-targeted (m ∷ ms) = let e = count-targeted ms in omega arith

pub count-restarted : (now : ℕ) (ms : List Mark) → pending_count (map (restarted_mark now) ms) ≡ 0
count-restarted now [] = refl
count-restarted now (m ∷ ms) = let e = count-restarted now ms in omega arith

pub weight_most : (ms : List Mark) (i : ℕ) (d : Mark) → mark_weight (get_or ms i d) ≤ 1
weight_most ms i d = go (get_or ms i d).pending
  where
    go : (b : Bool) → cond b 1 0 ≤ 1
    go true = omega arith
    go false = omega arith

pub count-any : (ms : List Mark) → list_any is_mark_pending ms ≡ nat_lt 0 (pending_count ms)
count-any [] = refl
count-any (m ∷ ms) = go m.pending (count-any ms)
  where
    go : (b : Bool) → list_any is_mark_pending ms ≡ nat_lt 0 (pending_count ms) → (b || list_any is_mark_pending ms) ≡ nat_lt 0 (cond b 1 0 + pending_count ms)
    go true e = let l = lt-ltb 0 (1 + pending_count ms) (omega arith) in cc
    go false e = let z : 0 + pending_count ms ≡ pending_count ms = omega arith in rw z e

-- if the count of the pending marks is 0, no member is pending
pub none_pending : (hs : List HostInfo) (ms : List Mark) (node : List ℕ) → pending_count ms ≡ 0 → is_pending_in (of_node (joined_all hs ms) node) ≡ false
none_pending [] ms node e = refl
none_pending (h ∷ hs) [] node e = refl
none_pending (h ∷ hs) (k ∷ ms) node e = go (bytes_eq node h.member.node) (none_pending hs ms node (omega arith)) (off k.pending e)
  where
    off : (b : Bool) → cond b 1 0 + pending_count ms ≡ 0 → b ≡ false
    off true f = absurd (omega arith)
    off false f = refl

    go : (b : Bool) → is_pending_in (of_node (joined_all hs ms) node) ≡ false → k.pending ≡ false → is_pending_in (cond b (Some (joined_of h k)) (of_node (joined_all hs ms) node)) ≡ false
    go true ih f = f
    go false ih f = ih

-- ---- the hosts of a table

below_targets : (node : List ℕ) (hs : List HostInfo) (ms : List Mark) → IsBelowAll host_node node hs → IsBelowAll host_node node (target_hosts (joined_all hs ms))
below_targets node [] ms b = tt
below_targets node (h ∷ hs) [] b = tt
below_targets node (h ∷ hs) (k ∷ ms) b = go k.target (below_targets node hs ms b.1)
  where
    go : (t : Bool) → IsBelowAll host_node node (target_hosts (joined_all hs ms)) → IsBelowAll host_node node (cond t (h ∷ target_hosts (joined_all hs ms)) (target_hosts (joined_all hs ms)))
    go true ih = (b.0, ih)
    go false ih = ih

pub targets_ascend : (hs : List HostInfo) (ms : List Mark) → Ascends host_node hs → Ascends host_node (target_hosts (joined_all hs ms))
targets_ascend [] ms a = tt
targets_ascend (h ∷ hs) [] a = tt
targets_ascend (h ∷ hs) (k ∷ ms) a = go k.target (targets_ascend hs ms a.1)
  where
    go : (t : Bool) → Ascends host_node (target_hosts (joined_all hs ms)) → Ascends host_node (cond t (h ∷ target_hosts (joined_all hs ms)) (target_hosts (joined_all hs ms)))
    go true ih = (below_targets h.member.node hs ms a.0, ih)
    go false ih = ih
