-- Members if a search finds their node, and if it doesn't.
use Rattle.std.proofs.Common.{◌≡◌, ℕ, suc, zero, Bool, false, ◌||◌, List, [], ◌∷◌, length, map, get_or, set, None, Some, refl, sym, ap, ◌∙◌, arith}
use Rattle.std.specs.List.{insert, remove, list_any}
use Rattle.std.specs.declared.cmp.Ordering.{Ordering}
use Rattle.std.specs.declared.cmp.Ordering.TheVariants.{Less, Equal, Greater}
use Rattle.std.specs.declared.result.Result.{Result}
use Rattle.std.specs.declared.result.Result.TheVariants.{Ok, Err}
use Rattle.actor_names.specs.declared.member.Member.{Member}
use Rattle.actor_names.specs.Same.{same_member}
use Rattle.place_table.specs.declared.host.HostInfo.{HostInfo}
use Rattle.member_roster.specs.declared.marks.Mark.{Mark}
use Rattle.member_roster.specs.Members.{Joined, is_the, is_here, of_node, with_node, without_node, put_joined, any_pending, hosts_of}
use Rattle.member_roster.specs.Places.{host_node, Ascends, place_from, place_by}
use Rattle.member_roster.specs.Roster.{joined_of, joined_all}
use Rattle.member_roster.proofs.Places.{cmp, same_texts, before_texts, one_more-Ok, one_more-Err, none_after}

-- what is read at a place past the end
abbrev pub no_host : HostInfo
no_host = record { member = record { space = []; node = []; boot = 0 }; app = []; address = record { ip = 0; port = 0 }; kinds = [] }

abbrev pub no_mark : Mark
no_mark = record { heard = 0; target = false; pending = false }

abbrev place : List ℕ → List HostInfo → Result ℕ ℕ
place node hs = place_by host_node node hs

pub of_node-found : (node : List ℕ) (hs : List HostInfo) (ms : List Mark) (i : ℕ) (h : HostInfo) (k : Mark) → length ms ≡ length hs → place_by host_node node hs ≡ Ok i → of_node (joined_all hs ms) node ≡ Some (joined_of (get_or hs i h) (get_or ms i k))
of_node-found node [] ms i d e l p = absurd (cc)
of_node-found node (h ∷ hs) [] i d e l p = absurd (omega arith)
of_node-found node (h ∷ hs) (k ∷ ms) i d e l p = go (cmp h.member.node node) refl (λ j q. of_node-found node hs ms j d e (omega arith) q) i p
  where
    go : (o : Ordering) → cmp h.member.node node ≡ o → ((j : ℕ) → place_by host_node node hs ≡ Ok j → of_node (joined_all hs ms) node ≡ Some (joined_of (get_or hs j d) (get_or ms j e))) → (i : ℕ) → place_from o (place node hs) ≡ Ok i → of_node (joined_all (h ∷ hs) (k ∷ ms)) node ≡ Some (joined_of (get_or (h ∷ hs) i d) (get_or (k ∷ ms) i e))
    go Less f ih i p = let r = one_more-Ok (place node hs) i p in rw (same_texts h.member.node node Less f, r.2) (ih r.0 r.1)
    go Equal f ih zero p = rw (same_texts h.member.node node Equal f) refl
    go Equal f ih (suc i) p = absurd (cc)
    go Greater f ih i p = absurd (cc)

pub of_node-missing : (node : List ℕ) (hs : List HostInfo) (ms : List Mark) (i : ℕ) → Ascends host_node hs → place_by host_node node hs ≡ Err i → of_node (joined_all hs ms) node ≡ None
of_node-missing node [] ms i a p = refl
of_node-missing node (h ∷ hs) [] i a p = refl
of_node-missing node (h ∷ hs) (k ∷ ms) i a p = go (cmp h.member.node node) refl (λ j q. of_node-missing node hs ms j a.1 q) i p
  where
    go : (o : Ordering) → cmp h.member.node node ≡ o → ((j : ℕ) → place_by host_node node hs ≡ Err j → of_node (joined_all hs ms) node ≡ None) → (i : ℕ) → place_from o (place node hs) ≡ Err i → of_node (joined_all (h ∷ hs) (k ∷ ms)) node ≡ None
    go Less f ih i p = let r = one_more-Err (place node hs) i p in rw (same_texts h.member.node node Less f) (ih r.0 r.1)
    go Equal f ih i p = absurd (cc)
    go Greater f ih i p = rw (same_texts h.member.node node Greater f) (ih 0 (none_after host_node h.member.node node hs f a.0))

pub is_here-found : (m : Member) (b : Bool) (hs : List HostInfo) (ms : List Mark) (i : ℕ) (h : HostInfo) → length ms ≡ length hs → place_by host_node m.node hs ≡ Ok i → h ≡ get_or hs i h → b ≡ same_member m h.member → b ≡ is_here (joined_all hs ms) m
is_here-found m b hs ms i h l p e f =
    f ∙ ap (λ (x : HostInfo). same_member m x.member) e ∙ sym (ap (is_the m) (of_node-found m.node hs ms i h no_mark l p))

pub is_here-missing : (m : Member) (hs : List HostInfo) (ms : List Mark) (i : ℕ) → Ascends host_node hs → place_by host_node m.node hs ≡ Err i → false ≡ is_here (joined_all hs ms) m
is_here-missing m hs ms i a p = sym (ap (is_the m) (of_node-missing m.node hs ms i a p))

-- a change of the mark at the place
pub with_node-found : (node : List ℕ) (hs : List HostInfo) (ms : List Mark) (i : ℕ) (g : Mark → Mark) (f : Joined → Joined) (d : Mark) → ((h : HostInfo) (k : Mark) → f (joined_of h k) ≡ joined_of h (g k)) → place_by host_node node hs ≡ Ok i → with_node (joined_all hs ms) node f ≡ joined_all hs (set ms i (g (get_or ms i d)))
with_node-found node [] ms i g f d s p = refl
with_node-found node (h ∷ hs) [] i g f d s p = refl
with_node-found node (h ∷ hs) (k ∷ ms) i g f d s p = go (cmp h.member.node node) refl (λ j q. with_node-found node hs ms j g f d s q) i p
  where
    go : (o : Ordering) → cmp h.member.node node ≡ o → ((j : ℕ) → place_by host_node node hs ≡ Ok j → with_node (joined_all hs ms) node f ≡ joined_all hs (set ms j (g (get_or ms j d)))) → (i : ℕ) → place_from o (place node hs) ≡ Ok i → with_node (joined_all (h ∷ hs) (k ∷ ms)) node f ≡ joined_all (h ∷ hs) (set (k ∷ ms) i (g (get_or (k ∷ ms) i d)))
    go Less e ih i p = let r = one_more-Ok (place node hs) i p in rw (same_texts h.member.node node Less e, r.2) (ap (λ js. joined_of h k ∷ js) (ih r.0 r.1))
    go Equal e ih zero p = rw (same_texts h.member.node node Equal e) (ap (λ j. j ∷ joined_all hs ms) (s h k))
    go Equal e ih (suc i) p = absurd (cc)
    go Greater e ih i p = absurd (cc)

pub without_node-found : (node : List ℕ) (hs : List HostInfo) (ms : List Mark) (i : ℕ) → length ms ≡ length hs → place_by host_node node hs ≡ Ok i → without_node (joined_all hs ms) node ≡ joined_all (remove hs i) (remove ms i)
without_node-found node [] ms i l p = absurd (cc)
without_node-found node (h ∷ hs) [] i l p = absurd (omega arith)
without_node-found node (h ∷ hs) (k ∷ ms) i l p = go (cmp h.member.node node) refl (λ j q. without_node-found node hs ms j (omega arith) q) i p
  where
    go : (o : Ordering) → cmp h.member.node node ≡ o → ((j : ℕ) → place_by host_node node hs ≡ Ok j → without_node (joined_all hs ms) node ≡ joined_all (remove hs j) (remove ms j)) → (i : ℕ) → place_from o (place node hs) ≡ Ok i → without_node (joined_all (h ∷ hs) (k ∷ ms)) node ≡ joined_all (remove (h ∷ hs) i) (remove (k ∷ ms) i)
    go Less e ih i p = let r = one_more-Ok (place node hs) i p in rw (same_texts h.member.node node Less e, r.2) (ap (λ js. joined_of h k ∷ js) (ih r.0 r.1))
    go Equal e ih zero p = rw (same_texts h.member.node node Equal e) refl
    go Equal e ih (suc i) p = absurd (cc)
    go Greater e ih i p = absurd (cc)

pub put_joined-at : (x : HostInfo) (y : Mark) (hs : List HostInfo) (ms : List Mark) (i : ℕ) → length ms ≡ length hs → place_by host_node x.member.node hs ≡ Err i → put_joined (joined_all hs ms) (joined_of x y) ≡ joined_all (insert hs i x) (insert ms i y)
put_joined-at x y [] [] i l p = let z : i ≡ 0 = cc in rw z refl
put_joined-at x y [] (k ∷ ms) i l p = absurd (omega arith)
put_joined-at x y (h ∷ hs) [] i l p = absurd (omega arith)
put_joined-at x y (h ∷ hs) (k ∷ ms) i l p = go (cmp h.member.node x.member.node) refl (λ j q. put_joined-at x y hs ms j (omega arith) q) i p
  where
    go : (o : Ordering) → cmp h.member.node x.member.node ≡ o → ((j : ℕ) → place_by host_node x.member.node hs ≡ Err j → put_joined (joined_all hs ms) (joined_of x y) ≡ joined_all (insert hs j x) (insert ms j y)) → (i : ℕ) → place_from o (place x.member.node hs) ≡ Err i → put_joined (joined_all (h ∷ hs) (k ∷ ms)) (joined_of x y) ≡ joined_all (insert (h ∷ hs) i x) (insert (k ∷ ms) i y)
    go Less e ih i p = let r = one_more-Err (place x.member.node hs) i p in rw (before_texts h.member.node x.member.node Less e, r.2) (ap (λ js. joined_of h k ∷ js) (ih r.0 r.1))
    go Equal e ih i p = absurd (cc)
    go Greater e ih i p = let z : i ≡ 0 = cc in rw (before_texts h.member.node x.member.node Greater e, z) refl

-- ---- all at once

pub joined_all-map : (g : Mark → Mark) (f : Joined → Joined) (hs : List HostInfo) (ms : List Mark) → ((h : HostInfo) (k : Mark) → f (joined_of h k) ≡ joined_of h (g k)) → map f (joined_all hs ms) ≡ joined_all hs (map g ms)
joined_all-map g f [] ms s = refl
joined_all-map g f (h ∷ hs) [] s = refl
joined_all-map g f (h ∷ hs) (k ∷ ms) s = rw (s h k) (ap (λ js. joined_of h (g k) ∷ js) (joined_all-map g f hs ms s))

pub hosts_of-joined_all : (hs : List HostInfo) (ms : List Mark) → length ms ≡ length hs → hosts_of (joined_all hs ms) ≡ hs
hosts_of-joined_all [] ms l = refl
hosts_of-joined_all (h ∷ hs) [] l = absurd (omega arith)
hosts_of-joined_all (h ∷ hs) (k ∷ ms) l = ap (λ xs. h ∷ xs) (hosts_of-joined_all hs ms (omega arith))

pub length-joined_all : (hs : List HostInfo) (ms : List Mark) → length ms ≡ length hs → length (joined_all hs ms) ≡ length hs
length-joined_all [] ms l = refl
length-joined_all (h ∷ hs) [] l = absurd (omega arith)
length-joined_all (h ∷ hs) (k ∷ ms) l = let e = length-joined_all hs ms (omega arith) in omega arith

pub any_pending-joined_all : (hs : List HostInfo) (ms : List Mark) → length ms ≡ length hs → any_pending (joined_all hs ms) ≡ list_any (λ k. k.pending) ms
any_pending-joined_all [] [] l = refl
any_pending-joined_all [] (k ∷ ms) l = absurd (omega arith)
any_pending-joined_all (h ∷ hs) [] l = absurd (omega arith)
any_pending-joined_all (h ∷ hs) (k ∷ ms) l = ap (λ b. k.pending || b) (any_pending-joined_all hs ms (omega arith))
