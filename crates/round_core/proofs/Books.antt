-- The known nodes stay in byte order, and a node that is known takes no room.
use Rattle.std.proofs.Common.{◌≡◌, ℕ, ◌<◌, ◌≤◌, ◌+◌, Bool, true, false, not, ◌&&◌, cond, List, [], ◌∷◌, length, refl, sym, ◌∙◌, subst, arith}
use Rattle.std.specs.Prelude.{bytes_eq, nat_le}
use Rattle.std.specs.declared.cmp.Ordering.{Ordering}
use Rattle.std.specs.declared.cmp.Ordering.TheVariants.{Less, Equal, Greater}
use Rattle.std.proofs.lemmas.Bool.{cond_both, leb-false, true≢false}
use Rattle.std.proofs.lemmas.Slice.Eq.{bytes_eq-Decides}
use Rattle.actor_names.specs.declared.member.Member.{Member}
use Rattle.member_roster.specs.declared.book.Known.{Known}
use Rattle.member_roster.specs.Members.{Joined, joined_node, is_before, greatest_boot, is_known, put_boot}
use Rattle.member_roster.specs.Places.{IsBelowAll, Ascends}
use Rattle.member_roster.proofs.Places.{cmp, less, after_greater, same_texts, before_texts}
use Rattle.round_core.specs.Sound.{known_node, HasKnownBoot}
use Rattle.round_core.proofs.Hosts.{same_bytes}
use Rattle.round_core.proofs.Memory.{boots_rise}
use Rattle.round_core.proofs.Parts.{below_before}

abbrev new_known : Member → Known
new_known m = record { node = m.node; greatest = m.boot }

below_put : (node : List ℕ) (ks : List Known) (m : Member) → cmp node m.node ≡ Less → IsBelowAll known_node node ks → IsBelowAll known_node node (put_boot ks m)
below_put node [] m e b = (e, tt)
below_put node (k ∷ ks) m e b =
    cond_both (bytes_eq m.node k.node) (new_known m ∷ ks) (cond (is_before m.node k.node) (new_known m ∷ k ∷ ks) (k ∷ put_boot ks m)) (IsBelowAll known_node node)
    (λ _. (e, b.1))
    (λ _. cond_both (is_before m.node k.node) (new_known m ∷ k ∷ ks) (k ∷ put_boot ks m) (IsBelowAll known_node node)
    (λ _. (e, b))
    (λ _. (b.0, below_put node ks m e b.1)))

same_node : (a b : List ℕ) → cmp a b ≡ Equal → a ≡ b
same_node a b e = sym ((bytes_eq-Decides b a).0 (same_texts a b Equal e))

pub put_known_ascends : (ks : List Known) (m : Member) → Ascends known_node ks → Ascends known_node (put_boot ks m)
put_known_ascends [] m a = (tt, tt)
put_known_ascends (k ∷ ks) m a = go (cmp k.node m.node) refl (put_known_ascends ks m a.1)
  where
    go : (o : Ordering) → cmp k.node m.node ≡ o → Ascends known_node (put_boot ks m) → Ascends known_node (put_boot (k ∷ ks) m)
    go Less e ih = rw (same_texts k.node m.node Less e, before_texts k.node m.node Less e) (below_put k.node ks m e a.0, ih)
    go Equal e ih = rw (same_texts k.node m.node Equal e) (subst (λ (n : List ℕ). IsBelowAll known_node n ks) (same_node k.node m.node e) a.0, a.1)
    go Greater e ih =
        let l = less k.node m.node e in
        rw (same_texts k.node m.node Greater e, before_texts k.node m.node Greater e) ((l, below_before known_node m.node k.node ks l a.0), a)

-- nothing behind a greater node is the node
unknown_behind : (first node : List ℕ) (ks : List Known) → cmp first node ≡ Greater → IsBelowAll known_node first ks → is_known ks node ≡ false
unknown_behind first node [] e b = refl
unknown_behind first node (k ∷ ks) e b =
    rw (same_texts k.node node Greater (after_greater first k.node node e b.0)) (unknown_behind first node ks e b.1)

known_same : (ks : List Known) (m : Member) → Ascends known_node ks → is_known ks m.node ≡ true → length (put_boot ks m) ≡ length ks
known_same [] m a t = absurd (cc)
known_same (k ∷ ks) m a t = go (cmp k.node m.node) refl (known_same ks m a.1)
  where
    go : (o : Ordering) → cmp k.node m.node ≡ o → (is_known ks m.node ≡ true → length (put_boot ks m) ≡ length ks) → length (put_boot (k ∷ ks) m) ≡ length (k ∷ ks)
    go Less e ih =
        let rest : is_known ks m.node ≡ true = rw (same_texts k.node m.node Less e) at t in
        let l = ih rest in
        rw (same_texts k.node m.node Less e, before_texts k.node m.node Less e) (omega arith)
    go Equal e ih = rw (same_texts k.node m.node Equal e) refl
    go Greater e ih =
        let rest : is_known ks m.node ≡ true = rw (same_texts k.node m.node Greater e) at t in
        absurd (true≢false (sym rest ∙ unknown_behind k.node m.node ks e a.0))

put_more : (ks : List Known) (m : Member) → length (put_boot ks m) ≤ length ks + 1
put_more [] m = omega arith
put_more (k ∷ ks) m =
    let l = put_more ks m in
    cond_both (bytes_eq m.node k.node) (new_known m ∷ ks) (cond (is_before m.node k.node) (new_known m ∷ k ∷ ks) (k ∷ put_boot ks m)) (λ (bs : List Known). length bs ≤ length (k ∷ ks) + 1)
    (λ _. omega arith)
    (λ _. cond_both (is_before m.node k.node) (new_known m ∷ k ∷ ks) (k ∷ put_boot ks m) (λ (bs : List Known). length bs ≤ length (k ∷ ks) + 1) (λ _. omega arith) (λ _. omega arith))

-- a node that is known, or one for which there is room
pub put_known_few : (ks : List Known) (m : Member) → Ascends known_node ks → length ks ≤ 65536 → not (is_known ks m.node) && nat_le 65536 (length ks) ≡ false → length (put_boot ks m) ≤ 65536
put_known_few ks m a few room = go (is_known ks m.node) refl
  where
    go : (b : Bool) → is_known ks m.node ≡ b → length (put_boot ks m) ≤ 65536
    go true e = let l = known_same ks m a e in omega arith
    go false e =
        let free : nat_le 65536 (length ks) ≡ false = rw e at room in
        let less : length ks < 65536 = leb-false 65536 (length ks) free in
        let l = put_more ks m in
        omega arith

put_greatest : (ks : List Known) (m : Member) → greatest_boot (put_boot ks m) m.node ≡ m.boot
put_greatest [] m = rw (same_bytes m.node) refl
put_greatest (k ∷ ks) m =
    cond_both (bytes_eq m.node k.node) (new_known m ∷ ks) (cond (is_before m.node k.node) (new_known m ∷ k ∷ ks) (k ∷ put_boot ks m)) (λ (bs : List Known). greatest_boot bs m.node ≡ m.boot)
    (λ _. rw (same_bytes m.node) refl)
    (λ e. cond_both (is_before m.node k.node) (new_known m ∷ k ∷ ks) (k ∷ put_boot ks m) (λ (bs : List Known). greatest_boot bs m.node ≡ m.boot)
    (λ _. rw (same_bytes m.node) refl)
    (λ _. rw e (put_greatest ks m)))

-- the new member's boot is its node's greatest one
pub new_boot_known : (ks : List Known) (j : Joined) → HasKnownBoot (put_boot ks j.host.member) j
new_boot_known ks j = let e = put_greatest ks j.host.member in omega arith

pub boot_stays_known : (ks : List Known) (m : Member) → greatest_boot ks m.node < m.boot → (j : Joined) → HasKnownBoot ks j → HasKnownBoot (put_boot ks m) j
boot_stays_known ks m higher j l = let r = boots_rise ks m (joined_node j) higher in omega arith
