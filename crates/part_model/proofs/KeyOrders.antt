-- The order of keys is total, and keys that compare as equal are the same.
use Rattle.std.proofs.Common.{◌≡◌, Bool, true, false, ◌&&◌, refl, sym, ap, ◌∙◌}
use Rattle.std.specs.Prelude.{bytes_eq}
use Rattle.std.specs.declared.cmp.Ordering.{Ordering}
use Rattle.std.specs.declared.cmp.Ordering.TheVariants.{Less, Equal, Greater}
use Rattle.std.specs.Ordering.{nat_cmp, ordering_then, ordering_reverse, is_eq, is_lt}
use Rattle.std.specs.Cmp.{IsTotalOrder, then_total, on_total, tied_then}
use Rattle.std.specs.Cmp.Lexicographic.{slice_cmp}
use Rattle.std.proofs.lemmas.Bool.{and_parts, true≢false}
use Rattle.std.proofs.lemmas.Cmp.{nat_list_cmp_total}
use Rattle.std.proofs.lemmas.Map.Text.{is_eq-slice_cmp}
use Rattle.std.proofs.lemmas.Slice.Eq.{bytes_eq-Decides}
use Rattle.actor_names.specs.declared.actor_key.ActorKey.{ActorKey}
use Rattle.actor_names.specs.Same.{same_key, key_cmp, key_before}

pub key_cmp_total : IsTotalOrder key_cmp
key_cmp_total =
    then_total (on_total (λ (k : ActorKey). k.space) nat_list_cmp_total)
    (then_total (on_total (λ (k : ActorKey). k.kind) nat_list_cmp_total) (on_total (λ (k : ActorKey). k.id) nat_list_cmp_total))

pub back : (a b : ActorKey) (o : Ordering) → key_cmp a b ≡ o → key_cmp b a ≡ ordering_reverse o
back a b o e = let t = key_cmp_total in t.antisymm b a ∙ ap ordering_reverse e

is_less : (o : Ordering) → is_lt o ≡ true → o ≡ Less
is_less Less e = refl
is_less Equal e = absurd (cc)
is_less Greater e = absurd (cc)

pub before : (a b : ActorKey) → key_before a b ≡ true → key_cmp a b ≡ Less
before a b e = is_less (key_cmp a b) e

pub same_keys : (a b : ActorKey) (o : Ordering) → key_cmp a b ≡ o → same_key b a ≡ is_eq (ordering_reverse o)
same_keys a b o e =
    let kinds = slice_cmp nat_cmp b.kind a.kind in
    let ids = slice_cmp nat_cmp b.id a.id in
    (λ i. sym (is_eq-slice_cmp b.space a.space) i && (sym (is_eq-slice_cmp b.kind a.kind) i && sym (is_eq-slice_cmp b.id a.id) i))
    ∙ ap (λ (z : Bool). is_eq (slice_cmp nat_cmp b.space a.space) && z) (tied_then kinds ids)
    ∙ tied_then (slice_cmp nat_cmp b.space a.space) (ordering_then kinds ids) ∙ ap is_eq (back a b o e)

pub before_keys : (a b : ActorKey) (o : Ordering) → key_cmp a b ≡ o → key_before b a ≡ is_lt (ordering_reverse o)
before_keys a b o e = ap is_lt (back a b o e)

-- if a is at or after the key and b is after a, then b is after the key
pub after_equal : (a b key : ActorKey) → key_cmp a key ≡ Equal → key_cmp a b ≡ Less → key_cmp b key ≡ Greater
after_equal a b key f e = let t = key_cmp_total in back key b Less (sym (t.congr a key b f) ∙ e)

pub after_greater : (a b key : ActorKey) → key_cmp a key ≡ Greater → key_cmp a b ≡ Less → key_cmp b key ≡ Greater
after_greater a b key f e = let t = key_cmp_total in back key b Less (t.trans key a b (back a key Greater f) e)

pub before_equal : (a b key : ActorKey) → key_cmp b key ≡ Equal → key_cmp a b ≡ Less → key_cmp a key ≡ Less
before_equal a b key f e = let t = key_cmp_total in back key a Greater (sym (t.congr b key a f) ∙ back a b Less e)

pub equal_self : (a : ActorKey) → key_cmp a a ≡ Equal
equal_self a = let t = key_cmp_total in go (key_cmp a a) (t.antisymm a a)
  where
    go : (o : Ordering) → o ≡ ordering_reverse o → o ≡ Equal
    go Less e = absurd (cc)
    go Equal e = refl
    go Greater e = absurd (cc)

pub same_key-self : (a : ActorKey) → same_key a a ≡ true
same_key-self a = same_keys a a Equal (equal_self a)

pub same_key-true : (a b : ActorKey) → same_key a b ≡ true → a ≡ b
same_key-true a b e =
    let h = and_parts (bytes_eq a.space b.space) (bytes_eq a.kind b.kind && bytes_eq a.id b.id) e in
    let k = and_parts (bytes_eq a.kind b.kind) (bytes_eq a.id b.id) h.1 in
    let s = (bytes_eq-Decides a.space b.space).0 h.0 in
    let p = (bytes_eq-Decides a.kind b.kind).0 k.0 in
    let q = (bytes_eq-Decides a.id b.id).0 k.1 in
    λ i. record { space = s i; kind = p i; id = q i }

pub key_trans : (a b c : ActorKey) → key_before a b ≡ true → key_before b c ≡ true → key_before a c ≡ true
key_trans a b c h k = let t = key_cmp_total in ap is_lt (t.trans a b c (before a b h) (before b c k))

-- one of two different keys is before the other
pub key_after : (a b : ActorKey) → key_before a b ≡ false → same_key a b ≡ false → key_before b a ≡ true
key_after a b f s = go (key_cmp a b) refl
  where
    go : (o : Ordering) → key_cmp a b ≡ o → key_before b a ≡ true
    go Less e = absurd (true≢false (sym (ap is_lt e) ∙ f))
    go Equal e = absurd (true≢false (sym (same_keys b a Equal (back a b Equal e)) ∙ s))
    go Greater e = ap is_lt (back a b Greater e)
