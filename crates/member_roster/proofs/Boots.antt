-- What a map from nodes to boots says about the known nodes.
use Rattle.std.proofs.Common.{◌≡◌, ℕ, ◌+◌, Bool, ◌||◌, cond, suc, ◌<◌, ◌≤◌, true, false, List, [], ◌∷◌, length, Option, Some, None, is_some, unwrap_or, bytes_eq, refl, sym, ap, ◌∙◌, arith}
use Rattle.std.specs.declared.cmp.Ordering.{Ordering}
use Rattle.std.specs.declared.cmp.Ordering.TheVariants.{Less, Equal, Greater}
use Rattle.std.specs.BTreeMap.{insert_entry, is_at}
use Rattle.std.specs.Map.{lookup}
use Rattle.std.specs.Ordering.{is_eq, match_ordering}
use Rattle.std.proofs.lemmas.Map.Text.{is_eq-slice_cmp}
use Rattle.std.proofs.lemmas.Slice.Eq.{bytes_eq-Decides}
use Rattle.actor_names.specs.declared.member.Member.{Member}
use Rattle.member_roster.specs.declared.book.Known.{Known}
use Rattle.member_roster.specs.Book.{known_in}
use Rattle.member_roster.specs.Members.{greatest_boot, is_known, put_boot, is_before}
use Rattle.member_roster.proofs.Places.{cmp}

abbrev boot_at : List ℕ → List (List ℕ × ℕ) → Option ℕ
boot_at k es = lookup (is_at (cmp k)) es

pub known_count : (es : List (List ℕ × ℕ)) → length (known_in es) ≡ length es
known_count [] = refl
known_count (e ∷ es) = ap suc (known_count es)

greatest_in : (k : List ℕ) (es : List (List ℕ × ℕ)) → greatest_boot (known_in es) k ≡ unwrap_or (boot_at k es) 0
greatest_in k [] = refl
greatest_in k (e ∷ es) = rw (is_eq-slice_cmp k e.0) (go (bytes_eq k e.0) (greatest_in k es))
  where
    go : (b : Bool) → greatest_boot (known_in es) k ≡ unwrap_or (boot_at k es) 0 → cond b e.1 (greatest_boot (known_in es) k) ≡ unwrap_or (cond b (Some e.1) (boot_at k es)) 0
    go true ih = refl
    go false ih = ih

-- the boot at the node, if there is one
pub greatest_at : (k : List ℕ) (es : List (List ℕ × ℕ)) (boot : Option ℕ) → boot ≡ boot_at k es → unwrap_or boot 0 ≡ greatest_boot (known_in es) k
greatest_at k es boot is = ap (λ b. unwrap_or b 0) is ∙ sym (greatest_in k es)

known_by : (k : List ℕ) (es : List (List ℕ × ℕ)) → is_known (known_in es) k ≡ is_some (boot_at k es)
known_by k [] = refl
known_by k (e ∷ es) = rw (is_eq-slice_cmp k e.0) (go (bytes_eq k e.0) (known_by k es))
  where
    go : (b : Bool) → is_known (known_in es) k ≡ is_some (boot_at k es) → (b || is_known (known_in es) k) ≡ is_some (cond b (Some e.1) (boot_at k es))
    go true ih = refl
    go false ih = ih

pub known_at : (k : List ℕ) (es : List (List ℕ × ℕ)) → is_some (boot_at k es) ≡ is_known (known_in es) k
known_at k es = sym (known_by k es)

put_in : (space k : List ℕ) (boot : ℕ) (es : List (List ℕ × ℕ)) → known_in (insert_entry cmp es k boot) ≡ put_boot (known_in es) (record { space = space; node = k; boot = boot })
put_in space k boot [] = refl
put_in space k boot (e ∷ es) = go (cmp k e.0) refl (put_in space k boot es)
  where
    at : Known
    at = record { node = k; greatest = boot }

    first : Known
    first = record { node = e.0; greatest = e.1 }

    new : List (List ℕ × ℕ)
    new = insert_entry cmp es k boot

    old : List Known
    old = put_boot (known_in es) (record { space = space; node = k; boot = boot })

    go : (o : Ordering) → cmp k e.0 ≡ o → known_in new ≡ old → known_in (match_ordering o ((k, boot) ∷ e ∷ es) ((e.0, boot) ∷ es) (e ∷ new)) ≡ cond (bytes_eq k e.0) (at ∷ known_in es) (cond (is_before k e.0) (at ∷ first ∷ known_in es) (first ∷ old))
    go Less is ih = rw (sym (is_eq-slice_cmp k e.0), is) refl
    go Equal is ih =
        let b : bytes_eq k e.0 ≡ true = sym (is_eq-slice_cmp k e.0) ∙ ap is_eq is in
        rw (b, sym ((bytes_eq-Decides k e.0).0 b)) refl
    go Greater is ih = rw (sym (is_eq-slice_cmp k e.0), is) (ap (λ ks. first ∷ ks) ih)

-- an insertion at the node puts the member's boot
pub put_at : (m : Member) (es : List (List ℕ × ℕ)) → known_in (insert_entry cmp es m.node m.boot) ≡ put_boot (known_in es) m
put_at m es = put_in m.space m.node m.boot es

-- it leaves at most 65,536 nodes, if there was room for a new one
pub few_at : (k : List ℕ) (es fs : List (List ℕ × ℕ)) (before : Option ℕ) → before ≡ boot_at k es → length fs ≡ length es + cond (is_some before) 0 1 → length es ≤ 65536 → (is_known (known_in es) k ≡ false → length (known_in es) < 65536) → length fs ≤ 65536
few_at k es fs (Some boot) is long few free = omega arith
few_at k es fs None is long few free =
    let capacity = free (sym (known_at k es) ∙ ap is_some (sym is)) in
    let count = known_count es in
    omega arith
