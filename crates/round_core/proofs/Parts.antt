-- What changes of the list of members leave as it was: the order of nodes, and what holds of each member.
use Rattle.std.proofs.Common.{◌≡◌, ◌⊎◌, ℕ, ◌≤◌, List, [], ◌∷◌, length, map, None, Some, refl, sym, subst, inl, inr, arith}
use Rattle.std.specs.Prelude.{bytes_eq}
use Rattle.std.specs.List.{AllByRecursion}
use Rattle.std.specs.declared.cmp.Ordering.{Ordering}
use Rattle.std.specs.declared.cmp.Ordering.TheVariants.{Less, Equal, Greater}
use Rattle.std.proofs.lemmas.Bool.{cond_both}
use Rattle.std.proofs.lemmas.Cmp.{nat_list_cmp_total}
use Rattle.place_table.specs.declared.host.HostInfo.{HostInfo}
use Rattle.place_table.specs.Hosts.{node_of}
use Rattle.member_roster.specs.Members.{Joined, joined_node, of_node, is_before, is_late, with_node, without_node, put_joined, heard_of, target_hosts}
use Rattle.member_roster.specs.Places.{IsBelowAll, Ascends, host_node}
use Rattle.member_roster.proofs.Places.{cmp, less, same_texts, before_texts}

-- ---- lists in byte order of node

module _ {X : Type 0} (key : X → List ℕ) where
  pub below_each : (node : List ℕ) (xs : List X) → IsBelowAll key node xs → AllByRecursion (λ x. cmp node (key x) ≡ Less) xs
  below_each node [] b = tt
  below_each node (x ∷ xs) b = (b.0, below_each node xs b.1)

  pub each_below : (node : List ℕ) (xs : List X) → AllByRecursion (λ x. cmp node (key x) ≡ Less) xs → IsBelowAll key node xs
  each_below node [] b = tt
  each_below node (x ∷ xs) b = (b.0, each_below node xs b.1)

  pub below_before : (a b : List ℕ) (xs : List X) → cmp a b ≡ Less → IsBelowAll key b xs → IsBelowAll key a xs
  below_before a b [] e h = tt
  below_before a b (x ∷ xs) e h = (let t = nat_list_cmp_total in t.trans a b (key x) e h.0, below_before a b xs e h.1)

pub each_on : {X : Type 0} (P Q : X → Type 0) (xs : List X) → ((x : X) → P x → Q x) → AllByRecursion P xs → AllByRecursion Q xs
each_on P Q [] f a = tt
each_on P Q (x ∷ xs) f a = (f x a.0, each_on P Q xs f a.1)

-- ---- some members left out

-- the first list is the second with some of it left out
abbrev pub IsPart : List Joined → List Joined → Type 0
IsPart [] js = Unit {0}
IsPart (k ∷ ks) [] = ⊥
IsPart (k ∷ ks) (j ∷ js) = ((k ≡ j) × IsPart ks js) ⊎ IsPart (k ∷ ks) js

part_skip : (j : Joined) (ks js : List Joined) → IsPart ks js → IsPart ks (j ∷ js)
part_skip j [] js p = tt
part_skip j (k ∷ ks) js p = inr p

pub part_self : (js : List Joined) → IsPart js js
part_self [] = tt
part_self (j ∷ js) = inl (refl, part_self js)

pub without_part : (js : List Joined) (node : List ℕ) → IsPart (without_node js node) js
without_part [] node = tt
without_part (j ∷ js) node =
    cond_both (bytes_eq node (joined_node j)) js (j ∷ without_node js node) (λ (ks : List Joined). IsPart ks (j ∷ js))
    (λ _. part_skip j js js (part_self js))
    (λ _. inl (refl, without_part js node))

pub heard_part : (js : List Joined) (now : ℕ) → IsPart (heard_of js now) js
heard_part [] now = tt
heard_part (j ∷ js) now =
    cond_both (is_late now j) (heard_of js now) (j ∷ heard_of js now) (λ (ks : List Joined). IsPart ks (j ∷ js))
    (λ _. part_skip j (heard_of js now) js (heard_part js now))
    (λ _. inl (refl, heard_part js now))

pub part_each : (P : Joined → Type 0) (ks js : List Joined) → IsPart ks js → AllByRecursion P js → AllByRecursion P ks
part_each P [] js p a = tt
part_each P (k ∷ ks) [] p a = absurd p
part_each P (k ∷ ks) (j ∷ js) (inl e) a = (subst P (sym e.0) a.0, part_each P ks js e.1 a.1)
part_each P (k ∷ ks) (j ∷ js) (inr p) a = part_each P (k ∷ ks) js p a.1

pub part_few : (ks js : List Joined) → IsPart ks js → length ks ≤ length js
part_few [] js p = omega arith
part_few (k ∷ ks) [] p = absurd p
part_few (k ∷ ks) (j ∷ js) (inl e) = let l = part_few ks js e.1 in omega arith
part_few (k ∷ ks) (j ∷ js) (inr p) = let l = part_few (k ∷ ks) js p in omega arith

part_below : (node : List ℕ) (ks js : List Joined) → IsPart ks js → IsBelowAll joined_node node js → IsBelowAll joined_node node ks
part_below node ks js p b = each_below joined_node node ks (part_each (λ (x : Joined). cmp node (joined_node x) ≡ Less) ks js p (below_each joined_node node js b))

pub part_ascends : (ks js : List Joined) → IsPart ks js → Ascends joined_node js → Ascends joined_node ks
part_ascends [] js p a = tt
part_ascends (k ∷ ks) [] p a = absurd p
part_ascends (k ∷ ks) (j ∷ js) (inl e) a = (subst (λ (x : Joined). IsBelowAll joined_node (joined_node x) ks) (sym e.0) (part_below (joined_node j) ks js e.1 a.0), part_ascends ks js e.1 a.1)
part_ascends (k ∷ ks) (j ∷ js) (inr p) a = part_ascends (k ∷ ks) js p a.1

-- ---- marks changed, in all members or in one

pub map_each : (P : Joined → Type 0) (f : Joined → Joined) (js : List Joined) → ((j : Joined) → P j → P (f j)) → AllByRecursion P js → AllByRecursion P (map f js)
map_each P f [] on a = tt
map_each P f (j ∷ js) on a = (on j a.0, map_each P f js on a.1)

pub map_few : (f : Joined → Joined) (js : List Joined) → length (map f js) ≡ length js
map_few f [] = refl
map_few f (j ∷ js) = let e = map_few f js in omega arith

pub with_each : (P : Joined → Type 0) (f : Joined → Joined) (node : List ℕ) (js : List Joined) → ((j : Joined) → P j → P (f j)) → AllByRecursion P js → AllByRecursion P (with_node js node f)
with_each P f node [] on a = tt
with_each P f node (j ∷ js) on a =
    cond_both (bytes_eq node (joined_node j)) (f j ∷ js) (j ∷ with_node js node f) (AllByRecursion P)
    (λ _. (on j a.0, a.1))
    (λ _. (a.0, with_each P f node js on a.1))

pub with_few : (f : Joined → Joined) (node : List ℕ) (js : List Joined) → length (with_node js node f) ≡ length js
with_few f node [] = refl
with_few f node (j ∷ js) =
    let e = with_few f node js in
    cond_both (bytes_eq node (joined_node j)) (f j ∷ js) (j ∷ with_node js node f) (λ (ks : List Joined). length ks ≡ length (j ∷ js)) (λ _. omega arith) (λ _. omega arith)

module _ (f : Joined → Joined) (same : (j : Joined) → (f j).host ≡ j.host) where
  -- what holds of a member's host holds after the change
  pub host_on : (P : HostInfo → Type 0) (j : Joined) → P j.host → P (f j).host
  host_on P j p = subst P (sym (same j)) p

  stays_below : (node : List ℕ) (j : Joined) → cmp node (joined_node j) ≡ Less → cmp node (joined_node (f j)) ≡ Less
  stays_below node j e = host_on (λ (h : HostInfo). cmp node (node_of h) ≡ Less) j e

  pub map_ascends : (js : List Joined) → Ascends joined_node js → Ascends joined_node (map f js)
  map_ascends [] a = tt
  map_ascends (j ∷ js) a =
      let b = each_below joined_node (joined_node j) (map f js) (map_each (λ (x : Joined). cmp (joined_node j) (joined_node x) ≡ Less) f js (stays_below (joined_node j)) (below_each joined_node (joined_node j) js a.0)) in
      (host_on (λ (h : HostInfo). IsBelowAll joined_node (node_of h) (map f js)) j b, map_ascends js a.1)

  pub with_ascends : (node : List ℕ) (js : List Joined) → Ascends joined_node js → Ascends joined_node (with_node js node f)
  with_ascends node [] a = tt
  with_ascends node (j ∷ js) a =
      cond_both (bytes_eq node (joined_node j)) (f j ∷ js) (j ∷ with_node js node f) (Ascends joined_node)
      (λ _. (host_on (λ (h : HostInfo). IsBelowAll joined_node (node_of h) js) j a.0, a.1))
      (λ _. (each_below joined_node (joined_node j) (with_node js node f) (with_each (λ (x : Joined). cmp (joined_node j) (joined_node x) ≡ Less) f node js (stays_below (joined_node j)) (below_each joined_node (joined_node j) js a.0)), with_ascends node js a.1))

-- ---- a new member

pub put_each : (P : Joined → Type 0) (x : Joined) (js : List Joined) → P x → AllByRecursion P js → AllByRecursion P (put_joined js x)
put_each P x [] p a = (p, tt)
put_each P x (j ∷ js) p a =
    cond_both (is_before (joined_node x) (joined_node j)) (x ∷ j ∷ js) (j ∷ put_joined js x) (AllByRecursion P)
    (λ _. (p, a))
    (λ _. (a.0, put_each P x js p a.1))

pub put_ascends : (x : Joined) (js : List Joined) → of_node js (joined_node x) ≡ None → Ascends joined_node js → Ascends joined_node (put_joined js x)
put_ascends x [] free a = (tt, tt)
put_ascends x (j ∷ js) free a = go (cmp (joined_node j) (joined_node x)) refl (put_ascends x js)
  where
    go : (o : Ordering) → cmp (joined_node j) (joined_node x) ≡ o → (of_node js (joined_node x) ≡ None → Ascends joined_node js → Ascends joined_node (put_joined js x)) → Ascends joined_node (put_joined (j ∷ js) x)
    go Less e ih =
        let rest : of_node js (joined_node x) ≡ None = rw (same_texts (joined_node j) (joined_node x) Less e) at free in
        rw (before_texts (joined_node j) (joined_node x) Less e) (each_below joined_node (joined_node j) (put_joined js x) (put_each (λ (y : Joined). cmp (joined_node j) (joined_node y) ≡ Less) x js e (below_each joined_node (joined_node j) js a.0)), ih rest a.1)
    go Equal e ih =
        let taken : Some j ≡ None = rw (same_texts (joined_node j) (joined_node x) Equal e) at free in
        absurd (cc)
    go Greater e ih =
        let l = less (joined_node j) (joined_node x) e in
        rw (before_texts (joined_node j) (joined_node x) Greater e) ((l, below_before joined_node (joined_node x) (joined_node j) js l a.0), a)

-- ---- the hosts of the targets

pub targets_each : (P : HostInfo → Type 0) (js : List Joined) → AllByRecursion (λ j. P j.host) js → AllByRecursion P (target_hosts js)
targets_each P [] a = tt
targets_each P (j ∷ js) a =
    cond_both j.target (j.host ∷ target_hosts js) (target_hosts js) (AllByRecursion P)
    (λ _. (a.0, targets_each P js a.1))
    (λ _. targets_each P js a.1)

pub targets_few : (js : List Joined) → length (target_hosts js) ≤ length js
targets_few [] = omega arith
targets_few (j ∷ js) =
    let l = targets_few js in
    cond_both j.target (j.host ∷ target_hosts js) (target_hosts js) (λ (hs : List HostInfo). length hs ≤ length (j ∷ js)) (λ _. omega arith) (λ _. omega arith)

pub targets_ascend : (js : List Joined) → Ascends joined_node js → Ascends host_node (target_hosts js)
targets_ascend [] a = tt
targets_ascend (j ∷ js) a =
    cond_both j.target (j.host ∷ target_hosts js) (target_hosts js) (Ascends host_node)
    (λ _. (each_below host_node (joined_node j) (target_hosts js) (targets_each (λ (h : HostInfo). cmp (joined_node j) (host_node h) ≡ Less) js (below_each joined_node (joined_node j) js a.0)), targets_ascend js a.1))
    (λ _. targets_ascend js a.1)
