-- What the lists of members say about their hosts alone: nodes that differ, and who is one of them.
use Rattle.std.proofs.Common.{◌≡◌, ◌⊎◌, ℕ, Bool, true, false, ◌||◌, cond, List, [], ◌∷◌, Some, refl, sym, ap, inl, inr}
use Rattle.std.specs.Prelude.{is_some, bytes_eq}
use Rattle.std.proofs.lemmas.Bool.{or_parts, or_from}
use Rattle.std.proofs.lemmas.Slice.Eq.{bytes_eq-Decides}
use Rattle.actor_names.specs.declared.member.Member.{Member}
use Rattle.actor_names.specs.Same.{same_member}
use Rattle.place_table.specs.declared.host.HostInfo.{HostInfo}
use Rattle.member_roster.specs.Members.{Joined, joined_node, hosts_of, of_node, is_the, is_here, is_before, is_late, without_node, put_joined, heard_of}
use Rattle.round_core.specs.Reached.{has_host, Distinct}
use Rattle.round_core.specs.Runs.{HasMember}

pub same_bytes : (a : List ℕ) → bytes_eq a a ≡ true
same_bytes a = (bytes_eq-Decides a a).1 refl

pub flip_bytes : (a b : List ℕ) → bytes_eq a b ≡ false → bytes_eq b a ≡ false
flip_bytes a b e = go (bytes_eq b a) refl
  where
    go : (t : Bool) → bytes_eq b a ≡ t → bytes_eq b a ≡ false
    go true f = let g = (bytes_eq-Decides a b).1 (sym ((bytes_eq-Decides b a).0 f)) in absurd (cc)
    go false f = f

-- ---- nodes that differ

pub of_node-host : (js : List Joined) (node : List ℕ) → is_some (of_node js node) ≡ has_host (hosts_of js) node
of_node-host [] node = refl
of_node-host (j ∷ js) node = go (bytes_eq node (joined_node j)) (of_node-host js node)
  where
    go : (b : Bool) → is_some (of_node js node) ≡ has_host (hosts_of js) node → is_some (cond b (Some j) (of_node js node)) ≡ (b || has_host (hosts_of js) node)
    go true ih = refl
    go false ih = ih

put_off : (js : List Joined) (x : Joined) (node : List ℕ) → has_host (hosts_of js) node ≡ false → bytes_eq node (joined_node x) ≡ false → has_host (hosts_of (put_joined js x)) node ≡ false
put_off [] x node h e = or_from (bytes_eq node (joined_node x)) false e refl
put_off (j ∷ js) x node h e =
    let p = or_parts (bytes_eq node (joined_node j)) (has_host (hosts_of js) node) h in
    go (is_before (joined_node x) (joined_node j)) p.0 (put_off js x node p.1 e)
  where
    go : (b : Bool) → bytes_eq node (joined_node j) ≡ false → has_host (hosts_of (put_joined js x)) node ≡ false → has_host (hosts_of (cond b (x ∷ j ∷ js) (j ∷ put_joined js x))) node ≡ false
    go true a ih = or_from (bytes_eq node (joined_node x)) (has_host (hosts_of (j ∷ js)) node) e h
    go false a ih = or_from (bytes_eq node (joined_node j)) (has_host (hosts_of (put_joined js x)) node) a ih

pub put_distinct : (js : List Joined) (x : Joined) → has_host (hosts_of js) (joined_node x) ≡ false → Distinct (hosts_of js) → Distinct (hosts_of (put_joined js x))
put_distinct [] x h d = (refl, tt)
put_distinct (j ∷ js) x h d =
    let p = or_parts (bytes_eq (joined_node x) (joined_node j)) (has_host (hosts_of js) (joined_node x)) h in
    go (is_before (joined_node x) (joined_node j)) (put_off js x (joined_node j) d.0 (flip_bytes (joined_node x) (joined_node j) p.0)) (put_distinct js x p.1 d.1)
  where
    go : (b : Bool) → has_host (hosts_of (put_joined js x)) (joined_node j) ≡ false → Distinct (hosts_of (put_joined js x)) → Distinct (hosts_of (cond b (x ∷ j ∷ js) (j ∷ put_joined js x)))
    go true a ih = (h, d)
    go false a ih = (a, ih)

without_off : (js : List Joined) (gone node : List ℕ) → has_host (hosts_of js) node ≡ false → has_host (hosts_of (without_node js gone)) node ≡ false
without_off [] gone node h = h
without_off (j ∷ js) gone node h =
    let p = or_parts (bytes_eq node (joined_node j)) (has_host (hosts_of js) node) h in
    go (bytes_eq gone (joined_node j)) p.0 p.1 (without_off js gone node p.1)
  where
    go : (b : Bool) → bytes_eq node (joined_node j) ≡ false → has_host (hosts_of js) node ≡ false → has_host (hosts_of (without_node js gone)) node ≡ false → has_host (hosts_of (cond b js (j ∷ without_node js gone))) node ≡ false
    go true a r ih = r
    go false a r ih = or_from (bytes_eq node (joined_node j)) (has_host (hosts_of (without_node js gone)) node) a ih

pub without_distinct : (js : List Joined) (gone : List ℕ) → Distinct (hosts_of js) → Distinct (hosts_of (without_node js gone))
without_distinct [] gone d = tt
without_distinct (j ∷ js) gone d = go (bytes_eq gone (joined_node j)) (without_off js gone (joined_node j) d.0) (without_distinct js gone d.1)
  where
    go : (b : Bool) → has_host (hosts_of (without_node js gone)) (joined_node j) ≡ false → Distinct (hosts_of (without_node js gone)) → Distinct (hosts_of (cond b js (j ∷ without_node js gone)))
    go true a ih = d.1
    go false a ih = (a, ih)

heard_off : (js : List Joined) (now : ℕ) (node : List ℕ) → has_host (hosts_of js) node ≡ false → has_host (hosts_of (heard_of js now)) node ≡ false
heard_off [] now node h = h
heard_off (j ∷ js) now node h =
    let p = or_parts (bytes_eq node (joined_node j)) (has_host (hosts_of js) node) h in
    go (is_late now j) p.0 (heard_off js now node p.1)
  where
    go : (b : Bool) → bytes_eq node (joined_node j) ≡ false → has_host (hosts_of (heard_of js now)) node ≡ false → has_host (hosts_of (cond b (heard_of js now) (j ∷ heard_of js now))) node ≡ false
    go true a ih = ih
    go false a ih = or_from (bytes_eq node (joined_node j)) (has_host (hosts_of (heard_of js now)) node) a ih

pub heard_distinct : (js : List Joined) (now : ℕ) → Distinct (hosts_of js) → Distinct (hosts_of (heard_of js now))
heard_distinct [] now d = tt
heard_distinct (j ∷ js) now d = go (is_late now j) (heard_off js now (joined_node j) d.0) (heard_distinct js now d.1)
  where
    go : (b : Bool) → has_host (hosts_of (heard_of js now)) (joined_node j) ≡ false → Distinct (hosts_of (heard_of js now)) → Distinct (hosts_of (cond b (heard_of js now) (j ∷ heard_of js now)))
    go true a ih = ih
    go false a ih = (a, ih)

-- ---- changes of the members, as changes of their hosts

abbrev put_host : List HostInfo → HostInfo → List HostInfo
put_host [] x = x ∷ []
put_host (h ∷ hs) x = cond (is_before x.member.node h.member.node) (x ∷ h ∷ hs) (h ∷ put_host hs x)

put_joined-host : (js : List Joined) (x : Joined) → hosts_of (put_joined js x) ≡ put_host (hosts_of js) x.host
put_joined-host [] x = refl
put_joined-host (j ∷ js) x = go (is_before (joined_node x) (joined_node j)) (put_joined-host js x)
  where
    go : (b : Bool) → hosts_of (put_joined js x) ≡ put_host (hosts_of js) x.host → hosts_of (cond b (x ∷ j ∷ js) (j ∷ put_joined js x)) ≡ cond b (x.host ∷ j.host ∷ hosts_of js) (j.host ∷ put_host (hosts_of js) x.host)
    go true ih = refl
    go false ih = ap (λ (hs : List HostInfo). j.host ∷ hs) ih

pub put_same : (js ks : List Joined) (x y : Joined) → hosts_of js ≡ hosts_of ks → x.host ≡ y.host → hosts_of (put_joined js x) ≡ hosts_of (put_joined ks y)
put_same js ks x y e f = rw (put_joined-host js x, put_joined-host ks y, e, f) refl

abbrev without_host : List HostInfo → List ℕ → List HostInfo
without_host [] node = []
without_host (h ∷ hs) node = cond (bytes_eq node h.member.node) hs (h ∷ without_host hs node)

without_node-host : (js : List Joined) (node : List ℕ) → hosts_of (without_node js node) ≡ without_host (hosts_of js) node
without_node-host [] node = refl
without_node-host (j ∷ js) node = go (bytes_eq node (joined_node j)) (without_node-host js node)
  where
    go : (b : Bool) → hosts_of (without_node js node) ≡ without_host (hosts_of js) node → hosts_of (cond b js (j ∷ without_node js node)) ≡ cond b (hosts_of js) (j.host ∷ without_host (hosts_of js) node)
    go true ih = refl
    go false ih = ap (λ (hs : List HostInfo). j.host ∷ hs) ih

pub without_same : (js ks : List Joined) (node : List ℕ) → hosts_of js ≡ hosts_of ks → hosts_of (without_node js node) ≡ hosts_of (without_node ks node)
without_same js ks node e = rw (without_node-host js node, without_node-host ks node, e) refl

abbrev host_here : List HostInfo → Member → Bool
host_here [] m = false
host_here (h ∷ hs) m = cond (bytes_eq m.node h.member.node) (same_member m h.member) (host_here hs m)

is_here-host : (js : List Joined) (m : Member) → is_here js m ≡ host_here (hosts_of js) m
is_here-host [] m = refl
is_here-host (j ∷ js) m = go (bytes_eq m.node (joined_node j)) (is_here-host js m)
  where
    go : (b : Bool) → is_the m (of_node js m.node) ≡ host_here (hosts_of js) m → is_the m (cond b (Some j) (of_node js m.node)) ≡ cond b (same_member m j.host.member) (host_here (hosts_of js) m)
    go true ih = refl
    go false ih = ih

pub here_same : (js ks : List Joined) (m : Member) → hosts_of js ≡ hosts_of ks → is_here js m ≡ is_here ks m
here_same js ks m e = rw (is_here-host js m, is_here-host ks m, e) refl

-- ---- who is a member

pub put_member : (js : List Joined) (x : Joined) (m : Member) → HasMember (hosts_of (put_joined js x)) m → HasMember (hosts_of js) m ⊎ (m ≡ x.host.member)
put_member [] x m (inl e) = inr e
put_member [] x m (inr i) = absurd i
put_member (j ∷ js) x m i = go (is_before (joined_node x) (joined_node j)) (put_member js x m) i
  where
    go : (b : Bool) → (HasMember (hosts_of (put_joined js x)) m → HasMember (hosts_of js) m ⊎ (m ≡ x.host.member)) → HasMember (hosts_of (cond b (x ∷ j ∷ js) (j ∷ put_joined js x))) m → HasMember (hosts_of (j ∷ js)) m ⊎ (m ≡ x.host.member)
    go true ih (inl e) = inr e
    go true ih (inr k) = inl k
    go false ih (inl e) = inl (inl e)
    go false ih (inr k) = elim (ih k) [ inl a ↦ inl (inr a) | inr a ↦ inr a ]

pub without_member : (js : List Joined) (node : List ℕ) (m : Member) → HasMember (hosts_of (without_node js node)) m → HasMember (hosts_of js) m
without_member [] node m i = i
without_member (j ∷ js) node m i = go (bytes_eq node (joined_node j)) (without_member js node m) i
  where
    go : (b : Bool) → (HasMember (hosts_of (without_node js node)) m → HasMember (hosts_of js) m) → HasMember (hosts_of (cond b js (j ∷ without_node js node))) m → HasMember (hosts_of (j ∷ js)) m
    go true ih k = inr k
    go false ih (inl e) = inl e
    go false ih (inr k) = inr (ih k)

pub heard_member : (js : List Joined) (now : ℕ) (m : Member) → HasMember (hosts_of (heard_of js now)) m → HasMember (hosts_of js) m
heard_member [] now m i = i
heard_member (j ∷ js) now m i = go (is_late now j) (heard_member js now m) i
  where
    go : (b : Bool) → (HasMember (hosts_of (heard_of js now)) m → HasMember (hosts_of js) m) → HasMember (hosts_of (cond b (heard_of js now) (j ∷ heard_of js now))) m → HasMember (hosts_of (j ∷ js)) m
    go true ih k = inr (ih k)
    go false ih (inl e) = inl e
    go false ih (inr k) = inr (ih k)
