-- The first member that a Tick of the placement would drop and that has a running part.
use Rattle.std.proofs.Common.{◌≡◌, ℕ, ◌+◌, ◌<◌, Bool, true, false, cond, List, [], ◌∷◌, ◌++◌, length, drop, refl, sym, ap, ◌∙◌, arith}
use Rattle.std.specs.Prelude.{zero, suc, slice_get, Option, None, Some}
use Rattle.actor_names.specs.declared.member.Member.{Member}
use Rattle.member_roster.specs.Members.{Joined, is_late, late_of}
use Rattle.part_model.specs.Part.{PartState}
use Rattle.placement_core.specs.Placement.{SpaceRoom, late_in}
use Rattle.cluster_model.specs.World.{all_stopped, running_among}
use Rattle.world_run.specs.Post.{late_member}

pub joined_at : (js : List Joined) (n : ℕ) → n < length js → (j : Joined) × (slice_get js n ≡ Some j)
joined_at [] n l = absurd (omega arith)
joined_at (j ∷ js) zero l = (j, refl)
joined_at (j ∷ js) (suc n) l = joined_at js n (omega arith)

drop_at : (js : List Joined) (n : ℕ) (j : Joined) → slice_get js n ≡ Some j → drop n js ≡ j ∷ drop (suc n) js
drop_at [] n j e = absurd (cc)
drop_at (k ∷ js) zero j e = (let same : k ≡ j = cc in ap (λ (z : Joined). z ∷ js) same)
drop_at (k ∷ js) (suc n) j e = drop_at js n j e

late_joined : (js : List Joined) (i now : ℕ) (j : Joined) → slice_get js i ≡ Some j → late_of (drop i js) now ≡ cond (is_late now j) (j.host.member ∷ late_of (drop (i + 1) js) now) (late_of (drop (i + 1) js) now)
late_joined js i now j e =
    let next : suc i ≡ i + 1 = omega arith in
    ap (λ (ks : List Joined). late_of ks now) (drop_at js i j e ∙ ap (λ (n : ℕ). j ∷ drop n js) next)

late_some : (now : ℕ) (j : Joined) (m : Member) → Some m ≡ late_member now j → (is_late now j ≡ true) × (m ≡ j.host.member)
late_some now j m e = go (is_late now j) refl e
  where
    some_same : (a b : Member) → Some a ≡ Some b → a ≡ b
    some_same a b e = cc

    go : (b : Bool) → is_late now j ≡ b → Some m ≡ cond b (Some j.host.member) None → (is_late now j ≡ true) × (m ≡ j.host.member)
    go true t e = (t, some_same m j.host.member e)
    go false t e = absurd (cc)

late_none : (now : ℕ) (j : Joined) → ◌≡◌ {A = Option Member} None (late_member now j) → is_late now j ≡ false
late_none now j e = go (is_late now j) e
  where
    go : (b : Bool) → ◌≡◌ {A = Option Member} None (cond b (Some j.host.member) None) → b ≡ false
    go true e = absurd (cc)
    go false e = refl

-- the member at this place is the first
pub runs_here : (ps : List PartState) (js : List Joined) (i now : ℕ) (j : Joined) (m : Member) → slice_get js i ≡ Some j → Some m ≡ late_member now j → all_stopped ps m ≡ false → Some m ≡ running_among ps (late_of (drop i js) now)
runs_here ps js i now j m e late running =
    let h = late_some now j m late in
    let rest = late_of (drop (i + 1) js) now in
    let whole : late_of (drop i js) now ≡ m ∷ rest = late_joined js i now j e ∙ ap (λ (b : Bool). cond b (j.host.member ∷ rest) rest) h.0 ∙ ap (λ (z : Member). z ∷ rest) (sym h.1) in
    sym (ap (λ (ms : List Member). running_among ps ms) whole ∙ ap (λ (b : Bool). cond b (running_among ps rest) (Some m)) running)

-- one that has stopped is skipped
pub stopped_here : (ps : List PartState) (js : List Joined) (i now : ℕ) (j : Joined) (m : Member) → slice_get js i ≡ Some j → Some m ≡ late_member now j → all_stopped ps m ≡ true →
    running_among ps (late_of (drop (i + 1) js) now) ≡ running_among ps (late_of (drop i js) now)
stopped_here ps js i now j m e late stopped =
    let h = late_some now j m late in
    let rest = late_of (drop (i + 1) js) now in
    let whole : late_of (drop i js) now ≡ m ∷ rest = late_joined js i now j e ∙ ap (λ (b : Bool). cond b (j.host.member ∷ rest) rest) h.0 ∙ ap (λ (z : Member). z ∷ rest) (sym h.1) in
    sym (ap (λ (ms : List Member). running_among ps ms) whole ∙ ap (λ (b : Bool). cond b (running_among ps rest) (Some m)) stopped)

-- so is one that was heard from in time
pub heard_here : (ps : List PartState) (js : List Joined) (i now : ℕ) (j : Joined) → slice_get js i ≡ Some j → ◌≡◌ {A = Option Member} None (late_member now j) →
    running_among ps (late_of (drop (i + 1) js) now) ≡ running_among ps (late_of (drop i js) now)
heard_here ps js i now j e late =
    let rest = late_of (drop (i + 1) js) now in
    ap (λ (ms : List Member). running_among ps ms) (sym (late_joined js i now j e ∙ ap (λ (b : Bool). cond b (j.host.member ∷ rest) rest) (late_none now j late)))

-- ---- room by room

drop_room : (rs : List SpaceRoom) (n : ℕ) (r : SpaceRoom) → slice_get rs n ≡ Some r → drop n rs ≡ r ∷ drop (suc n) rs
drop_room [] n r e = absurd (cc)
drop_room (x ∷ rs) zero r e = (let same : x ≡ r = cc in ap (λ (z : SpaceRoom). z ∷ rs) same)
drop_room (x ∷ rs) (suc n) r e = drop_room rs n r e

late_rooms : (rs : List SpaceRoom) (n now : ℕ) (r : SpaceRoom) → slice_get rs n ≡ Some r → late_in (drop n rs) now ≡ late_of r.room.members now ++ late_in (drop (n + 1) rs) now
late_rooms rs n now r e =
    let next : suc n ≡ n + 1 = omega arith in
    ap (λ (l : List SpaceRoom). late_in l now) (drop_room rs n r e ∙ ap (λ (k : ℕ). r ∷ drop k rs) next)

-- the first of two lists if it has one, else of the second
first_among : (ps : List PartState) (xs ys : List Member) (m : Member) → running_among ps xs ≡ Some m → running_among ps (xs ++ ys) ≡ Some m
first_among ps [] ys m e = absurd (cc)
first_among ps (x ∷ xs) ys m e = go (all_stopped ps x) (first_among ps xs ys m) e
  where
    go : (b : Bool) → (running_among ps xs ≡ Some m → running_among ps (xs ++ ys) ≡ Some m) → cond b (running_among ps xs) (Some x) ≡ Some m → cond b (running_among ps (xs ++ ys)) (Some x) ≡ Some m
    go true later f = later f
    go false later f = f

none_among : (ps : List PartState) (xs ys : List Member) → running_among ps xs ≡ None → running_among ps (xs ++ ys) ≡ running_among ps ys
none_among ps [] ys e = refl
none_among ps (x ∷ xs) ys e = go (all_stopped ps x) (none_among ps xs ys) e
  where
    go : (b : Bool) → (running_among ps xs ≡ None → running_among ps (xs ++ ys) ≡ running_among ps ys) → cond b (running_among ps xs) (Some x) ≡ None → cond b (running_among ps (xs ++ ys)) (Some x) ≡ running_among ps ys
    go true later f = later f
    go false later f = absurd (cc)

-- the first one is in this room
pub room_runs : (ps : List PartState) (rs : List SpaceRoom) (n now : ℕ) (r : SpaceRoom) (m : Member) → slice_get rs n ≡ Some r → Some m ≡ running_among ps (late_of r.room.members now) → Some m ≡ running_among ps (late_in (drop n rs) now)
room_runs ps rs n now r m e f = sym (ap (λ (ms : List Member). running_among ps ms) (late_rooms rs n now r e) ∙ first_among ps (late_of r.room.members now) _ m (sym f))

-- no one is
pub room_rests : (ps : List PartState) (rs : List SpaceRoom) (n now : ℕ) (r : SpaceRoom) → slice_get rs n ≡ Some r → None ≡ running_among ps (late_of r.room.members now) → running_among ps (late_in (drop (n + 1) rs) now) ≡ running_among ps (late_in (drop n rs) now)
room_rests ps rs n now r e f = sym (ap (λ (ms : List Member). running_among ps ms) (late_rooms rs n now r e) ∙ none_among ps (late_of r.room.members now) _ (sym f))
