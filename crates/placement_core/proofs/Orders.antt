-- Rooms in byte order of space: what stands before a room, and what a room put among them leaves as it was.
use Rattle.std.proofs.Common.{ℕ, ◌≡◌, false, List, [], ◌∷◌, ◌++◌, map, None, Some, refl, sym, ap, subst}
use Rattle.std.specs.Prelude.{bytes_eq}
use Rattle.std.specs.declared.cmp.Ordering.{Ordering}
use Rattle.std.specs.declared.cmp.Ordering.TheVariants.{Less, Equal, Greater}
use Rattle.std.proofs.lemmas.Cmp.{nat_list_cmp_total}
use Rattle.member_roster.specs.Places.{IsBelowAll, Ascends}
use Rattle.member_roster.proofs.Places.{cmp, greater, less, after_greater, same_texts, before_texts}
use Rattle.round_core.specs.Room.{RoomState}
use Rattle.round_core.proofs.Hosts.{same_bytes}
use Rattle.placement_core.specs.Placement.{SpaceRoom, room_at, put_room, each_room}
use Rattle.placement_core.specs.Runs.{space_of}
use Rattle.placement_core.proofs.Searched.{same_space}

-- no room of the space stands behind one whose space is greater
pub absent : (first space : List ℕ) (rs : List SpaceRoom) → cmp first space ≡ Greater → IsBelowAll space_of first rs → room_at rs space ≡ None
absent first space [] o b = refl
absent first space (r ∷ rs) o b =
    rw (same_texts r.space space Greater (after_greater first r.space space o b.0)) (absent first space rs o b.1)

below_less : (a b : List ℕ) (rs : List SpaceRoom) → cmp a b ≡ Less → IsBelowAll space_of b rs → IsBelowAll space_of a rs
below_less a b [] e h = tt
below_less a b (r ∷ rs) e h = (let t = nat_list_cmp_total in t.trans a b r.space e h.0, below_less a b rs e h.1)

below_put : (a space : List ℕ) (room : RoomState) (rs : List SpaceRoom) → cmp a space ≡ Less → IsBelowAll space_of a rs → IsBelowAll space_of a (put_room rs space room)
below_put a space room [] e h = (e, tt)
below_put a space room (r ∷ rs) e h = go (cmp r.space space) refl (below_put a space room rs e h.1)
  where
    go : (o : Ordering) → cmp r.space space ≡ o → IsBelowAll space_of a (put_room rs space room) → IsBelowAll space_of a (put_room (r ∷ rs) space room)
    go Less o ih = rw (same_texts r.space space Less o, before_texts r.space space Less o) (h.0, ih)
    go Equal o ih = rw (same_texts r.space space Equal o) (e, h.1)
    go Greater o ih = rw (same_texts r.space space Greater o, before_texts r.space space Greater o) (e, h)

pub ascends_put : (space : List ℕ) (room : RoomState) (rs : List SpaceRoom) → Ascends space_of rs → Ascends space_of (put_room rs space room)
ascends_put space room [] a = (tt, tt)
ascends_put space room (r ∷ rs) a = go (cmp r.space space) refl (ascends_put space room rs a.1)
  where
    go : (o : Ordering) → cmp r.space space ≡ o → Ascends space_of (put_room rs space room) → Ascends space_of (put_room (r ∷ rs) space room)
    go Less o ih = rw (same_texts r.space space Less o, before_texts r.space space Less o) (below_put r.space space room rs o a.0, ih)
    go Equal o ih =
        let same = same_texts r.space space Equal o in
        let is : r.space ≡ space = sym (same_space space r.space same) in
        rw same (subst (λ (s : List ℕ). IsBelowAll space_of s rs) is a.0, a.1)
    go Greater o ih =
        let l = less r.space space o in
        rw (same_texts r.space space Greater o, before_texts r.space space Greater o) ((l, below_less space r.space rs l a.0), a)

below_each : (f : RoomState → RoomState) (a : List ℕ) (rs : List SpaceRoom) → IsBelowAll space_of a rs → IsBelowAll space_of a (map (each_room f) rs)
below_each f a [] b = tt
below_each f a (r ∷ rs) b = (b.0, below_each f a rs b.1)

pub ascends_each : (f : RoomState → RoomState) (rs : List SpaceRoom) → Ascends space_of rs → Ascends space_of (map (each_room f) rs)
ascends_each f [] a = tt
ascends_each f (r ∷ rs) a = (below_each f r.space rs a.0, ascends_each f rs a.1)

-- ---- rooms before a space

-- the space of each room is less than this one
abbrev pub IsBehind : List SpaceRoom → List ℕ → Type 0
IsBehind [] space = Unit {0}
IsBehind (p ∷ ps) space = (cmp p.space space ≡ Less) × IsBehind ps space

-- the space of each room of the first list is less than each space of the second
abbrev pub AllBehind : List SpaceRoom → List SpaceRoom → Type 0
AllBehind ps [] = Unit {0}
AllBehind ps (r ∷ rs) = IsBehind ps r.space × AllBehind ps rs

pub none_behind : (rs : List SpaceRoom) → AllBehind [] rs
none_behind [] = tt
none_behind (r ∷ rs) = (tt, none_behind rs)

one_behind : (ps : List SpaceRoom) (x : SpaceRoom) (space : List ℕ) → IsBehind ps space → cmp x.space space ≡ Less → IsBehind (ps ++ x ∷ []) space
one_behind [] x space b l = (l, tt)
one_behind (p ∷ ps) x space b l = (b.0, one_behind ps x space b.1 l)

pub more_behind : (ps : List SpaceRoom) (x : SpaceRoom) (rs : List SpaceRoom) → AllBehind ps rs → IsBelowAll space_of x.space rs → AllBehind (ps ++ x ∷ []) rs
more_behind ps x [] b h = tt
more_behind ps x (r ∷ rs) b h = (one_behind ps x r.space b.0 h.0, more_behind ps x rs b.1 h.1)

pub room_behind : (ps : List SpaceRoom) (t : SpaceRoom) (ts : List SpaceRoom) (space : List ℕ) → IsBehind ps space → t.space ≡ space → room_at (ps ++ t ∷ ts) space ≡ Some t.room
room_behind [] t ts space b e = rw (e, same_bytes space) refl
room_behind (p ∷ ps) t ts space b e = rw (same_texts p.space space Less b.0) (room_behind ps t ts space b.1 e)

pub put_behind : (ps : List SpaceRoom) (t : SpaceRoom) (ts : List SpaceRoom) (space : List ℕ) (room : RoomState) → IsBehind ps space → t.space ≡ space → put_room (ps ++ t ∷ ts) space room ≡ ps ++ record { space = space; room = room } ∷ ts
put_behind [] t ts space room b e = rw (e, same_bytes space) refl
put_behind (p ∷ ps) t ts space room b e =
    rw (same_texts p.space space Less b.0, before_texts p.space space Less b.0) (ap (λ (xs : List SpaceRoom). p ∷ xs) (put_behind ps t ts space room b.1 e))

pub one_more_on : (ps : List SpaceRoom) (x : SpaceRoom) (xs : List SpaceRoom) → (ps ++ x ∷ []) ++ xs ≡ ps ++ x ∷ xs
one_more_on [] x xs = refl
one_more_on (p ∷ ps) x xs = ap (λ (ys : List SpaceRoom). p ∷ ys) (one_more_on ps x xs)

-- no space is less than itself
pub other_space : (a b : List ℕ) → cmp a b ≡ Less → bytes_eq a b ≡ false
other_space a b l = same_texts b a Greater (greater a b l)
