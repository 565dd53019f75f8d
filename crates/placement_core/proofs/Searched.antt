-- The room of a space in a list that is searched by space, of any elements that have a space and a room.
use Rattle.std.proofs.Common.{◌≡◌, ℕ, suc, zero, true, List, [], ◌∷◌, length, map, get_or, set, None, Some, refl, sym, ap, ◌∙◌, arith}
use Rattle.std.specs.List.{insert}
use Rattle.std.specs.Prelude.{bytes_eq}
use Rattle.std.specs.declared.cmp.Ordering.{Ordering}
use Rattle.std.specs.declared.cmp.Ordering.TheVariants.{Less, Equal, Greater}
use Rattle.std.specs.declared.result.Result.TheVariants.{Ok, Err}
use Rattle.std.proofs.lemmas.Slice.Eq.{bytes_eq-Decides}
use Rattle.member_roster.specs.Places.{IsBelowAll, Ascends, place_from, place_by}
use Rattle.member_roster.proofs.Places.{cmp, same_texts, before_texts, one_more-Ok, one_more-Err, none_after}
use Rattle.round_core.specs.Room.{RoomState}
use Rattle.placement_core.specs.Placement.{SpaceRoom, room_at, put_room}

pub same_space : (a b : List ℕ) → bytes_eq a b ≡ true → a ≡ b
same_space a b e = (bytes_eq-Decides a b).0 e

-- an element as a space and its room
abbrev pub paired : {K : Type 0} → (K → List ℕ) → (K → RoomState) → K → SpaceRoom
paired key state k = record { space = key k; room = state k }

pub at-found : {K : Type 0} (key : K → List ℕ) (state : K → RoomState) (space : List ℕ) (ks : List K) (i : ℕ) (d : K) → place_by key space ks ≡ Ok i → room_at (map (paired key state) ks) space ≡ Some (state (get_or ks i d))
at-found key state space [] i d p = absurd (cc)
at-found key state space (k ∷ ks) i d p = go (cmp (key k) space) refl (λ j q. at-found key state space ks j d q) i p
  where
    go : (o : Ordering) → cmp (key k) space ≡ o → ((j : ℕ) → place_by key space ks ≡ Ok j → room_at (map (paired key state) ks) space ≡ Some (state (get_or ks j d))) → (i : ℕ) → place_from o (place_by key space ks) ≡ Ok i → room_at (map (paired key state) (k ∷ ks)) space ≡ Some (state (get_or (k ∷ ks) i d))
    go Less e ih i p = let r = one_more-Ok (place_by key space ks) i p in rw (same_texts (key k) space Less e, r.2) (ih r.0 r.1)
    go Equal e ih zero p = rw (same_texts (key k) space Equal e) refl
    go Equal e ih (suc i) p = absurd (cc)
    go Greater e ih i p = absurd (cc)

pub found-key : {K : Type 0} (key : K → List ℕ) (space : List ℕ) (ks : List K) (i : ℕ) (d : K) → place_by key space ks ≡ Ok i → key (get_or ks i d) ≡ space
found-key key space [] i d p = absurd (cc)
found-key key space (k ∷ ks) i d p = go (cmp (key k) space) refl (λ j q. found-key key space ks j d q) i p
  where
    go : (o : Ordering) → cmp (key k) space ≡ o → ((j : ℕ) → place_by key space ks ≡ Ok j → key (get_or ks j d) ≡ space) → (i : ℕ) → place_from o (place_by key space ks) ≡ Ok i → key (get_or (k ∷ ks) i d) ≡ space
    go Less e ih i p = let r = one_more-Ok (place_by key space ks) i p in rw r.2 (ih r.0 r.1)
    go Equal e ih zero p = sym (same_space space (key k) (same_texts (key k) space Equal e))
    go Equal e ih (suc i) p = absurd (cc)
    go Greater e ih i p = absurd (cc)

pub at-missing : {K : Type 0} (key : K → List ℕ) (state : K → RoomState) (space : List ℕ) (ks : List K) (i : ℕ) → Ascends key ks → place_by key space ks ≡ Err i → room_at (map (paired key state) ks) space ≡ None
at-missing key state space [] i a p = refl
at-missing key state space (k ∷ ks) i a p = go (cmp (key k) space) refl (λ j q. at-missing key state space ks j a.1 q) i p
  where
    go : (o : Ordering) → cmp (key k) space ≡ o → ((j : ℕ) → place_by key space ks ≡ Err j → room_at (map (paired key state) ks) space ≡ None) → (i : ℕ) → place_from o (place_by key space ks) ≡ Err i → room_at (map (paired key state) (k ∷ ks)) space ≡ None
    go Less e ih i p = let r = one_more-Err (place_by key space ks) i p in rw (same_texts (key k) space Less e) (ih r.0 r.1)
    go Equal e ih i p = absurd (cc)
    go Greater e ih i p = rw (same_texts (key k) space Greater e) (ih 0 (none_after key (key k) space ks e a.0))

-- a room in its place
pub put-found : {K : Type 0} (key : K → List ℕ) (state : K → RoomState) (space : List ℕ) (ks : List K) (i : ℕ) (d x : K) → key x ≡ key (get_or ks i d) → place_by key space ks ≡ Ok i → put_room (map (paired key state) ks) space (state x) ≡ map (paired key state) (set ks i x)
put-found key state space [] i d x h p = absurd (cc)
put-found key state space (k ∷ ks) i d x h p = go (cmp (key k) space) refl (λ j h q. put-found key state space ks j d x h q) i h p
  where
    go : (o : Ordering) → cmp (key k) space ≡ o → ((j : ℕ) → key x ≡ key (get_or ks j d) → place_by key space ks ≡ Ok j → put_room (map (paired key state) ks) space (state x) ≡ map (paired key state) (set ks j x)) → (i : ℕ) → key x ≡ key (get_or (k ∷ ks) i d) → place_from o (place_by key space ks) ≡ Ok i → put_room (map (paired key state) (k ∷ ks)) space (state x) ≡ map (paired key state) (set (k ∷ ks) i x)
    go Less e ih zero h p = let r = one_more-Ok (place_by key space ks) zero p in absurd (cc (r.2))
    go Less e ih (suc i) h p =
        let r = one_more-Ok (place_by key space ks) (suc i) p in
        let q : place_by key space ks ≡ Ok i = cc in
        rw (same_texts (key k) space Less e, before_texts (key k) space Less e) (ap (λ (rs : List SpaceRoom). paired key state k ∷ rs) (ih i h q))
    go Equal e ih zero h p =
        let same = same_texts (key k) space Equal e in
        rw same (ap (λ (s : List ℕ). record { space = s; room = state x } ∷ map (paired key state) ks) (same_space space (key k) same ∙ sym h))
    go Equal e ih (suc i) h p = absurd (cc)
    go Greater e ih i h p = absurd (cc)

-- a new room at its place
pub put-new : {K : Type 0} (key : K → List ℕ) (state : K → RoomState) (space : List ℕ) (x : K) (ks : List K) (i : ℕ) → key x ≡ space → place_by key space ks ≡ Err i → put_room (map (paired key state) ks) space (state x) ≡ map (paired key state) (insert ks i x)
put-new key state space x [] i h p = let z : i ≡ 0 = cc in rw (z, h) refl
put-new key state space x (k ∷ ks) i h p = go (cmp (key k) space) refl (λ j q. put-new key state space x ks j h q) i p
  where
    go : (o : Ordering) → cmp (key k) space ≡ o → ((j : ℕ) → place_by key space ks ≡ Err j → put_room (map (paired key state) ks) space (state x) ≡ map (paired key state) (insert ks j x)) → (i : ℕ) → place_from o (place_by key space ks) ≡ Err i → put_room (map (paired key state) (k ∷ ks)) space (state x) ≡ map (paired key state) (insert (k ∷ ks) i x)
    go Less e ih i p = let r = one_more-Err (place_by key space ks) i p in rw (same_texts (key k) space Less e, before_texts (key k) space Less e, r.2) (ap (λ (rs : List SpaceRoom). paired key state k ∷ rs) (ih r.0 r.1))
    go Equal e ih i p = absurd (cc)
    go Greater e ih i p = let z : i ≡ 0 = cc in rw (same_texts (key k) space Greater e, before_texts (key k) space Greater e, z, h) refl

-- a room put where it is
pub put-same : {K : Type 0} (key : K → List ℕ) (state : K → RoomState) (space : List ℕ) (ks : List K) (i : ℕ) (d : K) → place_by key space ks ≡ Ok i → put_room (map (paired key state) ks) space (state (get_or ks i d)) ≡ map (paired key state) ks
put-same key state space [] i d p = absurd (cc)
put-same key state space (k ∷ ks) i d p = go (cmp (key k) space) refl (λ j q. put-same key state space ks j d q) i p
  where
    go : (o : Ordering) → cmp (key k) space ≡ o → ((j : ℕ) → place_by key space ks ≡ Ok j → put_room (map (paired key state) ks) space (state (get_or ks j d)) ≡ map (paired key state) ks) → (i : ℕ) → place_from o (place_by key space ks) ≡ Ok i → put_room (map (paired key state) (k ∷ ks)) space (state (get_or (k ∷ ks) i d)) ≡ map (paired key state) (k ∷ ks)
    go Less e ih i p = let r = one_more-Ok (place_by key space ks) i p in rw (same_texts (key k) space Less e, before_texts (key k) space Less e, r.2) (ap (λ (rs : List SpaceRoom). paired key state k ∷ rs) (ih r.0 r.1))
    go Equal e ih zero p =
        let same = same_texts (key k) space Equal e in
        rw same (ap (λ (s : List ℕ). record { space = s; room = state k } ∷ map (paired key state) ks) (same_space space (key k) same))
    go Equal e ih (suc i) p = absurd (cc)
    go Greater e ih i p = absurd (cc)

-- ---- the order of spaces

below_set : {K : Type 0} (key : K → List ℕ) (a : List ℕ) (ks : List K) (i : ℕ) (d y : K) → key y ≡ key (get_or ks i d) → IsBelowAll key a ks → IsBelowAll key a (set ks i y)
below_set key a [] i d y e b = tt
below_set key a (k ∷ ks) zero d y e b = (rw e b.0, b.1)
below_set key a (k ∷ ks) (suc i) d y e b = (b.0, below_set key a ks i d y e b.1)

pub ascends_set : {K : Type 0} (key : K → List ℕ) (ks : List K) (i : ℕ) (d y : K) → key y ≡ key (get_or ks i d) → Ascends key ks → Ascends key (set ks i y)
ascends_set key [] i d y e a = tt
ascends_set key (k ∷ ks) zero d y e a = (rw e a.0, a.1)
ascends_set key (k ∷ ks) (suc i) d y e a = (below_set key (key k) ks i d y e a.0, ascends_set key ks i d y e a.1)

below_moved : {K L : Type 0} (key : K → List ℕ) (its : L → List ℕ) (f : K → L) → ((k : K) → its (f k) ≡ key k) → (a : List ℕ) (ks : List K) → IsBelowAll key a ks → IsBelowAll its a (map f ks)
below_moved key its f same a [] b = tt
below_moved key its f same a (k ∷ ks) b = (rw (same k) b.0, below_moved key its f same a ks b.1)

-- elements of another kind with the same spaces
pub ascends_moved : {K L : Type 0} (key : K → List ℕ) (its : L → List ℕ) (f : K → L) → ((k : K) → its (f k) ≡ key k) → (ks : List K) → Ascends key ks → Ascends its (map f ks)
ascends_moved key its f same [] a = tt
ascends_moved key its f same (k ∷ ks) a = (rw (same k) (below_moved key its f same (key k) ks a.0), ascends_moved key its f same ks a.1)

pub length_mapped : {K L : Type 0} (f : K → L) (ks : List K) → length (map f ks) ≡ length ks
length_mapped f [] = refl
length_mapped f (k ∷ ks) = let e = length_mapped f ks in omega arith
