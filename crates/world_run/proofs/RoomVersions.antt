-- The rooms of a placement one after the other: their versions before and after a restart.
use Rattle.std.proofs.Common.{◌≡◌, ℕ, ◌<◌, List, [], ◌∷◌, ◌++◌, length, take, drop, set, refl, sym, ap, ◌∙◌, arith, append-nil}
use Rattle.std.specs.Prelude.{zero, suc, map, slice_get, Option, Some}
use Rattle.placement_core.specs.Placement.{SpaceRoom}
use Rattle.cluster_model.specs.World.{restarted_versions}
use Rattle.world_run.specs.Post.{version_in, started_version}
use Rattle.world_run.proofs.Posts.{versions_at}

pub in_place : {A : Type 0} (xs : List A) (n : ℕ) → n < length xs → (x : A) × (slice_get xs n ≡ Some x)
in_place [] n l = absurd (omega arith)
in_place (x ∷ xs) zero l = (x, refl)
in_place (x ∷ xs) (suc n) l = in_place xs n (omega arith)

-- one more room
pub taken_versions : (rooms : List SpaceRoom) (n : ℕ) (r : SpaceRoom) → slice_get rooms n ≡ Some r → map version_in (take (suc n) rooms) ≡ map version_in (take n rooms) ++ version_in r ∷ []
taken_versions [] n r e = absurd (cc)
taken_versions (x ∷ rooms) zero r e = let same : x ≡ r = cc in ap (λ (z : SpaceRoom). version_in z ∷ []) same
taken_versions (x ∷ rooms) (suc n) r e = ap (λ (l : List ℕ). version_in x ∷ l) (taken_versions rooms n r e)

pub take_all : {A : Type 0} (xs : List A) (n : ℕ) → n ≡ length xs → take n xs ≡ xs
take_all [] zero e = refl
take_all [] (suc n) e = absurd (omega arith)
take_all (x ∷ xs) zero e = absurd (omega arith)
take_all (x ∷ xs) (suc n) e = ap (λ (l : List _). x ∷ l) (take_all xs n (omega arith))

drop_all : {A : Type 0} (xs : List A) (n : ℕ) → n ≡ length xs → drop n xs ≡ []
drop_all [] zero e = refl
drop_all [] (suc n) e = absurd (omega arith)
drop_all (x ∷ xs) zero e = absurd (omega arith)
drop_all (x ∷ xs) (suc n) e = drop_all xs n (omega arith)

-- a room's entry is still its last version before the restart
pub version_before : (rooms new : List SpaceRoom) (n : ℕ) (r t : SpaceRoom) → slice_get rooms n ≡ Some r → slice_get new n ≡ Some t → slice_get (versions_at rooms new n) n ≡ Some (version_in r)
version_before [] new n r t e f = absurd (cc)
version_before (x ∷ rooms) [] n r t e f = absurd (cc)
version_before (x ∷ rooms) (y ∷ new) zero r t e f = let same : x ≡ r = cc in ap (λ (z : SpaceRoom). Some (version_in z)) same
version_before (x ∷ rooms) (y ∷ new) (suc n) r t e f = version_before rooms new n r t e f

pub version_after : (rooms new : List SpaceRoom) (n : ℕ) (r t : SpaceRoom) → slice_get rooms n ≡ Some r → slice_get new n ≡ Some t →
    set (versions_at rooms new n) n (started_version (version_in r) (version_in t)) ≡ versions_at rooms new (suc n)
version_after [] new n r t e f = absurd (cc)
version_after (x ∷ rooms) [] n r t e f = absurd (cc)
version_after (x ∷ rooms) (y ∷ new) zero r t e f =
    let same : x ≡ r = cc in
    let also : y ≡ t = cc in
    (λ i. started_version (version_in (sym same i)) (version_in (sym also i)) ∷ map version_in rooms)
version_after (x ∷ rooms) (y ∷ new) (suc n) r t e f = ap (λ (l : List ℕ). started_version (version_in x) (version_in y) ∷ l) (version_after rooms new n r t e f)

pub versions_all : (rooms new : List SpaceRoom) (n : ℕ) → n ≡ length rooms → n ≡ length new → versions_at rooms new n ≡ restarted_versions rooms new
versions_all rooms new n e f =
    (λ i. restarted_versions (take_all rooms n e i) (take_all new n f i) ++ map version_in (drop_all rooms n e i)) ∙ append-nil (restarted_versions rooms new)
