-- The last version of a space never falls.
use Rattle.std.proofs.Common.{◌≡◌, ℕ, ◌≤◌, Bool, true, false, cond, List, [], ◌∷◌, Option, Some, refl, sym, ap, ◌∙◌, arith}
use Rattle.std.specs.Prelude.{bytes_eq, ◌==◌}
use Rattle.std.proofs.lemmas.Bool.{eqb-true, cond_both}
use Rattle.std.proofs.lemmas.Slice.Eq.{bytes_eq-Decides}
use Rattle.member_roster.specs.Members.{is_before}
use Rattle.round_core.specs.Room.{RoomState, new_room, settle_round, awoken, room_restarted}
use Rattle.round_core.proofs.Versions.{settle_rises}
use Rattle.placement_core.specs.Placement.{SpaceRoom, room_at, put_room}

-- the room of a space after one was put
pub at_put : (rs : List SpaceRoom) (space : List ℕ) (room : RoomState) (q : List ℕ) → room_at (put_room rs space room) q ≡ cond (bytes_eq q space) (Some room) (room_at rs q)
at_put [] space room q = refl
at_put (r ∷ rs) space room q = go (bytes_eq space r.space) refl (is_before space r.space) (at_put rs space room q)
  where
    replaced : bytes_eq space r.space ≡ true → (b : Bool) → bytes_eq q space ≡ b → cond b (Some room) (room_at rs q) ≡ cond b (Some room) (cond (bytes_eq q r.space) (Some r.room) (room_at rs q))
    replaced same true is = refl
    replaced same false is =
        let other : bytes_eq q r.space ≡ false = ap (bytes_eq q) (sym ((bytes_eq-Decides space r.space).0 same)) ∙ is in
        rw other refl

    behind : bytes_eq space r.space ≡ false → (b : Bool) → bytes_eq q r.space ≡ b → (c : Bool) → bytes_eq q space ≡ c → cond b (Some r.room) (cond c (Some room) (room_at rs q)) ≡ cond c (Some room) (cond b (Some r.room) (room_at rs q))
    behind other true here true there =
        let both : space ≡ r.space = sym ((bytes_eq-Decides q space).0 there) ∙ (bytes_eq-Decides q r.space).0 here in
        absurd (let yes : bytes_eq space r.space ≡ true = (bytes_eq-Decides space r.space).1 both in let no : true ≡ false = sym yes ∙ other in cc)
    behind other true here false there = refl
    behind other false here true there = refl
    behind other false here false there = refl

    go : (b : Bool) → bytes_eq space r.space ≡ b → (c : Bool) → room_at (put_room rs space room) q ≡ cond (bytes_eq q space) (Some room) (room_at rs q) → room_at (cond b (record { space = space; room = room } ∷ rs) (cond c (record { space = space; room = room } ∷ r ∷ rs) (r ∷ put_room rs space room))) q ≡ cond (bytes_eq q space) (Some room) (room_at (r ∷ rs) q)
    go true same c ih = replaced same (bytes_eq q space) refl
    go false other true ih = refl
    go false other false ih = ap (λ (o : Option RoomState). cond (bytes_eq q r.space) (Some r.room) o) ih ∙ behind other (bytes_eq q r.space) refl (bytes_eq q space) refl

-- a restart of a room
pub restart_rises : (s : RoomState) (now : ℕ) → s.next_version ≤ (room_restarted s now).next_version
restart_rises s now = cond_both (s.next_version == 1) new_room (settle_round (awoken s now)) (λ (t : RoomState). s.next_version ≤ t.next_version)
    (λ e. let one = eqb-true s.next_version 1 e in omega arith)
    (λ e. (settle_rises (awoken s now)).low)
