-- A placement whose next version is 1 is the opening one, also after each event.
use Rattle.std.proofs.Common.{◌≡◌, ℕ, ◌<◌, ◌≤◌, true, refl, sym, ◌∙◌, subst, inl, inr, arith}
use Rattle.std.specs.Prelude.{◌==◌}
use Rattle.std.proofs.lemmas.Bool.{cases_eq, eq-eqb, true≢false, cond_both}
use Rattle.actor_names.specs.declared.member.Member.{Member}
use Rattle.place_table.specs.declared.host.HostInfo.{HostInfo}
use Rattle.member_roster.specs.Members.{is_here}
use Rattle.round_core.specs.Openings.{IsNewOrUsed}
use Rattle.round_core.specs.Room.{RoomState, new_room, settle_round, with_joined, drop_late, room_restarted, awoken}
use Rattle.round_core.proofs.Memory.{awoken_rises}
use Rattle.round_core.proofs.Versions.{Rises, rises_all, rises_on, settle_rises}

pub new_kept : IsNewOrUsed new_room
new_kept = record { used = omega arith; unused = λ _. refl }

-- if a round has used a version, that stays so
pub used_kept : (s t : RoomState) → 1 < s.next_version → Rises s t → IsNewOrUsed t
used_kept s t h r =
    record { used = (let l = r.low in omega arith); unused = λ e. (let l = r.low in absurd (omega arith)) }

above_one : (n : ℕ) → 1 ≤ n → (n ≡ 1 → ⊥) → 1 < n
above_one n a off = omega arith

-- by cases: the opening state, or a state that has used a version
pub by_use : (P : RoomState → Type 0) (s : RoomState) → IsNewOrUsed s → P new_room → (1 < s.next_version → P s) → P s
by_use P s k new used = elim (cases_eq s.next_version 1) [
  | inl e ↦ subst P (sym (k.unused e)) new
  | inr off ↦ used (above_one s.next_version k.used off)
]

-- a member is heard, acknowledges or is removed
pub told_kept : (s t : RoomState) (m : Member) → IsNewOrUsed s → is_here s.members m ≡ true → t.next_version ≡ s.next_version → IsNewOrUsed (settle_round t)
told_kept s t m k here same =
    let l : 1 < s.next_version = by_use (λ (u : RoomState). is_here u.members m ≡ true → 1 < u.next_version) s k (λ e. absurd (cc)) (λ l _. l) here in
    used_kept t (settle_round t) (omega arith) (settle_rises t)

pub dropped_kept : (s : RoomState) (now : ℕ) → IsNewOrUsed s → IsNewOrUsed (settle_round (drop_late s now).state)
dropped_kept s now k =
    let t = (drop_late s now).state in
    by_use (λ (u : RoomState). IsNewOrUsed (settle_round (drop_late u now).state)) s k
    (record { used = omega arith; unused = λ _. refl })
    (λ l. used_kept s (settle_round t) l (rises_on s t (settle_round t) (rises_all s t refl) (settle_rises t)))

pub joined_kept : (s : RoomState) (host : HostInfo) (now : ℕ) → IsNewOrUsed s → IsNewOrUsed (settle_round (with_joined s host now))
joined_kept s host now k =
    let t = with_joined s host now in
    by_use (λ (u : RoomState). IsNewOrUsed (settle_round (with_joined u host now))) s k
    (record { used = omega arith; unused = λ e. absurd (cc) })
    (λ l. used_kept s (settle_round t) l (rises_on s t (settle_round t) (rises_all s t refl) (settle_rises t)))

pub restart_kept : (s : RoomState) (now : ℕ) → 1 ≤ s.next_version → IsNewOrUsed (room_restarted s now)
restart_kept s now h =
    cond_both (s.next_version == 1) new_room (settle_round (awoken s now)) IsNewOrUsed
    (λ _. new_kept)
    (λ f. used_kept s (settle_round (awoken s now)) (above_one s.next_version h (λ e. true≢false (sym (eq-eqb s.next_version 1 e) ∙ f))) (awoken_rises s now))
