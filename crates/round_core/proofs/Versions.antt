-- The next version never falls, and never passes its limit.
use Rattle.std.proofs.Common.{◌≡◌, ℕ, ◌+◌, ◌<◌, ◌≤◌, ◌^◌, Bool, true, false, ◌&&◌, cond, map, refl, arith}
use Rattle.std.specs.Prelude.{nat_lt}
use Rattle.std.proofs.lemmas.Bool.{and_parts, ltb-true, cond_both}
use Rattle.place_table.specs.declared.ack_stage.AckStage.TheVariants as stages
use Rattle.round_core.specs.declared.phase.RoundPhase.{RoundPhase}
use Rattle.round_core.specs.declared.phase.RoundPhase.TheVariants.{Quiet, Running}
use Rattle.member_roster.specs.Members.{any_pending, targeted}
use Rattle.round_core.specs.Room.{RoomState, Conclusion, Stays, Says, Tells, is_quiet, next_stage, advance_round, may_start, start_round, advance_fully, settle_round, conclude}

pub record Rises (s t : RoomState) : Type 0 where
  pub low : s.next_version ≤ t.next_version
  pub high : s.next_version ≤ 2 ^ 62 → t.next_version ≤ 2 ^ 62

pub rises_all : (s t : RoomState) → t.next_version ≡ s.next_version → Rises s t
rises_all s t e = record { low = omega arith; high = λ h. omega arith }

pub rises_on : (s t u : RoomState) → Rises s t → Rises t u → Rises s u
rises_on s t u a b =
    record { low = (let x = a.low in let y = b.low in omega arith); high = λ h. b.high (a.high h) }

next_rises : (s : RoomState) (phase : RoundPhase) → Rises s (next_stage s phase)
next_rises s Quiet = rises_all s s refl
next_rises s (Running stages.Lock) = rises_all s _ refl
next_rises s (Running stages.Update) = rises_all s _ refl
next_rises s (Running stages.Unlock) = rises_all s _ refl

advance_rises : (s : RoomState) → Rises s (advance_round s)
advance_rises s = go (any_pending s.members)
  where
    go : (b : Bool) → Rises s (cond b s (next_stage s s.phase))
    go true = rises_all s s refl
    go false = next_rises s s.phase

pub below_limit : (a b : Bool) (n : ℕ) → a && (b && nat_lt n (2 ^ 62)) ≡ true → n < 2 ^ 62
below_limit a b n e =
    let p = and_parts a (b && nat_lt n (2 ^ 62)) e in
    let q = and_parts b (nat_lt n (2 ^ 62)) p.1 in
    ltb-true n (2 ^ 62) q.1

start_rises : (s : RoomState) → Rises s (start_round s)
start_rises s =
    cond_both (may_start s) (record s { next_version = s.next_version + 1; members = map targeted s.members; phase = Running stages.Lock; dirty = false }) s (λ (t : RoomState). Rises s t)
    (λ e. let l = below_limit (is_quiet s.phase) s.dirty s.next_version e in record { low = omega arith; high = λ h. omega arith })
    (λ _. rises_all s s refl)

fully_rises : (s : RoomState) → Rises s (advance_fully s)
fully_rises s =
    let t = advance_round s in
    let u = advance_round t in
    rises_on s t (advance_round u) (advance_rises s) (rises_on t u (advance_round u) (advance_rises t) (advance_rises u))

pub settle_rises : (s : RoomState) → Rises s (settle_round s)
settle_rises s =
    let t = advance_fully s in
    let u = start_round t in
    rises_on s t (advance_fully u) (fully_rises s) (rises_on t u (advance_fully u) (start_rises t) (fully_rises u))

pub conclude_rises : (s : RoomState) (k : Conclusion) → Rises s (conclude s k).state
conclude_rises s (Stays reply) = rises_all s s refl
conclude_rises s (Says reply) = settle_rises s
conclude_rises s (Tells m) = settle_rises s
