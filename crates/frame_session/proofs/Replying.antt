-- What comes of a frame.
use Rattle.std.proofs.Common.{◌≡◌, ◌<◌, ◌≤◌, ◌^◌, ℕ, Bool, List, [], ◌∷◌, Option, Some, None, Result, Ok, Err, refl, sym, ap, subst, ◌∙◌, arith}
use Rattle.actor_ports.specs.declared.port.PortError.{PortError}
use Rattle.actor_ports.specs.declared.port.PortError.TheVariants as ports
use Rattle.actor_ports.specs.Traffic.{Traffic}
use Rattle.http_edge.specs.Carry.{Over, Writes}
use Rattle.frame_wire.specs.declared.frame.Frame.{Frame}
use Rattle.frame_wire.specs.Frames.{IsFrame, frame_bytes}
use Rattle.frame_session.specs.declared.turn.Turn.TheVariants.{Answered, Cut, Foreign, Spent}
use Rattle.frame_session.specs.Exchanges.{Exchange, exchange}
use Rattle.frame_session.specs.Rounds.{Round}
use Rattle.frame_session.specs.Turns.{Replies, Steps, Turns}

pub replied : (t0 t1 : Option Traffic) (bytes : List ℕ) (result : Result (Unit {0}) PortError) → Writes t0 t1 bytes result → Replies t0 t1 bytes result
replied t0 t1 bytes (Ok u) w = w
replied t0 t1 bytes (Err ports.Failed) w = (w.0, w.1, w.2)
replied t0 t1 bytes (Err ports.OutOfMemory) w = ([], refl, w)

module _
    {E R Seat : Type 0} (made : List (Exchange E R) → Seat → Seat → Type 0) (known : Seat → ℕ)
    (event_of : Frame → ℕ → Option E) (answer_of : R → Option Frame) (breaks : R → Bool)
    (frame : Frame) (now : ℕ) (s0 s1 : Seat) (m0 m1 : ℕ) (shows : m1 ≡ now) (later : m0 ≤ now) where
  -- ---- it was asked

  module _ (event : E) (reply : R) (sent : IsFrame frame) (asks : Some event ≡ event_of frame now)
      (one : made (exchange event reply ∷ []) s0 s1) (longer : (known s0 < known s1) × (known s1 ≤ 2 ^ 62)) where
    round_of : Frame → Round E R
    round_of answer = record { frame = frame; now = now; exchange = exchange event reply; answer = answer }

    steps_of : (answer : Frame) (t0 t1 : Option Traffic) (written : List ℕ) → answer_of reply ≡ Some answer → Over t0 t1 (record { read = []; written = written })
        → Steps made known event_of answer_of breaks frame s0 s1 m0 m1 t0 t1 (round_of answer) written
    unfolding round_of
    steps_of answer t0 t1 written answers over = record {
      round = record { sent = sent; event = sym asks; reply = answers };
      is = refl;
      asked_there = one;
      longer = longer.0;
      small = longer.1;
      now = sym shows;
      later = omega arith;
      over = over;
    }

    pub step_answered : (broken : Bool) (written : Result (Unit {0}) PortError) → written ≡ Ok tt → (t0 t1 : Option Traffic)
        → (f : Frame) × (answer_of reply ≡ Some f) × Replies t0 t1 (frame_bytes f) written → broken ≡ breaks reply → Turns made known event_of answer_of breaks frame s0 s1 m0 m1 t0 t1 (Answered broken)
    unfolding round_of
    step_answered broken written is t0 t1 r says =
        (round_of r.0, steps_of r.0 t0 t1 (frame_bytes r.0) r.1 (subst (λ (w : Result (Unit {0}) PortError). Replies t0 t1 (frame_bytes r.0) w) is r.2), says)

    pub step_cut : (e : PortError) (broken : Bool) (written : Result (Unit {0}) PortError) → written ≡ Err e → (t0 t1 : Option Traffic)
        → (f : Frame) × (answer_of reply ≡ Some f) × Replies t0 t1 (frame_bytes f) written → broken ≡ breaks reply → Turns made known event_of answer_of breaks frame s0 s1 m0 m1 t0 t1 (Cut e broken)
    unfolding round_of
    step_cut e broken written is t0 t1 r says =
        let cut = subst (λ (w : Result (Unit {0}) PortError). Replies t0 t1 (frame_bytes r.0) w) is r.2 in
        (round_of r.0, cut.0, steps_of r.0 t0 t1 cut.0 r.1 cut.2, cut.1, says)

  -- ---- it was not

  pub step_foreign : (t : Option Traffic) → None ≡ event_of frame now → s1 ≡ s0 → Turns made known event_of answer_of breaks frame s0 s1 m0 m1 t t Foreign
  step_foreign t none same = (ap (λ (m : ℕ). event_of frame m) shows ∙ sym none, same, omega arith, refl)

  pub step_spent : (event : E) (t : Option Traffic) (count : ℕ) → Some event ≡ event_of frame now
      → (count ≡ 2 ^ 62) × (known s1 ≡ 2 ^ 62) × made [] s0 s1 → Turns made known event_of answer_of breaks frame s0 s1 m0 m1 t t (Spent count)
  step_spent event t count asks spent =
      (event, ap (λ (m : ℕ). event_of frame m) shows ∙ sym asks, spent.2, spent.1, spent.0, omega arith, refl)
