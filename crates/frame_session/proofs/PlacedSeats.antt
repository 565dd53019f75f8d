-- What a call of a gate where callers share steps says of a machine that is asked there.
use Rattle.std.proofs.Common.{◌≡◌, ◌<◌, ◌≤◌, ◌^◌, ◌∙◌, ℕ, zero, suc, List, [], ◌∷◌, length, refl, ap, sym, subst, append-nil, arith}
use mathlib.Core.Option as m
use lib.ListN.{get_elem?}
use Rattle.group_gate.specs.declared.gate.GroupGate.{GroupGate}
use Rattle.group_gate.specs.declared.view.Asked.{Asked}
use Rattle.group_gate.specs.declared.view.GroupEntry.{GroupEntry}
use Rattle.group_gate.specs.History.{HistoryLeadsTo, asked, asks_in}
use Rattle.group_gate.specs.Gates.{SeatOf, SitsAt, AnsweredIn, SeesLast, seen_of}
use Rattle.step_gate.proofs.Beginnings.{in_length}
use Rattle.frame_session.specs.declared.at_group_gate.PlacedSeat.{PlacedSeat}
use Rattle.frame_session.specs.Exchanges.{exchange}
use Rattle.frame_session.specs.AtGroupGate.{GroupReplies, GroupMade, group_steps_seen}

module _ {S A R : Type 0} (moves : S → List A → List R → S → Type 0) where
  -- the step of an entry of a history
  step_at : (x y : S) (es : List (GroupEntry A R)) (k : ℕ) (e : GroupEntry A R) → HistoryLeadsTo moves x es y → get_elem? es k ≡ m.some e
      → (old : S) × (new : S) × moves old (asks_in e.asks) e.answers new
  step_at x y [] k e h at = absurd (m.none-ne-some e at)
  step_at x y (f ∷ es) zero e h at = (x, h.0, subst (λ (g : GroupEntry A R). moves x (asks_in g.asks) g.answers h.0) (m.some-injective f e at) h.1)
  step_at x y (f ∷ es) (suc k) e h at = step_at h.0 y es k e h.2 at

  ask_at : (cs : List (Asked A)) (k : ℕ) (c : Asked A) → get_elem? cs k ≡ m.some c → get_elem? (asks_in cs) k ≡ m.some c.ask
  ask_at [] k c at = absurd (m.none-ne-some c at)
  ask_at (b ∷ cs) zero c at = ap (λ (z : Asked A). m.some z.ask) (m.some-injective b c at)
  ask_at (b ∷ cs) (suc k) c at = ask_at cs k c at

  -- what was answered at a place is what some step of the machine answers
  pub some_reply : (gate : GroupGate S A R) (place : ℕ) (e : A) (r : R) (before after : SeatOf S A R) → SitsAt moves gate place after → AnsweredIn place e r before after → GroupReplies moves e r
  some_reply gate place e r before after sits a =
      let legal = sits.idle.legal in
      let step = step_at _ legal.0 (seen_of after) a.done.entry a.entry legal.1 a.stands in
      (step.0, step.1, asks_in a.entry.asks, a.entry.answers, a.done.index, step.2, ask_at a.entry.asks a.done.index (asked place e) a.ask_is, a.answer_is)

module _ {S A R : Type 0} (before after : PlacedSeat S A R) (same : after.place ≡ before.place) where
  pub asked_one : (e : A) (r : R) → AnsweredIn before.place.at e r before.seat after.seat → GroupMade (exchange e r ∷ []) before after
  asked_one e r a = record {
    done = a.done ∷ [];
    place = same;
    seen = a.seen;
    mine = a.mine;
    each = (record { entry = a.entry; behind = a.new_entry; stands = a.stands; event_is = a.ask_is; reply_is = a.answer_is }, tt);
  }

  pub asked_longer : (e : A) (r : R) → AnsweredIn before.place.at e r before.seat after.seat → (group_steps_seen before < group_steps_seen after) × (group_steps_seen after ≤ 2 ^ 62)
  asked_longer e r a = (omega (arith, a.new_entry, in_length (seen_of after.seat) a.done.entry a.entry a.stands), a.small)

  pub asked_none : (count : ℕ) → (count ≡ 2 ^ 62) × SeesLast before.seat after.seat → (count ≡ 2 ^ 62) × (group_steps_seen after ≡ 2 ^ 62) × GroupMade [] before after
  asked_none count spent = (spent.0, spent.1.full, record { done = []; place = same; seen = spent.1.seen; mine = spent.1.mine ∙ sym (append-nil _); each = tt })
