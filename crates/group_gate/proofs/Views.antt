-- What the contracts say of a seat after a step, from what the step told.
use Rattle.std.proofs.Common.{◌≡◌, ℕ, ◌^◌, ◌≤◌, List, [], ◌∷◌, ◌++◌, length, ap, sym, ◌∙◌, subst, arith}
use mathlib.Core.Option as m
use mathlib.Core.List.{IsPrefix}
use lib.ListN.{get_elem?}
use Rattle.atomic_table.specs.Table.{Me, rest}
use Rattle.group_gate.specs.declared.gate.GroupGate.{GroupGate}
use Rattle.group_gate.specs.declared.view.Done.{Done}
use Rattle.group_gate.specs.declared.view.GroupEntry.{GroupEntry}
use Rattle.group_gate.specs.declared.view.Held.{Held}
use Rattle.group_gate.specs.declared.view.Held.TheVariants.{Nothing}
use Rattle.group_gate.specs.declared.view.Sits.{Sits}
use Rattle.group_gate.specs.declared.view.Sits.TheVariants.{At, Waits}
use Rattle.group_gate.specs.declared.view.View.{View}
use Rattle.group_gate.specs.History.{LegalHistory, asked, made_at}
use Rattle.group_gate.specs.Kept.{IsDue, Sees, placed, seeing}
use Rattle.group_gate.specs.Gates.{SeatOf, opening_of, seen_of, mine_of, made_there, IsIdle, IsSeatOf, SitsAt, WaitsAt, KeepsMine, AnsweredIn}
use Rattle.step_gate.proofs.Beginnings.{prefix_trans, prefix_length}
use Rattle.group_gate.proofs.Standing.{last_stands}

module _ {H : Type 0} where
  -- a list that begins with this slot has it before its rest
  pub own_slot : (c cs : List (ℕ × H)) (k : ℕ) (x : H) → c ≡ (k, x) ∷ cs → c ≡ (k, x) ∷ rest c
  own_slot c cs k x e = e ∙ ap (λ (z : List (ℕ × H)). (k, x) ∷ z) (sym (ap (rest {S = H}) e))

  abbrev first_value : H → List (ℕ × H) → H
  first_value z [] = z
  first_value z (x ∷ xs) = x.1

  -- two values in the first slot are one
  pub same_value : (c cs ds : List (ℕ × H)) (k l : ℕ) (x y : H) → c ≡ (k, x) ∷ cs → c ≡ (l, y) ∷ ds → x ≡ y
  same_value c cs ds k l x y e f = ap (first_value x) (sym e ∙ f)

module _ {S A R : Type 0} (moves : S → List A → List R → S → Type 0) (gate : GroupGate S A R) where
  -- a seat with another place, or none, that has seen the same
  pub idle_placed : (old new : SeatOf S A R) (p : Sits A R) → new.table_id ≡ old.table_id → new.me.0 ≡ placed p old.me.0 → IsIdle moves gate old → IsIdle moves gate new
  idle_placed old new p table view h = record {
    table = table ∙ h.table;
    live = ap (λ (v : View S A R). v.live) view ∙ h.live;
    from = ap (λ (v : View S A R). v.opening) view ∙ h.from;
    idle = ap (λ (v : View S A R). v.turn) view ∙ h.idle;
    legal = subst (LegalHistory moves (opening_of gate)) (sym (ap (λ (v : View S A R). v.seen) view)) h.legal;
  }

  -- a seat that has seen the whole history
  pub idle_seeing : (old new : SeatOf S A R) (es : List (GroupEntry A R)) (p : Sits A R) → new.table_id ≡ old.table_id → new.me.0 ≡ seeing es p old.me.0 → Sees moves es old.me.0 → IsIdle moves gate old → IsIdle moves gate new
  idle_seeing old new es p table view sees h = record {
    table = table ∙ h.table;
    live = ap (λ (v : View S A R). v.live) view ∙ h.live;
    from = ap (λ (v : View S A R). v.opening) view ∙ h.from;
    idle = ap (λ (v : View S A R). v.turn) view ∙ h.idle;
    legal = subst (LegalHistory moves (opening_of gate)) (sym (ap (λ (v : View S A R). v.seen) view)) (sees.legal (opening_of gate) h.from);
  }

  pub waits_after_post : (place : ℕ) (ask : A) (old new : SeatOf S A R) → SitsAt moves gate place old → new.table_id ≡ old.table_id → new.me.1 ≡ []
      → new.me.0 ≡ placed (Waits place (mine_of old) ask (length (seen_of old))) old.me.0 → WaitsAt moves gate place ask new
  waits_after_post place ask old new h table empty view =
      let seen : seen_of new ≡ seen_of old = ap (λ (v : View S A R). v.seen) view in let mine : mine_of new ≡ mine_of old = ap (λ (v : View S A R). made_there v.sits) view in record {
        idle = idle_placed old new _ table view h.idle;
        empty = empty;
        sits = ap (λ (v : View S A R). v.sits) view ∙ (λ k. Waits place (sym mine k) ask (length (sym seen k)));
        own = ap (made_at place) seen ∙ (h.own ∙ sym mine);
        above = h.above;
        below = h.below;
      }

  pub sits_after_withdraw : (place : ℕ) (ask : A) (old new : SeatOf S A R) → WaitsAt moves gate place ask old → new.table_id ≡ old.table_id → new.me.1 ≡ (place, Nothing) ∷ []
      → new.me.0 ≡ placed (At place (mine_of old)) old.me.0 → SitsAt moves gate place new
  sits_after_withdraw place ask old new h table slot view =
      let seen : seen_of new ≡ seen_of old = ap (λ (v : View S A R). v.seen) view in let mine : mine_of new ≡ mine_of old = ap (λ (v : View S A R). made_there v.sits) view in record {
        idle = idle_placed old new _ table view h.idle;
        empty = slot;
        sits = ap (λ (v : View S A R). v.sits) view ∙ (λ k. At place (sym mine k));
        own = ap (made_at place) seen ∙ (h.own ∙ sym mine);
        above = h.above;
        below = h.below;
      }

  pub sits_after_fetch : (place : ℕ) (ask : A) (old new : SeatOf S A R) (es : List (GroupEntry A R)) (d : Done A R) → WaitsAt moves gate place ask old → new.table_id ≡ old.table_id → new.me.1 ≡ (place, Nothing) ∷ []
      → new.me.0 ≡ seeing es (At place (mine_of old ++ d ∷ [])) old.me.0 → Sees moves es old.me.0 → IsDue ask (mine_of old) (length (seen_of old)) (made_at place es) d → SitsAt moves gate place new
  sits_after_fetch place ask old new es d h table slot view sees due =
      let seen : seen_of new ≡ es = ap (λ (v : View S A R). v.seen) view in let mine : mine_of new ≡ mine_of old ++ d ∷ [] = ap (λ (v : View S A R). made_there v.sits) view in record {
        idle = idle_seeing old new es _ table view sees h.idle;
        empty = slot;
        sits = ap (λ (v : View S A R). v.sits) view ∙ (λ k. At place (sym mine k));
        own = ap (made_at place) seen ∙ (due.0 ∙ sym mine);
        above = h.above;
        below = h.below;
      }

  pub answered_after_fetch : (place : ℕ) (ask : A) (old new : SeatOf S A R) (es : List (GroupEntry A R)) (d : Done A R) → new.me.0 ≡ seeing es (At place (mine_of old ++ d ∷ [])) old.me.0 → Sees moves es old.me.0
      → IsDue ask (mine_of old) (length (seen_of old)) (made_at place es) d → AnsweredIn place ask d.answer old new
  answered_after_fetch place ask old new es d view sees due =
      let seen : seen_of new ≡ es = ap (λ (v : View S A R). v.seen) view in let there = last_stands place es (mine_of old) d due.0 in record {
        done = d;
        entry = there.0;
        seen = subst (IsPrefix (seen_of old)) (sym seen) sees.prefix;
        new_entry = due.2;
        stands = subst (λ (z : List (GroupEntry A R)). get_elem? z d.entry ≡ m.some there.0) (sym seen) there.1;
        ask_is = there.2 ∙ ap (λ (z : A). m.some (asked place z)) due.1;
        answer_is = there.3;
        mine = ap (λ (v : View S A R). made_there v.sits) view;
        small = subst (λ (z : List (GroupEntry A R)). length z ≤ 2 ^ 62) (sym seen) sees.small;
      }

  pub lists_after_withdraw : (place : ℕ) (old new : SeatOf S A R) → new.me.0 ≡ placed (At place (mine_of old)) old.me.0 → (mine_of new ≡ mine_of old) × (seen_of new ≡ seen_of old)
  lists_after_withdraw place old new view = (ap (λ (v : View S A R). made_there v.sits) view, ap (λ (v : View S A R). v.seen) view)

  -- a seat that nothing has changed
  pub seat_kept : (old new : SeatOf S A R) → new.table_id ≡ old.table_id → new.me ≡ old.me → IsSeatOf moves gate old → IsSeatOf moves gate new
  seat_kept old new table me h = record {
    idle = record {
      table = table ∙ h.idle.table;
      live = ap (λ (z : Me (Held S A R) (View S A R)). z.0.live) me ∙ h.idle.live;
      from = ap (λ (z : Me (Held S A R) (View S A R)). z.0.opening) me ∙ h.idle.from;
      idle = ap (λ (z : Me (Held S A R) (View S A R)). z.0.turn) me ∙ h.idle.idle;
      legal = subst (LegalHistory moves (opening_of gate)) (sym (ap (λ (z : Me (Held S A R) (View S A R)). z.0.seen) me)) h.idle.legal;
    };
    empty = ap (λ (z : Me (Held S A R) (View S A R)). z.1) me ∙ h.empty;
    stands = ap (λ (z : Me (Held S A R) (View S A R)). z.0.sits) me ∙ h.stands;
  }

module _ {S A R : Type 0} where
  -- an answer that came after the seat's lists had stayed as they were
  pub answered_on : (place : ℕ) (ask : A) (answer : R) (u v w : SeatOf S A R) → KeepsMine u v → AnsweredIn place ask answer v w → AnsweredIn place ask answer u w
  answered_on place ask answer u v w x y = record {
    done = y.done;
    entry = y.entry;
    seen = prefix_trans (seen_of u) (seen_of v) (seen_of w) x.seen y.seen;
    new_entry = omega (arith, prefix_length (seen_of u) (seen_of v) x.seen, y.new_entry);
    stands = y.stands;
    ask_is = y.ask_is;
    answer_is = y.answer_is;
    mine = y.mine ∙ ap (λ (z : List (Done A R)). z ++ y.done ∷ []) x.mine;
    small = y.small;
  }
