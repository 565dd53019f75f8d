-- What tables, time and the stop keep of a part, and with that what every step keeps.
use Rattle.std.proofs.Common.{◌≡◌, ◌⊎◌, ℕ, true, not, ◌&&◌, ◌+◌, List, Option, refl, sym, ap, ◌∙◌, subst, inl, inr, arith}
use Rattle.std.specs.Prelude.{nat_lt, ◌==◌}
use Rattle.std.proofs.lemmas.Bool.{or_left, and_parts, eqb-true, ltb-true, leb-false, cond_both, true≢false, not-true}
use Rattle.actor_names.specs.declared.actor_key.ActorKey.{ActorKey}
use Rattle.actor_names.specs.declared.member.Member.{Member}
use Rattle.place_table.specs.declared.host.HostInfo.{HostInfo}
use Rattle.place_table.specs.Hosts.{PlacementTable}
use Rattle.turn_core.specs.Cell.{is_free}
use Rattle.turn_core.specs.CellSound.{In}
use Rattle.turn_core.proofs.CellKeeps.{moves_keep, end_all_keeps}
use Rattle.part_model.specs.declared.settings.TypeSettings.{TypeSettings}
use Rattle.part_model.specs.declared.stage.Stage.{Stage}
use Rattle.part_model.specs.declared.stage.Stage.TheVariants.{Locked, Updated, Open, Stopped}
use Rattle.part_model.specs.declared.event.PartEvent.{PartEvent}
use Rattle.part_model.specs.declared.event.PartEvent.TheVariants as events
use Rattle.part_model.specs.declared.actor_cell.ActorCell.{ActorCell}
use Rattle.part_model.specs.Cells.{cell_at, cell_of_call, is_kept}
use Rattle.part_model.specs.Part
use Rattle.part_model.specs.Part.{PartState, PartStep, CellStep, new_part, is_locked, is_updated, is_spent, is_own, is_foreign, is_drained, each_cell, most_drawn}
use Rattle.part_model.specs.Sound.{IsActorSound, IsWorkDone, IsPartSound}
use Rattle.part_model.specs.PartMoves.{keeps, locks, updates, opens, stops, Stepped}
use Rattle.part_model.proofs.CellLaws.{next_cases, all_moved_moved, length-all_moved, not_nil_after, less_sound, open_sound, closing_facts, begun_sound}
use Rattle.part_model.proofs.CellCalls.{stopped_gets, begun_gets, moved_gets}
use Rattle.part_model.proofs.PartOrders.{In-each_cell, order-each_cell, total_holds-each}
use Rattle.part_model.proofs.Limits.{AddsNoCall, none_within, each_within}
use Rattle.part_model.proofs.PartWrites.{locked_stage, updated_stage, updated_not_open, locked_not_stopped, updated_not_stopped, open_not_stopped, or-false, or-true, kept_with, idle_of, empty_of, stays, draws}
use Rattle.part_model.proofs.PartSteps.{none_waits, ask_stepped, poll_stepped, end_stepped, hold_stepped, release_stepped, take_stepped, closed_stepped}

module _ (owner : PlacementTable → ActorKey → Option HostInfo) where
  -- ---- a new part

  pub new_part_sound : (m : Member) (number : ℕ) (kinds : List TypeSettings) → IsPartSound owner (new_part m number kinds)
  new_part_sound m number kinds =
      record {
        in_order = tt;
        each_sound = λ c i. absurd i;
        each_kept = λ c i. absurd i;
        limits = none_within kinds 0 (omega arith);
        holds_drawn = omega arith;
        no_idle_waiter = tt;
        stopped_empty = tt;
      }

  -- ---- tables

  pub lock_stepped : (p : PartState) (version : ℕ) → IsPartSound owner p → (p.stage ≡ Stopped → ⊥) → Stepped owner p (events.Lock version) (Part.lock_part owner p version).part
  lock_stepped p version s running =
      cond_both (nat_lt p.seen version) _ _ (λ (x : PartStep). Stepped owner p (events.Lock version) x.part)
      (λ t.
      record {
        member = refl;
        number = refl;
        kinds = refl;
        moves = locks refl (ltb-true p.seen version t) refl refl refl;
        active = λ c i a. inl (c, i, a, refl);
        sound = record { in_order = s.in_order; each_sound = s.each_sound; each_kept = s.each_kept; limits = s.limits; holds_drawn = s.holds_drawn; no_idle_waiter = tt; stopped_empty = tt };
        drawn = omega arith;
        stop_stays = λ o. absurd (running o);
      })
      (λ _. stays owner p _ s)

  pub update_stepped : (p : PartState) (table : PlacementTable) (now : ℕ) → IsPartSound owner p → (p.stage ≡ Stopped → ⊥) → Stepped owner p (events.Update table now) (Part.update_part owner p table now).part
  update_stepped p table now s running =
      cond_both (is_locked p.stage && (table.version == p.seen)) _ _ (λ (x : PartStep). Stepped owner p (events.Update table now) x.part)
      (λ b.
      let h = and_parts (is_locked p.stage) (table.version == p.seen) b in
      record {
        member = refl;
        number = refl;
        kinds = refl;
        moves = updates (locked_stage p.stage h.0) refl refl refl (eqb-true table.version p.seen h.1) refl;
        active = λ c i a. inl (c, i, a, refl);
        sound = record { in_order = s.in_order; each_sound = s.each_sound; each_kept = s.each_kept; limits = s.limits; holds_drawn = s.holds_drawn; no_idle_waiter = tt; stopped_empty = tt };
        drawn = omega arith;
        stop_stays = λ o. absurd (running o);
      })
      (λ _. stays owner p _ s)

  -- what a cell becomes when the part opens
  pub record OpensWell (p : PartState) (d c : ActorCell) : Type 0 where
    pub key : c.key ≡ d.key
    pub active : c.active ≡ true → (d.active ≡ true) ⊎ (is_own owner p c.key ≡ true)
    pub sound : IsActorSound c
    pub kept : is_kept c ≡ true
    pub holds : c.inner.holds ≡ d.inner.holds
    pub done : IsWorkDone owner p c

  pub opens_well : (p : PartState) (d : ActorCell) → IsActorSound d → is_kept d ≡ true → OpensWell p d (Part.open_cell owner p d).cell
  opens_well p d s k =
      cond_both (is_own owner p d.key) _ _ (λ (x : CellStep). OpensWell p d x.cell)
      (λ own. next_cases (not d.closing) d.inner (λ n. OpensWell p d (Part.begin_in owner p d n).cell)
      (λ why.
      record {
        key = refl;
        active = λ a. inl (sym (or-false d.active) ∙ a);
        sound = less_sound d _ s s.sound (λ t i. i) (or-false d.active) (λ e. (or-false d.active ∙ s.closing_active e, s.closing_free e, s.closing_unheld e));
        kept = kept_with _ _ _ _ (or-false d.active) refl k;
        holds = refl;
        done = record {
          foreign = λ f. absurd (true≢false (sym own ∙ f));
          free = λ z n. none_waits owner p d.key (not d.closing) d.inner (λ _. ap not n) (λ f. absurd (true≢false (sym own ∙ f))) why z;
        };
      })
      (λ m z w n.
      record {
        key = refl;
        active = λ a. inr own;
        sound = open_sound _ (begun_sound d.inner w s.sound z n) (or-true d.active) (λ e. true≢false (sym e ∙ not-true d.closing m));
        kept = or_left _ _ (or-true d.active);
        holds = refl;
        done = record {
          foreign = λ f. absurd (true≢false (sym own ∙ f));
          free = λ y. absurd (not_nil_after d.inner.turns _ y);
        };
      }))
      (λ f.
      record {
        key = refl;
        active = λ a. inl a;
        sound = less_sound d _ s (moves_keep d.inner s.sound).sound (λ t i. i) refl (closing_facts d s);
        kept = kept_with _ _ _ _ refl (length-all_moved d.inner.queue) k;
        holds = refl;
        done = record { foreign = λ _. all_moved_moved d.inner.queue; free = λ _ _. all_moved_moved d.inner.queue };
      })

  open_key : (p : PartState) (d : ActorCell) → (Part.open_cell owner p d).cell.key ≡ d.key
  open_key p d =
      cond_both (is_own owner p d.key) _ _ (λ (x : CellStep). x.cell.key ≡ d.key) (λ _. refl) (λ _. refl)

  open_holds : (p : PartState) (d : ActorCell) → (Part.open_cell owner p d).cell.inner.holds ≡ d.inner.holds
  open_holds p d =
      cond_both (is_own owner p d.key) _ _ (λ (x : CellStep). x.cell.inner.holds ≡ d.inner.holds)
      (λ _. next_cases (not d.closing) d.inner (λ n. (Part.begin_in owner p d n).cell.inner.holds ≡ d.inner.holds) (λ _. refl) (λ _ _ _ _. refl))
      (λ _. refl)

  open_adds : (p : PartState) (d : ActorCell) → AddsNoCall d (Part.open_cell owner p d).cell
  open_adds p d =
      cond_both (is_own owner p d.key) _ _ (λ (x : CellStep). AddsNoCall d x.cell)
      (λ _. next_cases (not d.closing) d.inner (λ n. AddsNoCall d (Part.begin_in owner p d n).cell)
      (λ _. record { key = refl; depth = refl; calls = λ n h. h })
      (λ _ _ w e. record { key = refl; depth = refl; calls = begun_gets d.inner w e }))
      (λ _. record { key = refl; depth = refl; calls = moved_gets d.inner })

  -- each cell of a part that opened, and the one that it was
  opened_from : (p : PartState) → IsPartSound owner p → (c : ActorCell) → In c (each_cell (Part.open_cell owner (Part.as_open owner p)) p.cells).cells → (d : ActorCell) × In d p.cells × OpensWell (Part.as_open owner p) d c
  opened_from p s c i =
      let f = In-each_cell (Part.open_cell owner (Part.as_open owner p)) p.cells c i in
      (f.0, f.1, subst (λ (z : ActorCell). OpensWell (Part.as_open owner p) f.0 z) (sym f.2) (opens_well (Part.as_open owner p) f.0 (s.each_sound f.0 f.1) (s.each_kept f.0 f.1)))

  pub open_stepped : (p : PartState) → IsPartSound owner p → p.stage ≡ Updated → is_drained owner p ≡ true → Stepped owner p (events.Unlock p.seen) (Part.open_part owner p).part
  open_stepped p s up dry =
      let from = opened_from p s in
      record {
        member = refl;
        number = refl;
        kinds = refl;
        moves = opens up dry refl refl refl refl refl;
        active = λ c i a. let f = from c i in let w = f.2 in elim (w.active a) [ inl b ↦ inl (f.0, f.1, b, sym w.key) | inr o ↦ inr (refl, o) ];
        sound = record {
          in_order = order-each_cell (Part.open_cell owner (Part.as_open owner p)) p.cells (open_key (Part.as_open owner p)) s.in_order;
          each_sound = λ c i. (let w = (from c i).2 in w.sound);
          each_kept = λ c i. (let w = (from c i).2 in w.kept);
          limits = each_within p.kinds p.drawn p.cells s.limits (Part.open_cell owner (Part.as_open owner p)) (open_adds (Part.as_open owner p));
          holds_drawn = (let e = total_holds-each (Part.open_cell owner (Part.as_open owner p)) p.cells (open_holds (Part.as_open owner p)) in let h = s.holds_drawn in omega arith);
          no_idle_waiter = λ c i. (let d = (from c i).2.done in record { foreign = d.foreign; free = d.free });
          stopped_empty = tt;
        };
        drawn = omega arith;
        stop_stays = λ o. absurd (updated_not_stopped (sym up ∙ o));
      }

  pub unlock_stepped : (p : PartState) (version : ℕ) → IsPartSound owner p → Stepped owner p (events.Unlock version) (Part.unlock_part owner p version).part
  unlock_stepped p version s =
      cond_both (is_updated p.stage && (version == p.seen)) _ _ (λ (x : PartStep). Stepped owner p (events.Unlock version) x.part)
      (λ b.
      let h = and_parts (is_updated p.stage) (version == p.seen) b in
      let same : p.seen ≡ version = sym (eqb-true version p.seen h.1) in
      cond_both (is_drained owner p) _ _ (λ (x : PartStep). Stepped owner p (events.Unlock version) x.part)
      (λ d. subst (λ (n : ℕ). Stepped owner p (events.Unlock n) (Part.open_part owner p).part) same (open_stepped p s (updated_stage p.stage h.0) d))
      (λ _. stays owner p _ s))
      (λ _. stays owner p _ s)

  -- ---- time, and the end

  -- what a cell becomes by a tick
  pub record TicksWell (d c : ActorCell) : Type 0 where
    pub key : c.key ≡ d.key
    pub active : c.active ≡ d.active
    pub sound : IsActorSound c
    pub kept : is_kept c ≡ true
    pub holds : c.inner.holds ≡ d.inner.holds

  pub ticks_well : (p : PartState) (now : ℕ) (d : ActorCell) → IsActorSound d → is_kept d ≡ true → TicksWell d (Part.tick_cell owner p now d).cell
  ticks_well p now d s k =
      cond_both (not (is_free d.inner) && (is_foreign owner p d.key && Part.is_overdue owner p now d)) _ _ (λ (x : CellStep). TicksWell d x.cell)
      (λ _.
      record {
        key = refl;
        active = refl;
        sound = less_sound d _ s (end_all_keeps d.inner s.sound).sound (λ t i. absurd i) refl (λ e. (s.closing_active e, refl, s.closing_unheld e));
        kept = k;
        holds = refl;
      })
      (λ _. record { key = refl; active = refl; sound = s; kept = k; holds = refl })

  tick_key : (p : PartState) (now : ℕ) (d : ActorCell) → (Part.tick_cell owner p now d).cell.key ≡ d.key
  tick_key p now d =
      cond_both (not (is_free d.inner) && (is_foreign owner p d.key && Part.is_overdue owner p now d)) _ _ (λ (x : CellStep). x.cell.key ≡ d.key) (λ _. refl) (λ _. refl)

  tick_holds : (p : PartState) (now : ℕ) (d : ActorCell) → (Part.tick_cell owner p now d).cell.inner.holds ≡ d.inner.holds
  tick_holds p now d =
      cond_both (not (is_free d.inner) && (is_foreign owner p d.key && Part.is_overdue owner p now d)) _ _ (λ (x : CellStep). x.cell.inner.holds ≡ d.inner.holds) (λ _. refl) (λ _. refl)

  tick_adds : (p : PartState) (now : ℕ) (d : ActorCell) → AddsNoCall d (Part.tick_cell owner p now d).cell
  tick_adds p now d =
      cond_both (not (is_free d.inner) && (is_foreign owner p d.key && Part.is_overdue owner p now d)) _ _ (λ (x : CellStep). AddsNoCall d x.cell)
      (λ _. record { key = refl; depth = refl; calls = stopped_gets d.inner })
      (λ _. record { key = refl; depth = refl; calls = λ n h. h })

  ticked_from : (p : PartState) (now : ℕ) → IsPartSound owner p → (c : ActorCell) → In c (each_cell (Part.tick_cell owner p now) p.cells).cells → (d : ActorCell) × In d p.cells × TicksWell d c
  ticked_from p now s c i =
      let f = In-each_cell (Part.tick_cell owner p now) p.cells c i in
      (f.0, f.1, subst (λ (z : ActorCell). TicksWell f.0 z) (sym f.2) (ticks_well p now f.0 (s.each_sound f.0 f.1) (s.each_kept f.0 f.1)))

  pub tick_stepped : (p : PartState) (e : PartEvent) (now : ℕ) → IsPartSound owner p → Stepped owner p e (Part.tick_part owner p now).part
  tick_stepped p e now s =
      cond_both (is_updated p.stage) _ _ (λ (x : PartStep). Stepped owner p e x.part)
      (λ u.
      let up = updated_stage p.stage u in
      let from = ticked_from p now s in
      let q = (Part.ticked_with owner p (each_cell (Part.tick_cell owner p now) p.cells)).part in
      record {
        member = refl;
        number = refl;
        kinds = refl;
        moves = keeps refl refl refl refl;
        active = λ c i a. let f = from c i in let w = f.2 in inl (f.0, f.1, sym w.active ∙ a, sym w.key);
        sound = record {
          in_order = order-each_cell (Part.tick_cell owner p now) p.cells (tick_key p now) s.in_order;
          each_sound = λ c i. (let w = (from c i).2 in w.sound);
          each_kept = λ c i. (let w = (from c i).2 in w.kept);
          limits = each_within p.kinds p.drawn p.cells s.limits (Part.tick_cell owner p now) (tick_adds p now);
          holds_drawn = (let e = total_holds-each (Part.tick_cell owner p now) p.cells (tick_holds p now) in let h = s.holds_drawn in omega arith);
          no_idle_waiter = idle_of owner p.stage q (λ o. absurd (updated_not_open (sym up ∙ o)));
          stopped_empty = empty_of owner p.stage q (λ o. absurd (updated_not_stopped (sym up ∙ o)));
        };
        drawn = omega arith;
        stop_stays = λ o. o;
      })
      (λ _. stays owner p e s)

  pub stop_stepped : (p : PartState) → IsPartSound owner p → Stepped owner p events.StopPart (Part.stop_part owner p).part
  stop_stepped p s =
      record {
        member = refl;
        number = refl;
        kinds = refl;
        moves = stops refl refl refl refl refl refl;
        active = λ c i. absurd i;
        sound = record {
          in_order = tt;
          each_sound = λ c i. absurd i;
          each_kept = λ c i. absurd i;
          limits = none_within p.kinds p.drawn s.limits.drawn_within;
          holds_drawn = omega arith;
          no_idle_waiter = tt;
          stopped_empty = refl;
        };
        drawn = omega arith;
        stop_stays = λ _. refl;
      }

  pub draw_stepped : (p : PartState) (e : PartEvent) → IsPartSound owner p → Stepped owner p e (Part.draw_part owner p).part
  draw_stepped p e s =
      cond_both (is_spent p) _ _ (λ (x : PartStep). Stepped owner p e x.part) (λ _. stays owner p e s)
      (λ u. draws owner p e (p.drawn + 1) (omega arith) (let l = leb-false most_drawn p.drawn u in omega arith) s)

  -- ---- every event

  pub running_stepped : (p : PartState) (e : PartEvent) → IsPartSound owner p → (p.stage ≡ Stopped → ⊥) → Stepped owner p e (Part.running_step owner p e).part
  running_stepped p (events.Ask key chain now) s running = ask_stepped owner p _ key chain 0 s running
  running_stepped p (events.AskAt key chain least now) s running = ask_stepped owner p _ key chain least s running
  running_stepped p events.Draw s running = draw_stepped p _ s
  running_stepped p (events.Poll call) s running = poll_stepped owner p _ call (cell_of_call p.cells call) refl s running
  running_stepped p (events.End call now) s running = end_stepped owner p _ call now (cell_of_call p.cells call) refl s running
  running_stepped p (events.Hold key) s running = hold_stepped owner p _ key (cell_at p.cells key) refl s running
  running_stepped p (events.Release key now) s running = release_stepped owner p _ key now (cell_at p.cells key) refl s running
  running_stepped p (events.Lock version) s running = lock_stepped p version s running
  running_stepped p (events.Update table now) s running = update_stepped p table now s running
  running_stepped p (events.Unlock version) s running = unlock_stepped p version s
  running_stepped p (events.Tick now) s running = tick_stepped p _ now s
  running_stepped p (events.TakeClosing now) s running = take_stepped owner p _ now (Part.first_to_close owner p now p.cells) refl s running
  running_stepped p (events.Closed key) s running = closed_stepped owner p _ key (cell_at p.cells key) refl s running
  running_stepped p events.StopPart s running = stop_stepped p s

  stopped_stepped : (p : PartState) (e : PartEvent) → IsPartSound owner p → Stepped owner p e (Part.stopped_step owner p e).part
  stopped_stepped p events.StopPart s = stays owner p _ s
  stopped_stepped p _ s = stays owner p _ s

  stepped_at : (p : PartState) (stage : Stage) (e : PartEvent) → p.stage ≡ stage → IsPartSound owner p → Stepped owner p e (Part.step_at owner p stage e).part
  stepped_at p Stopped e is s = stopped_stepped p e s
  stepped_at p Locked e is s = running_stepped p e s (λ o. locked_not_stopped (sym is ∙ o))
  stepped_at p Updated e is s = running_stepped p e s (λ o. updated_not_stopped (sym is ∙ o))
  stepped_at p Open e is s = running_stepped p e s (λ o. open_not_stopped (sym is ∙ o))

  -- every event keeps a sound part sound, and moves it in one of the five ways
  pub part_stepped : (p : PartState) (e : PartEvent) → IsPartSound owner p → Stepped owner p e (Part.part_step owner p e).part
  part_stepped p e s = stepped_at p p.stage e refl s
