-- What a part keeps if nothing changes, or if one cell is written.
use Rattle.std.proofs.Common.{◌≡◌, ◌⊎◌, ℕ, Bool, true, false, ◌||◌, ◌+◌, ◌≤◌, ◌<◌, [], length, Option, None, Some, refl, sym, ◌∙◌, subst, inl, inr, arith}
use Rattle.std.specs.Prelude.{nat_lt}
use Rattle.std.proofs.lemmas.Bool.{false≢true, leb-false}
use Rattle.actor_names.specs.declared.actor_key.ActorKey.{ActorKey}
use Rattle.place_table.specs.declared.host.HostInfo.{HostInfo}
use Rattle.place_table.specs.Hosts.{PlacementTable}
use Rattle.turn_core.specs.Cell.{is_in_cell}
use Rattle.turn_core.specs.CellSound.{In}
use Rattle.part_model.specs.declared.stage.Stage.{Stage}
use Rattle.part_model.specs.declared.stage.Stage.TheVariants.{Locked, Updated, Open, Stopped}
use Rattle.part_model.specs.declared.event.PartEvent.{PartEvent}
use Rattle.part_model.specs.declared.actor_cell.ActorCell.{ActorCell}
use Rattle.part_model.specs.Settings.{settings_of}
use Rattle.part_model.specs.Cells.{cell_at, drop_cell, keep_cell, is_kept, first_cell}
use Rattle.part_model.specs.Part.{PartState, with_cell, found_or_first, is_full, is_open, is_updated, is_locked, is_own, is_owned_by, most_cells, most_drawn}
use Rattle.part_model.specs.Sound.{total_holds, IsActorSound, IsWorkDone, NoIdleWaiterAt, HasNoCellAt, IsWithinLimits, IsPartSound}
use Rattle.part_model.specs.PartMoves.{HadActive, keeps, Stepped}
use Rattle.part_model.proofs.Elements.{In-cell_at, In-keep_cell}
use Rattle.part_model.proofs.Orders.{order-keep_cell}
use Rattle.part_model.proofs.Sizes.{length-drop_cell}
use Rattle.part_model.proofs.CellLaws.{first_sound}
use Rattle.part_model.proofs.PartOrders.{total_holds-others, total_holds-new, total_holds-keep}
use Rattle.part_model.proofs.Limits.{HadCall, more_within, found_room}

-- ---- stages

pub open_stage : (s : Stage) → is_open s ≡ true → s ≡ Open
open_stage Open e = refl
open_stage Locked e = absurd (false≢true e)
open_stage Updated e = absurd (false≢true e)
open_stage Stopped e = absurd (false≢true e)

pub locked_stage : (s : Stage) → is_locked s ≡ true → s ≡ Locked
locked_stage Locked e = refl
locked_stage Open e = absurd (false≢true e)
locked_stage Updated e = absurd (false≢true e)
locked_stage Stopped e = absurd (false≢true e)

pub updated_stage : (s : Stage) → is_updated s ≡ true → s ≡ Updated
updated_stage Updated e = refl
updated_stage Open e = absurd (false≢true e)
updated_stage Locked e = absurd (false≢true e)
updated_stage Stopped e = absurd (false≢true e)

pub updated_not_open : Updated ≡ Open → ⊥
updated_not_open e = cc

pub locked_not_stopped : Locked ≡ Stopped → ⊥
locked_not_stopped e = cc

pub updated_not_stopped : Updated ≡ Stopped → ⊥
updated_not_stopped e = cc

pub open_not_stopped : Open ≡ Stopped → ⊥
open_not_stopped e = cc

pub or-false : (b : Bool) → (b || false) ≡ b
or-false true = refl
or-false false = refl

pub or-true : (b : Bool) → (b || true) ≡ true
or-true true = refl
or-true false = refl

pub kept_with : (a b : Bool) (n m : ℕ) → a ≡ b → n ≡ m → (b || nat_lt 0 m) ≡ true → (a || nat_lt 0 n) ≡ true
kept_with a b n m e f h = (λ i. e i || nat_lt 0 (f i)) ∙ h

module _ (owner : PlacementTable → ActorKey → Option HostInfo) where
  -- ---- facts by cases on the stage

  pub at_open : (s : Stage) (p : PartState) → s ≡ Open → NoIdleWaiterAt owner s p → (c : ActorCell) → In c p.cells → IsWorkDone owner p c
  at_open Open p e h = h
  at_open Locked p e h = absurd (cc)
  at_open Updated p e h = absurd (cc)
  at_open Stopped p e h = absurd (cc)

  pub idle_of : (s : Stage) (p : PartState) → (s ≡ Open → (c : ActorCell) → In c p.cells → IsWorkDone owner p c) → NoIdleWaiterAt owner s p
  idle_of Open p h = h refl
  idle_of Locked p h = tt
  idle_of Updated p h = tt
  idle_of Stopped p h = tt

  pub at_stopped : (s : Stage) (p : PartState) → s ≡ Stopped → HasNoCellAt owner s p → p.cells ≡ []
  at_stopped Stopped p e h = h
  at_stopped Locked p e h = absurd (cc)
  at_stopped Updated p e h = absurd (cc)
  at_stopped Open p e h = absurd (cc)

  pub empty_of : (s : Stage) (p : PartState) → (s ≡ Stopped → p.cells ≡ []) → HasNoCellAt owner s p
  empty_of Stopped p h = h refl
  empty_of Locked p h = tt
  empty_of Updated p h = tt
  empty_of Open p h = tt

  -- the work is done in one part as in another with the same member and table
  pub work_done : (p q : PartState) (c : ActorCell) → q.member ≡ p.member → q.table ≡ p.table → IsWorkDone owner p c → IsWorkDone owner q c
  work_done p q c m t d =
      let own : is_own owner q c.key ≡ is_own owner p c.key = λ i. is_owned_by (m i) (owner (t i) c.key) in
      record { foreign = λ f. d.foreign (sym own ∙ f); free = d.free }

  -- ---- nothing changes, or only the count of numbers

  pub draws : (p : PartState) (e : PartEvent) (n : ℕ) → p.drawn ≤ n → n ≤ most_drawn → IsPartSound owner p → Stepped owner p e (record p { drawn = n })
  draws p e n le fits s =
      record {
        member = refl;
        number = refl;
        kinds = refl;
        moves = keeps refl refl refl refl;
        active = λ c i a. inl (c, i, a, refl);
        sound = record {
          in_order = s.in_order;
          each_sound = s.each_sound;
          each_kept = s.each_kept;
          limits = more_within p.kinds p.drawn p.cells s.limits n le fits;
          holds_drawn = (let h = s.holds_drawn in omega arith);
          no_idle_waiter = idle_of p.stage (record p { drawn = n }) (λ o c i. work_done p (record p { drawn = n }) c refl refl (at_open p.stage p o s.no_idle_waiter c i));
          stopped_empty = empty_of p.stage (record p { drawn = n }) (λ o. at_stopped p.stage p o s.stopped_empty);
        };
        drawn = le;
        stop_stays = λ x. x;
      }

  pub stays : (p : PartState) (e : PartEvent) → IsPartSound owner p → Stepped owner p e p
  stays p e s =
      record {
        member = refl;
        number = refl;
        kinds = refl;
        moves = keeps refl refl refl refl;
        active = λ c i a. inl (c, i, a, refl);
        sound = s;
        drawn = omega arith;
        stop_stays = λ x. x;
      }

  -- ---- one cell changes

  -- what must hold of a cell that is written, if n numbers are then drawn
  pub record IsWritten (p : PartState) (x : ActorCell) (n : ℕ) : Type 0 where
    pub sound : IsActorSound x
    pub comes : x.active ≡ true → HadActive p x.key ⊎ ((p.stage ≡ Open) × (is_own owner p x.key ≡ true))
    pub done : p.stage ≡ Open → IsWorkDone owner p x
    pub limits : IsWithinLimits p.kinds n (keep_cell p.cells x)
    pub held : total_holds (drop_cell p.cells x.key) + x.inner.holds ≤ n
    pub drawn : p.drawn ≤ n

  pub one_cell : (p : PartState) (e : PartEvent) (x : ActorCell) (n : ℕ) → IsPartSound owner p → (p.stage ≡ Stopped → ⊥) → IsWritten p x n → Stepped owner p e (record (with_cell p x) { drawn = n })
  one_cell p e x n s running w =
      let q : PartState = record (with_cell p x) { drawn = n } in
      record {
        member = refl;
        number = refl;
        kinds = refl;
        moves = keeps refl refl refl refl;
        active = λ d i a. elim (In-keep_cell p.cells x d i) [
          | inl h ↦ subst (λ (z : ActorCell). z.active ≡ true → HadActive p z.key ⊎ ((p.stage ≡ Open) × (is_own owner p z.key ≡ true))) (sym h.0) w.comes a
          | inr j ↦ inl (d, j.0, a, refl)
        ];
        sound = record {
          in_order = order-keep_cell p.cells x s.in_order;
          each_sound = λ d i. elim (In-keep_cell p.cells x d i) [ inl h ↦ subst IsActorSound (sym h.0) w.sound | inr j ↦ s.each_sound d j.0 ];
          each_kept = λ d i. elim (In-keep_cell p.cells x d i) [ inl h ↦ subst (λ (z : ActorCell). is_kept z ≡ true) (sym h.0) h.1 | inr j ↦ s.each_kept d j.0 ];
          limits = w.limits;
          holds_drawn = (let h = total_holds-keep p.cells x in let k = w.held in omega arith);
          no_idle_waiter = idle_of p.stage q (λ o d i. work_done p q d refl refl (elim (In-keep_cell p.cells x d i) [
            | inl h ↦ subst (λ (z : ActorCell). IsWorkDone owner p z) (sym h.0) (w.done o)
            | inr j ↦ at_open p.stage p o s.no_idle_waiter d j.0
          ]));
          stopped_empty = empty_of p.stage q (λ o. absurd (running o));
        };
        drawn = w.drawn;
        stop_stays = λ o. o;
      }

  -- what is known of a cell that was found, or of a first one
  pub record IsAt (p : PartState) (c : ActorCell) : Type 0 where
    pub sound : IsActorSound c
    pub had : c.active ≡ true → HadActive p c.key
    pub done : p.stage ≡ Open → IsWorkDone owner p c
    pub calls : (call : ℕ) → is_in_cell call c.inner ≡ true → HadCall p.cells c.key call
    pub depth : (settings_of p.kinds c.key.kind).depth ≡ c.inner.depth
    pub held : total_holds (drop_cell p.cells c.key) + c.inner.holds ≤ p.drawn

  pub at_found : (p : PartState) (c : ActorCell) → IsPartSound owner p → In c p.cells → IsAt p c
  at_found p c s i =
      record {
        sound = s.each_sound c i;
        had = λ a. (c, i, a, refl);
        done = λ o. at_open p.stage p o s.no_idle_waiter c i;
        calls = λ call h. (c, i, refl, h);
        depth = s.limits.depths c i;
        held = (let h = total_holds-others p.cells c i in let k = s.holds_drawn in omega arith);
      }

  pub at_first : (p : PartState) (key : ActorKey) (depth : ℕ) → (settings_of p.kinds key.kind).depth ≡ depth → IsPartSound owner p → IsAt p (first_cell key depth)
  at_first p key depth of_type s =
      record {
        sound = first_sound key depth;
        had = λ a. absurd (false≢true a);
        done = λ o. record { foreign = λ f w i. absurd i; free = λ t k w i. absurd i };
        calls = λ call h. absurd (false≢true h);
        depth = of_type;
        held = (let h = total_holds-new p.cells key in let k = s.holds_drawn in omega arith);
      }

  pub at_found_or_first : (p : PartState) (key : ActorKey) (found : Option ActorCell) → cell_at p.cells key ≡ found → IsPartSound owner p → IsAt p (found_or_first p key found)
  at_found_or_first p key None e s = at_first p key _ refl s
  at_found_or_first p key (Some c) e s = at_found p c s (In-cell_at p.cells key c e)

  -- a number is left to draw, and there is room for the cell
  pub record HasRoom (p : PartState) (c : ActorCell) : Type 0 where
    pub number : p.drawn < most_drawn
    pub cell : length (drop_cell p.cells c.key) < most_cells

  pub room_for : (p : PartState) (key : ActorKey) (found : Option ActorCell) → cell_at p.cells key ≡ found → IsPartSound owner p → p.drawn < most_drawn → is_full p found ≡ false → HasRoom p (found_or_first p key found)
  room_for p key None e s more full =
      record {
        number = more;
        cell = (let d = length-drop_cell p.cells key in let l : length p.cells < most_cells = leb-false most_cells (length p.cells) full in omega arith);
      }
  room_for p key (Some c) e s more full = record { number = more; cell = found_room p.kinds p.drawn p.cells s.limits c (In-cell_at p.cells key c e) s.in_order }
