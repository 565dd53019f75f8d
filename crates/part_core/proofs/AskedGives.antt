-- What an asked call gives: the step of the part, by that of the cell.
use Rattle.std.proofs.Common.{◌≡◌, ℕ, ◌<◌, ◌≤◌, ◌^◌, Bool, true, false, List, [], ◌∷◌, Option, None, Some, length, refl, sym, ap, ◌∙◌, subst}
use Rattle.std.specs.Prelude.{nat_le, nat_lt}
use Rattle.std.specs.declared.result.Result.{Result}
use Rattle.std.specs.declared.result.Result.TheVariants.{Ok, Err}
use Rattle.std.proofs.lemmas.Bool.{cond-false, lt-leb, le-ltb}
use Rattle.actor_names.specs.declared.actor_key.ActorKey.{ActorKey}
use Rattle.part_model.specs.declared.actor_cell.ActorCell.{ActorCell}
use Rattle.part_model.specs.Cells.{cell_at, first_cell}
use Rattle.part_core.specs.declared.standing.Standing.{Standing}
use Rattle.part_model.specs.Receipts.{PartReply}
use Rattle.part_model.specs.declared.event.Reply.TheVariants as replies
use Rattle.part_model.specs.Settings.{settings_of}
use Rattle.part_model.specs.Marks.{marks_of_begin, begun_calls}
use Rattle.part_model.specs.Part.{PartState, PartStep, is_stopped, is_spent, most_drawn, call_chain, ask_here, ask_found, ask_part, most_cells, ring_owner}
use Rattle.part_model.specs.Rooms.{PartView, GivesInMemory}
use Rattle.part_core.specs.Actors.{ActorsState, state_of, view_of, EntersBy}

pub begun-marks_of_begin : (active : Bool) (key : ActorKey) (version call : ℕ) (chain : Option (List ℕ)) → begun_calls (marks_of_begin active key version call chain) ≡ call ∷ []
begun-marks_of_begin true key version call chain = refl
begun-marks_of_begin false key version call chain = refl

-- the same actors, with no call of the last step
abbrev pub quiet : ActorsState → ActorsState
quiet a = record { drawn = a.drawn; cells = a.cells; recent = [] }

module _ (s : Standing) (old : ActorsState) (running : is_stopped s.stage ≡ false) where
  -- a refusal by the part
  pub refused_gives : (step : Bool → PartState → PartStep) (c : ActorCell) (chain : Option (List ℕ)) (full : Bool) (reply : PartReply) → EntersBy step s c chain (Err reply)
      → GivesInMemory (step full (state_of s old)) reply (state_of s old) (view_of s (quiet old))
  refused_gives step c chain full replies.OutOfMemory h = (refl, running)
  refused_gives step c chain full reply h = rw (h old full) (refl, refl)

-- the call's actor has a cell, or gets a first one
pub known_step : (p : PartState) (key : ActorKey) (c : ActorCell) (chain : Option (List ℕ)) → cell_at p.cells key ≡ Some c
    → ask_found ring_owner p key chain (cell_at p.cells key) ≡ ask_here ring_owner false p c (call_chain p c.inner.depth chain)
known_step p key c chain e = ap (λ (f : Option ActorCell). ask_found ring_owner p key chain f) e

pub first_step : (p : PartState) (key : ActorKey) (depth : ℕ) (full : Bool) (c : ActorCell) (chain : Option (List ℕ)) → cell_at p.cells key ≡ None → depth ≡ (settings_of p.kinds key.kind).depth
    → full ≡ nat_le most_cells (length p.cells) → c ≡ first_cell key depth
    → ask_found ring_owner p key chain (cell_at p.cells key) ≡ ask_here ring_owner full p c (call_chain p c.inner.depth chain)
first_step p key depth full c chain e d f g =
    ap (λ (z : Option ActorCell). ask_found ring_owner p key chain z) e
    ∙ (λ i. ask_here ring_owner (sym f i) p (first_cell key (sym d i)) (call_chain p (sym d i) chain))
    ∙ ap (λ (z : ActorCell). ask_here ring_owner full p z (call_chain p z.inner.depth chain)) (sym g)

-- the outcome of an ask that is neither spent nor behind
pub ask_goes : (p old : PartState) (key : ActorKey) (chain : Option (List ℕ)) (least : ℕ) (reply : PartReply) (view : PartView) → p.drawn < 2 ^ 62 → least ≤ p.seen
    → GivesInMemory (ask_found ring_owner p key chain (cell_at p.cells key)) reply old view → GivesInMemory (ask_part ring_owner p key chain least) reply old view
ask_goes p old key chain least reply view fresh known g =
    subst (λ (z : PartStep). GivesInMemory z reply old view)
    (sym (cond-false (is_spent p) _ _ (lt-leb most_drawn p.drawn fresh) ∙ cond-false (nat_lt p.seen least) _ _ (le-ltb p.seen least known)))
    g

-- a call enters by a step that is the same as another
pub entered_by : (s : Standing) (c : ActorCell) (chain : Option (List ℕ)) (outer step : Bool → PartState → PartStep) (r : Result Bool PartReply)
    → ((a : ActorsState) (full : Bool) → outer full (state_of s a) ≡ step full (state_of s a)) → EntersBy step s c chain r → EntersBy outer s c chain r
entered_by s c chain outer step (Ok b) e h = λ a full. e a full ∙ h a full
entered_by s c chain outer step (Err replies.OutOfMemory) e h = h
entered_by s c chain outer step (Err reply) e h = λ a full. e a full ∙ h a full
