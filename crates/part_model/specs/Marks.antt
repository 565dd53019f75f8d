-- What a step of a part adds to the history: turns that begin and end, actors that become active and inactive,
-- and the opening of the part. Own.
use Rattle.std.specs.Prelude.{ℕ, Bool, true, false, List, [], ◌∷◌, ◌++◌, Option, None, Some}
use Rattle.actor_names.specs.declared.actor_key.ActorKey.{ActorKey}
use Rattle.turn_core.specs.declared.cell.Turn.{Turn}
use Rattle.turn_core.specs.declared.cell.Waiter.{Waiter}
use Rattle.part_model.specs.declared.actor_cell.ActorCell.{ActorCell}

pub data PartMark : Type 0 where
  TurnBegan : (key : ActorKey) → (call : ℕ) → (chain : Option (List ℕ)) → PartMark
  TurnEnded : (key : ActorKey) → (call : ℕ) → PartMark
  BecameActive : (key : ActorKey) → (version : ℕ) → PartMark
  BecameInactive : (key : ActorKey) → PartMark
  PartOpened : (number : ℕ) → (version : ℕ) → PartMark

-- A turn begins in a cell. A cell that wasn't active becomes active, at the version at which its part opened last.
abbrev pub marks_of_begin : Bool → ActorKey → ℕ → ℕ → Option (List ℕ) → List PartMark
marks_of_begin true key version call chain = TurnBegan key call chain ∷ []
marks_of_begin false key version call chain = BecameActive key version ∷ TurnBegan key call chain ∷ []

-- the same for a call that was waiting, if there is one
abbrev pub marks_of_next : Bool → ActorKey → ℕ → Option Waiter → List PartMark
marks_of_next active key version None = []
marks_of_next active key version (Some w) = marks_of_begin active key version w.call w.chain

-- open turns end, in the order in which they began
abbrev pub marks_of_ends : ActorKey → List Turn → List PartMark
marks_of_ends key [] = []
marks_of_ends key (t ∷ ts) = TurnEnded key t.call ∷ marks_of_ends key ts

abbrev pub marks_of_inactive : Bool → ActorKey → List PartMark
marks_of_inactive true key = BecameInactive key ∷ []
marks_of_inactive false key = []

-- every turn ends and every actor becomes inactive, cell by cell
abbrev pub marks_of_stop : List ActorCell → List PartMark
marks_of_stop [] = []
marks_of_stop (c ∷ cs) = (marks_of_ends c.key c.inner.turns ++ marks_of_inactive c.active c.key) ++ marks_of_stop cs

-- the calls whose turns began, in order
abbrev pub begun_calls : List PartMark → List ℕ
begun_calls [] = []
begun_calls (TurnBegan key call chain ∷ ms) = call ∷ begun_calls ms
begun_calls (TurnEnded key call ∷ ms) = begun_calls ms
begun_calls (BecameActive key version ∷ ms) = begun_calls ms
begun_calls (BecameInactive key ∷ ms) = begun_calls ms
begun_calls (PartOpened number version ∷ ms) = begun_calls ms

-- the calls whose turns ended, in order
abbrev pub ended_calls : List PartMark → List ℕ
ended_calls [] = []
ended_calls (TurnEnded key call ∷ ms) = call ∷ ended_calls ms
ended_calls (TurnBegan key call chain ∷ ms) = ended_calls ms
ended_calls (BecameActive key version ∷ ms) = ended_calls ms
ended_calls (BecameInactive key ∷ ms) = ended_calls ms
ended_calls (PartOpened number version ∷ ms) = ended_calls ms
