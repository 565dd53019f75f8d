-- One event on each part of a node. Own.
use Rattle.std.specs.Prelude.{ℕ, ◌+◌, List, [], ◌∷◌, ◌++◌}
use Rattle.part_model.specs.declared.event.PartEvent.{PartEvent}
use Rattle.part_model.specs.declared.event.PartEvent.TheVariants as events
use Rattle.sidecar_node.specs.declared.rounds.RoundEvent.{RoundEvent}
use Rattle.sidecar_node.specs.declared.rounds.RoundEvent.TheVariants.{Tick, Lock, Update, Unlock, StopPart}
use Rattle.sidecar_node.specs.Entries.{NodeEntry, at_part, one_entry}
use Rattle.sidecar_node.specs.Turns.{Said}

-- the event that each part is given
abbrev pub part_event : RoundEvent → PartEvent
part_event (Tick now) = events.Tick now
part_event (Lock version) = events.Lock version
part_event (Update table now) = events.Update table now
part_event (Unlock version) = events.Unlock version
part_event StopPart = events.StopPart

-- only an Update, whose table is copied for each part, may run out of memory
abbrev pub MayWantMemory : RoundEvent → Type 0
MayWantMemory (Update table now) = Unit {0}
MayWantMemory event = ⊥

-- The entries of one event on each part in order, from the part with this number on. Each part's answer is in the list;
-- one whose gate took no entry has none.
abbrev pub each_entries : ℕ → PartEvent → List Said → List NodeEntry
each_entries part event [] = []
each_entries part event (said ∷ saids) = at_part part (one_entry event said) ++ each_entries (part + 1) event saids
