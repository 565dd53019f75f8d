-- What served requests do at parts, and what they don't. Own.
use Rattle.std.specs.Prelude.{◌≡◌, List, [], ◌∷◌}
use Rattle.part_model.specs.declared.event.PartEvent.{PartEvent}
use Rattle.part_model.specs.declared.event.PartEvent.TheVariants as events
use Rattle.sidecar_node.specs.Entries.{NodeEntry, OnPart, OnBook, OnCalls}

-- No request takes part in a round of the placement, lets time pass at a part, deactivates an actor or stops a part. A
-- Lock of version 0 changes nothing.
abbrev pub IsRequestEvent : PartEvent → Type 0
IsRequestEvent (events.Lock version) = version ≡ 0
IsRequestEvent (events.Update table now) = ⊥
IsRequestEvent (events.Unlock version) = ⊥
IsRequestEvent (events.Tick now) = ⊥
IsRequestEvent (events.TakeClosing now) = ⊥
IsRequestEvent (events.Closed key) = ⊥
IsRequestEvent events.StopPart = ⊥
IsRequestEvent event = Unit {0}

-- all of these entries that are on parts are of such events
abbrev pub AreRequestEntries : List NodeEntry → Type 0
AreRequestEntries [] = Unit {0}
AreRequestEntries (OnPart part e ∷ ns) = IsRequestEvent e.event × AreRequestEntries ns
AreRequestEntries (OnBook book e ∷ ns) = AreRequestEntries ns
AreRequestEntries (OnCalls e ∷ ns) = AreRequestEntries ns
