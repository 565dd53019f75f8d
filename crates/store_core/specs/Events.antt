-- What happens to a store, and what it may answer. Own.
use Rattle.std.specs.Prelude.{◌<◌}
use Rattle.frame_wire.specs.Store.{AnswerFits}
use Rattle.store_payloads.specs.Payloads.{end_of_moments}
use Rattle.store_payloads.specs.Laws.{MayCome}
use Rattle.store_core.specs.declared.events.StoreEvent.{StoreEvent}
use Rattle.store_core.specs.declared.events.StoreEvent.TheVariants.{Command, Compact}
use Rattle.store_core.specs.declared.events.StoreOutcome.{StoreOutcome}
use Rattle.store_core.specs.declared.events.StoreOutcome.TheVariants.{Answer, CompactIs}
use Rattle.store_core.specs.Store.{StoreState, Moves}
use Rattle.store_core.specs.Compacts.{Compacts}

-- a command that may be sent, at a moment that may be
abbrev pub Takes : StoreEvent → Type 0
Takes (Command command now) = MayCome (record { now = now; command = command })
Takes (Compact least now) = now < end_of_moments

-- a command is answered by what fits its frame, and a compaction ends
abbrev pub Allows : StoreState → StoreEvent → StoreOutcome → StoreState → Type 0
Allows old (Command command now) (Answer answer) new = Moves old (record { now = now; command = command }) answer new × AnswerFits answer
Allows old (Command command now) (CompactIs end) new = ⊥
Allows old (Compact least now) (Answer answer) new = ⊥
Allows old (Compact least now) (CompactIs end) new = Compacts least now old end new
