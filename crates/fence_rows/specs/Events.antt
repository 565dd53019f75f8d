-- What happens to a fenced store, and what it may answer. Own.
use Rattle.std.specs.Prelude.{◌<◌}
use Rattle.store_payloads.specs.Payloads.{end_of_moments}
use Rattle.store_core.specs.Store.{StoreState}
use Rattle.store_core.specs.Compacts.{Compacts}
use Rattle.fence_rows.specs.declared.event.FencedEvent.{FencedEvent}
use Rattle.fence_rows.specs.declared.event.FencedEvent.TheVariants.{Command, Compact}
use Rattle.fence_rows.specs.declared.event.FencedOutcome.{FencedOutcome}
use Rattle.fence_rows.specs.declared.event.FencedOutcome.TheVariants.{Answer, CompactIs}
use Rattle.fence_rows.specs.Fences.{MayFence, HasShortEpoch, FencedMoves, FencedAnswerFits}

-- a command that may be sent, at a moment that may be
abbrev pub Takes : FencedEvent → Type 0
Takes (Command command now) = MayFence command now
Takes (Compact least now) = now < end_of_moments

-- a command is answered as the fence and the store do, and a compaction ends
abbrev pub Allows : StoreState → FencedEvent → FencedOutcome → StoreState → Type 0
Allows old (Command command now) (Answer answer) new = FencedMoves old command now answer new × FencedAnswerFits answer × HasShortEpoch command
Allows old (Command command now) (CompactIs end) new = ⊥
Allows old (Compact least now) (Answer answer) new = ⊥
Allows old (Compact least now) (CompactIs end) new = Compacts least now old end new
