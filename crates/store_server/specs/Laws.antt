-- What the step of a fenced store answers to what a session gives it. Own.
use Rattle.std.specs.Prelude.{◌≡◌, ℕ, List, Some}
use mathlib.Core.Option as m
use lib.ListN.{get_elem?}
use Rattle.frame_wire.specs.declared.frame.Frame.{Frame}
use Rattle.frame_wire.specs.Store.{AnswerFits}
use Rattle.store_core.specs.Store.{StoreState}
use Rattle.fence_rows.specs.declared.event.FencedAnswer.{FencedAnswer}
use Rattle.fence_rows.specs.declared.event.FencedEvent.{FencedEvent}
use Rattle.fence_rows.specs.declared.event.FencedOutcome.{FencedOutcome}
use Rattle.fence_rows.specs.declared.event.FencedOutcome.TheVariants.{Answer}
use Rattle.fence_rows.specs.Together.{AllowsAll}
use Rattle.store_server.specs.Commands.{store_event, fenced_answer}

-- an outcome that is an answer, and the fields of what a frame says of it have their forms and ranges
abbrev pub IsAnswered : FencedOutcome → Type 0
IsAnswered r = (answer : FencedAnswer) × (r ≡ Answer answer) × AnswerFits (fenced_answer answer)

-- So is the outcome of each frame that is sent to the store, whatever it is given together with it: the frame's event and
-- the outcome have the same index.
abbrev pub AnswersCommands : Type 0
AnswersCommands =
    (old new : StoreState) (events : List FencedEvent) (outcomes : List FencedOutcome) (frame : Frame) (now k : ℕ) (e : FencedEvent) (r : FencedOutcome)
    → store_event frame now ≡ Some e → AllowsAll old events outcomes new → get_elem? events k ≡ m.some e → get_elem? outcomes k ≡ m.some r
    → IsAnswered r
