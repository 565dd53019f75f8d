-- What follows from the Dues of a tick. Own.
use Rattle.std.specs.Prelude.{◌≡◌, ◌≢◌, ◌⊎◌, ℕ, true, List, [], ◌∷◌, Option, Some, None, Ok}
use Rattle.timer_book.specs.declared.event.TimerReply.TheVariants as answers
use Rattle.clock_turns.specs.Timers.{Run, Fired, is_there}
use Rattle.clock_turns.specs.Ticks.{Firing}

-- no Due is on this book
abbrev pub NoneOn : ℕ → List Firing → Type 0
NoneOn k [] = Unit {0}
NoneOn k (t ∷ ts) = (t.book ≢ k) × NoneOn k ts

-- the last Due on this book was answered without a timer
abbrev pub EndsWithNone : ℕ → List Firing → Type 0
EndsWithNone k [] = ⊥
EndsWithNone k (t ∷ ts) = ((t.book ≡ k) × (t.said ≡ Ok (answers.DueIs None)) × NoneOn k ts) ⊎ EndsWithNone k ts

-- a first Started that found the registration is followed by a turn and its Finished
abbrev pub IsFinished : Option Fired → Type 0
IsFinished None = Unit {0}
IsFinished (Some f) = is_there f.begun ≡ true → (r : Run) × (f.run ≡ Some r)

abbrev pub AreFinished : List Firing → Type 0
AreFinished [] = Unit {0}
AreFinished (t ∷ ts) = IsFinished t.fired × AreFinished ts
