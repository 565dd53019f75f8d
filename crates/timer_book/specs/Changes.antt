-- Changes of timers in order. Own.
use Rattle.std.specs.Prelude.{ℕ, Bool, List, Option, None, Some}
use Rattle.timer_book.specs.declared.entry.TimerEntry.{TimerEntry}
use Rattle.timer_book.specs.Entries.{put_entry}

-- a timer with a new moment, new firings left and a new running mark
abbrev pub changed : TimerEntry → ℕ → Option ℕ → Bool → TimerEntry
changed e moment left running = record e { moment = moment; left = left; running = running }

-- such a change of a timer that was found, if one was
abbrev pub changed_entry : Option TimerEntry → ℕ → Option ℕ → Bool → List TimerEntry → List TimerEntry
changed_entry None moment left running xs = xs
changed_entry (Some e) moment left running xs = put_entry (changed e moment left running) xs
