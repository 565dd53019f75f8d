-- What a world shows of its messages. Own.
use Rattle.std.specs.Prelude.{ℕ, zero, suc, Bool, true, false, List, Option, None, slice_get, option_map}
use Rattle.cluster_model.specs.Messages.{Message, Asks, Tells}

abbrev pub asks : Message → Bool
asks (Asks request) = true
asks (Tells member answer) = false

-- whether the message of this number is a request, if there is one; messages are numbered from 1
abbrev pub asks_at : List Message → ℕ → Option Bool
asks_at ms zero = None
asks_at ms (suc k) = option_map asks (slice_get ms k)
