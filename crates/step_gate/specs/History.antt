-- Histories of a machine: which are legal, where they lead, and which entries a seat made. Own, after the notion of
-- a linearizable history.
use Rattle.std.specs.Prelude.{◌≡◌, ℕ, ◌+◌, ◌==◌, ltb, List, [], ◌∷◌, length, cond}
use Rattle.step_gate.specs.declared.view.HistoryEntry.{HistoryEntry}
use Rattle.step_gate.specs.declared.view.Made.{Made}

-- `moves` is what the machine's step allows, as a relation of the value before, the event, the reply and the value
-- after
module _ {S E R : Type 0} (moves : S → E → R → S → Type 0) where
  -- The entries lead from the first value to the last: each reply and each following value is one that the step allows
  -- for the event.
  abbrev pub HistoryLeadsTo : S → List (HistoryEntry E R) → S → Type 0
  HistoryLeadsTo a [] b = a ≡ b
  HistoryLeadsTo a (e ∷ es) b = (c : S) × moves a e.event e.reply c × HistoryLeadsTo c es b

  -- the history leads from the opening value to some value
  abbrev pub LegalHistory : S → List (HistoryEntry E R) → Type 0
  LegalHistory a es = (b : S) × HistoryLeadsTo a es b

module _ {E R : Type 0} where
  -- an entry by the seat with this number
  abbrev pub entry : ℕ → E → R → HistoryEntry E R
  entry by e r = record { by = by; event = e; reply = r }

  -- an entry at its place
  abbrev pub made : ℕ → HistoryEntry E R → Made E R
  made k e = record { place = k; entry = e }

  -- the entries that name the seat, with their places, if the first entry has the place k
  abbrev pub made_from : ℕ → ℕ → List (HistoryEntry E R) → List (Made E R)
  made_from by k [] = []
  made_from by k (e ∷ es) = cond (e.by == by) (made k e ∷ made_from by (k + 1) es) (made_from by (k + 1) es)

  -- the same for a whole history
  abbrev pub made_by : ℕ → List (HistoryEntry E R) → List (Made E R)
  made_by by es = made_from by 0 es

module _ {A : Type 0} where
  -- the longer of two lists, or the first if they are equally long
  abbrev pub longer : List A → List A → List A
  longer xs ys = cond (ltb (length xs) (length ys)) ys xs

  -- the other of the two lists
  abbrev pub shorter : List A → List A → List A
  shorter xs ys = cond (ltb (length xs) (length ys)) xs ys
