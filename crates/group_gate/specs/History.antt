-- Histories of a machine that takes lists: which are legal, where they lead, and what was asked at one place. Own, after
-- the notion of a linearizable history.
use Rattle.std.specs.Prelude.{◌≡◌, ℕ, ◌+◌, ◌==◌, List, [], ◌∷◌, ◌++◌, map, cond}
use Rattle.group_gate.specs.declared.view.Asked.{Asked}
use Rattle.group_gate.specs.declared.view.GroupEntry.{GroupEntry}
use Rattle.group_gate.specs.declared.view.Done.{Done}

module _ {A : Type 0} where
  -- what was asked at a place
  abbrev pub asked : ℕ → A → Asked A
  asked i a = record { place = i; ask = a }

  -- the asks alone, in their order
  abbrev pub asks_in : List (Asked A) → List A
  asks_in cs = map (λ (c : Asked A). c.ask) cs

module _ {A R : Type 0} where
  -- an entry with these asks and answers
  abbrev pub entry : List (Asked A) → List R → GroupEntry A R
  entry cs rs = record { asks = cs; answers = rs }

  -- an ask at a place, answered in the entry p at the index k
  abbrev pub done : ℕ → ℕ → ℕ → A → R → Done A R
  done i p k a r = record { place = i; entry = p; index = k; ask = a; answer = r }

  -- what was asked at the place in an entry p, if the first ask has the index k
  abbrev pub made_in : ℕ → ℕ → ℕ → List (Asked A) → List R → List (Done A R)
  made_in i p k [] rs = []
  made_in i p k (c ∷ cs) [] = []
  made_in i p k (c ∷ cs) (r ∷ rs) = cond (c.place == i) (done i p k c.ask r ∷ made_in i p (k + 1) cs rs) (made_in i p (k + 1) cs rs)

  -- what was asked at the place in these entries, of which the first has p before it
  abbrev pub made_from : ℕ → ℕ → List (GroupEntry A R) → List (Done A R)
  made_from i p [] = []
  made_from i p (e ∷ es) = made_in i p 0 e.asks e.answers ++ made_from i (p + 1) es

  -- the same for a whole history
  abbrev pub made_at : ℕ → List (GroupEntry A R) → List (Done A R)
  made_at i es = made_from i 0 es

-- `moves` is what the machine's step allows, as a relation of the value before, the asks, the answers and the value after
module _ {S A R : Type 0} (moves : S → List A → List R → S → Type 0) where
  -- The entries lead from the first value to the last: the answers of each entry and the following value are some that
  -- the step allows for the asks.
  abbrev pub HistoryLeadsTo : S → List (GroupEntry A R) → S → Type 0
  HistoryLeadsTo a [] b = a ≡ b
  HistoryLeadsTo a (e ∷ es) b = (c : S) × moves a (asks_in e.asks) e.answers c × HistoryLeadsTo c es b

  -- the history leads from the opening value to some value
  abbrev pub LegalHistory : S → List (GroupEntry A R) → Type 0
  LegalHistory a es = (b : S) × HistoryLeadsTo a es b
