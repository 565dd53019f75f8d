-- What the program's own values mean: the remaining words of a line, and what reading them gives.
use Rattle.std.specs.Prelude.{◌≡◌, ℕ, List, [], ◌∷◌, None, Some, Result, Ok, Err}
use Rattle.script_text.specs.Lines.{Word, words_from}
use Rattle.script_text.specs.declared.words.Token.{Token}
use Rattle.script_text.specs.declared.words.Words.{Words}

abbrev pub words_left : Words → List Word
words_left w = elim w.rest [ None ↦ [] | Some rest ↦ words_from w.column rest.now ]

abbrev pub word_told : Token → Word
word_told t = record { column = t.column; text = t.text.now }

-- a value and the words after it are what the reading gives, or its column is where it is refused
abbrev pub Gives : {X Y : Type 0} → (X → Y) → Result (X × Words) ℕ → Result (Y × List Word) ℕ → Type 0
Gives view (Ok x) reading = reading ≡ Ok (view x.0, words_left x.1)
Gives view (Err column) reading = reading ≡ Err column

-- the same for a reading that ends the line
abbrev pub GivesValue : {X Y : Type 0} → (X → Y) → Result X ℕ → Result Y ℕ → Type 0
GivesValue view (Ok x) reading = reading ≡ Ok (view x)
GivesValue view (Err column) reading = reading ≡ Err column

-- a line ends here, or it is refused at its next word
abbrev pub Ends : {X : Type 0} → Result X ℕ → List Word → Type 0
Ends (Ok x) words = words ≡ []
Ends (Err column) words = (word : Word) × (rest : List Word) × (words ≡ word ∷ rest) × (word.column ≡ column)
