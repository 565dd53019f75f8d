-- How a piece of a text is read: its value and the bytes behind it, or the place of its fault as the number of bytes
-- left there. Own.
use Rattle.std.specs.Prelude.{◌≡◌, Result, Ok, Err}

infixl 10 ◌>>=◌
abbrev pub ◌>>=◌ : {A B E : Type 0} → Result A E → (A → Result B E) → Result B E
(Ok x) >>= f = f x
(Err e) >>= f = Err e

-- what a function answers, seen through `view`, is what the reading gives
abbrev pub Gives : {X Y E : Type 0} → (X → Y) → Result X E → Result Y E → Type 0
Gives view (Ok x) reading = reading ≡ Ok (view x)
Gives view (Err e) reading = reading ≡ Err e
