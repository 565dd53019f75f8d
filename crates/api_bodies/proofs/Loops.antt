-- Reading lists element by element, as a loop does.
use Rattle.std.proofs.Common.{◌≡◌, List, ◌++◌, Result, Ok}
use Rattle.schedule_text.specs.Reading.{◌>>=◌}
use Rattle.api_bodies.specs.declared.error.BodyError.{BodyError}
use Rattle.api_bodies.specs.Reading.{read_all}

-- the elements that were read before, and then those of this reading
abbrev pub with_front : {B : Type 0} → List B → Result (List B) BodyError → Result (List B) BodyError
with_front front read = read >>= λ ys. Ok (front ++ ys)

-- a loop has read `front` and has `left` still to read; together they are the whole reading
abbrev pub Stands : {A B : Type 0} → (A → Result B BodyError) → List B → List A → Result (List B) BodyError → Type 0
Stands f front left total = with_front front (read_all f left) ≡ total
