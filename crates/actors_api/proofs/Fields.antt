-- A search among fields, at the place that it has come to.
use Rattle.std.proofs.Common.{◌≡◌, ◌∙◌, ◌<◌, ◌+◌, add-one, refl, ap, sym, ℕ, length, get_or, drop, Some, true, false, List}
use Rattle.std.proofs.Math.Seq.{drop-cons}
use Rattle.http_edge.specs.declared.message.HttpField.{HttpField}
use Rattle.http_edge.specs.Fields.{is_same_word}
use Rattle.actors_api.specs.Responses.{first_value}

-- the first value is that of a field with the name, if none before it has the name
pub first_at : (name : List ℕ) (fields : List HttpField) (i : ℕ) (f : HttpField) → i < length fields → f ≡ get_or fields i f → is_same_word f.name name ≡ true → first_value name (drop i fields) ≡ Some f.value
first_at name fields i f within there same = ap (first_value name) (drop-cons fields i f within) ∙ (let found : get_or fields i f ≡ f = sym there in rw (found, same) refl)

pub not_first_at : (name : List ℕ) (fields : List HttpField) (i : ℕ) (f : HttpField) → i < length fields → f ≡ get_or fields i f → is_same_word f.name name ≡ false → first_value name (drop i fields) ≡ first_value name (drop (i + 1) fields)
not_first_at name fields i f within there other = ap (first_value name) (drop-cons fields i f within) ∙ (let found : get_or fields i f ≡ f = sym there in rw (found, other) (ap (λ n. first_value name (drop n fields)) (sym (add-one i))))
