-- The lines of fields that are added one by one.
use Rattle.std.proofs.Common.{◌≡◌, ◌∙◌, ◌<◌, ◌+◌, add-one, refl, ap, sym, ℕ, length, get_or, drop, Some, Bool, true, false, if◌then◌else◌, List, [], ◌∷◌, ◌++◌, append_assoc}
use Rattle.std.proofs.Math.Path.{ap₂}
use Rattle.std.proofs.Math.Seq.{drop-cons}
use Rattle.std.proofs.lemmas.List.{append-nil}
use Rattle.http_edge.specs.declared.message.HttpField.{HttpField}
use Rattle.http_edge.specs.Fields.{is_same_word}
use Rattle.http_edge.specs.Texts.{is_framing, field_line, field_lines}
use Rattle.app_texts.specs.Texts.{line, first_value}

first_line : (framing : Bool) (line rest more whole : List ℕ) → whole ≡ rest ++ more → (if framing then whole else line ++ whole) ≡ (if framing then rest else line ++ rest) ++ more
first_line true line rest more whole e = e
first_line false line rest more whole e = ap (λ (l : List ℕ). line ++ l) e ∙ sym (append_assoc line rest more)

field_lines-append : (fs gs : List HttpField) → field_lines (fs ++ gs) ≡ field_lines fs ++ field_lines gs
field_lines-append [] gs = refl
field_lines-append (f ∷ fs) gs = first_line (is_framing f.name) (field_line f) (field_lines fs) (field_lines gs) (field_lines (fs ++ gs)) (field_lines-append fs gs)

one_line : (framing : Bool) (line : List ℕ) → framing ≡ false → (if framing then [] else line ++ []) ≡ line
one_line true line e = cc
one_line false line e = append-nil line

pub added_line : (fields : List HttpField) (f : HttpField) → is_framing f.name ≡ false → field_lines (fields ++ f ∷ []) ≡ field_lines fields ++ field_line f
added_line fields f other = field_lines-append fields (f ∷ []) ∙ ap (λ (l : List ℕ). field_lines fields ++ l) (one_line (is_framing f.name) (field_line f) other)

pub added : (old now : List HttpField) (f : HttpField) (name value : List ℕ) → now ≡ old ++ f ∷ [] → f.name ≡ name → f.value ≡ value → is_framing name ≡ false → field_lines now ≡ field_lines old ++ line name value
added old now f name value e named valued other =
    ap field_lines e ∙ added_line old f (ap is_framing named ∙ other) ∙ ap₂ (λ (n v : List ℕ). field_lines old ++ line n v) named valued

-- the first value is that of a field with the name, if none before it has the name
pub first_at : (name : List ℕ) (fields : List HttpField) (i : ℕ) (f : HttpField) → i < length fields → f ≡ get_or fields i f → is_same_word f.name name ≡ true → first_value name (drop i fields) ≡ Some f.value
first_at name fields i f within at same = ap (first_value name) (drop-cons fields i f within) ∙ (let there : get_or fields i f ≡ f = sym at in rw (there, same) refl)

pub not_first_at : (name : List ℕ) (fields : List HttpField) (i : ℕ) (f : HttpField) → i < length fields → f ≡ get_or fields i f → is_same_word f.name name ≡ false → first_value name (drop i fields) ≡ first_value name (drop (i + 1) fields)
not_first_at name fields i f within at other = ap (first_value name) (drop-cons fields i f within) ∙ (let there : get_or fields i f ≡ f = sym at in rw (there, other) (ap (λ n. first_value name (drop n fields)) (sym (add-one i))))
