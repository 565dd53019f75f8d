-- Texts that were appended piece by piece.
use Rattle.std.proofs.Common.{◌≡◌, ◌∙◌, ◌<◌, ◌+◌, refl, ap, sym, ℕ, add-one, true, false, List, ◌∷◌, ◌++◌, length, get_or, drop, Result, Ok, Err, OnOk, append_assoc}
use Rattle.std.proofs.Math.Seq.{drop-cons}
use Rattle.http_edge.specs.declared.message.HttpField.{HttpField}
use Rattle.http_edge.specs.Texts.{is_framing, field_line, field_lines}

pub on_ok : {A E P Q : Type 0} (r : Result A E) → (P → Q) → OnOk r P → OnOk r Q
on_ok (Ok x) f h = f h
on_ok (Err e) f h = tt

two : (i j k a b : List ℕ) → j ≡ i ++ a → k ≡ j ++ b → k ≡ i ++ (a ++ b)
two i j k a b e f = f ∙ ap (λ (l : List ℕ). l ++ b) e ∙ append_assoc i a b

pub three : (i j k l a b c : List ℕ) → j ≡ i ++ a → k ≡ j ++ b → l ≡ k ++ c → l ≡ i ++ (a ++ b ++ c)
three i j k l a b c e f g = two i k l (a ++ b) c (two i j k a b e f) g

pub four : (i j k l m a b c d : List ℕ) → j ≡ i ++ a → k ≡ j ++ b → l ≡ k ++ c → m ≡ l ++ d → m ≡ i ++ (a ++ b ++ c ++ d)
four i j k l m a b c d e f g h = two i l m (a ++ b ++ c) d (three i j k l a b c e f g) h

-- the lines from the field at i on
lines_at : (fields : List HttpField) (i : ℕ) (d : HttpField) → i < length fields → field_lines (drop i fields) ≡ field_lines (get_or fields i d ∷ drop (i + 1) fields)
lines_at fields i d lt = ap field_lines (drop-cons fields i d lt ∙ ap (λ n. get_or fields i d ∷ drop n fields) (sym (add-one i)))

pub line_kept : (fields : List HttpField) (i : ℕ) (d : HttpField) → i < length fields → is_framing (get_or fields i d).name ≡ false → field_lines (drop i fields) ≡ field_line (get_or fields i d) ++ field_lines (drop (i + 1) fields)
line_kept fields i d lt other = lines_at fields i d lt ∙ rw other refl

pub line_left : (fields : List HttpField) (i : ℕ) (d : HttpField) → i < length fields → is_framing (get_or fields i d).name ≡ true → field_lines (drop i fields) ≡ field_lines (drop (i + 1) fields)
line_left fields i d lt framing = lines_at fields i d lt ∙ rw framing refl
