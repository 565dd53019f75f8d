-- The fields of a head, one after the other.
use Rattle.std.proofs.Common.{refl, sym, ap, ◌∙◌, ◌≡◌, ◌<◌, ◌+◌, ℕ, true, false, if◌then◌else◌, get_or, add-one, List, ◌∷◌, length, map, drop}
use Rattle.std.proofs.Math.Seq.{drop-cons}
use Rattle.httparse.specs.declared.spans.HeaderSpan.{HeaderSpan}
use Rattle.httparse.specs.Spans.{header_bytes, span_bytes}
use Rattle.http_edge.specs.Fields.{is_same_word, values_of}

-- the values from the span at i on
pub values_at : (name bytes : List ℕ) (spans : List HeaderSpan) (i : ℕ) (d : HeaderSpan) → i < length spans
    → values_of name (map (header_bytes bytes) (drop i spans)) ≡ (if is_same_word (span_bytes bytes (get_or spans i d).name) name then span_bytes bytes (get_or spans i d).value ∷ values_of name (map (header_bytes bytes) (drop (i + 1) spans)) else values_of name (map (header_bytes bytes) (drop (i + 1) spans)))
values_at name bytes spans i d lt =
    ap (λ l. values_of name (map (header_bytes bytes) l)) (drop-cons spans i d lt ∙ ap (λ n. get_or spans i d ∷ drop n spans) (sym (add-one i)))

pub values_hit : (name bytes : List ℕ) (spans : List HeaderSpan) (i : ℕ) (d : HeaderSpan) → i < length spans → is_same_word (span_bytes bytes (get_or spans i d).name) name ≡ true
    → values_of name (map (header_bytes bytes) (drop i spans)) ≡ span_bytes bytes (get_or spans i d).value ∷ values_of name (map (header_bytes bytes) (drop (i + 1) spans))
values_hit name bytes spans i d lt hit = values_at name bytes spans i d lt ∙ rw hit refl

pub values_miss : (name bytes : List ℕ) (spans : List HeaderSpan) (i : ℕ) (d : HeaderSpan) → i < length spans → is_same_word (span_bytes bytes (get_or spans i d).name) name ≡ false
    → values_of name (map (header_bytes bytes) (drop i spans)) ≡ values_of name (map (header_bytes bytes) (drop (i + 1) spans))
values_miss name bytes spans i d lt miss = values_at name bytes spans i d lt ∙ rw miss refl
