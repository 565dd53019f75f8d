-- A head of a reply that is refused by its fields.
use Rattle.std.proofs.Common.{sym, ap, subst, ◌∙◌, ◌≡◌, ◌≤◌, ◌==◌, ◌||◌, nat_le, if◌then◌else◌, Bool, true, false, ℕ, List, [], ◌∷◌, length, map, take, drop, Option, Some, None, Result, Ok, Err, codes, arith}
use Rattle.std.proofs.lemmas.List.{length-map, length-take}
use Rattle.httparse.specs.declared.spans.HeaderSpan.{HeaderSpan}
use Rattle.httparse.specs.declared.spans.ResponseSpans.{ResponseSpans}
use Rattle.httparse.specs.Grammar.{Field, ResponseHead, status_code}
use Rattle.httparse.specs.Spans.{name_and_value, header_bytes, IsResponseOf, IsResponseWithin}
use Rattle.http_edge.specs.declared.form.BodyForm.{BodyForm}
use Rattle.http_edge.specs.declared.form.BodyForm.TheVariants.{BySize, ByChunks, ToEnd}
use Rattle.http_edge.specs.declared.error.EdgeError.{EdgeError}
use Rattle.http_edge.specs.declared.error.EdgeError.TheVariants.{Chunked, BadLength, BodyTooLong}
use Rattle.http_edge.specs.Fields.{most_head, most_body, is_same_word, values_of, at_most_body, length_told}
use Rattle.http_edge.specs.Replies.{sized_form, form_by, form_told, form_of, reply_pairs, StartsWithReply}
use Rattle.http_edge.specs.Arrivals.{LooksAtReply}

-- the errors that the fields of a head may give
abbrev IsFormError : EdgeError → Type 0
IsFormError Chunked = Unit {0}
IsFormError BadLength = Unit {0}
IsFormError (BodyTooLong n) = Unit {0}
IsFormError e = ⊥

abbrev Form : Type 0
Form = Result BodyForm EdgeError

is_form_error : (d e : EdgeError) → IsFormError d → ◌≡◌ {A = Form} (Err d) (Err e) → IsFormError e
is_form_error d e f is = let same : d ≡ e = cc in subst (λ (x : EdgeError). IsFormError x) same f

no_error : (form : BodyForm) (e : EdgeError) → ◌≡◌ {A = Form} (Ok form) (Err e) → IsFormError e
no_error form e is = absurd (cc)

by_size : (n : ℕ) (e : EdgeError) (fits : Bool) → sized_form (if fits then Ok n else Err (BodyTooLong n)) ≡ Err e → IsFormError e
by_size n e true is = no_error (BySize n) e is
by_size n e false is = is_form_error (BodyTooLong n) e tt is

by_length : (size : Option ℕ) (e : EdgeError) → sized_form (at_most_body size) ≡ Err e → IsFormError e
by_length None e is = is_form_error BadLength e tt is
by_length (Some n) e is = by_size n e (nat_le n most_body) is

by_coding : (e : EdgeError) (chunked : Bool) → ◌≡◌ {A = Form} (if chunked then Ok ByChunks else Err Chunked) (Err e) → IsFormError e
by_coding e true is = no_error ByChunks e is
by_coding e false is = is_form_error Chunked e tt is

by_values : (codings lengths : List (List ℕ)) (e : EdgeError) → form_by codings lengths ≡ Err e → IsFormError e
by_values [] [] e is = no_error ToEnd e is
by_values [] (v ∷ vs) e is = by_length (length_told (v ∷ vs)) e is
by_values (v ∷ []) lengths e is = by_coding e (is_same_word v (codes "chunked")) is
by_values (v ∷ w ∷ vs) lengths e is = is_form_error Chunked e tt is

by_status : (codings lengths : List (List ℕ)) (e : EdgeError) (empty : Bool) → ◌≡◌ {A = Form} (if empty then Ok (BySize 0) else form_by codings lengths) (Err e) → IsFormError e
by_status codings lengths e true is = no_error (BySize 0) e is
by_status codings lengths e false is = by_values codings lengths e is

form_error : (status : ℕ) (fields : List (List ℕ × List ℕ)) (e : EdgeError) → form_told status fields ≡ Err e → IsFormError e
form_error status fields e is = by_status (values_of (codes "Transfer-Encoding") fields) (values_of (codes "Content-Length") fields) e (status == 204 || status == 304) is

-- a whole head is refused by its fields
abbrev IsRefused : List ℕ → EdgeError → Type 0
IsRefused bytes e = (head : ResponseHead) × (behind : List ℕ) × StartsWithReply bytes head behind × ((200 ≤ status_code head) × (form_of head ≡ Err e))

looks_refused : (bytes : List ℕ) (e : EdgeError) → IsFormError e → IsRefused bytes e → LooksAtReply bytes (Err e)
looks_refused bytes Chunked f r = r
looks_refused bytes BadLength f r = r
looks_refused bytes (BodyTooLong n) f r = r
looks_refused bytes e f r = absurd f

few_fields : (bytes : List ℕ) (spans : List HeaderSpan) (n : ℕ) (fields : List Field) → n ≤ 64 → map (header_bytes bytes) (take n spans) ≡ map name_and_value fields → length fields ≤ 64
few_fields bytes spans n fields few e =
    let a = length-map (take n spans) (header_bytes bytes) in
    let b = length-map fields name_and_value in
    let c = ap length e in
    let d = length-take n spans in
    omega arith

pub refused_there : (bytes : List ℕ) (spans : List HeaderSpan) (r : ResponseSpans) (e : EdgeError)
    → IsResponseOf bytes spans r → IsResponseWithin bytes spans r → r.headers ≤ 64 → length bytes ≤ most_head → 200 ≤ r.code
    → form_told r.code (map (header_bytes bytes) (take r.headers spans)) ≡ Err e → LooksAtReply bytes (Err e)
refused_there bytes spans r e there within few short final told =
    let h = there.0 in
    let at = there.1 in
    let fits = within.section.len_fits in
    let len = at.len in
    let formed : form_of h ≡ Err e = ap (λ n. form_told n (reply_pairs h)) (sym at.code) ∙ ap (form_told r.code) (sym at.fields) ∙ told in
    looks_refused bytes e (form_error r.code (map (header_bytes bytes) (take r.headers spans)) e told) (
      h,
      drop r.len bytes,
      record { reads = at.reads; short = omega arith; few = few_fields bytes spans r.headers h.fields few at.fields },
      (subst (λ n. 200 ≤ n) at.code final, formed),
    )
