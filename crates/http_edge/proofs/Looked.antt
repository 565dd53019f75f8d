-- A look at the head of a request.
use Rattle.std.proofs.Common.{sym, ap, ◌∙◌, ◌≡◌, ◌≤◌, ◌==◌, ◌||◌, ℕ, List, length, map, take, drop, Ok, arith}
use Rattle.std.proofs.lemmas.List.{length-map, length-take}
use Rattle.httparse.specs.declared.spans.HeaderSpan.{HeaderSpan}
use Rattle.httparse.specs.declared.spans.RequestSpans.{RequestSpans}
use Rattle.httparse.specs.Grammar.{Field, RequestHead}
use Rattle.httparse.specs.Spans.{name_and_value, header_bytes, span_bytes, IsRequestAt, IsRequestWithin}
use Rattle.http_edge.specs.declared.head.Head.{Head}
use Rattle.http_edge.specs.Fields.{most_head, body_told, says_close}
use Rattle.http_edge.specs.Requests.{StartsWithHead, pair_of}
use Rattle.http_edge.specs.Steps.{IsHeadOf}

few_fields : (bytes : List ℕ) (spans : List HeaderSpan) (n : ℕ) (fields : List Field) → n ≤ 64 → map (header_bytes bytes) (take n spans) ≡ map name_and_value fields → length fields ≤ 64
few_fields bytes spans n fields few e =
    let a = length-map (take n spans) (header_bytes bytes) in
    let b = length-map fields name_and_value in
    let c = ap length e in
    let d = length-take n spans in
    omega arith

pub starts_there : (bytes : List ℕ) (spans : List HeaderSpan) (r : RequestSpans) (h : RequestHead)
    → IsRequestAt bytes spans r h → IsRequestWithin bytes spans r → r.headers ≤ 64 → length bytes ≤ most_head → StartsWithHead bytes h (drop r.len bytes)
starts_there bytes spans r h at within few short =
    let fits = within.section.len_fits in
    let len = at.len in
    record { reads = at.reads; short = omega arith; few = few_fields bytes spans r.headers h.fields few at.fields }

-- the head is there
pub head_there : (bytes : List ℕ) (spans : List HeaderSpan) (r : RequestSpans) (h : RequestHead) (head : Head) (size : ℕ)
    → IsRequestAt bytes spans r h → IsRequestWithin bytes spans r → r.headers ≤ 64 → length bytes ≤ most_head
    → body_told (map (header_bytes bytes) (take r.headers spans)) ≡ Ok size
    → head.method ≡ span_bytes bytes r.method → head.target ≡ span_bytes bytes r.path → map pair_of head.fields ≡ map (header_bytes bytes) (take r.headers spans)
    → head.close ≡ (r.version == 0 || says_close (map (header_bytes bytes) (take r.headers spans))) → head.len ≡ r.len → head.size ≡ size → IsHeadOf bytes head
head_there bytes spans r h head size at within few short told method target fields close len sized =
    record {
      head = h;
      behind = drop r.len bytes;
      starts = starts_there bytes spans r h at within few short;
      size = ap body_told (sym at.fields) ∙ told ∙ ap (λ n. Ok n) (sym sized);
      len = len ∙ at.len;
      method = method ∙ at.method;
      target = target ∙ at.path;
      fields = fields ∙ at.fields;
      close = close ∙ ap (λ v. v == 0 || says_close (map (header_bytes bytes) (take r.headers spans))) at.version ∙ ap (λ l. h.minor == 0 || says_close l) at.fields;
    }
