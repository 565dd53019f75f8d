-- A reply: first its head, then its body.
use Rattle.std.proofs.Common.{refl, sym, ap, subst, ◌∙◌, ◌≡◌, ◌+◌, inl, inr, ℕ, List, [], ◌++◌, length, take, drop, map, Option, Result, Ok, Err, length-append, arith}
use Rattle.std.proofs.lemmas.List.{take-append-drop, length-take-le}
use Rattle.actor_ports.specs.Traffic.{Traffic}
use Rattle.httparse.specs.Grammar.{print_response}
use Rattle.http_edge.specs.declared.form.BodyForm.{BodyForm}
use Rattle.http_edge.specs.declared.form.BodyForm.TheVariants.{BySize, ByChunks, ToEnd}
use Rattle.http_edge.specs.declared.message.HttpResponse.{HttpResponse}
use Rattle.http_edge.specs.declared.replies.ReplyHead.{ReplyHead}
use Rattle.http_edge.specs.declared.error.EdgeError.{EdgeError}
use Rattle.http_edge.specs.declared.error.EdgeError.TheVariants.{BadHead, HeadTooLong, TooManyFields, Chunked, BadLength, BodyTooLong, CutShort, ConnFault, OutOfMemory}
use Rattle.http_edge.specs.Carry.{Over, AtEnd}
use Rattle.http_edge.specs.Requests.{pair_of}
use Rattle.http_edge.specs.Replies.{HasBody, BreaksBody, Breaks}
use Rattle.http_edge.specs.Arrivals.{Arrived, nothing_arrived, skipped, Extends, BreaksAtHead, AwaitsReply}
use Rattle.http_edge.specs.Content.{IsShort, TakesData, ReadsBody, ReadsReply}
use Rattle.http_edge.proofs.Carried.{end_told}
use Rattle.http_edge.proofs.Extended.{extends_then, fails_then, fails_because}
use Rattle.http_edge.proofs.Chunked.{drop_taken}

-- ---- a body by its size

short_breaks : (size : ℕ) (stream : List ℕ) (e : EdgeError) → IsShort size stream e → BreaksBody (BySize size) stream e
short_breaks size stream BadHead f = absurd f
short_breaks size stream HeadTooLong f = absurd f
short_breaks size stream TooManyFields f = absurd f
short_breaks size stream Chunked f = absurd f
short_breaks size stream BadLength f = absurd f
short_breaks size stream (BodyTooLong n) f = absurd f
short_breaks size stream (CutShort n) f = f
short_breaks size stream ConnFault f = absurd f
short_breaks size stream OutOfMemory f = absurd f

pub sized_body : {T : Type 0} (size : ℕ) (old new : Arrived) (body more : List ℕ) (a b : Option Traffic) (result : Result T EdgeError)
    → body ≡ [] → TakesData size old new body more a b result → ReadsBody (BySize size) old more a b result
sized_body size old new body more a b (Ok x) empty t =
    let is : more ≡ take size t.0 = t.2.1 ∙ ap (λ l. l ++ take size t.0) empty in
    (t.0, t.1, (ap length is ∙ length-take-le size t.0 t.2.0, (drop size t.0, sym (take-append-drop size t.0) ∙ ap (λ l. l ++ drop size t.0) (sym is))))
sized_body size old new body more a b (Err e) empty t = (t.0, t.1, fails_because (IsShort size t.0) (BreaksBody (BySize size) t.0) _ _ a b e (λ x. short_breaks size t.0 x) refl t.2)

-- ---- the head, and what is behind it

over_all : (stream : List ℕ) (a b : Option Traffic) → Extends [] a b stream → Over a b (record { read = stream; written = [] })
over_all stream a b x = subst (λ l. Over a b (record { read = l; written = [] })) (sym x.1) x.2

head_breaks : (stream : List ℕ) (e : EdgeError) → BreaksAtHead stream e → Breaks stream e
head_breaks stream e (inl f) = inl f
head_breaks stream e (inr f) = inr (f.0, f.1, f.2, inl f.3)

pub head_failed : (new : Arrived) (a b : Option Traffic) (e : EdgeError) → AwaitsReply nothing_arrived new a b (Err e) → ReadsReply a b (Err e)
head_failed new a b e w =
    (w.0, over_all w.0 a b w.1, fails_because (BreaksAtHead w.0) (Breaks w.0) (0 + length w.0) (length w.0) a b e (λ x. head_breaks w.0 x) (omega arith) w.2)

pub body_told : (form : BodyForm) (behind body : List ℕ) (a b d : Option Traffic) → (AtEnd b d → AtEnd a d) → HasBody form behind body b d → HasBody form behind body a d
body_told (BySize n) behind body a b d f h = h
body_told ByChunks behind body a b d f h = h
body_told ToEnd behind body a b d f h = (h.0, h.1, f h.2)

pub whole_reply : {T : Type 0} (x : T) (mid : Arrived) (h : ReplyHead) (r : HttpResponse) (body : List ℕ) (a b d : Option Traffic)
    → AwaitsReply nothing_arrived mid a b (Ok h) → ReadsBody h.form (skipped h.len mid) body b d (Ok x)
    → r.status ≡ h.status → r.fields ≡ h.fields → r.body ≡ body → ReadsReply a d (Ok r)
whole_reply x mid h r body a b d w t status fields held =
    let i = w.2.2 in
    let front = print_response i.head in
    let behind : drop h.len mid.rest ≡ i.behind = ap (λ l. drop h.len l) (w.2.0 ∙ i.starts.reads.1) ∙ drop_taken h.len front i.behind (sym i.len) in
    let there : w.0 ≡ front ++ drop h.len mid.rest = i.starts.reads.1 ∙ ap (λ l. front ++ l) (sym behind) in (
      front ++ t.0,
      over_all (front ++ t.0) a d (extends_then [] w.0 front (drop h.len mid.rest) t.0 a b d w.1 there t.1),
      record {
        head = i.head;
        behind = t.0;
        form = h.form;
        starts = record { reads = (i.starts.reads.0, refl); short = i.starts.short; few = i.starts.few };
        final = i.final;
        formed = i.formed;
        body = subst (λ l. HasBody h.form t.0 l a d) (sym held) (body_told h.form t.0 body a b d (λ s. end_told a b d w.1.0 w.1.2 s) t.2);
        status = status ∙ i.status;
        fields = ap (λ l. map pair_of l) fields ∙ i.fields;
      },
    )

pub body_failed : (T : Type 0) (mid : Arrived) (h : ReplyHead) (body : List ℕ) (a b d : Option Traffic) (e : EdgeError)
    → AwaitsReply nothing_arrived mid a b (Ok h) → ReadsBody {T = T} h.form (skipped h.len mid) body b d (Err e) → ReadsReply a d (Err e)
body_failed T mid h body a b d e w t =
    let i = w.2.2 in
    let front = print_response i.head in
    let behind : drop h.len mid.rest ≡ i.behind = ap (λ l. drop h.len l) (w.2.0 ∙ i.starts.reads.1) ∙ drop_taken h.len front i.behind (sym i.len) in
    let there : w.0 ≡ front ++ drop h.len mid.rest = i.starts.reads.1 ∙ ap (λ l. front ++ l) (sym behind) in
    let one = length-append front t.0 in
    let two : mid.taken ≡ 0 = w.2.1 in
    let three = i.len in (
      front ++ t.0,
      over_all (front ++ t.0) a d (extends_then [] w.0 front (drop h.len mid.rest) t.0 a b d w.1 there t.1),
      fails_then (BreaksBody h.form t.0) (Breaks (front ++ t.0)) (mid.taken + h.len + length t.0) (length (front ++ t.0)) [] w.0 a b d e w.1
          (λ x f. inr (i.head, t.0, record { reads = (i.starts.reads.0, refl); short = i.starts.short; few = i.starts.few }, inr (h.form, i.final, i.formed, f)))
          (omega arith) t.2,
    )
