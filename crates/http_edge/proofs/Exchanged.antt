-- One exchange.
use Rattle.std.proofs.Common.{refl, sym, ap, subst, ◌∙◌, ◌≡◌, inl, inr, ℕ, List, [], ◌++◌, length, Option, Some, None, IfSome, Result, Ok, Err, append_assoc}
use Rattle.std.proofs.lemmas.List.{append-nil}
use Rattle.actor_ports.specs.Traffic.{Traffic}
use Rattle.httparse.proofs.GrammarLemmas.{ReadsResponse-append}
use Rattle.http_edge.specs.declared.message.HttpResponse.{HttpResponse}
use Rattle.http_edge.specs.declared.form.BodyForm.{BodyForm}
use Rattle.http_edge.specs.declared.form.BodyForm.TheVariants.{BySize, ByChunks, ToEnd}
use Rattle.http_edge.specs.declared.error.EdgeError.{EdgeError}
use Rattle.http_edge.specs.declared.error.EdgeError.TheVariants.{BadHead, HeadTooLong, TooManyFields, Chunked, BadLength, BodyTooLong, CutShort, ConnFault, OutOfMemory}
use Rattle.http_edge.specs.Carry.{Carried, nothing, IsFront, Over, AtEnd}
use Rattle.http_edge.specs.Texts.{WritesText}
use Rattle.http_edge.specs.Replies.{HasBody, HasReply, HasNoReading}
use Rattle.http_edge.specs.Settled.{MayFollow, HasNoReply, Settles, InputHasReply, IsNamed, InputBreaks, IsErrorOf, Decides}
use Rattle.http_edge.specs.Content.{StreamGives, ReadsReply}
use Rattle.http_edge.specs.Exchanges.{ExchangeGives, Exchanges}
use Rattle.http_edge.proofs.Carried.{over_then, told_along}
use Rattle.http_edge.proofs.Left.{none_left}
use Rattle.http_edge.proofs.Filled.{take_whole}
use Rattle.http_edge.proofs.Replied.{body_told}
use Rattle.http_edge.proofs.OneReply.{cause_excludes, one_reply, reply_same}
use Rattle.http_edge.proofs.OneCause.{one_error}

-- the request wasn't written whole
pub cut_exchange : (T : Type 0) (text : List ℕ) (a b : Option Traffic) (e : EdgeError) → WritesText {T = T} a b text (Err e) → Exchanges text a b (Err e)
cut_exchange T text a b BadHead w = absurd w
cut_exchange T text a b HeadTooLong w = absurd w
cut_exchange T text a b TooManyFields w = absurd w
cut_exchange T text a b Chunked w = absurd w
cut_exchange T text a b BadLength w = absurd w
cut_exchange T text a b (BodyTooLong n) w = absurd w
cut_exchange T text a b (CutShort n) w = absurd w
cut_exchange T text a b ConnFault w = (record { read = []; written = w.0 }, w.2, (w.1, inr refl), tt)
cut_exchange T text a b OutOfMemory w = (nothing, w, (record { count = 0; is = refl }, inr refl), tt)

whole_front : (text : List ℕ) → IsFront text text
whole_front text = record { count = length text; is = sym (take_whole (length text) text refl) }

-- what was read after the text was written
gives_along : (text stream : List ℕ) (a b d : Option Traffic) (result : Result HttpResponse EdgeError)
    → (AtEnd b d → AtEnd a d) → StreamGives stream b d result → ExchangeGives text (record { read = stream; written = text }) a d result
gives_along text stream a b d (Ok r) f h = (
  refl,
  record {
    head = h.head;
    behind = h.behind;
    form = h.form;
    starts = h.starts;
    final = h.final;
    formed = h.formed;
    body = body_told h.form h.behind r.body a b d f h.body;
    status = h.status;
    fields = h.fields;
  },
)
gives_along text stream a b d (Err BadHead) f h = (refl, h)
gives_along text stream a b d (Err HeadTooLong) f h = (refl, h)
gives_along text stream a b d (Err TooManyFields) f h = (refl, h)
gives_along text stream a b d (Err Chunked) f h = (refl, h)
gives_along text stream a b d (Err BadLength) f h = (refl, h)
gives_along text stream a b d (Err (BodyTooLong n)) f h = (refl, h)
gives_along text stream a b d (Err (CutShort n)) f h = (refl, (h.0, f h.1, h.2))
gives_along text stream a b d (Err ConnFault) f h = (whole_front text, inl refl)
gives_along text stream a b d (Err OutOfMemory) f h = (whole_front text, inl refl)

-- what was read leaves no other answer
settled : (stream : List ℕ) (b d : Option Traffic) (result : Result HttpResponse EdgeError) → StreamGives stream b d result → Settles stream result
settled stream b d (Ok r) h = λ before after other k. one_reply stream before after b d other r k h
settled stream b d (Err BadHead) h = λ more before after r on k. cause_excludes stream more BadHead before after r on h k
settled stream b d (Err HeadTooLong) h = λ more before after r on k. cause_excludes stream more HeadTooLong before after r on h k
settled stream b d (Err TooManyFields) h = λ more before after r on k. cause_excludes stream more TooManyFields before after r on h k
settled stream b d (Err Chunked) h = λ more before after r on k. cause_excludes stream more Chunked before after r on h k
settled stream b d (Err BadLength) h = λ more before after r on k. cause_excludes stream more BadLength before after r on h k
settled stream b d (Err (BodyTooLong n)) h = λ more before after r on k. cause_excludes stream more (BodyTooLong n) before after r on h k
settled stream b d (Err (CutShort n)) h = λ more before after r on k. cause_excludes stream more (CutShort n) before after r on h.2 k
settled stream b d (Err ConnFault) h = tt
settled stream b d (Err OutOfMemory) h = tt

pub whole_exchange : (text : List ℕ) (a b d : Option Traffic) (result : Result HttpResponse EdgeError)
    → Over a b (record { read = []; written = text }) → ReadsReply b d result → Exchanges text a d result
whole_exchange text a b d result o r = (
  record { read = r.0; written = text },
  subst (λ m. Over a d (record { read = r.0; written = m })) (append-nil text) (over_then a b d (record { read = []; written = text }) (record { read = r.0; written = [] }) o r.1),
  gives_along text r.0 a b d result (λ s. told_along a b d (record { read = []; written = text }) o s) r.2,
  settled r.0 b d result r.2,
)

-- ---- all that a connection brings

-- a body is still there if more bytes come behind one that doesn't end with the input
body_goes_on : (form : BodyForm) (behind more body : List ℕ) (a b : Option Traffic) → (form ≡ ToEnd → more ≡ []) → HasBody form behind body a b → HasBody form (behind ++ more) body None None
body_goes_on (BySize n) behind more body a b end h = (h.0, (h.1.0 ++ more, ap (λ l. l ++ more) h.1.1 ∙ append_assoc body h.1.0 more))
body_goes_on ByChunks behind more body a b end h = (h.0, h.1, (h.2.0 ++ more, ap (λ l. l ++ more) h.2.1 ∙ append_assoc h.0 h.2.0 more))
body_goes_on ToEnd behind more body a b end h = (ap (λ l. behind ++ l) (end refl) ∙ append-nil behind ∙ h.0, h.1, tt)

reply_goes_on : (stream more : List ℕ) (a b : Option Traffic) (r : HttpResponse) (h : HasReply stream a b r) → (h.form ≡ ToEnd → more ≡ []) → InputHasReply (stream ++ more) r
reply_goes_on stream more a b r h end =
    record {
      head = h.head;
      behind = h.behind ++ more;
      form = h.form;
      starts = record { reads = ReadsResponse-append stream h.head h.behind more h.starts.reads; short = h.starts.short; few = h.starts.few };
      final = h.final;
      formed = h.formed;
      body = body_goes_on h.form h.behind more r.body a b end h.body;
      status = h.status;
      fields = h.fields;
    }

-- a body up to the end of the input is answered only there
ends_there : (form : BodyForm) (behind body : List ℕ) (a b : Option Traffic) → form ≡ ToEnd → HasBody form behind body a b → AtEnd a b
ends_there (BySize n) behind body a b is h = absurd (cc)
ends_there ByChunks behind body a b is h = absurd (cc)
ends_there ToEnd behind body a b is h = h.2

-- an error and its cause, of the whole input
error_of : (t : Traffic) (stream rest : List ℕ) (e : EdgeError) → IsNamed e → t.left ≡ stream ++ rest → MayFollow e rest → HasNoReading stream None None e → HasNoReply stream e → IsErrorOf t.left e
error_of t stream rest e named is on cause none =
    let here : InputBreaks t.left e = record { stream = stream; more = rest; is = is; behind = on; cause = cause } in
    record {
      breaks = here;
      agrees = λ other too k. one_error t.left e other named too here k;
      no_reply = λ r k. none rest None None r on (subst (λ l. InputHasReply l r) is k);
    }

decides_by : (text : List ℕ) (t : Traffic) (after : Option Traffic) (c : Carried) (result : Result HttpResponse EdgeError)
    → Over (Some t) after c → ExchangeGives text c (Some t) after result → Settles c.read result → Decides t.left result
decides_by text t after c (Ok r) o g s =
    let h = g.1 in
    let ends : h.form ≡ ToEnd → o.0 ≡ [] = λ is. none_left t after c o (ends_there h.form h.behind r.body (Some t) after is h.body) in (
      subst (λ l. InputHasReply l r) (sym o.1) (reply_goes_on c.read o.0 (Some t) after r h ends),
      λ other k. sym (reply_same c.read o.0 (Some t) after None None r other h ends (subst (λ l. InputHasReply l other) o.1 k)),
    )
decides_by text t after c (Err BadHead) o g s = error_of t c.read o.0 BadHead tt o.1 tt g.1 s
decides_by text t after c (Err HeadTooLong) o g s = error_of t c.read o.0 HeadTooLong tt o.1 tt g.1 s
decides_by text t after c (Err TooManyFields) o g s = error_of t c.read o.0 TooManyFields tt o.1 tt g.1 s
decides_by text t after c (Err Chunked) o g s = error_of t c.read o.0 Chunked tt o.1 tt g.1 s
decides_by text t after c (Err BadLength) o g s = error_of t c.read o.0 BadLength tt o.1 tt g.1 s
decides_by text t after c (Err (BodyTooLong n)) o g s = error_of t c.read o.0 (BodyTooLong n) tt o.1 tt g.1 s
decides_by text t after c (Err (CutShort n)) o g s = error_of t c.read o.0 (CutShort n) tt o.1 (none_left t after c o g.1.1) (g.1.0, tt, g.1.2) s
decides_by text t after c (Err ConnFault) o g s = tt
decides_by text t after c (Err OutOfMemory) o g s = tt

-- what a connection that reports its bytes has left decides the answer
pub decided : (text : List ℕ) (before after : Option Traffic) (result : Result HttpResponse EdgeError) → Exchanges text before after result → IfSome before (λ t. Decides t.left result)
decided text None after result x = tt
decided text (Some t) after result x = decides_by text t after x.0 result x.1 x.2 x.3
