-- What an exchange read and wrote.
use Rattle.std.proofs.Common.{◌≡◌, ◌∙◌, ℕ, ◌+◌, ◌<◌, ◌≤◌, List, [], ◌++◌, length, take, Option, None, Result, Ok, Err, refl, sym, ap, subst, arith, append-nil, append_assoc, length-append, inl, inr}
use Rattle.std.proofs.Math.Seq.{take-length}
use Rattle.actor_ports.specs.declared.port.PortError.{PortError}
use Rattle.actor_ports.specs.declared.port.PortError.TheVariants as ports
use Rattle.actor_ports.specs.Traffic.{Traffic}
use Rattle.http_edge.specs.Carry.{Carried, nothing, IsFront, Over, AtEnd, Writes}
use Rattle.http_edge.proofs.Carried.{over_nothing, over_then, end_told, told_along}
use Rattle.frame_wire.specs.declared.frame.Frame.{Frame}
use Rattle.exchanges.specs.declared.frame_end.FrameEnd.{FrameEnd}
use Rattle.exchanges.specs.declared.frame_end.FrameEnd.TheVariants.{NoFrame, ConnFault, OutOfMemory}
use Rattle.std.specs.Int.{w32, from_be_bytes}
use Rattle.frame_wire.specs.Streams.{look, end_look}
use Rattle.exchanges.specs.declared.front.Front.TheVariants as fronts
use Rattle.exchanges.proofs.Fronts.{whole_short, whole_filled, same_len, look_more}
use Rattle.exchanges.specs.FrameExchanges.{BeginsWith, IsNoFrame, ReadsFrame, ExchangesFrame, end_of}

-- bytes that were read
abbrev pub came : List ℕ → Carried
came got = record { read = got; written = [] }

abbrev pub Fills : List ℕ → List ℕ → Option Traffic → Option Traffic → Type 0
Fills old new a b = (got : List ℕ) × (new ≡ old ++ got) × Over a b (came got)

pub fills_none : (old : List ℕ) (a : Option Traffic) → Fills old old a a
fills_none old a = ([], sym (append-nil old), over_nothing a)

pub fills_then : (x y z : List ℕ) (a b d : Option Traffic) → Fills x y a b → (got : List ℕ) → z ≡ y ++ got → Over b d (came got) → Fills x z a d
fills_then x y z a b d f got e o = (f.0 ++ got, e ∙ (ap (λ (xs : List ℕ). xs ++ got) f.1 ∙ append_assoc x f.0 got), over_then a b d (came f.0) (came got) f.2 o)

-- an error of the connection or of memory says nothing of the bytes
pub reads_err : (e : PortError) (bytes : List ℕ) (a b : Option Traffic) → ReadsFrame bytes a b (Err (end_of e))
reads_err ports.Failed bytes a b = tt
reads_err ports.OutOfMemory bytes a b = tt

-- the input's end is still there before the last read
no_frame_along : (bytes got : List ℕ) (a b d : Option Traffic) (at : ℕ) → Over a b (came got) → IsNoFrame bytes b d at → IsNoFrame bytes a d at
no_frame_along bytes got a b d at o n = elim n [ inl f ↦ inl f | inr m ↦ inr (m.0, m.1, end_told a b d got o m.2) ]

pub reads_along : (bytes got : List ℕ) (a b d : Option Traffic) (r : Result Frame FrameEnd) → Over a b (came got) → ReadsFrame bytes b d r → ReadsFrame bytes a d r
reads_along bytes got a b d (Ok f) o h = h
reads_along bytes got a b d (Err (NoFrame at)) o h = no_frame_along bytes got a b d at o h
reads_along bytes got a b d (Err ConnFault) o h = tt
reads_along bytes got a b d (Err OutOfMemory) o h = tt

-- ---- the exchange

sent_part : (a b : Option Traffic) (text : List ℕ) (e : PortError) → Writes {T = Unit {0}} a b text (Err e) → (c : Carried) × Over a b c × ExchangesFrame text c a b (Err (end_of e))
sent_part a b text ports.Failed w = (record { read = []; written = w.0 }, w.2, (w.1, inr refl))
sent_part a b text ports.OutOfMemory w = (nothing, w, (record { count = 0; is = refl }, inr refl))

pub not_sent : (a b : Option Traffic) (text : List ℕ) (e : PortError) (end : FrameEnd) → end ≡ end_of e → Writes {T = Unit {0}} a b text (Err e) → (c : Carried) × Over a b c × ExchangesFrame text c a b (Err end)
not_sent a b text e end is w = subst (λ (x : FrameEnd). (c : Carried) × Over a b c × ExchangesFrame text c a b (Err x)) (sym is) (sent_part a b text e w)

whole_front : (text : List ℕ) → IsFront text text
whole_front text = record { count = length text; is = sym (take-length text) }

pub exchanged : (a b d : Option Traffic) (text read : List ℕ) (r : Result Frame FrameEnd) → Over a b (record { read = []; written = text }) → Over b d (came read) → ReadsFrame read b d r
    → (c : Carried) × Over a d c × ExchangesFrame text c a d r
exchanged a b d text read r w o h =
    let c : Carried = record { read = read; written = text ++ [] } in
    let over : Over a d c = over_then a b d (record { read = []; written = text }) (came read) w o in
    (record { read = read; written = text }, subst (λ (xs : List ℕ). Over a d (record { read = read; written = xs })) (append-nil text) over, gives r h)
  where
    at_end : AtEnd b d → AtEnd a d
    at_end e = told_along a b d (record { read = []; written = text }) w e

    gives : (r : Result Frame FrameEnd) → ReadsFrame read b d r → ExchangesFrame text (record { read = read; written = text }) a d r
    gives (Ok f) h = (refl, h)
    gives (Err (NoFrame at)) h = (refl, elim h [ inl f ↦ inl f | inr m ↦ inr (m.0, m.1, at_end m.2) ])
    gives (Err ConnFault) h = (whole_front text, inl refl)
    gives (Err OutOfMemory) h = (whole_front text, inl refl)

-- ---- one frame read

-- five bytes had come, and now all that their length says
pub rest_whole : (old new : List ℕ) (total : ℕ) (f : Frame) (a b : Option Traffic) → 4 ≤ length old → total ≡ 4 + from_be_bytes w32 (take 4 old) → Fills old new a b → length new ≤ total → BeginsWith new (fronts.Whole f)
    → (got : List ℕ) × Over a b (came got) × ReadsFrame (old ++ got) a b (Ok f)
rest_whole old new total f a b long is fills few begins =
    let t : total ≡ 4 + from_be_bytes w32 (take 4 new) = is ∙ ap (λ (n : ℕ). 4 + n) (sym (ap (λ (xs : List ℕ). from_be_bytes w32 (take 4 xs)) fills.1 ∙ same_len old fills.0 long)) in
    let w = whole_filled new total f begins t few in
    (fills.0, fills.2, (w.0, sym fills.1 ∙ w.1))

-- the input ended inside the frame
pub rest_more : (old new : List ℕ) (total at : ℕ) (a b : Option Traffic) → 4 ≤ length old → total ≡ 4 + from_be_bytes w32 (take 4 old) → Fills old new a b → (length new < total → AtEnd a b) → BeginsWith new fronts.More → at ≡ length new
    → (got : List ℕ) × Over a b (came got) × IsNoFrame (old ++ got) a b at
rest_more old new total at a b long is fills short begins here =
    let t : total ≡ 4 + from_be_bytes w32 (take 4 new) = is ∙ ap (λ (n : ℕ). 4 + n) (sym (ap (λ (xs : List ℕ). from_be_bytes w32 (take 4 xs)) fills.1 ∙ same_len old fills.0 long)) in
    let l : length new ≡ length old + length fills.0 = ap (λ (xs : List ℕ). length xs) fills.1 ∙ length-append old fills.0 in
    let m = look_more 0 new (omega arith) begins in (
      fills.0,
      fills.2,
      inr (subst (λ (xs : List ℕ). look 0 xs ≡ end_look None) fills.1 begins, here ∙ ap (λ (xs : List ℕ). length xs) fills.1, short (omega arith)),
    )

-- the frame was whole with its fifth byte
pub first_whole : (old new : List ℕ) (f : Frame) (a b : Option Traffic) → old ≡ [] → Fills old new a b → length new ≤ 5 → BeginsWith new (fronts.Whole f)
    → (got : List ℕ) × Over a b (came got) × ReadsFrame got a b (Ok f)
first_whole old new f a b none fills few begins =
    let w = whole_short new f begins few in
    let same : new ≡ fills.0 = fills.1 ∙ ap (λ (xs : List ℕ). xs ++ fills.0) none in
    (fills.0, fills.2, (w.0, sym same ∙ w.1))

-- the first bytes, and then the rest
pub then_rest : (old bytes : List ℕ) (a b d : Option Traffic) (r : Result Frame FrameEnd) → old ≡ [] → Fills old bytes a b → ((got : List ℕ) × Over b d (came got) × ReadsFrame (bytes ++ got) b d r)
    → (x : List ℕ) × Over a d (came x) × ReadsFrame x a d r
then_rest old bytes a b d r none fills y =
    let same : bytes ≡ fills.0 = fills.1 ∙ ap (λ (xs : List ℕ). xs ++ fills.0) none in (
      fills.0 ++ y.0,
      over_then a b d (came fills.0) (came y.0) fills.2 y.1,
      subst (λ (xs : List ℕ). ReadsFrame (xs ++ y.0) a d r) same (reads_along (bytes ++ y.0) fills.0 a b d r fills.2 y.2),
    )
