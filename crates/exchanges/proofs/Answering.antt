-- What was read is an answer to what was sent, or has none.
use Rattle.std.proofs.Common.{◌≡◌, ◌≢◌, ◌<◌, ◌∙◌, ℕ, Bool, true, false, List, [], ◌++◌, Option, Result, Ok, Err, refl, sym, ap, subst, inl, inr}
use Rattle.actor_ports.specs.Traffic.{Traffic}
use Rattle.http_edge.specs.Carry.{Carried}
use Rattle.frame_wire.specs.declared.frame.Frame.{Frame}
use Rattle.frame_wire.specs.declared.frame.Frame.TheVariants.{Answer}
use Rattle.frame_wire.specs.declared.store_answer.StoreAnswer.{StoreAnswer}
use Rattle.frame_wire.specs.Frames.{frame_bytes, IsFrame}
use Rattle.frame_wire.specs.Laws.{ReadsSpelling, NoPrefix}
use Rattle.exchanges.specs.declared.frame_end.FrameEnd.{FrameEnd}
use Rattle.exchanges.specs.declared.frame_end.FrameEnd.TheVariants as ends
use Rattle.exchanges.specs.FrameExchanges.{IsNoFrame, ExchangesFrame, EndCause}
use Rattle.exchanges.proofs.NoFrames.{no_frame_alone, not_spelled}
use Rattle.exchanges.specs.declared.store_end.StoreEnd.TheVariants.{Fault, Unreadable}
use Rattle.exchanges.specs.Asked.{Got, HasNoAnswer, FrameCarries, answers, fitting, answer_in}

-- ---- bytes that are no frame

no_frame_answers : ReadsSpelling → (asked : Frame) (bytes : List ℕ) (a b : Option Traffic) (at : ℕ) → IsNoFrame bytes a b at → HasNoAnswer asked bytes
no_frame_answers reads asked bytes a b at n answer has = not_spelled reads (Answer answer) has.frame bytes a b at n (sym has.is)

-- ---- bytes that are a frame

same_frame : NoPrefix → (f g : Frame) → IsFrame f → IsFrame g → frame_bytes f ≡ frame_bytes g → f ≡ g
same_frame one f g fits also is = (one f g [] [] fits also (ap (λ (bytes : List ℕ). bytes ++ []) is)).0

-- a frame that is no answer
other_answers : NoPrefix → (asked : Frame) (bytes : List ℕ) (f : Frame) → ((a : StoreAnswer) → f ≢ Answer a) → IsFrame f → bytes ≡ frame_bytes f → HasNoAnswer asked bytes
other_answers one asked bytes f other fits is answer has = other answer (same_frame one f (Answer answer) fits has.frame (sym is ∙ has.is))

abbrev answer_of : Frame → StoreAnswer → StoreAnswer
answer_of (Answer a) d = a
answer_of f d = d

-- an answer that doesn't fit
unfitting_answers : NoPrefix → (asked : Frame) (bytes : List ℕ) (a : StoreAnswer) → answers asked a ≡ false → IsFrame (Answer a) → bytes ≡ frame_bytes (Answer a) → HasNoAnswer asked bytes
unfitting_answers one asked bytes a bad fits is answer has =
    let e = ap (λ (f : Frame). answer_of f a) (same_frame one (Answer a) (Answer answer) fits has.frame (sym is ∙ has.is)) in
    let h : true ≡ false = sym has.fits ∙ (ap (answers asked) (sym e) ∙ bad) in
    absurd (let k : ⊥ = cc in k)

-- ---- the exchange

unread : (asked f : Frame) (c : Carried) → c.written ≡ frame_bytes asked → IsFrame f → c.read ≡ frame_bytes f → HasNoAnswer asked c.read → FrameCarries asked c (Err Unreadable)
unread asked f c wrote fits is none = (wrote, inl (f, fits, is), none)

fitting_carries : NoPrefix → (asked : Frame) (a : StoreAnswer) (c : Carried) (fits : Bool) → answers asked a ≡ fits → c.written ≡ frame_bytes asked → IsFrame (Answer a) → c.read ≡ frame_bytes (Answer a) → FrameCarries asked c (fitting fits a)
fitting_carries one asked a c true is wrote frame read = (wrote, record { frame = frame; is = read; fits = is })
fitting_carries one asked a c false is wrote frame read = unread asked (Answer a) c wrote frame read (unfitting_answers one asked c.read a is frame read)

carries_frame : NoPrefix → (asked f : Frame) (c : Carried) → c.written ≡ frame_bytes asked → IsFrame f → c.read ≡ frame_bytes f → FrameCarries asked c (answer_in asked (Ok f))
carries_frame one asked (Answer a) c wrote fits read = fitting_carries one asked a c (answers asked a) refl wrote fits read
carries_frame one asked f c wrote fits read = unread asked f c wrote fits read (other_answers one asked c.read f (λ a e. let h : ⊥ = cc in h) fits read)

carries : ReadsSpelling → NoPrefix → (asked : Frame) (c : Carried) (a b : Option Traffic) (got : Result Frame FrameEnd) → ExchangesFrame (frame_bytes asked) c a b got → FrameCarries asked c (answer_in asked got)
carries reads one asked c a b (Ok f) x = carries_frame one asked f c x.0 x.1.0 x.1.1
carries reads one asked c a b (Err (ends.NoFrame at)) x = (x.0, inr (at, no_frame_alone c.read a b at x.1), no_frame_answers reads asked c.read a b at x.1)
carries reads one asked c a b (Err ends.ConnFault) x = x
carries reads one asked c a b (Err ends.OutOfMemory) x = x

-- ---- faults

fitting_rises : (fits : Bool) (a : StoreAnswer) → fitting fits a ≡ Err Fault → ⊥
fitting_rises true a e = let h : ⊥ = cc in h
fitting_rises false a e = let h : ⊥ = cc in h

frame_rises : (asked f : Frame) → answer_in asked (Ok f) ≡ Err Fault → ⊥
frame_rises asked (Answer a) e = fitting_rises (answers asked a) a e
frame_rises asked f e = let h : ⊥ = cc in h

-- a fault is one of the link
fault_rises : (asked : Frame) (got : Result Frame FrameEnd) (before after : ℕ) → EndCause before after got → answer_in asked got ≡ Err Fault → before < after
fault_rises asked (Ok f) before after cause e = absurd (frame_rises asked f e)
fault_rises asked (Err (ends.NoFrame at)) before after cause e = absurd (let h : ⊥ = cc in h)
fault_rises asked (Err ends.ConnFault) before after cause e = cause
fault_rises asked (Err ends.OutOfMemory) before after cause e = absurd (let h : ⊥ = cc in h)

-- ---- the same, if the text and the answer go by other names

pub asked_carries : ReadsSpelling → NoPrefix → (asked : Frame) (text : List ℕ) (c : Carried) (a b : Option Traffic) (got : Result Frame FrameEnd) (answer : Got)
    → text ≡ frame_bytes asked → answer ≡ answer_in asked got → ExchangesFrame text c a b got → FrameCarries asked c answer
asked_carries reads one asked text c a b got answer is by x =
    subst (λ (r : Got). FrameCarries asked c r) (sym by) (carries reads one asked c a b got (subst (λ (t : List ℕ). ExchangesFrame t c a b got) is x))

pub asked_rises : (asked : Frame) (got : Result Frame FrameEnd) (before after : ℕ) (answer : Got) → answer ≡ answer_in asked got → EndCause before after got → answer ≡ Err Fault → before < after
asked_rises asked got before after answer by cause e = fault_rises asked got before after cause (sym by ∙ e)
