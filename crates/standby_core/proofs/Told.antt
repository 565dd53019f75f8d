-- What goes over a link to a standby adds up.
use Rattle.std.proofs.Common.{◌≡◌, ◌≢◌, ◌∙◌, ◌↔◌, inr, ℕ, suc, ◌+◌, ◌<◌, Bool, true, false, IsTrue, List, [], ◌∷◌, ◌++◌, length, Option, Result, Ok, Err, refl, sym, ap, subst, arith, append-nil, append_assoc}
use Rattle.std.proofs.Math.Seq.{take-length}
use Rattle.std.specs.Prelude.{Decides, bytes_eq}
use Rattle.actor_ports.specs.declared.port.PortError.{PortError}
use Rattle.actor_ports.specs.declared.port.PortError.TheVariants.{Failed, OutOfMemory}
use Rattle.actor_ports.specs.Traffic.{Traffic}
use Rattle.http_edge.specs.Carry.{Over, IsFront, Writes}
use Rattle.http_edge.proofs.Carried.{over_nothing, over_then}
use Rattle.wire_fields.specs.Fields.{number32, number64}
use Rattle.frame_wire.specs.Frames.{payload}
use Rattle.frame_wire.specs.declared.mirror.MirrorCommand.{MirrorCommand}
use Rattle.frame_wire.specs.declared.mirror.MirrorCommand.TheVariants.{Cut}
use Rattle.frame_wire.specs.Mirrors.{MirrorFits}
use Rattle.standby_core.specs.Telling.{call_bytes, calls_bytes, done_bytes, dones_bytes, AreDone, IsLost, Asks}
use Rattle.standby_core.specs.Asking.{HearsOther, Hears, IsUnanswered, IsAsked}

-- ---- the answer that a call was done

pub done_is : done_bytes ≡ 0 ∷ 0 ∷ 0 ∷ 1 ∷ 67 ∷ []
unfolding payload number32
done_is = refl

pub done_length : length done_bytes ≡ 5
done_length = ap length done_is

-- fewer bytes are no such answer
pub short_other : (got : List ℕ) → length got < 5 → got ≢ done_bytes
short_other got short is = let size : length got ≡ 5 = ap length is ∙ done_length in absurd (let k : ⊥ = omega (arith, size, short) in k)

pub nothing_other : [] ≢ done_bytes
nothing_other = short_other [] (omega arith)

-- ---- parts of a text

pub whole_front : (text : List ℕ) → IsFront text text
whole_front text = record { count = length text; is = sym (take-length text) }

pub no_front : (text : List ℕ) → IsFront [] text
no_front text = record { count = 0; is = refl }

pub over_as : (a d : Option Traffic) (r s w x : List ℕ) → r ≡ s → w ≡ x → Over a d (record { read = r; written = w }) → Over a d (record { read = s; written = x })
over_as a d r s w x e f o = subst (λ (l : List ℕ). Over a d (record { read = l; written = x })) e (subst (λ (l : List ℕ). Over a d (record { read = r; written = l })) f o)

-- ---- an answer that is read

abbrev pub Fills : List ℕ → List ℕ → Option Traffic → Option Traffic → Type 0
Fills old new a b = (got : List ℕ) × (new ≡ old ++ got) × Over a b (record { read = got; written = [] })

pub hears_err : (bytes old : List ℕ) (a b : Option Traffic) (e : PortError) → old ≡ [] → Fills old bytes a b → length bytes < 5 → Hears a b (Err e)
hears_err bytes old a b e empty f short =
    let same : bytes ≡ f.0 = f.1 ∙ ap (λ (l : List ℕ). l ++ f.0) empty in
    (f.0, short_other f.0 (subst (λ (l : List ℕ). length l < 5) same short), f.2)

-- ---- a text that is sent, and its answer

unanswered : (a b d : Option Traffic) (text : List ℕ) → Over a b (record { read = []; written = text }) → HearsOther b d → IsUnanswered text a d
unanswered a b d text o h =
    (text, h.0, whole_front text, h.1, over_as a d ([] ++ h.0) h.0 (text ++ []) text refl (append-nil text) (over_then a b d (record { read = []; written = text }) (record { read = h.0; written = [] }) o h.2))

pub asked_then : (a b d : Option Traffic) (text : List ℕ) (r : Result Bool PortError) → Over a b (record { read = []; written = text }) → Hears b d r → IsAsked text a d r
asked_then a b d text (Ok true) o h =
    over_as a d ([] ++ done_bytes) done_bytes (text ++ []) text refl (append-nil text) (over_then a b d (record { read = []; written = text }) (record { read = done_bytes; written = [] }) o h)
asked_then a b d text (Ok false) o h = unanswered a b d text o h
asked_then a b d text (Err e) o h = unanswered a b d text o h

pub not_sent : (a b : Option Traffic) (text : List ℕ) (e : PortError) → Writes {T = Unit {0}} a b text (Err e) → IsAsked text a b (Err e)
not_sent a b text Failed w = (w.0, [], w.1, nothing_other, w.2)
not_sent a b text OutOfMemory w = ([], [], no_front text, nothing_other, w)

-- ---- calls

pub calls_more : (cs ds : List MirrorCommand) → calls_bytes (cs ++ ds) ≡ calls_bytes cs ++ calls_bytes ds
calls_more [] ds = refl
calls_more (c ∷ cs) ds = ap (λ (l : List ℕ). call_bytes c ++ l) (calls_more cs ds) ∙ sym (append_assoc (call_bytes c) (calls_bytes cs) (calls_bytes ds))

pub dones_more : (cs ds : List MirrorCommand) → dones_bytes (cs ++ ds) ≡ dones_bytes cs ++ dones_bytes ds
dones_more [] ds = refl
dones_more (c ∷ cs) ds = ap (λ (l : List ℕ). done_bytes ++ l) (dones_more cs ds) ∙ sym (append_assoc done_bytes (dones_bytes cs) (dones_bytes ds))

pub none_done : (a : Option Traffic) → AreDone [] a a
none_done a = over_nothing a

pub done_more : (cs ds : List MirrorCommand) (a b d : Option Traffic) → AreDone cs a b → AreDone ds b d → AreDone (cs ++ ds) a d
done_more cs ds a b d o p =
    over_as a d (dones_bytes cs ++ dones_bytes ds) (dones_bytes (cs ++ ds)) (calls_bytes cs ++ calls_bytes ds) (calls_bytes (cs ++ ds)) (sym (dones_more cs ds)) (sym (calls_more cs ds))
    (over_then a b d (record { read = dones_bytes cs; written = calls_bytes cs }) (record { read = dones_bytes ds; written = calls_bytes ds }) o p)

pub lost_more : (cs ds : List MirrorCommand) (last : MirrorCommand) (a b d : Option Traffic) → AreDone cs a b → IsLost ds last b d → IsLost (cs ++ ds) last a d
lost_more cs ds last a b d o l =
    let front : List ℕ = l.0 in
    let got : List ℕ = l.1 in
    let read : dones_bytes cs ++ (dones_bytes ds ++ got) ≡ dones_bytes (cs ++ ds) ++ got = sym (append_assoc (dones_bytes cs) (dones_bytes ds) got) ∙ ap (λ (x : List ℕ). x ++ got) (sym (dones_more cs ds)) in
    let wrote : calls_bytes cs ++ (calls_bytes ds ++ front) ≡ calls_bytes (cs ++ ds) ++ front = sym (append_assoc (calls_bytes cs) (calls_bytes ds) front) ∙ ap (λ (x : List ℕ). x ++ front) (sym (calls_more cs ds)) in
    (front, got, l.2, l.3, over_as a d _ _ _ _ read wrote (over_then a b d (record { read = dones_bytes cs; written = calls_bytes cs }) (record { read = dones_bytes ds ++ got; written = calls_bytes ds ++ front }) o l.4))

-- ---- one call

-- a call that couldn't be sent
pub asks_lost : (call : MirrorCommand) (a : Option Traffic) (u v : ℕ) → v ≡ suc u → Asks call a a u v (Err Failed)
asks_lost call a u v is = (([], [], no_front (call_bytes call), nothing_other, over_nothing a), inr is)

pub asks_lost_as : (call : MirrorCommand) (a b : Option Traffic) (u v : ℕ) (e : PortError) → e ≡ Failed → b ≡ a → v ≡ u + 1 → Asks call a b u v (Err e)
asks_lost_as call a b u v e failed same counted =
    let more : v ≡ suc u = omega (arith, counted) in
    subst (λ (x : PortError). Asks call a b u v (Err x)) (sym failed) (subst (λ (t : Option Traffic). Asks call a t u v (Err Failed)) (sym same) (asks_lost call a u v more))

-- ---- frames

pub cut_fits : (n : ℕ) → n < 18446744073709551616 → MirrorFits (Cut n)
unfolding number64
cut_fits n fits = fits

-- ---- comparing bytes

pub done_decides : (bytes five : List ℕ) → five ≡ 0 ∷ 0 ∷ 0 ∷ 1 ∷ 67 ∷ [] → Decides (bytes_eq bytes five) (bytes ≡ five) → (b : Bool) → b ≡ bytes_eq bytes five → IsTrue b ↔ (bytes ≡ done_bytes)
done_decides bytes five is decides b same =
    let all : five ≡ done_bytes = is ∙ sym done_is in
    ((λ h. decides.0 (sym same ∙ h) ∙ all), (λ h. same ∙ decides.1 (h ∙ sym all)))
