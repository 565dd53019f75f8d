-- How a standby's disk gets the bytes of another.
use Rattle.std.proofs.Common.{◌≡◌, ◌∙◌, inl, inr, ℕ, ◌+◌, ◌-◌, ◌≤◌, ◌<◌, List, [], ◌∷◌, ◌++◌, length, take, drop, Option, Some, None, Result, Ok, Err, refl, sym, ap, subst, arith, append-nil, append_assoc, length-append, length-take, length-drop}
use Rattle.std.specs.Prelude.{slice_index_or, IfErr, OnOk}
use Rattle.std.proofs.lemmas.List.{take-append-drop, drop-drop}
use Rattle.actor_ports.specs.declared.port.PortError.{PortError}
use Rattle.actor_ports.specs.declared.port.PortError.TheVariants.{Failed, OutOfMemory}
use Rattle.actor_ports.specs.Port.{Appends}
use Rattle.actor_ports.specs.Traffic.{Traffic}
use Rattle.disk_model.specs.Disk.{DiskState, Reads}
use Rattle.frame_wire.specs.Mirrors.{most_piece}
use Rattle.frame_wire.specs.declared.mirror.MirrorCommand.{MirrorCommand}
use Rattle.frame_wire.specs.declared.mirror.MirrorCommand.TheVariants.{Write, Cut, Sync}
use Rattle.standby_core.specs.Replicas.{ArePieces, opening_calls, attach_calls, first_of, first_call}
use Rattle.standby_core.specs.Telling.{AreDone, IsLost, Asks}
use Rattle.standby_core.specs.Mirrors.{IsWrite}
use Rattle.standby_core.specs.Attaching.{ReadsAs, Attaches, SomeLost, AttachCause, ReadsRest, ReadsFirst, SendsBehind}
use Rattle.standby_core.proofs.Told.{none_done, done_more, lost_more}
use Rattle.standby_core.proofs.Mirrored.{pieces_push}

-- ---- why it ends

lost_behind : (cs : List MirrorCommand) (last : MirrorCommand) (a b d : Option Traffic) → AreDone cs a b → IsLost [] last b d → SomeLost a d
lost_behind cs last a b d o l = (cs ++ [], last, lost_more cs [] last a b d o l)

some_behind : (cs : List MirrorCommand) (a b d : Option Traffic) → AreDone cs a b → SomeLost b d → SomeLost a d
some_behind cs a b d o l = (cs ++ l.0, l.1, lost_more cs l.0 l.1 a b d o l.2)

-- a call was lost behind those that were done
pub cause_tell : (cs : List MirrorCommand) (call : MirrorCommand) (a b d : Option Traffic) (d0 d1 l0 l1 u v : ℕ) (e : PortError) → AreDone cs a b → Asks call b d u v (Err e) → AttachCause d0 d1 l0 l1 a d e
cause_tell cs call a b d d0 d1 l0 l1 u v Failed o h = inr (inr (lost_behind cs call a b d o h.0))
cause_tell cs call a b d d0 d1 l0 l1 u v OutOfMemory o h = tt

-- it ended behind calls that were done
pub cause_behind : (cs : List MirrorCommand) (a b d : Option Traffic) (d0 d1 d2 l0 l1 l2 : ℕ) (e : PortError) → AreDone cs a b → d0 ≤ d1 → l0 ≤ l1 → AttachCause d1 d2 l1 l2 b d e → AttachCause d0 d2 l0 l2 a d e
cause_behind cs a b d d0 d1 d2 l0 l1 l2 Failed o p q h = elim h [
  | inl x ↦ inl (omega (arith, p, x))
  | inr y ↦ elim y [
    | inl z ↦ inr (inl (omega (arith, q, z)))
    | inr w ↦ inr (inr (some_behind cs a b d o w))
  ]
]
cause_behind cs a b d d0 d1 d2 l0 l1 l2 OutOfMemory o p q h = tt

-- the same of a result
pub cause_err : (r : Result (Unit {0}) PortError) (e x : PortError) (d0 d1 l0 l1 : ℕ) (a b : Option Traffic) → r ≡ Err e → e ≡ x → AttachCause d0 d1 l0 l1 a b x → IfErr r (λ (y : PortError). AttachCause d0 d1 l0 l1 a b y)
cause_err r e x d0 d1 l0 l1 a b is same h =
    subst (λ (q : Result (Unit {0}) PortError). IfErr q (λ (y : PortError). AttachCause d0 d1 l0 l1 a b y)) (sym is) (subst (λ (y : PortError). AttachCause d0 d1 l0 l1 a b y) (sym same) h)

pub cause_last : (cs : List MirrorCommand) (call : MirrorCommand) (a b d : Option Traffic) (d0 d1 l0 l1 u v : ℕ) (r : Result (Unit {0}) PortError) → AreDone cs a b → Asks call b d u v r → IfErr r (λ (y : PortError). AttachCause d0 d1 l0 l1 a d y)
cause_last cs call a b d d0 d1 l0 l1 u v (Ok x) o h = tt
cause_last cs call a b d d0 d1 l0 l1 u v (Err e) o h = cause_tell cs call a b d d0 d1 l0 l1 u v e o h

-- ---- the standby's disk is opened

pub opened_all : (a b c d : Option Traffic) (u v : ℕ) (r : Result (Unit {0}) PortError) → AreDone (Cut 0 ∷ []) a b → AreDone (Write 0 (0 ∷ []) ∷ []) b c → Asks Sync c d u v r → OnOk r (AreDone (opening_calls []) a d)
opened_all a b c d u v (Ok x) one two h = done_more (Cut 0 ∷ Write 0 (0 ∷ []) ∷ []) (Sync ∷ []) a c d (done_more (Cut 0 ∷ []) (Write 0 (0 ∷ []) ∷ []) a b c one two) h.0
opened_all a b c d u v (Err e) one two h = tt

-- ---- the bytes from the second on

pieces_extend : (at : ℕ) (bytes : List ℕ) (calls : List MirrorCommand) (rest more : List ℕ) → ArePieces at bytes calls rest → ArePieces at (bytes ++ more) calls (rest ++ more)
pieces_extend at bytes [] rest more is = ap (λ (l : List ℕ). l ++ more) is
pieces_extend at bytes (Write place new ∷ calls) rest more is =
    let left : List ℕ = is.2.0 in
    (is.0, is.1, (left ++ more, ap (λ (l : List ℕ). l ++ more) is.2.1 ∙ append_assoc new left more, pieces_extend (at + length new) left calls rest more is.2.2))
pieces_extend at bytes (Cut len ∷ calls) rest more is = absurd is
pieces_extend at bytes (Sync ∷ calls) rest more is = absurd is

abbrev pub ReadsSoFar : Option DiskState → List ℕ → ℕ → Type 0
ReadsSoFar None got at = Unit {0}
ReadsSoFar (Some d) got at = drop 1 d.bytes ≡ got ++ drop at d.bytes

-- how far the bytes were sent: those before `at`
pub record SentTo (told : Option DiskState) (at : ℕ) (a b : Option Traffic) : Type 0 where
  pub got : List ℕ
  pub calls : List MirrorCommand
  pub pieces : ArePieces 1 got calls []
  pub done : AreDone calls a b
  pub place : at ≡ 1 + length got
  pub reads : ReadsSoFar told got at

pub sent_to_none : (told : Option DiskState) (a : Option Traffic) → SentTo told 1 a a
sent_to_none told a = record { got = []; calls = []; pieces = refl; done = none_done a; place = refl; reads = here told }
  where
    here : (x : Option DiskState) → ReadsSoFar x [] 1
    here None = tt
    here (Some d) = refl

reads_more : (told : Option DiskState) (got piece : List ℕ) (at n most : ℕ) → ReadsSoFar told got at → length piece ≡ n → ((d : DiskState) → told ≡ Some d → piece ≡ take most (drop at d.bytes)) → ((d : DiskState) → told ≡ Some d → most ≤ length (drop at d.bytes)) → ReadsSoFar told (got ++ piece) (at + n)
reads_more None got piece at n most so size is enough = tt
reads_more (Some d) got piece at n most so size is enough =
    let cut : piece ≡ take most (drop at d.bytes) = is d refl in
    let long : length piece ≡ most = let e : length piece ≡ length (take most (drop at d.bytes)) = ap length cut in omega (arith, e, length-take most (drop at d.bytes), enough d refl) in
    let same : most ≡ n = sym long ∙ size in
    let behind : drop at d.bytes ≡ piece ++ drop (at + n) d.bytes =
    sym (take-append-drop most (drop at d.bytes))
    ∙ ap (λ (l : List ℕ). l ++ drop most (drop at d.bytes)) (sym cut)
    ∙ ap (λ (l : List ℕ). piece ++ l) (drop-drop most at d.bytes ∙ ap (λ (m : ℕ). drop (at + m) d.bytes) same) in
    so ∙ ap (λ (l : List ℕ). got ++ l) behind ∙ sym (append_assoc got piece (drop (at + n) d.bytes))

pub sent_to_more : (told : Option DiskState) (at n most : ℕ) (piece : List ℕ) (a b d : Option Traffic) → SentTo told at a b → length piece ≡ n → n ≤ most_piece → ((s : DiskState) → told ≡ Some s → piece ≡ take most (drop at s.bytes)) → ((s : DiskState) → told ≡ Some s → most ≤ length (drop at s.bytes)) → AreDone (Write at piece ∷ []) b d → SentTo told (at + n) a d
sent_to_more told at n most piece a b d s size short is enough o =
    let there : 1 + length s.got ≡ at = sym s.place in
    let long : length (s.got ++ piece) ≡ length s.got + length (piece ++ []) = let e : length (piece ++ []) ≡ length piece = ap length (append-nil piece) in omega (arith, length-append s.got piece, e) in
    let few : length piece ≤ most_piece = subst (λ (m : ℕ). m ≤ most_piece) (sym size) short in
    let extended : ArePieces 1 (s.got ++ piece) s.calls (piece ++ []) = subst (λ (l : List ℕ). ArePieces 1 (s.got ++ piece) s.calls l) (sym (append-nil piece)) (pieces_extend 1 s.got s.calls [] piece s.pieces) in
    let pushed = pieces_push 1 (s.got ++ piece) s.calls piece [] (length s.got) extended few long in
    record {
      got = s.got ++ piece;
      calls = s.calls ++ Write at piece ∷ [];
      pieces = subst (λ (m : ℕ). ArePieces 1 (s.got ++ piece) (s.calls ++ Write m piece ∷ []) []) there pushed;
      done = done_more s.calls (Write at piece ∷ []) a b d s.done o;
      place = omega (arith, length-append s.got piece, s.place, size);
      reads = reads_more told s.got piece at n most s.reads size is enough;
    }

-- ---- a piece that was read

pub read_piece : (before after s : List ℕ) (n : ℕ) → before ≡ [] → Appends before after (Ok n) → s ≡ after → length s ≡ n
read_piece before after s n empty a same = ap length (same ∙ a.2 ∙ ap (λ (l : List ℕ). l ++ a.0) empty) ∙ a.1

pub read_is : (at most n : ℕ) (before after s : List ℕ) (d : DiskState) → before ≡ [] → Reads at most before after (Ok n) d → s ≡ after → s ≡ take most (drop at d.bytes)
read_is at most n before after s d empty r same = same ∙ r.1 ∙ ap (λ (l : List ℕ). l ++ take most (drop at d.bytes)) empty

pub enough_left : (at most len : ℕ) (d : DiskState) → len ≡ length d.bytes → most ≤ len - at → most ≤ length (drop at d.bytes)
enough_left at most len d is few = omega (arith, is, few, length-drop at d.bytes)

-- ---- the first byte

pub first_none : (told : Option DiskState) (items s : List ℕ) (n : ℕ) → ((d : DiskState) → told ≡ Some d → Reads 0 1 [] items (Ok n) d) → s ≡ items → length s < 1 → ReadsFirst told None
first_none None items s n r same few = tt
first_none (Some d) items s n r same few = go d.bytes (r d refl).1
  where
    go : (l : List ℕ) → items ≡ [] ++ take 1 (drop 0 l) → None ≡ first_of l
    go [] is = refl
    go (b ∷ l) is = let e : length s ≡ 1 = ap length (same ∙ is) in absurd (let k : ⊥ = omega (arith, e, few) in k)

pub first_some : (told : Option DiskState) (items s : List ℕ) (n : ℕ) → ((d : DiskState) → told ≡ Some d → Reads 0 1 [] items (Ok n) d) → s ≡ items → 1 ≤ length s → ReadsFirst told (Some (slice_index_or s 0 0))
first_some None items s n r same some = tt
first_some (Some d) items s n r same some = go d.bytes (r d refl).1
  where
    go : (l : List ℕ) → items ≡ [] ++ take 1 (drop 0 l) → Some (slice_index_or s 0 0) ≡ first_of l
    go [] is = let e : length s ≡ 0 = ap length (same ∙ is) in absurd (let k : ⊥ = omega (arith, e, some) in k)
    go (b ∷ l) is = ap (λ (x : List ℕ). Some (slice_index_or x 0 0)) (same ∙ is)

-- ---- all of it

whole_read : (told : Option DiskState) (rest : List ℕ) (first : Option ℕ) → ReadsRest told rest → ReadsFirst told first → (first ≡ None → rest ≡ []) → (bytes : List ℕ) × ReadsAs told bytes × (first ≡ first_of bytes) × (rest ≡ drop 1 bytes)
whole_read None rest None r f none = ([], tt, refl, none refl)
whole_read None rest (Some b) r f none = (b ∷ rest, tt, refl, refl)
whole_read (Some d) rest first r f none = (d.bytes, refl, f, r)

-- the parts of an attach, one after the other
pub attached : (told : Option DiskState) (a b c d e f : Option Traffic) (first : Option ℕ) → ReadsFirst told first → AreDone (opening_calls []) a b → SendsBehind first told b c (Ok tt) → AreDone (Sync ∷ []) c d → AreDone (first_call first ∷ []) d e → AreDone (Sync ∷ []) e f → Attaches told a f
attached told a b c d e f first reads opens sends one set two =
    let pieces : List MirrorCommand = sends.1 in
    let whole = whole_read told sends.0 first sends.2 reads sends.3 in
    let bytes : List ℕ = whole.0 in
    let done = done_more (opening_calls [] ++ pieces ++ Sync ∷ [] ++ first_call first ∷ []) (Sync ∷ []) a e f
    (done_more (opening_calls [] ++ pieces ++ Sync ∷ []) (first_call first ∷ []) a d e
    (done_more (opening_calls [] ++ pieces) (Sync ∷ []) a c d (done_more (opening_calls []) pieces a b c opens sends.5) one) set) two in
    let tail = append_assoc (opening_calls pieces ++ Sync ∷ []) (first_call first ∷ []) (Sync ∷ []) ∙ append_assoc (opening_calls pieces) (Sync ∷ []) (first_call first ∷ Sync ∷ []) in
    let same : opening_calls pieces ++ Sync ∷ first_call first ∷ Sync ∷ [] ≡ attach_calls bytes pieces = ap (λ (x : Option ℕ). opening_calls pieces ++ Sync ∷ first_call x ∷ Sync ∷ []) whole.2 in
    (bytes, attach_calls bytes pieces, whole.1, (pieces, subst (λ (l : List ℕ). IsWrite 1 l pieces) whole.3 sends.4, refl), subst (λ (cs : List MirrorCommand). AreDone cs a f) (tail ∙ same) done)

pub attached_by : (told : Option DiskState) (a b c d e f : Option Traffic) (first : Option ℕ) (u v : ℕ) (r : Result (Unit {0}) PortError) → ReadsFirst told first → AreDone (opening_calls []) a b → SendsBehind first told b c (Ok tt) → AreDone (Sync ∷ []) c d → AreDone (first_call first ∷ []) d e → Asks Sync e f u v r → OnOk r (Attaches told a f)
attached_by told a b c d e f first u v (Ok x) reads opens sends one set h = attached told a b c d e f first reads opens sends one set h.0
attached_by told a b c d e f first u v (Err x) reads opens sends one set h = tt
