-- What a mirror's calls do.
use Rattle.std.proofs.Common.{◌≡◌, ◌∙◌, inl, inr, ℕ, ◌+◌, ◌-◌, ◌≤◌, List, [], ◌∷◌, ◌++◌, length, take, drop, Option, Some, Result, Ok, Err, refl, sym, ap, subst, arith, append-nil, length-append}
use Rattle.std.specs.Prelude.{IsErrOf}
use Rattle.std.proofs.lemmas.List.{take-append-drop}
use Rattle.actor_ports.specs.declared.port.PortError.{PortError}
use Rattle.actor_ports.specs.declared.port.PortError.TheVariants.{Failed, OutOfMemory}
use Rattle.actor_ports.specs.Port.{HasCause}
use Rattle.actor_ports.specs.Traffic.{Traffic}
use Rattle.disk_model.specs.Disk.{DiskState, overwritten, Writes, Cuts, Syncs, Tells, IsSpent}
use Rattle.disk_model.proofs.Stages.{torn_overwritten, tells_map, tells_map_at, tells_same}
use Rattle.frame_wire.specs.Mirrors.{most_piece}
use Rattle.frame_wire.specs.declared.mirror.MirrorCommand.{MirrorCommand}
use Rattle.frame_wire.specs.declared.mirror.MirrorCommand.TheVariants.{Write, Cut, Sync}
use Rattle.standby_core.specs.Replicas.{ArePieces}
use Rattle.standby_core.specs.Telling.{AreDone, IsLost, HasLost, MayRise, Asks, AsksAll}
use Rattle.standby_core.specs.Mirrors.{MirrorState, IsOnly, IsWrite, BeginsWrite, IsUntold, Copies}
use Rattle.standby_core.proofs.Told.{none_done, done_more, lost_more}

abbrev Answered : Type 0
Answered = Result (Unit {0}) PortError

-- ---- pieces

pieces_length : (at : ℕ) (bytes : List ℕ) (calls : List MirrorCommand) (rest : List ℕ) → ArePieces at bytes calls rest → length rest ≤ length bytes
pieces_length at bytes [] rest is = let e : length bytes ≡ length rest = ap length is in omega (arith, e)
pieces_length at bytes (Write place new ∷ calls) rest is =
    let more = pieces_length (at + length new) is.2.0 calls rest is.2.2 in
    let e : length bytes ≡ length new + length is.2.0 = ap length is.2.1 ∙ length-append new is.2.0 in
    omega (arith, e, more)
pieces_length at bytes (Cut len ∷ calls) rest is = absurd is
pieces_length at bytes (Sync ∷ calls) rest is = absurd is

-- one more piece
pub pieces_push : (at : ℕ) (bytes : List ℕ) (calls : List MirrorCommand) (b rest : List ℕ) (sent : ℕ) → ArePieces at bytes calls (b ++ rest) → length b ≤ most_piece → length bytes ≡ sent + length (b ++ rest) → ArePieces at bytes (calls ++ Write (at + sent) b ∷ []) rest
pieces_push at bytes [] b rest sent is short size =
    let e : length bytes ≡ length (b ++ rest) = ap length is in
    let here : at + sent ≡ at = omega (arith, e, size) in
    (here, short, (rest, is, refl))
pieces_push at bytes (Write place new ∷ calls) b rest sent is short size =
    let left : List ℕ = is.2.0 in
    let e : length bytes ≡ length new + length left = ap length is.2.1 ∙ length-append new left in
    let more : length (b ++ rest) ≤ length left = pieces_length (at + length new) left calls (b ++ rest) is.2.2 in
    let there : (at + length new) + (length left - length (b ++ rest)) ≡ at + sent = omega (arith, e, more, size) in
    let size' : length left ≡ (length left - length (b ++ rest)) + length (b ++ rest) = omega (arith, more) in
    let pushed = pieces_push (at + length new) left calls b rest (length left - length (b ++ rest)) is.2.2 short size' in
    (is.0, is.1, (left, is.2.1, subst (λ (n : ℕ). ArePieces (at + length new) left (calls ++ Write n b ∷ []) rest) there pushed))
pieces_push at bytes (Cut len ∷ calls) b rest sent is short size = absurd is
pieces_push at bytes (Sync ∷ calls) b rest sent is short size = absurd is

-- ---- the pieces sent so far

pub record Sent (at : ℕ) (bytes rest : List ℕ) (sent : ℕ) (a b : Option Traffic) : Type 0 where
  pub calls : List MirrorCommand
  pub pieces : ArePieces at bytes calls rest
  pub done : AreDone calls a b
  pub size : length bytes ≡ sent + length rest

pub sent_none : (at : ℕ) (bytes : List ℕ) (a : Option Traffic) → Sent at bytes bytes 0 a a
sent_none at bytes a = record { calls = []; pieces = refl; done = none_done a; size = omega arith }

pub sent_more : (at : ℕ) (bytes rest b left : List ℕ) (sent : ℕ) (x y z : Option Traffic) → Sent at bytes rest sent x y → rest ≡ b ++ left → length b ≤ most_piece → AreDone (Write (at + sent) b ∷ []) y z → Sent at bytes left (sent + length b) x z
sent_more at bytes rest b left sent x y z s cut short o =
    let pieces : ArePieces at bytes s.calls (b ++ left) = subst (λ (l : List ℕ). ArePieces at bytes s.calls l) cut s.pieces in
    let e : length rest ≡ length (b ++ left) = ap length cut in
    let size : length bytes ≡ sent + length (b ++ left) = omega (arith, e, s.size) in
    record {
      calls = s.calls ++ Write (at + sent) b ∷ [];
      pieces = pieces_push at bytes s.calls b left sent pieces short size;
      done = done_more s.calls (Write (at + sent) b ∷ []) x y z s.done o;
      size = omega (arith, size, length-append b left);
    }

pub sent_lost : (at : ℕ) (bytes rest b left : List ℕ) (sent : ℕ) (x y z : Option Traffic) (u v w : ℕ) (e : PortError) → Sent at bytes rest sent x y → rest ≡ b ++ left → length b ≤ most_piece → v ≡ u → Asks (Write (at + sent) b) y z v w (Err e) → AsksAll (IsWrite at bytes) (BeginsWrite at bytes) x z u w (Err e)
sent_lost at bytes rest b left sent x y z u v w Failed s cut short same asks =
    let pieces : ArePieces at bytes s.calls (b ++ left) = subst (λ (l : List ℕ). ArePieces at bytes s.calls l) cut s.pieces in
    let e : length rest ≡ length (b ++ left) = ap length cut in
    let size : length bytes ≡ sent + length (b ++ left) = omega (arith, e, s.size) in
    let last : MirrorCommand = Write (at + sent) b in (
      s.calls,
      last,
      (left, pieces_push at bytes s.calls b left sent pieces short size),
      subst (λ (cs : List MirrorCommand). IsLost cs last x z) (append-nil s.calls) (lost_more s.calls [] last x y z s.done asks.0),
      subst (λ (n : ℕ). MayRise n w) same asks.1,
    )
sent_lost at bytes rest b left sent x y z u v w OutOfMemory s cut short same asks = absurd asks

pub asks_err : (at : ℕ) (bytes : List ℕ) (a b : Option Traffic) (u v : ℕ) (r : Answered) (e x : PortError) → r ≡ Err e → e ≡ x → AsksAll (IsWrite at bytes) (BeginsWrite at bytes) a b u v (Err x) → AsksAll (IsWrite at bytes) (BeginsWrite at bytes) a b u v r
asks_err at bytes a b u v r e x is same h =
    subst (λ (q : Answered). AsksAll (IsWrite at bytes) (BeginsWrite at bytes) a b u v q) (sym is) (subst (λ (y : PortError). AsksAll (IsWrite at bytes) (BeginsWrite at bytes) a b u v (Err y)) (sym same) h)

pub cut_at : (m : ℕ) (rest b left : List ℕ) → b ≡ take m rest → left ≡ drop m rest → rest ≡ b ++ left
cut_at m rest b left e f = sym (take-append-drop m rest) ∙ ap (λ (l : List ℕ). l ++ drop m rest) (sym e) ∙ ap (λ (l : List ℕ). b ++ l) (sym f)

-- ---- one call

pub asks_only : (call : MirrorCommand) (a b : Option Traffic) (u v : ℕ) (r : Answered) → Asks call a b u v r → AsksAll (IsOnly call) (IsOnly call) a b u v r
asks_only call a b u v (Ok x) h = (call ∷ [], refl, h.0, h.1)
asks_only call a b u v (Err Failed) h = ([], call, refl, h.0, h.1)
asks_only call a b u v (Err OutOfMemory) h = absurd h

module _ (Whole Front : List MirrorCommand → Type 0) (a b : Option Traffic) (u v : ℕ) where
  -- want of memory isn't answered
  pub asks_memory : (r : Answered) → AsksAll Whole Front a b u v r → IsErrOf r OutOfMemory → ⊥
  asks_memory (Ok x) h is = let k : ⊥ = cc in k
  asks_memory (Err Failed) h is = let k : ⊥ = cc in k
  asks_memory (Err OutOfMemory) h is = absurd h

  pub copied : (DoneAs : Answered → Type 0) (r : Answered) → DoneAs (Ok tt) → AsksAll Whole Front a b u v r → Copies DoneAs Whole Front a b u v r
  copied DoneAs (Ok x) d h = (d, h)
  copied DoneAs (Err Failed) d h = inr (d, h)
  copied DoneAs (Err OutOfMemory) d h = absurd h

  pub not_copied : (DoneAs : Answered → Type 0) (e : PortError) → DoneAs (Err e) → b ≡ a → v ≡ u → Copies DoneAs Whole Front a b u v (Err e)
  not_copied DoneAs Failed d same count = inl (d, (same, count))
  not_copied DoneAs OutOfMemory d same count = (d, (same, count))

  -- what was done is one of the outcomes of a call that failed
  pub wrote_told : (at : ℕ) (new : List ℕ) (x y : Option DiskState) (r : Answered) → ((d : DiskState) → x ≡ Some d → at ≤ length d.bytes) → Tells (Writes {T = Unit {0}} at new (Ok tt)) x y → AsksAll Whole Front a b u v r → Tells (Writes at new r) x y
  wrote_told at new x y (Ok k) within tells h = tells
  wrote_told at new x y (Err Failed) within tells h = tells_map_at _ _ x y (λ d e is wrote. inr (overwritten d.bytes at new, torn_overwritten d.bytes new at (within d is), wrote)) tells
  wrote_told at new x y (Err OutOfMemory) within tells h = absurd h

  pub cut_told : (len : ℕ) (x y : Option DiskState) (r : Answered) → Tells (Cuts {T = Unit {0}} len (Ok tt)) x y → AsksAll Whole Front a b u v r → Tells (Cuts len r) x y
  cut_told len x y (Ok k) tells h = tells
  cut_told len x y (Err Failed) tells h = tells_map _ _ x y (λ d e cut. inr (take len d.bytes, inr refl, cut)) tells
  cut_told len x y (Err OutOfMemory) tells h = absurd h

  pub sync_told : (x y : Option DiskState) (r : Answered) → Tells (Syncs {T = Unit {0}} (Ok tt)) x y → AsksAll Whole Front a b u v r → Tells (Syncs r) x y
  sync_told x y (Ok k) tells h = tells
  sync_told x y (Err Failed) tells h = tells_map _ _ x y (λ d e synced. inr synced) tells
  sync_told x y (Err OutOfMemory) tells h = absurd h

-- ---- a mirror's calls

-- a call was done on the disk, and then sent
pub write_copied : (at : ℕ) (new : List ℕ) (x y : Option DiskState) (a b : Option Traffic) (u v : ℕ) (r : Answered) → Tells (Writes {T = Unit {0}} at new (Ok tt)) x y → AsksAll (IsWrite at new) (BeginsWrite at new) a b u v r → Copies (λ (q : Answered). Tells (Writes at new q) x y) (IsWrite at new) (BeginsWrite at new) a b u v r
write_copied at new x y a b u v r tells h = copied (IsWrite at new) (BeginsWrite at new) a b u v (λ (q : Answered). Tells (Writes at new q) x y) r tells h

pub cut_copied : (len : ℕ) (x y : Option DiskState) (a b : Option Traffic) (u v : ℕ) (r : Answered) → Tells (Cuts {T = Unit {0}} len (Ok tt)) x y → Asks (Cut len) a b u v r → Copies (λ (q : Answered). Tells (Cuts len q) x y) (IsOnly (Cut len)) (IsOnly (Cut len)) a b u v r
cut_copied len x y a b u v r tells h = copied (IsOnly (Cut len)) (IsOnly (Cut len)) a b u v (λ (q : Answered). Tells (Cuts len q) x y) r tells (asks_only (Cut len) a b u v r h)

pub sync_copied : (x y : Option DiskState) (a b : Option Traffic) (u v : ℕ) (r : Answered) → Tells (Syncs {T = Unit {0}} (Ok tt)) x y → Asks Sync a b u v r → Copies (λ (q : Answered). Tells (Syncs q) x y) (IsOnly Sync) (IsOnly Sync) a b u v r
sync_copied x y a b u v r tells h = copied (IsOnly Sync) (IsOnly Sync) a b u v (λ (q : Answered). Tells (Syncs q) x y) r tells (asks_only Sync a b u v r h)

pub cut_one_told : (len : ℕ) (x y : Option DiskState) (a b : Option Traffic) (u v : ℕ) (r : Answered) → Tells (Cuts {T = Unit {0}} len (Ok tt)) x y → Asks (Cut len) a b u v r → Tells (Cuts len r) x y
cut_one_told len x y a b u v r tells h = cut_told (IsOnly (Cut len)) (IsOnly (Cut len)) a b u v len x y r tells (asks_only (Cut len) a b u v r h)

pub sync_one_told : (x y : Option DiskState) (a b : Option Traffic) (u v : ℕ) (r : Answered) → Tells (Syncs {T = Unit {0}} (Ok tt)) x y → Asks Sync a b u v r → Tells (Syncs r) x y
sync_one_told x y a b u v r tells h = sync_told (IsOnly Sync) (IsOnly Sync) a b u v x y r tells (asks_only Sync a b u v r h)

pub one_memory : (call : MirrorCommand) (a b : Option Traffic) (u v : ℕ) (r : Answered) → Asks call a b u v r → IsErrOf r OutOfMemory → ⊥
one_memory call a b u v r h is = asks_memory (IsOnly call) (IsOnly call) a b u v r (asks_only call a b u v r h) is

-- ---- the same of a mirror whose parts are known

module _ {D L : Type 0} (told : D → Option DiskState) (traffic : L → Option Traffic) (m n : MirrorState D L) (y : Option DiskState) (b : Option Traffic) (v : ℕ) (r : Answered) (same : m ≡ n) where
  pub wrote_mirrored : (at : ℕ) (new : List ℕ) → ((d : DiskState) → told n.disk ≡ Some d → at ≤ length d.bytes) → Tells (Writes {T = Unit {0}} at new (Ok tt)) (told m.disk) y → AsksAll (IsWrite at new) (BeginsWrite at new) (traffic m.link) b m.unheard v r → Tells (Writes at new r) (told n.disk) y
  wrote_mirrored at new within tells h =
      wrote_told (IsWrite at new) (BeginsWrite at new) (traffic m.link) b m.unheard v at new (told n.disk) y r within
      (subst (λ (x : MirrorState D L). Tells (Writes {T = Unit {0}} at new (Ok tt)) (told x.disk) y) same tells) h

  pub cut_mirrored : (len : ℕ) → Tells (Cuts {T = Unit {0}} len (Ok tt)) (told m.disk) y → Asks (Cut len) (traffic m.link) b m.unheard v r → Copies (λ (q : Answered). Tells (Cuts len q) (told n.disk) y) (IsOnly (Cut len)) (IsOnly (Cut len)) (traffic n.link) b n.unheard v r
  cut_mirrored len tells h =
      subst (λ (x : MirrorState D L). Copies (λ (q : Answered). Tells (Cuts len q) (told x.disk) y) (IsOnly (Cut len)) (IsOnly (Cut len)) (traffic x.link) b x.unheard v r) same
      (cut_copied len (told m.disk) y (traffic m.link) b m.unheard v r tells h)

  pub sync_mirrored : Tells (Syncs {T = Unit {0}} (Ok tt)) (told m.disk) y → Asks Sync (traffic m.link) b m.unheard v r → Copies (λ (q : Answered). Tells (Syncs q) (told n.disk) y) (IsOnly Sync) (IsOnly Sync) (traffic n.link) b n.unheard v r
  sync_mirrored tells h =
      subst (λ (x : MirrorState D L). Copies (λ (q : Answered). Tells (Syncs q) (told x.disk) y) (IsOnly Sync) (IsOnly Sync) (traffic x.link) b x.unheard v r) same
      (sync_copied (told m.disk) y (traffic m.link) b m.unheard v r tells h)

-- ---- the answers that were lost

module _ {L : Type 0} (traffic : L → Option Traffic) (l0 l1 : L) (u v : ℕ) where
  -- one call was sent
  pub one_lost : (call : MirrorCommand) (r : Answered) → HasLost traffic u → Asks call (traffic l0) (traffic l1) u v r → HasLost traffic v
  one_lost call (Ok x) has h = subst (λ (n : ℕ). HasLost traffic n) (sym h.1) has
  one_lost call (Err Failed) has h = inr (l0, l1, [], call, h.0)
  one_lost call (Err OutOfMemory) has h = absurd h

  -- those of a write were
  pub write_lost : (Whole Front : List MirrorCommand → Type 0) (r : Answered) → HasLost traffic u → AsksAll Whole Front (traffic l0) (traffic l1) u v r → HasLost traffic v
  write_lost Whole Front (Ok x) has h = subst (λ (n : ℕ). HasLost traffic n) (sym h.3) has
  write_lost Whole Front (Err Failed) has h = inr (l0, l1, h.0, h.1, h.3)
  write_lost Whole Front (Err OutOfMemory) has h = absurd h

-- none was lost yet
pub none_lost : {L : Type 0} (traffic : L → Option Traffic) (u : ℕ) → u ≡ 0 → HasLost traffic u
none_lost traffic u is = inl is

-- ---- the counts of a mirror

-- the disk failed
pub sum_cause_disk : (e : PortError) (d0 d1 s : ℕ) → HasCause {T = Unit {0}} d0 d1 (Err e) → HasCause {T = Unit {0}} (d0 + s) (d1 + s) (Err e)
sum_cause_disk Failed d0 d1 s h = omega (arith, h)
sum_cause_disk OutOfMemory d0 d1 s h = omega (arith, h)

-- the disk has done the call
pub sum_cause_told : (r : Answered) (d0 d1 s t : ℕ) → d0 ≤ d1 → HasCause s t r → HasCause (d0 + s) (d1 + t) r
sum_cause_told (Ok x) d0 d1 s t before h = omega (arith, before, h)
sum_cause_told (Err Failed) d0 d1 s t before h = omega (arith, before, h)
sum_cause_told (Err OutOfMemory) d0 d1 s t before h = omega (arith, before, h)

-- at the end of a count
pub spent_unheard : (d l u : ℕ) → u ≡ 18446744073709551615 → IsSpent (d + (l + u))
spent_unheard d l u most = omega (arith, most)

pub spent_disk : (d s : ℕ) → IsSpent d → IsSpent (d + s)
spent_disk d s most = omega (arith, most)

-- there a call asks for nothing
pub spent_write : (at : ℕ) (new : List ℕ) (x : Option DiskState) → Tells (Writes {T = Unit {0}} at new (Err OutOfMemory)) x x
spent_write at new x = tells_same (Writes {T = Unit {0}} at new (Err OutOfMemory)) x x (λ d. refl) refl

pub spent_cut : (len : ℕ) (x : Option DiskState) → Tells (Cuts {T = Unit {0}} len (Err OutOfMemory)) x x
spent_cut len x = tells_same (Cuts {T = Unit {0}} len (Err OutOfMemory)) x x (λ d. refl) refl

pub spent_sync : (x : Option DiskState) → Tells (Syncs {T = Unit {0}} (Err OutOfMemory)) x x
spent_sync x = tells_same (Syncs {T = Unit {0}} (Err OutOfMemory)) x x (λ d. refl) refl
