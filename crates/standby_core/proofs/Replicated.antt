-- What calls make of a disk.
use Rattle.std.proofs.Common.{◌≡◌, ◌∙◌, ℕ, ◌+◌, ◌≤◌, List, [], ◌∷◌, ◌++◌, length, take, drop, refl, sym, ap, subst, arith, append-nil, append_assoc, length-append, length-take, length-drop}
use Rattle.std.proofs.lemmas.List.{take_at, drop_at, drop-drop, take-append-drop}
use Rattle.disk_model.specs.Disk.{DiskState, overwritten, MayLeave}
use Rattle.frame_wire.specs.declared.mirror.MirrorCommand.{MirrorCommand}
use Rattle.frame_wire.specs.declared.mirror.MirrorCommand.TheVariants.{Write, Cut, Sync}
use Rattle.standby_core.specs.Replicas.{bytes_after, replica_after, disk_after, disk_after_all, AreWithin, ArePieces, first_of, first_call}
use Rattle.standby_core.specs.Laws.{AttachCopies, SyncKeeps, ReadsAsReplica, PiecesAreOne}

step_reads : (d : DiskState) (call : MirrorCommand) → (disk_after d call).bytes ≡ bytes_after d.bytes call
step_reads d (Write at new) = refl
step_reads d (Cut len) = refl
step_reads d Sync = refl

pub reads_as_replica : ReadsAsReplica
reads_as_replica d [] = refl
reads_as_replica d (call ∷ calls) = reads_as_replica (disk_after d call) calls ∙ ap (λ (bytes : List ℕ). replica_after bytes calls) (step_reads d call)

pub after_more : (d : DiskState) (calls more : List MirrorCommand) → disk_after_all d (calls ++ more) ≡ disk_after_all (disk_after_all d calls) more
after_more d [] more = refl
after_more d (call ∷ calls) more = after_more (disk_after d call) calls more

pub sync_keeps : SyncKeeps
sync_keeps d calls image left =
    let same : image ≡ (disk_after_all d calls).bytes = subst (λ (e : DiskState). MayLeave e.instant image) (after_more d calls (Sync ∷ [])) left in
    same ∙ reads_as_replica d calls

-- ---- lists of calls

pub replica_more : (bytes : List ℕ) (calls more : List MirrorCommand) → replica_after bytes (calls ++ more) ≡ replica_after (replica_after bytes calls) more
replica_more bytes [] more = refl
replica_more bytes (call ∷ calls) more = replica_more (bytes_after bytes call) calls more

pub within_more : (bytes : List ℕ) (calls more : List MirrorCommand) → AreWithin bytes calls → AreWithin (replica_after bytes calls) more → AreWithin bytes (calls ++ more)
within_more bytes [] more a b = b
within_more bytes (call ∷ calls) more a b = (a.0, within_more (bytes_after bytes call) calls more a.1 b)

-- ---- the pieces of a write

overwritten_nothing : (old : List ℕ) (at : ℕ) → overwritten old at [] ≡ old
overwritten_nothing old at =
    let place : at + 0 ≡ at = omega arith in
    ap (λ (l : List ℕ). l ++ drop (at + 0) old) (append-nil (take at old))
    ∙ ap (λ (n : ℕ). take at old ++ drop n old) place
    ∙ take-append-drop at old

module _ (old b left : List ℕ) (at : ℕ) (within : at ≤ length old) where
  front : length (take at old) ≡ at
  front = omega (arith, length-take at old, within)

  size : length (take at old ++ b) ≡ at + length b
  size = omega (arith, length-append (take at old) b, front)

  pub overwritten_within : at + length b ≤ length (overwritten old at b)
  overwritten_within = omega (arith, length-append (take at old ++ b) (drop (at + length b) old), size)

  taken : take (at + length b) (overwritten old at b) ≡ take at old ++ b
  taken = take_at (take at old ++ b) (drop (at + length b) old) (at + length b) size

  dropped : drop (at + length b + length left) (overwritten old at b) ≡ drop (at + length (b ++ left)) old
  dropped =
      let places : at + length b + length left ≡ at + length (b ++ left) = omega (arith, length-append b left) in
      sym (drop-drop (length left) (at + length b) (overwritten old at b))
      ∙ ap (λ (l : List ℕ). drop (length left) l) (drop_at (take at old ++ b) (drop (at + length b) old) (at + length b) size)
      ∙ drop-drop (length left) (at + length b) old
      ∙ ap (λ (n : ℕ). drop n old) places

  -- a write behind another is one write of both
  pub overwritten_twice : overwritten (overwritten old at b) (at + length b) left ≡ overwritten old at (b ++ left)
  overwritten_twice =
      ap (λ (l : List ℕ). l ++ left ++ drop (at + length b + length left) (overwritten old at b)) taken
      ∙ ap (λ (l : List ℕ). take at old ++ b ++ left ++ l) dropped
      ∙ ap (λ (l : List ℕ). l ++ drop (at + length (b ++ left)) old) (append_assoc (take at old) b left)

pub pieces_are_one : PiecesAreOne
pieces_are_one old new at [] within is = (tt, sym (ap (λ (l : List ℕ). overwritten old at l) is ∙ overwritten_nothing old at))
pieces_are_one old new at (Write place b ∷ calls) within is =
    let here : place ≡ at = is.0 in
    let left : List ℕ = is.2.0 in
    let within' : place ≤ length old = subst (λ (n : ℕ). n ≤ length old) (sym here) within in
    let rest : ArePieces (place + length b) left calls [] = subst (λ (n : ℕ). ArePieces (n + length b) left calls []) (sym here) is.2.2 in
    let more = pieces_are_one (overwritten old place b) left (place + length b) calls (overwritten_within old b left place within') rest in (
      (within', more.0),
      more.1 ∙ overwritten_twice old b left place within' ∙ ap (λ (n : ℕ). overwritten old n (b ++ left)) here ∙ ap (λ (l : List ℕ). overwritten old at l) (sym is.2.1),
    )
pieces_are_one old new at (Cut len ∷ calls) within is = absurd is
pieces_are_one old new at (Sync ∷ calls) within is = absurd is

-- ---- an attach

pub drop_all : (n : ℕ) (l : List ℕ) → length l ≤ n → drop n l ≡ []
drop_all n l short = nothing_left (drop n l) (omega (arith, length-drop n l, short))
  where
    nothing_left : (m : List ℕ) → length m ≤ 0 → m ≡ []
    nothing_left [] few = refl
    nothing_left (x ∷ m) few = absurd (let k : ⊥ = omega (arith, few) in k)

-- the first byte is set
first_set : (bytes : List ℕ) → AreWithin (0 ∷ drop 1 bytes) (Sync ∷ first_call (first_of bytes) ∷ Sync ∷ []) × (replica_after (0 ∷ drop 1 bytes) (Sync ∷ first_call (first_of bytes) ∷ Sync ∷ []) ≡ bytes)
first_set [] = ((tt, (omega arith, (tt, tt))), refl)
first_set (b ∷ bytes) = ((tt, (omega arith, (tt, tt))), refl)

opened : (rest : List ℕ) → overwritten (0 ∷ []) 1 rest ≡ 0 ∷ rest
opened rest = ap (λ (l : List ℕ). (0 ∷ rest) ++ l) (drop_all (1 + length rest) (0 ∷ []) (omega arith)) ∙ append-nil (0 ∷ rest)

take_none : (l : List ℕ) → take 0 l ≡ []
take_none [] = refl
take_none (x ∷ l) = refl

pub attach_copies : AttachCopies
attach_copies bytes old calls is =
    let pieces : List MirrorCommand = is.0 in
    let whole = pieces_are_one (0 ∷ []) (drop 1 bytes) 1 pieces (omega arith) is.1 in
    let open_ : replica_after (0 ∷ []) pieces ≡ 0 ∷ drop 1 bytes = whole.1 ∙ opened (drop 1 bytes) in
    let tail : List MirrorCommand = Sync ∷ first_call (first_of bytes) ∷ Sync ∷ [] in
    let last = first_set bytes in
    let behind : AreWithin (0 ∷ []) (pieces ++ tail) = within_more (0 ∷ []) pieces tail whole.0 (subst (λ (l : List ℕ). AreWithin l tail) (sym open_) last.0) in
    let made : replica_after (0 ∷ []) (pieces ++ tail) ≡ bytes = replica_more (0 ∷ []) pieces tail ∙ ap (λ (l : List ℕ). replica_after l tail) open_ ∙ last.1 in
    let start : overwritten (take 0 old) 0 (0 ∷ []) ≡ 0 ∷ [] = ap (λ (l : List ℕ). overwritten l 0 (0 ∷ [])) (take_none old) in (
      subst (λ (cs : List MirrorCommand). AreWithin old cs) (sym is.2) (omega arith, (omega arith, (tt, subst (λ (l : List ℕ). AreWithin l (pieces ++ tail)) (sym start) behind))),
      ap (λ (cs : List MirrorCommand). replica_after old cs) is.2 ∙ ap (λ (l : List ℕ). replica_after l (pieces ++ tail)) start ∙ made,
    )
