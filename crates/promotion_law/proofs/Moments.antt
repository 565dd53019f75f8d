-- The moments of a disk that goes on, and what a crash may leave at each.
use Rattle.std.proofs.Common.{◌≡◌, ◌∙◌, List, [], ◌∷◌, ◌++◌, refl, sym, ap, subst, append-nil, append_assoc}
use Rattle.std.proofs.lemmas.List.{append_cancel_left}
use Rattle.std.specs.List.{AllByRecursion}
use Rattle.disk_model.specs.Disk.{Instant, DiskState, moments}
use Rattle.disk_model.specs.Crash.{LeavesOnly, Since}
use Rattle.disk_model.proofs.Moments.{Facts, since_now}
use Rattle.frame_wire.specs.declared.mirror.MirrorCommand.{MirrorCommand}
use Rattle.frame_wire.specs.declared.mirror.MirrorCommand.TheVariants.{Write, Cut, Sync}
use Rattle.standby_core.specs.Replicas.{disk_after, disk_after_all}
use Rattle.promotion_law.specs.UnderWay.{GoesOn}

-- ---- a disk goes on

pub goes_here : (d : DiskState) → GoesOn d d
goes_here d = ([], sym (append-nil (moments d)))

grows_then : (a b c : DiskState) (one : GoesOn a b) (two : GoesOn b c) → moments c ≡ moments a ++ (one.0 ++ two.0)
grows_then a b c one two = two.1 ∙ ap (λ (l : List Instant). l ++ two.0) one.1 ∙ append_assoc (moments a) one.0 two.0

pub goes_then : (a b c : DiskState) → GoesOn a b → GoesOn b c → GoesOn a c
goes_then a b c one two = (one.0 ++ two.0, grows_then a b c one two)

-- by one moment at each call
pub goes_call : (d : DiskState) (call : MirrorCommand) → GoesOn d (disk_after d call)
goes_call d (Write at new) = ((disk_after d (Write at new)).instant ∷ [], refl)
goes_call d (Cut len) = ((disk_after d (Cut len)).instant ∷ [], refl)
goes_call d Sync = ((disk_after d Sync).instant ∷ [], refl)

pub goes_calls : (d : DiskState) (calls : List MirrorCommand) → GoesOn d (disk_after_all d calls)
goes_calls d [] = goes_here d
goes_calls d (call ∷ calls) = goes_then d (disk_after d call) (disk_after_all (disk_after d call) calls) (goes_call d call) (goes_calls (disk_after d call) calls)

-- ---- what a crash may leave on the way

all_first : {X : Type 0} (P : X → Type 0) (xs ys : List X) → AllByRecursion P (xs ++ ys) → AllByRecursion P xs
all_first P [] ys all = tt
all_first P (x ∷ xs) ys all = (all.0, all_first P xs ys all.1)

-- what holds of each moment up to the last holds up to this one
since_until : (P : Facts) (first mid last : DiskState) → GoesOn first mid → GoesOn mid last → Since P first last → Since P first mid
since_until P first mid last begins ends since =
    let same : since.later.recent ≡ begins.0 ++ ends.0 = append_cancel_left (moments first) since.later.recent (begins.0 ++ ends.0) (sym since.later.grows ∙ grows_then first mid last begins ends) in
    record {
      start = since.start;
      later = record {
        recent = begins.0;
        grows = begins.1;
        each = all_first (LeavesOnly P) begins.0 ends.0 (subst (AllByRecursion (LeavesOnly P)) same since.later.each);
      };
    }

pub leaves_within : (P : Facts) (first mid last : DiskState) → GoesOn first mid → GoesOn mid last → Since P first last → LeavesOnly P mid.instant
leaves_within P first mid last begins ends since = since_now P first mid (since_until P first mid last begins ends since)
