-- What a store keeps from its opening to its end.
use Rattle.std.proofs.Common.{◌≡◌, inl, inr, ℕ, Bool, true, false, List, [], ◌∷◌, Option, Some, None, refl, sym, subst}
use Rattle.disk_model.specs.Disk.{DiskState, Tells}
use Rattle.tx_journal.specs.declared.error.JournalError.{JournalError}
use Rattle.tx_journal.specs.Calls.{told, tell_both}
use Rattle.tx_journal.specs.Pair.{Files, LeavesOpened}
use Rattle.store_tables.specs.Tables.{Tables}
use Rattle.store_core.specs.Contents.{OpensWith}
use Rattle.store_core.specs.Store.{StoreState}
use Rattle.store_core.specs.Opens.{OpensStore, KeepsStore, RefusesStore, IsStoreOpenError}
use Rattle.store_core.specs.Runs.{Stands}
use Rattle.fence_rows.specs.Groups.{GroupHistory, GroupRuns, FlattensGroups}
use Rattle.server_ports.specs.Hosts.{Handed, Hands, nothing_handed, back_with}
use Rattle.server_ports.proofs.Handed.{hands_nothing, hands_both}
use Rattle.store_command.specs.declared.command.StoreEnd.{StoreEnd}
use Rattle.store_command.specs.declared.command.StoreEnd.TheVariants as ends
use Rattle.store_command.specs.Commands.{second_path}
use Rattle.store_command.specs.Runs.{ServesStore, sides_told, IsServedEnd, EndsStore, end_of, RefusesPair, RunsPair, RunsFirst, RunsStore, IsUnopened, given_back, first_opened, second_opened}

-- ---- a store that was just opened

opened_leaves : (create : Bool) (t : Tables) (before told_now : Option Files) → Tells (OpensStore create t) before told_now → (files : Files) → told_now ≡ Some files → LeavesOpened (OpensWith t) files
opened_leaves create t None told_now none files is = cc
opened_leaves create t (Some old) told_now (found, tells, opens) files is =
    let same : found ≡ files = cc in subst (λ f. LeavesOpened (OpensWith t) f) same opens.1

-- whatever a crash leaves of it opens with its contents
pub opened_stands : (create : Bool) (before : Option Files) (s : StoreState) → Tells (OpensStore create s.contents) before (told s.journal) → s.journal.is_broken ≡ false → Stands s.contents s
opened_stands create before s opened works = record {
  whole = λ _. opened_leaves create s.contents before (told s.journal) opened;
  fault = λ broken. absurd (let never : ⊥ = cc in never);
}

-- ---- from there on

pub serves : FlattensGroups → (old new : StoreState) (h : GroupHistory) → Stands old.contents old → GroupRuns old h new → ServesStore old (sides_told new.journal)
serves flattens old new h stands leads = record { history = h; last = new; leads = leads; keeps = flattens old.contents old new h stands leads; returned = refl }

-- ---- what was handed back of an open store

pub served_with : FlattensGroups → (s last : StoreState) (h : GroupHistory) (end : StoreEnd) (before mid after : Option Handed)
    → Stands s.contents s → GroupRuns s h last → IsServedEnd end → mid ≡ before → Hands mid (given_back (sides_told last.journal)) after
    → (back : List (Option DiskState)) × Hands before (given_back back) after × EndsStore s end back
served_with flattens s last h end before mid after stands leads opened same hands =
    (sides_told last.journal, subst (λ (m : Option Handed). Hands m (given_back (sides_told last.journal)) after) same hands, inl (opened, serves flattens s last h stands leads))

-- it wasn't served
pub unserved : FlattensGroups → (s : StoreState) (end : StoreEnd) (before mid after : Option Handed)
    → Stands s.contents s → IsServedEnd end → mid ≡ before → Hands mid (given_back (sides_told s.journal)) after
    → (back : List (Option DiskState)) × Hands before (given_back back) after × EndsStore s end back
unserved flattens s end before mid after stands opened same hands = served_with flattens s s [] end before mid after stands refl opened same hands

-- it is lost with its disks
pub lost : (s : StoreState) (before after : Option Handed) → after ≡ before → (back : List (Option DiskState)) × Hands before (given_back back) after × EndsStore s ends.OutOfMemory back
lost s before after same = ([], hands_nothing before after same, inr (refl, refl))

-- the same after a call that hands nothing
pub ends_after : (s : StoreState) (end : StoreEnd) (before mid after : Option Handed) → mid ≡ before
    → ((back : List (Option DiskState)) × Hands mid (given_back back) after × EndsStore s end back)
    → (back : List (Option DiskState)) × Hands before (given_back back) after × EndsStore s end back
ends_after s end before mid after same (back, hands, came) = (back, subst (λ (m : Option Handed). Hands m (given_back back) after) same hands, came)

-- ---- the openings

-- the store of both disks wasn't opened
pub refused_pair : (create : Bool) (first second first_back second_back : Option DiskState) (e : JournalError) (end : StoreEnd) (before after : Option Handed)
    → end ≡ end_of e → IsStoreOpenError e → ((files : Files) → tell_both first second ≡ Some files → RefusesStore create e files)
    → Tells (KeepsStore create) (tell_both first second) (tell_both first_back second_back)
    → Hands before (given_back (first_back ∷ second_back ∷ [])) after
    → (back : List (Option DiskState)) × Hands before (given_back back) after × RunsPair create first second end back
refused_pair create first second first_back second_back e end before after is error cause crash hands =
    (first_back ∷ second_back ∷ [], hands, inl (e, is, record { error = error; cause = cause; first_back = first_back; second_back = second_back; returned = refl; crash = crash }))

-- it was
pub opened_pair : (create : Bool) (first second : Option DiskState) (s : StoreState) (end : StoreEnd) (before after : Option Handed)
    → Tells (OpensStore create s.contents) (tell_both first second) (told s.journal) → Tells (KeepsStore create) (tell_both first second) (told s.journal) → s.journal.is_broken ≡ false
    → ((back : List (Option DiskState)) × Hands before (given_back back) after × EndsStore s end back)
    → (back : List (Option DiskState)) × Hands before (given_back back) after × RunsPair create first second end back
opened_pair create first second s end before after opened crash works (back, hands, came) = (back, hands, inr (s, record { opened = opened; crash = crash; works = works }, came))

-- the second disk wasn't opened, and the first was given back
pub half_opened : (path : List ℕ) (create : Bool) (first : Option DiskState) (end : StoreEnd) (before mid after : Option Handed)
    → IsUnopened end → Hands before nothing_handed mid → Hands mid (back_with first) after
    → (given : Handed) × Hands before given after × RunsFirst path create first end given
half_opened path create first end before mid after unopened none back =
    (given_back (first ∷ []), hands_both before mid after nothing_handed (back_with first) none back, inl (refl, unopened))

-- it was opened, and something came of both
pub both_opened : (path : List ℕ) (create : Bool) (first second : Option DiskState) (end : StoreEnd) (before mid after : Option Handed)
    → Hands before (record { opened = second_opened path second ∷ []; returned = [] }) mid
    → ((back : List (Option DiskState)) × Hands mid (given_back back) after × RunsPair create first second end back)
    → (given : Handed) × Hands before given after × RunsFirst path create first end given
both_opened path create first second end before mid after opens (back, hands, runs) =
    (record { opened = second_opened path second ∷ []; returned = back }, hands_both before mid after (record { opened = second_opened path second ∷ []; returned = [] }) (given_back back) opens hands, inr (second, back, refl, runs))

-- no disk was opened
pub none_opened : (path : List ℕ) (is_new : Bool) (end : StoreEnd) (before after : Option Handed) → IsUnopened end → Hands before nothing_handed after → (given : Handed) × Hands before given after × RunsStore path is_new end given
none_opened path is_new end before after unopened none = (nothing_handed, none, inl (refl, unopened))

-- the first one was, and something came of it
pub first_opened_then : (path second_at : List ℕ) (is_new : Bool) (first : Option DiskState) (end : StoreEnd) (before mid after : Option Handed)
    → second_at ≡ second_path path
    → Hands before (record { opened = first_opened path is_new first ∷ []; returned = [] }) mid
    → ((given : Handed) × Hands mid given after × RunsFirst second_at is_new first end given)
    → (given : Handed) × Hands before given after × RunsStore path is_new end given
first_opened_then path second_at is_new first end before mid after at opens (more, hands, runs) = (
  record { opened = first_opened path is_new first ∷ more.opened; returned = more.returned },
  hands_both before mid after (record { opened = first_opened path is_new first ∷ []; returned = [] }) more opens hands,
  inr (first, more, refl, subst (λ (p : List ℕ). RunsFirst p is_new first end more) at runs),
)
