-- What a part comes to on a store that has met no fault.
use Rattle.std.proofs.Common.{◌≡◌, true, false, [], ◌∷◌, Some, refl, sym, ap, subst}
use Rattle.disk_model.proofs.Stages.{told_before}
use Rattle.tx_journal.specs.Calls.{told}
use Rattle.tx_journal.specs.Pair.{Files, LeavesOpened, SinceOpened}
use Rattle.tx_journal.proofs.Claims.{opened_now}
use Rattle.store_tables.specs.Tables.{Tables}
use Rattle.store_core.specs.Contents.{OpensWithEither}
use Rattle.store_core.specs.Store.{StoreState, Leaves, Risks}
use Rattle.fence_rows.specs.Events.{Allows}
use Rattle.fence_rows.specs.Runs.{FencedHistory, Runs}
use Rattle.fence_rows.specs.Groups.{quiet, FlatOf, AllowsUntold, HasMetFault, IsPart}
use Rattle.fence_rows.proofs.GroupQuiet.{allows_quiet, untold}
use Rattle.fence_rows.proofs.GroupTurns.{unbroken}
use Rattle.fence_rows.proofs.GroupEntries.{Single, flat_same}

-- the new journal, and the contents as they were before
abbrev pub kept : StoreState → StoreState → StoreState
kept old new = record { contents = old.contents; journal = new.journal }

-- It goes on, or the disk failed. Then all that was acknowledged is what was there before.
pub data Ends (old : StoreState) (part : FencedHistory) (new : StoreState) : Type 0 where
  GoesOn : new.journal.is_broken ≡ false → Leaves new.contents new → Ends old part new
  Failed : (flat : FencedHistory) → new.journal.is_broken ≡ true → FlatOf part flat → Runs (quiet old) flat (quiet (kept old new)) → Ends old part new

pub record PartDone (old : StoreState) (part : FencedHistory) (new : StoreState) : Type 0 where
  pub is : IsPart old part new
  pub ends : Ends old part new

-- whatever a crash leaves now it may have left since the start
pub now_either : (after : Tables) (old new : StoreState) → Risks after old new → (files : Files) → told new.journal ≡ Some files → LeavesOpened (OpensWithEither old.contents after) files
now_either after old new risks files tells =
    let before = told_before (SinceOpened (OpensWithEither old.contents after)) (told old.journal) (told new.journal) files risks tells in
    opened_now (OpensWithEither old.contents after) before.0.first before.0.second files.first files.second before.2

pub leaves_at : (t u : Tables) (s : StoreState) → t ≡ u → Leaves u s → Leaves t s
leaves_at t u s same leaves = subst (λ (x : Tables). Leaves x s) (sym same) leaves

-- ---- one event

module _ (old : StoreState) (e : Single) (new : StoreState) (allows : Allows old e.event e.reply new) where
  abbrev here : FencedHistory
  here = e ∷ []

  one_runs : Runs (quiet old) here (quiet new)
  one_runs = (quiet new, allows_quiet old e.event e.reply new allows, refl)

  -- its answer is what was foreseen
  is_one : Risks new.contents old new → (new.journal.is_broken ≡ false → Leaves new.contents new) → (new.journal.is_broken ≡ true → HasMetFault e) → IsPart old here new
  is_one risks leaves failed = record {
    foreseen = here;
    reached = quiet new;
    asked = refl;
    leads = (quiet new, untold (quiet old) e.event e.reply (quiet new) (allows_quiet old e.event e.reply new allows), refl);
    risks = risks;
    works = λ works. (one_runs, leaves works);
    failed = λ broken. (failed broken, tt);
  }

  pub one_goes_on : new.journal.is_broken ≡ false → Risks new.contents old new → Leaves new.contents new → PartDone old here new
  one_goes_on works risks leaves = record { is = is_one risks (λ same. leaves) (λ broken. absurd (unbroken new.journal.is_broken works broken)); ends = GoesOn works leaves }

  one_failed : new.journal.is_broken ≡ true → new.contents ≡ old.contents → Ends old here new
  one_failed broken same =
      Failed here broken (flat_same here)
      (subst (λ (t : Tables). Runs (quiet old) here (quiet (record { contents = t; journal = new.journal }))) same one_runs)

  pub one_faulted : new.journal.is_broken ≡ true → new.contents ≡ old.contents → Risks new.contents old new → HasMetFault e → PartDone old here new
  one_faulted broken same risks fault = record { is = is_one risks (λ works. absurd (unbroken new.journal.is_broken works broken)) (λ same. fault); ends = one_failed broken same }

  -- the command in which the disk failed was foreseen otherwise
  pub one_missed : new.journal.is_broken ≡ true → new.contents ≡ old.contents → HasMetFault e → (foreseen : Single) → foreseen.event ≡ e.event → (reached : StoreState) → AllowsUntold (quiet old) foreseen.event foreseen.reply reached → Risks reached.contents old new
      → PartDone old here new
  one_missed broken same fault foreseen event reached allowed risks = record {
    is = record {
      foreseen = foreseen ∷ [];
      reached = reached;
      asked = ap (λ x. x ∷ []) event;
      leads = (reached, allowed, refl);
      risks = risks;
      works = λ works. absurd (unbroken new.journal.is_broken works broken);
      failed = λ same. (fault, tt);
    };
    ends = one_failed broken same;
  }
