-- The entries of a call that tries until the awaited reply comes. Own.
use Rattle.std.specs.Prelude.{◌≡◌, Bool, true, false, List, [], ◌∷◌, ◌++◌, All}
use mathlib.Core.List.{IsPrefix}
use Rattle.atomic_table.specs.declared.shared.Seat.{Seat}
use Rattle.step_gate.specs.declared.view.HistoryEntry.{HistoryEntry}
use Rattle.step_gate.specs.declared.view.Made.{Made}
use Rattle.step_gate.specs.declared.view.View.{View}
use Rattle.step_gate.specs.Gates.{seen_of, mine_of, number_of}

module _ {S E R : Type 0} (asks : E → Type 0) (answers : R → Bool → Type 0) where
  -- the seat's new entries are tries, each with an event that was asked for and with a reply that isn't the awaited one
  pub record Tries (tries : List (Made E R)) (before after : Seat S (View S E R)) : Type 0 where
    pub mine : mine_of after ≡ mine_of before ++ tries
    pub asked : All (λ t. asks t.entry.event) tries
    pub failed : All (λ t. answers t.entry.reply false) tries
    pub seen : IsPrefix (seen_of before) (seen_of after)
    pub number : number_of after ≡ number_of before

  -- after such tries the last entry has the awaited reply
  pub record Succeeds (reply : R) (before after : Seat S (View S E R)) : Type 0 where
    pub tries : List (Made E R)
    pub last : Made E R
    pub front : List (HistoryEntry E R)
    pub mine : mine_of after ≡ (mine_of before ++ tries) ++ last ∷ []
    pub asked : All (λ t. asks t.entry.event) (tries ++ last ∷ [])
    pub failed : All (λ t. answers t.entry.reply false) tries
    pub reply_is : last.entry.reply ≡ reply
    pub answered : answers reply true
    pub seen : IsPrefix (seen_of before) (seen_of after)
    pub ends : seen_of after ≡ front ++ last.entry ∷ []
    pub number : number_of after ≡ number_of before
