-- The rows of all kinds, one kind after another.
use Rattle.std.proofs.Common.{◌≡◌, ℕ, ◌+◌, false, List, ◌++◌, length, Ok, sym, ap, subst, arith, length-append}
use Rattle.tx_journal.specs.declared.error.JournalError.{JournalError}
use Rattle.tx_journal.specs.Calls.{JournalState, is_alone}
use Rattle.store_tables.specs.Tables.{Tables}
use Rattle.store_core.specs.Compacts.{IsStaged, IsStopped, Misses, AddsAll}
use Rattle.store_core.proofs.Stagings.{staged_then, misses_then, misses_more, stopped}

module _ (t : Tables) (boots lanes states reminders all : List (List ℕ)) (is : all ≡ boots ++ (lanes ++ (states ++ reminders))) (j : JournalState) (paired : is_alone j.other ≡ false) where
  pub missed_first : (e : JournalError) (new : JournalState) → Misses t boots e j new → Misses t all e j new
  missed_first e new misses = subst (λ rs. Misses t rs e j new) (sym is) (misses_more t boots (lanes ++ (states ++ reminders)) e j new misses)

  module _ (a : JournalState) (one : IsStaged t boots j a) where
    pub missed_second : (e : JournalError) (new : JournalState) → Misses t lanes e a new → Misses t all e j new
    missed_second e new misses = subst (λ rs. Misses t rs e j new) (sym is) (misses_then t boots j a new paired one (lanes ++ (states ++ reminders)) e (misses_more t lanes (states ++ reminders) e a new misses))

    module _ (b : JournalState) (two : IsStaged t lanes a b) where
      pub missed_third : (e : JournalError) (new : JournalState) → Misses t states e b new → Misses t all e j new
      missed_third e new misses =
          subst (λ rs. Misses t rs e j new) (sym is)
          (misses_then t boots j a new paired one (lanes ++ (states ++ reminders)) e (misses_then t lanes a b new one.paired two (states ++ reminders) e (misses_more t states reminders e b new misses)))

      module _ (c : JournalState) (three : IsStaged t states b c) where
        pub missed_last : (e : JournalError) (new : JournalState) → Misses t reminders e c new → Misses t all e j new
        missed_last e new misses =
            subst (λ rs. Misses t rs e j new) (sym is)
            (misses_then t boots j a new paired one (lanes ++ (states ++ reminders)) e (misses_then t lanes a b new one.paired two (states ++ reminders) e (misses_then t states b c new two.paired three reminders e misses)))

        module _ (d : JournalState) (four : IsStaged t reminders c d) where
          pub staged_all : IsStaged t all j d
          staged_all =
              subst (λ rs. IsStaged t rs j d) (sym is)
              (staged_then t boots j a d paired one (lanes ++ (states ++ reminders)) (staged_then t lanes a b d one.paired two (states ++ reminders) (staged_then t states b c d two.paired three reminders four)))

          -- all of them, if their number could be counted
          pub added_all : (w x y z count : ℕ) → w ≡ length boots → x ≡ length lanes → y ≡ length states → z ≡ length reminders → count ≡ w + x + y + z → AddsAll t all (Ok count) j d
          added_all w x y z count ew ex ey ez sum =
              (omega (arith, ew, ex, ey, ez, sum, ap length is, length-append boots (lanes ++ (states ++ reminders)), length-append lanes (states ++ reminders), length-append states reminders), staged_all)

          pub stopped_all : IsStopped t j d
          stopped_all = stopped t all j d d paired staged_all
