-- A list whose batch is on the disk goes on.
use Rattle.std.proofs.Common.{◌≡◌, ◌⊎◌, inl, inr, ℕ, Bool, true, false, List, [], ◌∷◌, ◌++◌, length, Option, Some, None, Result, Ok, Err, refl, sym, ◌∙◌, ap, subst}
use Rattle.std.specs.Prelude.{map, is_err, if◌then◌else◌}
use Rattle.store_tables.specs.Tables.{Tables}
use Rattle.store_tables.specs.Contents.{Timed}
use Rattle.store_payloads.specs.Payloads.{command_payload}
use Rattle.store_payloads.specs.Laws.{ReadsCommands}
use Rattle.tx_journal.specs.declared.error.JournalError.{JournalError}
use Rattle.tx_journal.specs.declared.error.JournalError.TheVariants as errors
use Rattle.tx_journal.specs.Batches.{batch_refusal}
use Rattle.tx_journal.specs.Calls.{JournalState, is_alone}
use Rattle.tx_journal.specs.Runs.{AppendAllMoves}
use Rattle.store_core.specs.Store.{StoreState, IsCurrent}
use Rattle.store_core.specs.Lists.{Rules, Begins, AreWritten, MovesBatch, IsPut}
use Rattle.store_core.specs.Listings.{IsUnderWay}
use Rattle.store_core.proofs.Listed.{each_more, none_behind}
use Rattle.store_core.proofs.Chains.{longer_by, Chain, chain_of}
use Rattle.store_core.proofs.Putting.{behind_is, batch_risks, batch_current, batch_leaves}

-- a batch is refused by a journal that met a fault
pub unbroken_by : (j : JournalState) (payloads : List (List ℕ)) → batch_refusal j payloads ≡ None → j.is_broken ≡ false
unbroken_by j payloads = go j.is_broken
  where
    go : (b : Bool) → (if b then Some errors.Reopen else batch_refusal (record j { is_broken = false }) payloads) ≡ None → b ≡ false
    go true is = absurd (let e : Some errors.Reopen ≡ None = is in cc)
    go false is = refl

pub done_is : (r : Result (Unit {0}) JournalError) → is_err r ≡ false → r ≡ Ok tt
done_is (Ok x) is = refl
done_is (Err e) is = absurd (let f : true ≡ false = is in cc)

module _ {A B : Type 0} (rules : Rules A B) (reads : ReadsCommands) where
  -- a batch that has begun has a command
  first_of : (entries : List (A × B)) (batch : List Timed) → Begins rules entries batch → (c : Timed) × (more : List Timed) × (batch ≡ c ∷ more)
  first_of [] batch begins = absurd begins
  first_of (entry ∷ entries) batch begins = (rules.given entry.0, begins.0, begins.1)

  pub put_goes_on :
      (old : StoreState) (answered : List (A × B)) (j k : JournalState) (t : Tables) (payloads : List (List ℕ)) (first : ℕ)
      → IsUnderWay rules old answered j t payloads (Some first) → batch_refusal j payloads ≡ None → AppendAllMoves payloads (Ok tt) j k → IsUnderWay rules old answered k t [] None
  put_goes_on old answered j k t payloads first u free moves =
      let base = u.base in
      let ahead = u.ahead in
      let one = first_of u.foreseen u.taken u.waits.1 in
      let chain : Chain base u.taken ahead = chain_of rules base u.foreseen u.taken ahead u.in_turn in
      let works : base.journal.is_broken ≡ false = ap (λ (x : JournalState). x.is_broken) (sym u.journal_is) ∙ unbroken_by j payloads free in
      let here : AppendAllMoves (map command_payload u.taken) (Ok tt) base.journal k =
      subst (λ (x : JournalState). AppendAllMoves (map command_payload u.taken) (Ok tt) x k) u.journal_is (subst (λ ps. AppendAllMoves ps (Ok tt) j k) u.payloads_are moves) in
      let open_ : batch_refusal base.journal (map command_payload u.taken) ≡ None =
      subst (λ (x : JournalState). batch_refusal x (map command_payload u.taken) ≡ None) u.journal_is (subst (λ ps. batch_refusal j ps ≡ None) u.payloads_are free) in
      let there : AppendAllMoves (map command_payload (one.0 ∷ one.1)) (Ok tt) base.journal k = subst (λ cs. AppendAllMoves (map command_payload cs) (Ok tt) base.journal k) one.2 here in
      let may_come : batch_refusal base.journal (map command_payload (one.0 ∷ one.1)) ≡ None = subst (λ cs. batch_refusal base.journal (map command_payload cs) ≡ None) one.2 open_ in
      let appends = there.taken may_come in
      let is_ahead : ahead.journal ≡ longer_by (one.0 ∷ one.1) base.journal = chain.journal ∙ ap (λ cs. longer_by cs base.journal) one.2 in
      let unbroken : k.is_broken ≡ false = ap (λ (x : JournalState). x.is_broken) appends.0 ∙ works in
      let next : StoreState = record { contents = t; journal = k } in
      let written : AreWritten ahead base next = record {
        contents = u.tables_is;
        journal = appends.0 ∙ ap (λ (x : JournalState). record x { live = k.live }) (behind_is one.0 one.1 base.journal ∙ sym is_ahead);
        works = unbroken;
        leaves = batch_leaves base.contents ahead.contents base.journal u.taken u.current works reads u.may chain.led k unbroken here.done;
        risks = batch_risks base.contents ahead.contents base.journal u.taken u.current works reads u.may chain.led k here.crash;
      } in
      let put : IsPut u.taken ahead base next = subst (λ cs. IsPut cs ahead base next) (sym one.2) written in
      let batch : MovesBatch rules base u.foreseen next = record { foreseen = u.foreseen; batch = u.taken; ahead = ahead; in_turn = u.in_turn; ends = inl (refl, put) } in
      record {
        batches = u.batches ++ u.foreseen ∷ [];
        before = u.before ++ u.foreseen;
        base = next;
        moves = each_more rules old base next u.batches u.before u.foreseen u.moves batch;
        foreseen = [];
        taken = [];
        ahead = next;
        in_turn = (refl, refl);
        answered_is = u.answered_is ∙ sym (none_behind (u.before ++ u.foreseen));
        journal_is = refl;
        tables_is = refl;
        payloads_are = refl;
        waits = (refl, refl);
        may = tt;
        current = subst (λ (x : Tables). IsCurrent k x) (sym u.tables_is) (batch_current base.contents ahead.contents base.journal u.taken u.current works reads u.may chain.led k here.done);
        fits = u.fits;
        paired = ap (λ (x : JournalState). is_alone x.other) appends.0 ∙ ap (λ (x : JournalState). is_alone x.other) (sym u.journal_is) ∙ u.paired;
      }
