-- The end of a compaction: the other file takes the place of the live one.
use Rattle.std.proofs.Common.{◌≡◌, inl, inr, ℕ, ◌≤◌, true, false, cond, List, [], ◌∷◌, length, Some, None, Result, Ok, Err, refl, sym, ap, ◌∙◌}
use Rattle.std.specs.Prelude.{not}
use Rattle.std.proofs.lemmas.List.{length-map}
use Rattle.disk_model.specs.Disk.{Tells}
use Rattle.disk_model.proofs.Stages.{told_before, tells_map_at}
use Rattle.store_tables.specs.Tables.{Tables}
use Rattle.store_tables.specs.Rows.{table_rows}
use Rattle.store_payloads.specs.Payloads.{row_payload}
use Rattle.store_payloads.specs.Laws.{snapshot_payloads}
use Rattle.tx_journal.specs.declared.error.JournalError.{JournalError}
use Rattle.tx_journal.specs.declared.error.JournalError.TheVariants as errors
use Rattle.tx_journal.specs.declared.format.Format.TheVariants.{Two}
use Rattle.tx_journal.specs.Calls.{Side, JournalState, told, is_alone, next_number, end_refusal, is_none, Turns, HasBegun, Replaces, Replaced, staged_payloads, OtherKeeps}
use Rattle.tx_journal.specs.File.{Image, image}
use Rattle.tx_journal.specs.Pair.{Files, Holds, IsEither, generation_row, SinceOpened}
use Rattle.store_core.specs.declared.events.CompactEnd.{CompactEnd}
use Rattle.store_core.specs.declared.events.CompactEnd.TheVariants.{Compacted}
use Rattle.store_core.specs.Contents.{contents_of, compacted_payloads, OpensWith}
use Rattle.store_core.specs.Store.{IsConsistent}
use Rattle.store_core.specs.Compacts.{end_by, refused_or, rows_refusal, rows_end, compact_refusal, Keeps, Compacts, MayAdd, IsStaged, HasRows}
use Rattle.store_core.proofs.Claims.{since_opened_weaker}
use Rattle.store_core.proofs.Stagings.{since_at, turned_told, told_in, rises_then, keeps_trans}
use Rattle.store_core.proofs.Adding.{may_staged, paired_hit}
use Rattle.store_core.proofs.Compacting.{EndEnsures, Started, faulted, ends_faulted, ends_made, keeps_then, keeps_leaves, live_a, side_a}

module _ (t : Tables) (now least : ℕ) (j : JournalState) (works : j.is_broken ≡ false) (consistent : IsConsistent j t) (long : least ≤ j.end) where
  abbrev rows : List (List ℕ)
  rows = snapshot_payloads now t

  abbrev fresh : ℕ
  fresh = next_number j.generation

  module _ (reads : contents_of (image Two (compacted_payloads fresh now t)) ≡ Some t) (a : JournalState) (first : Started t now least j works consistent long a) (b : JournalState) (staged : IsStaged t rows a b) where
    abbrev Ends : CompactEnd → JournalState → Type 0
    Ends end k = Compacts least now (record { contents = t; journal = j }) end (record { contents = t; journal = k })

    place : staged.at ≡ 31
    place = let both : Some staged.at ≡ Some 31 = sym staged.from ∙ ap (λ (x : JournalState). x.staged) first.journal in cc

    may : MayAdd b
    may = may_staged t rows a b first.may staged

    live_b : b.live ≡ j.live
    live_b = ap (λ (x : JournalState). x.live) staged.journal ∙ live_a t now least j works consistent long a first

    side_b : b.is_second_live ≡ j.is_second_live
    side_b = ap (λ (x : JournalState). x.is_second_live) staged.journal ∙ side_a t now least j works consistent long a first

    generation_b : b.generation ≡ j.generation
    generation_b = ap (λ (x : JournalState). x.generation) staged.journal ∙ ap (λ (x : JournalState). x.generation) first.journal

    journal_b : b ≡ record j { other = b.other; staged = Some (rows_end 31 rows) }
    journal_b = staged.journal ∙ ap (λ (x : JournalState). record x { other = b.other; staged = Some (rows_end staged.at rows) }) first.journal ∙ ap (λ n. record j { other = b.other; staged = Some (rows_end n rows) }) place

    count_b : OtherKeeps j.other b.other
    count_b = keeps_trans j.other a.other b.other first.count staged.count

    keeps_b : Keeps t j b
    keeps_b = keeps_then t now least j works consistent long a first b (ap (λ (x : JournalState). x.live) staged.journal) (ap (λ (x : JournalState). x.is_second_live) staged.journal) staged.paired staged.keeps

    -- the rows of the other file
    written : (files : Files) → told b ≡ Some files → staged_payloads b.is_second_live files ≡ Ok (compacted_payloads fresh now t)
    written files tells =
        let mid = told_before (HasRows a.is_second_live rows) (told a) (told b) files staged.has tells in
        let start = told_before (HasBegun j.is_second_live fresh) (told j) (told a) mid.0 first.begun mid.1 in
        let side : a.is_second_live ≡ j.is_second_live = side_a t now least j works consistent long a first in
        ap (λ s. staged_payloads s files) (side_b ∙ sym side) ∙ mid.2 (generation_row fresh ∷ []) (ap (λ s. staged_payloads s mid.0) side ∙ start.2)

    free : end_refusal b ≡ None
    free = ap (λ c. cond c (Some errors.Reopen) (cond (is_none b.staged) (Some errors.NotStarted) None)) may.works ∙ ap (λ s. cond (is_none s) (Some errors.NotStarted) None) may.started

    either : (held : Image) → contents_of held ≡ Some t → (r : Result Image ℕ) → IsEither held (image Two (compacted_payloads fresh now t)) r → OpensWith t r
    either held is r (inl e) = (held, e, is)
    either held is r (inr e) = (image Two (compacted_payloads fresh now t), e, reads)

    keeps_turn : (k : JournalState) → Tells (Replaces b.is_second_live) (told b) (told k) → Keeps t b k
    keeps_turn k crash = tells_map_at (Replaces b.is_second_live) (SinceOpened (OpensWith t)) (told b) (told k)
        (λ f g is replaces.
        let held = staged.consistent may.works f is in
        since_opened_weaker (IsEither held.0 (image Two (compacted_payloads fresh now t))) (OpensWith t) f g (either held.0 held.2) (replaces held.0 (compacted_payloads fresh now t) held.1 (written f is)))
        crash

    -- the disk failed
    end_fault : (T : Type 0) (e : JournalError) (k : JournalState) → Turns {T = T} (Err e) b k → Keeps t b k → Ends (end_by e) k
    end_fault T errors.DiskFault k turns keeps =
        let live : k.live ≡ b.live = ap (λ (x : JournalState). x.live) turns.0 in
        let side : k.is_second_live ≡ b.is_second_live = ap (λ (x : JournalState). x.is_second_live) turns.0 in
        let journal : k ≡ record j { other = k.other; staged = k.staged; is_broken = true } =
        turns.0 ∙ ap (λ (x : JournalState). record x { other = k.other; staged = None; is_broken = true }) journal_b ∙ ap (λ s. record j { other = k.other; staged = s; is_broken = true }) (sym (ap (λ (x : JournalState). x.staged) turns.0)) in
        let paired : is_alone k.other ≡ false = paired_hit b.other k.other turns.1 in
        let whole : Keeps t j k = since_at (OpensWith t) j b k k.other first.paired (record { live = live_b; side = side_b; paired = staged.paired }) paired
        (ap (λ s. told_in s k.live k.other) (side ∙ side_b) ∙ ap (λ l. told_in j.is_second_live l k.other) (live ∙ live_b)) keeps_b keeps in
        ends_faulted t now least j works consistent long k (faulted t now least j works consistent long k journal (rises_then j.other b.other k.other first.paired count_b turns.1) whole)
    end_fault T (errors.Damaged offset) k turns keeps = absurd turns
    end_fault T (errors.TooLong n) k turns keeps = absurd turns
    end_fault T (errors.Full len) k turns keeps = absurd turns
    end_fault T errors.Reopen k turns keeps = absurd turns
    end_fault T errors.NotStarted k turns keeps = absurd turns
    end_fault T errors.OneDisk k turns keeps = absurd turns
    end_fault T (errors.Spent count) k turns keeps = absurd turns
    end_fault T errors.OutOfMemory k turns keeps = absurd turns

    pub end_refused : {T : Type 0} (e : JournalError) (k : JournalState) → EndEnsures {T = T} (Err e) b k → Ends (end_by e) k
    end_refused {T} e k ensures_ = end_fault T e k (ensures_.taken free) (keeps_turn k ensures_.crash)

    -- ---- it is made

    holds : (k : JournalState) → Tells (Replaced b.is_second_live) (told b) (told k) → (files : Files) → told k ≡ Some files → Holds (image Two (compacted_payloads fresh now t)) files
    holds k done files tells =
        let before = told_before (Replaced b.is_second_live) (told b) (told k) files done tells in
        before.2 (compacted_payloads fresh now t) (written before.0 before.1)

    abbrev turned : Side → ℕ → JournalState → JournalState
    turned live end x = record { live = live; other = Some x.live; is_second_live = not x.is_second_live; format = Two; generation = Some (next_number x.generation); end = end; staged = None; is_broken = false }

    pub end_made : {T : Type 0} (x : T) (count : ℕ) (k : JournalState) → count ≡ length rows → EndEnsures (Ok x) b k → Ends (Compacted count) k
    end_made x count k counts ensures_ =
        let turns = ensures_.taken free in
        let last : k.end ≡ rows_end 31 rows = let both : Some k.end ≡ Some (rows_end 31 rows) = sym turns.1 ∙ ap (λ (y : JournalState). y.staged) journal_b in cc in
        let journal : k ≡ turned k.live (rows_end 31 rows) j = turns.0 ∙ ap (turned k.live k.end) journal_b ∙ ap (λ n. turned k.live n j) last in
        let here : told k ≡ told_in j.is_second_live j.live (Some k.live) = ap told journal ∙ turned_told j.is_second_live j.live k.live in
        let keeps : Keeps t j k = since_at (OpensWith t) j b k (Some k.live) first.paired (record { live = live_b; side = side_b; paired = staged.paired }) refl here keeps_b (keeps_turn k ensures_.crash) in
        let refusal : compact_refusal now (record { contents = t; journal = j }) ≡ None = ap (λ r. refused_or r (rows_refusal 31 rows)) first.free ∙ ap (λ n. rows_refusal n rows) (sym place) ∙ staged.fits in
        ends_made t now least j works consistent long count k refusal (record {
          count = counts ∙ length-map (table_rows t) (row_payload now);
          contents = refl;
          journal = journal;
          holds = holds k ensures_.done;
          leaves = keeps_leaves t j k keeps;
          risks = keeps;
        })
