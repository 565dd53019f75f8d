-- An append or a batch, whether to one disk or to the live one of two.
use Rattle.std.proofs.Common.{◌≡◌, inl, inr, ℕ, ◌+◌, ◌≤◌, Bool, true, false, cond, List, [], ◌∷◌, ◌++◌, length, Option, Some, None, refl, sym, ◌∙◌, ap, subst, arith, length-append}
use Rattle.std.specs.Prelude.{◌==◌}
use Rattle.std.proofs.lemmas.Bool.Decides.{nat_tests}
use Rattle.std.specs.List.{AllByRecursion}
use Rattle.disk_model.specs.Disk.{DiskState, Tells}
use Rattle.disk_model.specs.Crash.{Since}
use Rattle.disk_model.proofs.Moments.{since_weaker}
use Rattle.disk_model.proofs.Stages.{told_before}
use Rattle.tx_journal.specs.declared.format.Format.{Format}
use Rattle.tx_journal.specs.declared.format.Format.TheVariants.{One, Two}
use Rattle.tx_journal.specs.declared.find.Cursor.{Cursor}
use Rattle.tx_journal.specs.File.{most_bytes, framed, records, spelled, image, IsShort}
use Rattle.tx_journal.specs.Pair.{first_generation, number, ReadsAs, SinceOpened, Holds, IsEither}
use Rattle.tx_journal.specs.Journal.{IsAtRest, RestsBeforeOrAfter, IsText, PutsRecords, HasRecords}
use Rattle.tx_journal.specs.Batches.{generation_with_all, with_payloads, CommitsAll, CommittedAll}
use Rattle.tx_journal.specs.Calls.{Side, JournalState, generation_with, first_of, second_of, tell_sides}
use Rattle.tx_journal.specs.Sound.{Yields, Waits, IsLive, IsSound, newest_of}
use Rattle.tx_journal.proofs.Files.{length-framed}
use Rattle.tx_journal.proofs.Records.{length-text}
use Rattle.tx_journal.proofs.Rests.{gate_append, spelled_stands}
use Rattle.tx_journal.proofs.Chosen.{live_in, yields_more}
use Rattle.tx_journal.proofs.Lifts.{files_in, lift, other_same, opens_both, waits_leaves, same_since, live_counts, holds_one, holds_two, holds_once}

pub nine_test : (end : ℕ) → (end ≡ 9 → ⊥) → (end == 9) ≡ false
nine_test end other = grind (arith, nat_tests)

pub grown : (format : Format) (payloads batch : List (List ℕ)) (end : ℕ) (generation : Option ℕ) → end ≡ length (spelled format payloads) + 1 → first_generation payloads ≡ generation → first_generation (payloads ++ batch) ≡ generation_with_all end generation batch
grown format [] batch end generation end_is is = ap (λ (n : ℕ). cond (n == 9) (first_generation batch) None) (sym end_is) ∙ ap (λ (g : Option ℕ). generation_with_all end g batch) is
grown format (first ∷ payloads) batch end (Some n) end_is is = is
grown format (first ∷ payloads) batch end None end_is is =
    is ∙ ap (λ (b : Bool). cond b (first_generation batch) None) (sym (nine_test end (λ nine. omega (arith, nine, end_is, length-append (framed first) (records payloads)))))

-- of one payload
pub one_generation : (end : ℕ) (generation : Option ℕ) (payload : List ℕ) → generation_with_all end generation (payload ∷ []) ≡ generation_with end generation payload
one_generation end None payload = refl
one_generation end (Some n) payload = refl

-- a batch never lowers the number
more : (end : ℕ) (generation : Option ℕ) (batch : List (List ℕ)) → number generation ≤ number (generation_with_all end generation batch)
more end None batch = omega arith
more end (Some n) batch = omega arith

first_more : (payloads batch : List (List ℕ)) → number (first_generation payloads) ≤ number (first_generation (payloads ++ batch))
first_more [] batch = omega arith
first_more (first ∷ payloads) batch = omega arith

module _ (newest format : Format) (generation : Option ℕ) (end : ℕ) (cursor : Cursor) (batch : List (List ℕ)) (text : List ℕ) (short : AllByRecursion IsShort batch) (is : IsText batch text) (room : end + length text ≤ most_bytes) where
  pub grows : (d e : DiskState) → IsLive newest format generation end cursor d → HasRecords end text d e → IsLive newest format (generation_with_all end generation batch) (end + length (records batch)) cursor e
  grows d e live has =
      let after = has newest format live.payloads batch live.settled.file live.settled.durable short is room in
      let size : end + length text ≡ end + length (records batch) = omega (arith, length-text batch text is) in
      record {
        payloads = live.payloads ++ batch;
        settled = record {
          file = subst (λ (k : ℕ). IsAtRest newest format (live.payloads ++ batch) k e.bytes) size after.0;
          durable = after.1;
          gate = gate_append live.payloads batch cursor.index cursor.gate live.settled.gate;
        };
        numbered = λ two. grown format live.payloads batch end generation live.settled.file.end_is (live.numbered two);
      }

  grows_since : (d e : DiskState) (live : IsLive newest format generation end cursor d) → PutsRecords end text d e → Since (RestsBeforeOrAfter newest format live.payloads batch) d e
  grows_since d e live puts = puts newest format live.payloads batch live.settled.file live.settled.durable short is room

one_either : (format : Format) (payloads batch : List (List ℕ)) (f : List ℕ) → RestsBeforeOrAfter One format payloads batch f → ReadsAs (IsEither (image format payloads) (image format (payloads ++ batch))) One f
one_either format payloads batch f (inl before) = (inl (spelled_stands payloads f before), before.1.small)
one_either format payloads batch f (inr after) = (inr (spelled_stands (payloads ++ batch) f after), after.1.small)

two_either : (s : Bool) (format : Format) (payloads batch : List (List ℕ)) (f g : List ℕ) (n : ℕ) → n ≤ number (first_generation payloads) → RestsBeforeOrAfter Two format payloads batch f → Yields s n g → ReadsAs (IsEither (image format payloads) (image format (payloads ++ batch))) Two (live_in s f g)
two_either s format payloads batch f g n less (inl before) yields = let counts = live_counts s format payloads n f g before less yields in (inl counts.0, counts.1)
two_either s format payloads batch f g n less (inr after) yields = let counts = live_counts s format (payloads ++ batch) n f g after (omega (arith, less, first_more payloads batch)) yields in (inr counts.0, counts.1)

pub waits_on : (s : Bool) (generation later : Option ℕ) (is_shut : Bool) (staged : Option ℕ) (e : DiskState) → number generation ≤ number later → Waits s generation is_shut staged e → Waits s later is_shut None e
waits_on s generation later true staged e less waits = (waits.0, λ at is. absurd (let e : None ≡ Some at = is in cc))
waits_on s generation later false staged e less waits = (waits.0, yields_more s (number generation) (number later) e.bytes less waits.1, waits.2, refl)

-- the record of one payload
pub one_length : (payload : List ℕ) → length (records (payload ∷ [])) ≡ 5 + length payload
one_length payload = omega (arith, length-append (framed payload) [], length-framed payload)

-- where records have room, so has their text
pub text_room : (end : ℕ) (batch : List (List ℕ)) (text : List ℕ) → IsText batch text → end + length (records batch) ≤ most_bytes → end + length text ≤ most_bytes
text_room end batch text is room = omega (arith, length-text batch text is, room)

module _ (j : JournalState) (cursor : Cursor) (is_shut : Bool) (room : ℕ) (sound : IsSound j cursor is_shut room) (works : j.is_broken ≡ false) (batch : List (List ℕ)) (text : List ℕ) (short : AllByRecursion IsShort batch) (is : IsText batch text) (few : j.end + length text ≤ most_bytes) (live_new : Side) where
  abbrev pub after : Option ℕ
  after = generation_with_all j.end j.generation batch

  paired : (side : Side) → j.other ≡ Some side → newest_of j.other ≡ Two
  paired side is = ap newest_of is

  alone : j.other ≡ None → newest_of j.other ≡ One
  alone is = ap newest_of is

  live_at : (d : DiskState) → j.live.told ≡ Some d → IsLive (newest_of j.other) j.format j.generation j.end cursor d
  live_at d tells = sound.live works d tells

  live_one : j.other ≡ None → (d : DiskState) → j.live.told ≡ Some d → IsLive One j.format j.generation j.end cursor d
  live_one none d tells = subst (λ n. IsLive n j.format j.generation j.end cursor d) (alone none) (live_at d tells)

  live_two : (side : Side) → j.other ≡ Some side → (d : DiskState) → j.live.told ≡ Some d → IsLive Two j.format j.generation j.end cursor d
  live_two side some d tells = subst (λ n. IsLive n j.format j.generation j.end cursor d) (paired side some) (live_at d tells)

  pub append_crash : Tells (PutsRecords j.end text) j.live.told live_new.told → Tells (CommitsAll batch) (tell_sides (first_of j.is_second_live j.live j.other) (second_of j.is_second_live j.live j.other)) (tell_sides (first_of j.is_second_live live_new j.other) (second_of j.is_second_live live_new j.other))
  append_crash puts = lift j.is_second_live (CommitsAll batch) (PutsRecords j.end text) (λ d e. e ≡ d) j.live live_new j.other j.other puts (other_same j.other j.other refl)
      (λ none d d_new tells put held holds.
      let live = live_one none d tells in
      let same = holds_once (image j.format live.payloads) held (record { first = d; second = None }) (holds_one j.format j.generation j.end cursor d live) holds in
      subst (λ i. SinceOpened (IsEither i (with_payloads batch i)) (record { first = d; second = None }) (record { first = d_new; second = None })) same
      (since_weaker (RestsBeforeOrAfter One j.format live.payloads batch) (ReadsAs (IsEither (image j.format live.payloads) (image j.format (live.payloads ++ batch))) One) d d_new (λ f. one_either j.format live.payloads batch f)
      (grows_since One j.format j.generation j.end cursor batch text short is few d d_new live put)))
      (λ side some d d_new e e_new tells tells_other put same_other held holds.
      let live = live_two side some d tells in
      let waits = sound.waits works side some e tells_other in
      let same = holds_once (image j.format live.payloads) held (files_in j.is_second_live d (Some e)) (holds_two j.format j.generation j.end cursor d j.is_second_live is_shut j.staged e live waits) holds in
      subst (λ i. SinceOpened (IsEither i (with_payloads batch i)) (files_in j.is_second_live d (Some e)) (files_in j.is_second_live d_new (Some e_new))) same
      (opens_both j.is_second_live (IsEither (image j.format live.payloads) (image j.format (live.payloads ++ batch))) (RestsBeforeOrAfter Two j.format live.payloads batch) (Yields j.is_second_live (number j.generation)) d d_new e e_new
      (grows_since Two j.format j.generation j.end cursor batch text short is few d d_new live put)
      (same_since (Yields j.is_second_live (number j.generation)) e e_new same_other (waits_leaves j.is_second_live j.generation is_shut j.staged e waits))
      (λ f g rests yields. two_either j.is_second_live j.format live.payloads batch f g (number j.generation) (omega (arith, ap number (live.numbered refl))) rests yields)))

  pub append_done : Tells (HasRecords j.end text) j.live.told live_new.told → Tells (CommittedAll batch) (tell_sides (first_of j.is_second_live j.live j.other) (second_of j.is_second_live j.live j.other)) (tell_sides (first_of j.is_second_live live_new j.other) (second_of j.is_second_live live_new j.other))
  unfolding live_one grows
  append_done has = lift j.is_second_live (CommittedAll batch) (HasRecords j.end text) (λ d e. e ≡ d) j.live live_new j.other j.other has (other_same j.other j.other refl)
      (λ none d d_new tells has held holds.
      let live = live_one none d tells in
      let same = holds_once (image j.format live.payloads) held (record { first = d; second = None }) (holds_one j.format j.generation j.end cursor d live) holds in
      subst (λ i. Holds (with_payloads batch i) (record { first = d_new; second = None })) same
      (holds_one j.format after (j.end + length (records batch)) cursor d_new (grows One j.format j.generation j.end cursor batch text short is few d d_new live has)))
      (λ side some d d_new e e_new tells tells_other has same_other held holds.
      let live = live_two side some d tells in
      let waits = sound.waits works side some e tells_other in
      let same = holds_once (image j.format live.payloads) held (files_in j.is_second_live d (Some e)) (holds_two j.format j.generation j.end cursor d j.is_second_live is_shut j.staged e live waits) holds in
      let still = subst (λ x. Waits j.is_second_live after is_shut None x) (sym same_other) (waits_on j.is_second_live j.generation after is_shut j.staged e (more j.end j.generation batch) waits) in
      subst (λ i. Holds (with_payloads batch i) (files_in j.is_second_live d_new (Some e_new))) same
      (holds_two j.format after (j.end + length (records batch)) cursor d_new j.is_second_live is_shut None e_new (grows Two j.format j.generation j.end cursor batch text short is few d d_new live has) still))

  pub append_live : (generation_new : Option ℕ) (end_new : ℕ) → generation_new ≡ after → end_new ≡ j.end + length (records batch) → Tells (HasRecords j.end text) j.live.told live_new.told → (e : DiskState) → live_new.told ≡ Some e → IsLive (newest_of j.other) j.format generation_new end_new cursor e
  append_live generation_new end_new generation_is end_is has e tells =
      let before = told_before (HasRecords j.end text) j.live.told live_new.told e has tells in
      subst (λ n. IsLive (newest_of j.other) j.format n end_new cursor e) (sym generation_is)
      (subst (λ k. IsLive (newest_of j.other) j.format after k cursor e) (sym end_is)
      (grows (newest_of j.other) j.format j.generation j.end cursor batch text short is few before.0 e (live_at before.0 before.1) before.2))

  pub append_waits : (generation_new : Option ℕ) → generation_new ≡ after → (side : Side) → j.other ≡ Some side → (e : DiskState) → side.told ≡ Some e → Waits j.is_second_live generation_new is_shut None e
  append_waits generation_new generation_is side some e tells = subst (λ n. Waits j.is_second_live n is_shut None e) (sym generation_is) (waits_on j.is_second_live j.generation after is_shut j.staged e (more j.end j.generation batch) (sound.waits works side some e tells))
