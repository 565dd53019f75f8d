-- A batch on the disk, and one whose disk failed.
use Rattle.std.proofs.Common.{◌≡◌, ◌⊎◌, inl, inr, ℕ, ◌+◌, Bool, true, false, List, [], ◌∷◌, ◌++◌, length, Option, Some, None, Result, Ok, Err, refl, sym, ◌∙◌, ap, subst, arith, length-append}
use Rattle.std.specs.Prelude.{map, ◌==◌, if◌then◌else◌}
use Rattle.std.specs.List.{AllByRecursion}
use Rattle.disk_model.specs.Disk.{Tells}
use Rattle.disk_model.proofs.Stages.{tells_map_at, told_before}
use Rattle.store_tables.specs.Tables.{Tables}
use Rattle.store_tables.specs.Contents.{Timed, after_accepted}
use Rattle.store_payloads.specs.Payloads.{command_payload}
use Rattle.store_payloads.specs.Laws.{MayCome, ReadsCommands}
use Rattle.tx_journal.specs.declared.format.Format.TheVariants.{Two}
use Rattle.tx_journal.specs.File.{Image, framed, records}
use Rattle.tx_journal.specs.Batches.{with_payloads, generation_with_all, behind, CommitsAll, CommittedAll}
use Rattle.tx_journal.specs.Calls.{JournalState, told}
use Rattle.tx_journal.specs.Pair.{first_generation, IsJust, IsEither, SinceOpened}
use Rattle.tx_journal.proofs.Grows.{one_length}
use Rattle.store_core.specs.Contents.{contents_of, OpensWith, OpensWithEither}
use Rattle.store_core.specs.Store.{StoreState, IsCurrent, Leaves}
use Rattle.store_core.proofs.Claims.{leaves_weaker, since_opened_weaker}
use Rattle.store_core.proofs.Chains.{longer_by, contents_all}
use Rattle.store_core.proofs.Foldings.{no-generation}

-- ---- the journal

one_longer : (e : ℕ) (p : List ℕ) (ps : List (List ℕ)) → e + 5 + length p + length (records ps) ≡ e + length (records (p ∷ ps))
one_longer e p ps = omega (arith, one_length p, length-append (framed p) (records ps), length-append (framed p) [])

longer_from : (cs : List Timed) (j : JournalState) (e : ℕ) → longer_by cs (record j { end = e; staged = None }) ≡ record j { end = e + length (records (map command_payload cs)); staged = None }
longer_from [] j e = let same : e ≡ e + 0 = omega arith in ap (λ x. record j { end = x; staged = None }) same
longer_from (c ∷ cs) j e = longer_from cs j (e + 5 + length (command_payload c)) ∙ ap (λ x. record j { end = x; staged = None }) (one_longer e (command_payload c) (map command_payload cs))

-- the live file is longer by the records of a batch that isn't empty
pub longer_is : (c : Timed) (cs : List Timed) (j : JournalState) → longer_by (c ∷ cs) j ≡ record j { end = j.end + length (records (map command_payload (c ∷ cs))); staged = None }
longer_is c cs j = longer_from cs j (j.end + 5 + length (command_payload c)) ∙ ap (λ x. record j { end = x; staged = None }) (one_longer j.end (command_payload c) (map command_payload cs))

-- the Generation stays
pub generation_stays : (end : ℕ) (g : Option ℕ) (c : Timed) (cs : List Timed) → generation_with_all end g (map command_payload (c ∷ cs)) ≡ g
generation_stays end None c cs = go (end == 9)
  where
    go : (b : Bool) → (if b then first_generation (map command_payload (c ∷ cs)) else None) ≡ None
    go true = rw (no-generation c) refl
    go false = refl
generation_stays end (Some n) c cs = refl

-- so the journal behind a batch is the one ahead of it
pub behind_is : (c : Timed) (cs : List Timed) (j : JournalState) → record (behind (map command_payload (c ∷ cs)) j) { staged = None } ≡ longer_by (c ∷ cs) j
behind_is c cs j =
    ap (λ g. record j { end = j.end + length (records (map command_payload (c ∷ cs))); generation = g; staged = None }) (generation_stays j.end j.generation c cs) ∙ sym (longer_is c cs j)

-- ---- what a crash leaves

module _ (t after : Tables) (j : JournalState) (batch : List Timed) (current : IsCurrent j t) (works : j.is_broken ≡ false) (reads : ReadsCommands) (may : AllByRecursion MayCome batch) (led : after_accepted batch t ≡ Some after) where
  either : (held : Image) → contents_of held ≡ Some t → held.format ≡ Two → (r : Result Image ℕ) → IsEither held (with_payloads (map command_payload batch) held) r → OpensWithEither t after r
  either held is two r (inl e) = inl (held, e, is)
  either held is two r (inr e) = inr (with_payloads (map command_payload batch) held, e, contents_all held batch t after reads may two is led)

  -- at any moment of the batch it opens with the contents before it or behind it
  pub batch_risks : (new : JournalState) → Tells (CommitsAll (map command_payload batch)) (told j) (told new) → Tells (SinceOpened (OpensWithEither t after)) (told j) (told new)
  batch_risks new tells = tells_map_at (CommitsAll (map command_payload batch)) (SinceOpened (OpensWithEither t after)) (told j) (told new)
      (λ f g is commits.
      let held = current works f is in
      since_opened_weaker (IsEither held.0 (with_payloads (map command_payload batch) held.0)) (OpensWithEither t after) f g (either held.0 held.2 held.3) (commits held.0 held.1))
      tells

  -- once it is on the disk, the journal holds what leads to the contents behind it
  pub batch_current : (new : JournalState) → Tells (CommittedAll (map command_payload batch)) (told j) (told new) → IsCurrent new after
  batch_current new tells unbroken files is =
      let before = told_before (CommittedAll (map command_payload batch)) (told j) (told new) files tells is in
      let held = current works before.0 before.1 in
      (with_payloads (map command_payload batch) held.0, before.2 held.0 held.1, contents_all held.0 batch t after reads may held.3 held.2 led, held.3)

  -- and a crash leaves it
  pub batch_leaves : (new : JournalState) → new.is_broken ≡ false → Tells (CommittedAll (map command_payload batch)) (told j) (told new) → Leaves after (record { contents = after; journal = new })
  batch_leaves new unbroken tells files is =
      let held = batch_current new tells unbroken files is in
      leaves_weaker (IsJust held.0) (OpensWith after) files (λ r e. (held.0, e, held.2)) held.1.leaves
