-- Rows that are added to a compaction, one after another.
use Rattle.std.proofs.Common.{◌≡◌, inl, inr, ℕ, ◌+◌, Bool, true, false, List, [], ◌∷◌, ◌++◌, length, Option, Some, None, Result, Ok, Err, refl, sym, ap, subst, ◌∙◌, arith, append_assoc, length-append}
use Rattle.std.specs.Prelude.{not}
use Rattle.std.proofs.lemmas.List.{append-nil}
use Rattle.disk_model.specs.Disk.{DiskState, Tells}
use Rattle.disk_model.proofs.Stages.{Then, Both, tells_then, tells_map, tells_map_at, tells_same, told_before}
use Rattle.tx_journal.specs.declared.error.JournalError.{JournalError}
use Rattle.tx_journal.specs.declared.error.JournalError.TheVariants as errors
use Rattle.tx_journal.specs.Calls.{Side, JournalState, told, first_of, second_of, tell_sides, is_alone, row_refusal, staged_payloads, OtherKeeps, OtherRises}
use Rattle.tx_journal.specs.Calls.{Keeps as KeepsFilesAs, Kept}
use Rattle.tx_journal.specs.Pair.{Files, Claim, IsJust, SinceOpened}
use Rattle.tx_journal.proofs.Lifts.{files_in}
use Rattle.tx_journal.proofs.Rowed.{told_two}
use Rattle.store_tables.specs.Tables.{Tables}
use Rattle.store_core.specs.Contents.{OpensWith}
use Rattle.store_core.specs.Store.{IsConsistent}
use Rattle.store_core.specs.Compacts.{refused_or, rows_refusal, rows_end, HasRows, Keeps, IsStaged, IsStopped, IsRefused, IsHit, Misses, counted, AddsAll}
use Rattle.store_core.proofs.Claims.{at_told, leaves_weaker, since_opened_weaker, since_same, opened_then_first, opened_then_second}

-- ---- two steps that write only the disk that isn't live

over_files : (P : Claim) (s : Bool) (d e f g : DiskState) → SinceOpened P (files_in s d (Some e)) (files_in s d (Some f)) → SinceOpened P (files_in s d (Some f)) (files_in s d (Some g)) → SinceOpened P (files_in s d (Some e)) (files_in s d (Some g))
over_files P false d e f g one two = opened_then_second P (files_in false d (Some e)) (files_in false d (Some f)) (files_in false d (Some g)) refl refl one two
over_files P true d e f g one two = opened_then_first P (files_in true d (Some e)) (files_in true d (Some f)) (files_in true d (Some g)) refl refl one two

abbrev seen : Bool → Side → Side → Option Files
seen s live other = tell_sides (first_of s live (Some other)) (second_of s live (Some other))

over_seen : (P : Claim) (s : Bool) (live x y z : Side) → Tells (SinceOpened P) (seen s live x) (seen s live y) → Tells (SinceOpened P) (seen s live y) (seen s live z) → Tells (SinceOpened P) (seen s live x) (seen s live z)
over_seen P s live x y z one two =
    tells_map_at (Then (Both (SinceOpened P) (λ f g. seen s live y ≡ Some g)) (Both (SinceOpened P) (λ f g. seen s live z ≡ Some g))) (SinceOpened P) (seen s live x) (seen s live z)
    (λ f h at calls.
    let first = told_two s live x f at in
    let second = told_two s live y calls.0 calls.1.1 in
    let third = told_two s live z h calls.2.1 in
    let same_two : second.0 ≡ first.0 = let e : Some second.0 ≡ Some first.0 = sym second.2 ∙ first.2 in cc in
    let same_three : third.0 ≡ first.0 = let e : Some third.0 ≡ Some first.0 = sym third.2 ∙ first.2 in cc in
    let mid : calls.0 ≡ files_in s first.0 (Some second.1) = second.4 ∙ ap (λ d. files_in s d (Some second.1)) same_two in
    let last : h ≡ files_in s first.0 (Some third.1) = third.4 ∙ ap (λ d. files_in s d (Some third.1)) same_three in
    let from : SinceOpened P (files_in s first.0 (Some first.1)) (files_in s first.0 (Some second.1)) = subst (λ (g : Files). SinceOpened P g (files_in s first.0 (Some second.1))) first.4 (subst (SinceOpened P f) mid calls.1.0) in
    let on : SinceOpened P (files_in s first.0 (Some second.1)) (files_in s first.0 (Some third.1)) = subst (λ (g : Files). SinceOpened P g (files_in s first.0 (Some third.1))) mid (subst (SinceOpened P calls.0) last calls.2.0) in
    subst (λ (g : Files). SinceOpened P g h) (sym first.4) (subst (SinceOpened P (files_in s first.0 (Some first.1))) (sym last) (over_files P s first.0 first.1 second.1 third.1 from on)))
    (tells_then (Both (SinceOpened P) (λ f g. seen s live y ≡ Some g)) (Both (SinceOpened P) (λ f g. seen s live z ≡ Some g)) (seen s live x) (seen s live y) (seen s live z) (at_told (SinceOpened P) (seen s live x) (seen s live y) one) (at_told (SinceOpened P) (seen s live y) (seen s live z) two))

-- what a step does that leaves the live disk, and which one that is
pub record Beside (a b : JournalState) : Type 0 where
  pub live : b.live ≡ a.live
  pub side : b.is_second_live ≡ a.is_second_live
  pub paired : is_alone b.other ≡ false

abbrev pub told_in : Bool → Side → Option Side → Option Files
told_in s live other = tell_sides (first_of s live other) (second_of s live other)

over_told : (P : Claim) (s : Bool) (live : Side) (x y z : Option Side) → is_alone x ≡ false → is_alone y ≡ false → is_alone z ≡ false → Tells (SinceOpened P) (told_in s live x) (told_in s live y) → Tells (SinceOpened P) (told_in s live y) (told_in s live z) → Tells (SinceOpened P) (told_in s live x) (told_in s live z)
over_told P s live None y z one two three = absurd (let e : true ≡ false = one in cc)
over_told P s live (Some x) None z one two three = absurd (let e : true ≡ false = two in cc)
over_told P s live (Some x) (Some y) None one two three = absurd (let e : true ≡ false = three in cc)
over_told P s live (Some x) (Some y) (Some z) one two three = over_seen P s live x y z

told_as : (a b : JournalState) → Beside a b → told b ≡ told_in a.is_second_live a.live b.other
told_as a b beside = ap (λ s. told_in s b.live b.other) beside.side ∙ ap (λ l. told_in a.is_second_live l b.other) beside.live

pub since_at : (P : Claim) (a b c : JournalState) (z : Option Side) → is_alone a.other ≡ false → Beside a b → is_alone z ≡ false → told c ≡ told_in a.is_second_live a.live z → Tells (SinceOpened P) (told a) (told b) → Tells (SinceOpened P) (told b) (told c) → Tells (SinceOpened P) (told a) (told c)
since_at P a b c z paired ab last here one two =
    subst (Tells (SinceOpened P) (told a)) (sym here)
    (over_told P a.is_second_live a.live a.other b.other z paired ab.paired last (subst (Tells (SinceOpened P) (told a)) (told_as a b ab) one)
    (subst (λ t. Tells (SinceOpened P) t (told_in a.is_second_live a.live z)) (told_as a b ab) (subst (Tells (SinceOpened P) (told b)) here two)))

pub since_over : (P : Claim) (a b c : JournalState) → is_alone a.other ≡ false → Beside a b → Beside a c → Tells (SinceOpened P) (told a) (told b) → Tells (SinceOpened P) (told b) (told c) → Tells (SinceOpened P) (told a) (told c)
since_over P a b c paired ab ac one two = since_at P a b c c.other paired ab ac.paired (told_as a c ac) one two

-- once the other file is the live one, the disks stand where they stood
pub turned_told : (s : Bool) (live new : Side) → tell_sides (first_of (not s) new (Some live)) (second_of (not s) new (Some live)) ≡ told_in s live (Some new)
turned_told true live new = refl
turned_told false live new = refl

-- ---- steps of a journal that holds payloads that lead to these contents

module _ (t : Tables) (a b : JournalState) (consistent : IsConsistent a t) (works : a.is_broken ≡ false) where
  pub keeps_on : Tells KeepsFilesAs (told a) (told b) → Keeps t a b
  keeps_on tells = tells_map_at KeepsFilesAs (SinceOpened (OpensWith t)) (told a) (told b)
      (λ f g is keeps.
      let held = consistent works f is in
      since_opened_weaker (IsJust held.0) (OpensWith t) f g (λ r e. (held.0, e, held.2)) (keeps held.0 held.1))
      tells

  pub kept_on : Tells Kept (told a) (told b) → IsConsistent b t
  kept_on tells unbroken files is =
      let before = told_before Kept (told a) (told b) files tells is in
      let held = consistent works before.0 before.1 in
      (held.0, before.2 held.0 held.1, held.2)

-- what is held over one step and the next
pub kept_then : (a b c : JournalState) → Tells Kept (told a) (told b) → Tells Kept (told b) (told c) → Tells Kept (told a) (told c)
kept_then a b c one two =
    tells_map (Then Kept Kept) Kept (told a) (told c) (λ f h calls payloads holds. calls.2 payloads (calls.1 payloads holds))
    (tells_then Kept Kept (told a) (told b) (told c) one two)

pub kept_same : (j : JournalState) → Tells Kept (told j) (told j)
kept_same j = tells_same Kept (told j) (told j) (λ f payloads holds. holds) refl

-- ---- refusals and places of several rows

end_then : (at : ℕ) (xs ys : List (List ℕ)) → rows_end at (xs ++ ys) ≡ rows_end (rows_end at xs) ys
end_then at [] ys = refl
end_then at (x ∷ xs) ys = end_then (at + 5 + length x) xs ys

pub refusal_then : (at : ℕ) (xs ys : List (List ℕ)) → rows_refusal at xs ≡ None → rows_refusal at (xs ++ ys) ≡ rows_refusal (rows_end at xs) ys
refusal_then at [] ys none = refl
refusal_then at (x ∷ xs) ys none = go (row_refusal x (Some at)) (refusal_then (at + 5 + length x) xs ys) none
  where
    go : (r : Option JournalError) → (rows_refusal (at + 5 + length x) xs ≡ None → rows_refusal (at + 5 + length x) (xs ++ ys) ≡ rows_refusal (rows_end (at + 5 + length x) xs) ys)
        → refused_or r (rows_refusal (at + 5 + length x) xs) ≡ None → refused_or r (rows_refusal (at + 5 + length x) (xs ++ ys)) ≡ rows_refusal (rows_end (at + 5 + length x) xs) ys
    go None rest none = rest none
    go (Some e) rest none = absurd (let n : Some e ≡ None = none in cc)

pub refusal_more : (at : ℕ) (xs ys : List (List ℕ)) (e : JournalError) → rows_refusal at xs ≡ Some e → rows_refusal at (xs ++ ys) ≡ Some e
refusal_more at [] ys e is = absurd (let n : None ≡ Some e = is in cc)
refusal_more at (x ∷ xs) ys e is = go (row_refusal x (Some at)) (refusal_more (at + 5 + length x) xs ys e) is
  where
    go : (r : Option JournalError) → (rows_refusal (at + 5 + length x) xs ≡ Some e → rows_refusal (at + 5 + length x) (xs ++ ys) ≡ Some e)
        → refused_or r (rows_refusal (at + 5 + length x) xs) ≡ Some e → refused_or r (rows_refusal (at + 5 + length x) (xs ++ ys)) ≡ Some e
    go None rest is = rest is
    go (Some d) rest is = is

pub one_refusal : (at : ℕ) (row : List ℕ) → rows_refusal at (row ∷ []) ≡ row_refusal row (Some at)
one_refusal at row = go (row_refusal row (Some at))
  where
    go : (r : Option JournalError) → refused_or r None ≡ r
    go None = refl
    go (Some e) = refl

-- ---- rows, and then more

pub keeps_trans : (a b c : Option Side) → OtherKeeps a b → OtherKeeps b c → OtherKeeps a c
keeps_trans None b c one two = tt
keeps_trans (Some x) None c one two = absurd one
keeps_trans (Some x) (Some y) None one two = absurd two
keeps_trans (Some x) (Some y) (Some z) one two = omega (arith, one, two)

pub rises_then : (a b c : Option Side) → is_alone a ≡ false → OtherKeeps a b → OtherRises b c → OtherRises a c
rises_then None b c paired one two = absurd (let e : true ≡ false = paired in cc)
rises_then (Some x) None c paired one two = absurd one
rises_then (Some x) (Some y) None paired one two = absurd two
rises_then (Some x) (Some y) (Some z) paired one two = elim two [
  | inl lt ↦ inl (omega (arith, one, lt))
  | inr spent ↦ inr spent
]

module _ (t : Tables) (xs : List (List ℕ)) (a b c : JournalState) (paired : is_alone a.other ≡ false) (one : IsStaged t xs a b) where
  live_b : b.live ≡ a.live
  live_b = ap (λ (j : JournalState). j.live) one.journal

  side_b : b.is_second_live ≡ a.is_second_live
  side_b = ap (λ (j : JournalState). j.is_second_live) one.journal

  keeps_then : c.live ≡ b.live → c.is_second_live ≡ b.is_second_live → is_alone c.other ≡ false → Keeps t b c → Keeps t a c
  keeps_then live side paired_c keeps =
      since_over (OpensWith t) a b c paired (record { live = live_b; side = side_b; paired = one.paired }) (record { live = live ∙ live_b; side = side ∙ side_b; paired = paired_c }) one.keeps keeps

  has_then : (ys : List (List ℕ)) → Tells (HasRows b.is_second_live ys) (told b) (told c) → Tells (HasRows a.is_second_live (xs ++ ys)) (told a) (told c)
  has_then ys two =
      tells_map (Then (HasRows a.is_second_live xs) (HasRows b.is_second_live ys)) (HasRows a.is_second_live (xs ++ ys)) (told a) (told c)
      (λ f h calls before is.
      let mid = calls.1 before is in
      let at_mid : staged_payloads b.is_second_live calls.0 ≡ Ok (before ++ xs) = ap (λ s. staged_payloads s calls.0) side_b ∙ mid in
      ap (λ s. staged_payloads s h) (sym side_b) ∙ calls.2 (before ++ xs) at_mid ∙ ap (λ (l : List (List ℕ)). Ok l) (append_assoc before xs ys))
      (tells_then (HasRows a.is_second_live xs) (HasRows b.is_second_live ys) (told a) (told b) (told c) one.has two)

  place_then : (at : ℕ) → b.staged ≡ Some at → at ≡ rows_end one.at xs
  place_then at is = let place : Some at ≡ Some (rows_end one.at xs) = sym is ∙ ap (λ (j : JournalState). j.staged) one.journal in cc

  pub staged_then : (ys : List (List ℕ)) → IsStaged t ys b c → IsStaged t (xs ++ ys) a c
  staged_then ys two =
      let same = place_then two.at two.from in
      record {
        at = one.at;
        from = one.from;
        fits = refusal_then one.at xs ys one.fits ∙ ap (λ n. rows_refusal n ys) (sym same) ∙ two.fits;
        journal = two.journal ∙ ap (λ (j : JournalState). record j { other = c.other; staged = Some (rows_end two.at ys) }) one.journal ∙ ap (λ n. record a { other = c.other; staged = Some n }) (ap (λ n. rows_end n ys) same ∙ sym (end_then one.at xs ys));
        paired = two.paired;
        count = keeps_trans a.other b.other c.other one.count two.count;
        has = has_then ys two.has;
        holds = kept_then a b c one.holds two.holds;
        consistent = two.consistent;
        keeps = keeps_then (ap (λ (j : JournalState). j.live) two.journal) (ap (λ (j : JournalState). j.is_second_live) two.journal) two.paired two.keeps;
      }

  stopped_then : IsStopped t b c → IsStopped t a c
  stopped_then two = record {
    journal = two.journal ∙ ap (λ (j : JournalState). record j { other = c.other; staged = c.staged }) one.journal;
    paired = two.paired;
    holds = kept_then a b c one.holds two.holds;
    consistent = two.consistent;
    keeps = keeps_then (ap (λ (j : JournalState). j.live) two.journal) (ap (λ (j : JournalState). j.is_second_live) two.journal) two.paired two.keeps;
  }

  hit_then : IsHit t b c → IsHit t a c
  hit_then two = record {
    journal = two.journal ∙ ap (λ (j : JournalState). record j { other = c.other; staged = c.staged; is_broken = true }) one.journal;
    paired = two.paired;
    rises = rises_then a.other b.other c.other paired one.count two.rises;
    keeps = keeps_then (ap (λ (j : JournalState). j.live) two.journal) (ap (λ (j : JournalState). j.is_second_live) two.journal) two.paired two.keeps;
  }

  refused_then : (ys : List (List ℕ)) (e : JournalError) → IsRefused t ys e b c → IsRefused t (xs ++ ys) e a c
  refused_then ys e two = record {
    at = one.at;
    from = one.from;
    refused = refusal_then one.at xs ys one.fits ∙ ap (λ n. rows_refusal n ys) (sym (place_then two.at two.from)) ∙ two.refused;
    stopped = stopped_then two.stopped;
  }

  -- what came of rows that were added behind others
  pub misses_then : (ys : List (List ℕ)) (e : JournalError) → Misses t ys e b c → Misses t (xs ++ ys) e a c
  misses_then ys errors.DiskFault two = hit_then two
  misses_then ys errors.OutOfMemory two = stopped_then two
  misses_then ys (errors.TooLong n) two = refused_then ys (errors.TooLong n) two
  misses_then ys (errors.Full len) two = refused_then ys (errors.Full len) two
  misses_then ys (errors.Damaged offset) two = two
  misses_then ys errors.Reopen two = two
  misses_then ys errors.NotStarted two = two
  misses_then ys errors.OneDisk two = two
  misses_then ys (errors.Spent count) two = two

  pub adds_then : (ys : List (List ℕ)) (r : Result ℕ JournalError) (count : ℕ) → count ≡ length xs → AddsAll t ys r b c → AddsAll t (xs ++ ys) (counted count r) a c
  adds_then ys (Ok more) count is two = (omega (arith, is, two.0, length-append xs ys), staged_then ys two.1)
  adds_then ys (Err e) count is two = misses_then ys e two

  -- the journal goes on after rows that were added
  pub stopped : IsStopped t a b
  stopped = record {
    journal = one.journal ∙ ap (λ s. record a { other = b.other; staged = s }) (sym (ap (λ (j : JournalState). j.staged) one.journal));
    paired = one.paired;
    holds = one.holds;
    consistent = one.consistent;
    keeps = one.keeps;
  }

refused_more : (t : Tables) (xs ys : List (List ℕ)) (e : JournalError) (a b : JournalState) → IsRefused t xs e a b → IsRefused t (xs ++ ys) e a b
refused_more t xs ys e a b is = record { at = is.at; from = is.from; refused = refusal_more is.at xs ys e is.refused; stopped = is.stopped }

-- what came of some rows is what comes of all
pub misses_more : (t : Tables) (xs ys : List (List ℕ)) (e : JournalError) (a b : JournalState) → Misses t xs e a b → Misses t (xs ++ ys) e a b
misses_more t xs ys errors.DiskFault a b is = is
misses_more t xs ys errors.OutOfMemory a b is = is
misses_more t xs ys (errors.TooLong n) a b is = refused_more t xs ys (errors.TooLong n) a b is
misses_more t xs ys (errors.Full len) a b is = refused_more t xs ys (errors.Full len) a b is
misses_more t xs ys (errors.Damaged offset) a b is = is
misses_more t xs ys errors.Reopen a b is = is
misses_more t xs ys errors.NotStarted a b is = is
misses_more t xs ys errors.OneDisk a b is = is
misses_more t xs ys (errors.Spent count) a b is = is

-- nothing was added yet
pub staged_none : (t : Tables) (j : JournalState) (at : ℕ) → j.staged ≡ Some at → is_alone j.other ≡ false → j.is_broken ≡ false → IsConsistent j t → IsStaged t [] j j
staged_none t j at started paired works consistent = record {
  at = at;
  from = started;
  fits = refl;
  journal = ap (λ s. record j { staged = s }) started;
  paired = paired;
  count = keeps_same j.other;
  has = tells_same (HasRows j.is_second_live []) (told j) (told j) (λ f before is. is ∙ ap (λ (l : List (List ℕ)). Ok l) (sym (append-nil before))) refl;
  holds = kept_same j;
  consistent = consistent;
  keeps = keeps_here;
}
  where
    keeps_same : (o : Option Side) → OtherKeeps o o
    keeps_same None = tt
    keeps_same (Some side) = omega arith

    keeps_here : Keeps t j j
    keeps_here = tells_map_at (λ f g. f ≡ g) (SinceOpened (OpensWith t)) (told j) (told j)
        (λ f g is same.
        let held = consistent works f is in
        subst (SinceOpened (OpensWith t) f) same (since_same (OpensWith t) f (leaves_weaker (IsJust held.0) (OpensWith t) f (λ r e. (held.0, e, held.2)) held.1.leaves)))
        (tells_same (λ f g. f ≡ g) (told j) (told j) (λ f. refl) refl)
