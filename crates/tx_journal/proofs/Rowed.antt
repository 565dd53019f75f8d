-- What a replay finds in one file or in two.
use Rattle.std.proofs.Common.{◌≡◌, ℕ, suc, ◌+◌, ◌≤◌, Bool, true, false, cond, List, [], ◌∷◌, length, drop, Option, Some, None, Ok, Vec, refl, sym, ◌∙◌, ap, subst, arith, length-append}
use Rattle.std.specs.Prelude.{slice_get, option_map, is_some}
use Rattle.std.specs.Int.{w64, from_be_bytes}
use Rattle.disk_model.specs.Disk.{DiskState}
use Rattle.tx_journal.specs.declared.format.Format.{Format}
use Rattle.tx_journal.specs.declared.format.Format.TheVariants.{One, Two}
use Rattle.tx_journal.specs.declared.find.Cursor.{Cursor}
use Rattle.tx_journal.specs.Pair.{Files, is_generation, generation_in, first_generation, without_generation, Holds}
use Rattle.tx_journal.specs.Journal.{IsAtRest, IsSettled, Finds, Replays}
use Rattle.tx_journal.specs.Calls.{Side, JournalState, first_of, second_of, tell_one, tell_both, tell_sides, rows_in, place_in, is_alone, HoldsFormat, IsMeasured}
use Rattle.tx_journal.specs.Sound.{IsLive, IsSound, newest_of}
use Rattle.tx_journal.specs.File.{Image, image, framed, records, file_length}
use Rattle.tx_journal.proofs.Files.{length-framed, count_records}
use Rattle.tx_journal.proofs.Lifts.{files_in, holds_one, holds_two, holds_once}

-- what reported files say about the disks
pub told_one : (s : Bool) (live : Side) (files : Files) → tell_sides (first_of s live None) (second_of s live None) ≡ Some files → (d : DiskState) × (live.told ≡ Some d) × (files ≡ record { first = d; second = None })
told_one true live files is = from live.told is
  where
    from : (t : Option DiskState) → tell_one t ≡ Some files → (d : DiskState) × (t ≡ Some d) × (files ≡ record { first = d; second = None })
    from None is = absurd (let e : None ≡ Some files = is in cc)
    from (Some d) is = (d, refl, let e : files ≡ record { first = d; second = None } = cc in e)
told_one false live files is = from live.told is
  where
    from : (t : Option DiskState) → tell_one t ≡ Some files → (d : DiskState) × (t ≡ Some d) × (files ≡ record { first = d; second = None })
    from None is = absurd (let e : None ≡ Some files = is in cc)
    from (Some d) is = (d, refl, let e : files ≡ record { first = d; second = None } = cc in e)

pub both_of : (a b : Option DiskState) (files : Files) → tell_both a b ≡ Some files → (d e : DiskState) × (a ≡ Some d) × (b ≡ Some e) × (files ≡ record { first = d; second = Some e })
both_of None b files is = absurd (let e : None ≡ Some files = is in cc)
both_of (Some d) None files is = absurd (let e : None ≡ Some files = is in cc)
both_of (Some d) (Some e) files is = (d, e, refl, refl, let same : files ≡ record { first = d; second = Some e } = cc in same)

pub told_two : (s : Bool) (live other : Side) (files : Files) → tell_sides (first_of s live (Some other)) (second_of s live (Some other)) ≡ Some files → (d e : DiskState) × (live.told ≡ Some d) × (other.told ≡ Some e) × (files ≡ files_in s d (Some e))
told_two true live other files is = let b = both_of other.told live.told files is in (b.1, b.0, b.3, b.2, b.4)
told_two false live other files is = both_of live.told other.told files is

-- the live file of a journal that holds these payloads
pub record LiveOf (newest format : Format) (generation : Option ℕ) (end : ℕ) (cursor : Cursor) (payloads : List (List ℕ)) (d : DiskState) : Type 0 where
  pub settled : IsSettled newest format payloads end cursor d
  pub numbered : newest ≡ Two → first_generation payloads ≡ generation

live_of : (newest n format : Format) (generation : Option ℕ) (end : ℕ) (cursor : Cursor) (payloads : List (List ℕ)) (d : DiskState) (is : newest ≡ n) (live : IsLive n format generation end cursor d) → live.payloads ≡ payloads → LiveOf newest format generation end cursor payloads d
live_of newest n format generation end cursor payloads d is live same = record {
  settled = subst (λ m. IsSettled m format payloads end cursor d) (sym is) (subst (λ l. IsSettled n format l end cursor d) same live.settled);
  numbered = λ two. ap first_generation (sym same) ∙ live.numbered (sym is ∙ two);
}

-- the payloads that a journal holds are those of its live file
pub holds_live : (j : JournalState) (cursor : Cursor) (is_shut : Bool) (room : ℕ) (sound : IsSound j cursor is_shut room) (works : j.is_broken ≡ false) (files : Files) (held : Image)
    → tell_sides (first_of j.is_second_live j.live j.other) (second_of j.is_second_live j.live j.other) ≡ Some files → Holds held files
    → (d : DiskState) × (j.live.told ≡ Some d) × LiveOf (newest_of j.other) j.format j.generation j.end cursor held.payloads d × (held.format ≡ j.format)
holds_live j cursor is_shut room sound works files held tells holds = go j.other refl
  where
    go : (o : Option Side) → j.other ≡ o → (d : DiskState) × (j.live.told ≡ Some d) × LiveOf (newest_of j.other) j.format j.generation j.end cursor held.payloads d × (held.format ≡ j.format)
    go None is =
        let one = told_one j.is_second_live j.live files (ap (λ o. tell_sides (first_of j.is_second_live j.live o) (second_of j.is_second_live j.live o)) (sym is) ∙ tells) in
        let alone = subst (λ n. IsLive n j.format j.generation j.end cursor one.0) (ap newest_of is) (sound.live works one.0 one.1) in
        let same = holds_once (image j.format alone.payloads) held (record { first = one.0; second = None }) (holds_one j.format j.generation j.end cursor one.0 alone) (subst (Holds held) one.2 holds) in (
          one.0,
          one.1,
          live_of (newest_of j.other) One j.format j.generation j.end cursor held.payloads one.0 (ap newest_of is) alone (ap (λ (i : Image). i.payloads) same),
          sym (ap (λ (i : Image). i.format) same),
        )
    go (Some side) is =
        let two = told_two j.is_second_live j.live side files (ap (λ o. tell_sides (first_of j.is_second_live j.live o) (second_of j.is_second_live j.live o)) (sym is) ∙ tells) in
        let paired = subst (λ n. IsLive n j.format j.generation j.end cursor two.0) (ap newest_of is) (sound.live works two.0 two.2) in
        let same =
        holds_once (image j.format paired.payloads) held (files_in j.is_second_live two.0 (Some two.1))
        (holds_two j.format j.generation j.end cursor two.0 j.is_second_live is_shut j.staged two.1 paired (sound.waits works side is two.1 two.3)) (subst (Holds held) two.4 holds) in (
          two.0,
          two.2,
          live_of (newest_of j.other) Two j.format j.generation j.end cursor held.payloads two.0 (ap newest_of is) paired (ap (λ (i : Image). i.payloads) same),
          sym (ap (λ (i : Image). i.format) same),
        )

newest_two : (other : Option Side) → is_alone other ≡ false → newest_of other ≡ Two
newest_two None paired = absurd (let e : true ≡ false = paired in cc)
newest_two (Some side) paired = refl

-- the Generation of a pair is the first payload that it holds
pub holds_first : (j : JournalState) (cursor : Cursor) (is_shut : Bool) (room : ℕ) (sound : IsSound j cursor is_shut room) (works : j.is_broken ≡ false) → is_alone j.other ≡ false → (files : Files) (held : Image)
    → tell_sides (first_of j.is_second_live j.live j.other) (second_of j.is_second_live j.live j.other) ≡ Some files → Holds held files
    → j.generation ≡ first_generation held.payloads
holds_first j cursor is_shut room sound works paired files held tells holds =
    let live = holds_live j cursor is_shut room sound works files held tells holds in
    sym (live.2.numbered (newest_two j.other paired))

-- the format of what it holds is its own
pub holds_format : (j : JournalState) (cursor : Cursor) (is_shut : Bool) (room : ℕ) (sound : IsSound j cursor is_shut room) → HoldsFormat j
holds_format j cursor is_shut room sound works files tells held holds = (holds_live j cursor is_shut room sound works files held tells holds).3

length-records : (payloads : List (List ℕ)) → 9 + length (records payloads) ≡ file_length payloads
length-records [] = refl
length-records (payload ∷ payloads) = omega (arith, length-records payloads, length-append (framed payload) (records payloads), length-framed payload)

-- the end of a file is where its payloads end
pub ends_at : (newest format : Format) (payloads : List (List ℕ)) (end : ℕ) (bytes : List ℕ) → IsAtRest newest format payloads end bytes → end ≡ file_length payloads
ends_at newest format payloads end bytes rest = omega (arith, rest.end_is, length-records payloads)

-- so it is with a journal
pub measured : (j : JournalState) (cursor : Cursor) (is_shut : Bool) (room : ℕ) (sound : IsSound j cursor is_shut room) → IsMeasured j
measured j cursor is_shut room sound works files tells held holds =
    let live = holds_live j cursor is_shut room sound works files held tells holds in
    ends_at (newest_of j.other) j.format held.payloads j.end live.0.bytes live.2.settled.file

-- the rows of payloads
not_generation : (payload : List ℕ) → generation_in payload ≡ None → is_generation payload ≡ false
not_generation payload none = go (is_generation payload) refl
  where
    go : (b : Bool) → is_generation payload ≡ b → is_generation payload ≡ false
    go false is = is
    go true is = absurd (let e : Some (from_be_bytes w64 (drop 9 payload)) ≡ None = ap (λ (b : Bool). cond b (Some (from_be_bytes w64 (drop 9 payload))) None) (sym is) ∙ none in cc)

kept_rows : (payloads : List (List ℕ)) → first_generation payloads ≡ None → without_generation payloads ≡ payloads
kept_rows [] none = refl
kept_rows (payload ∷ payloads) none = ap (λ (b : Bool). cond b payloads (payload ∷ payloads)) (not_generation payload none)

is_one : (payload : List ℕ) (n : ℕ) → generation_in payload ≡ Some n → is_generation payload ≡ true
is_one payload n some = go (is_generation payload) refl
  where
    go : (b : Bool) → is_generation payload ≡ b → is_generation payload ≡ true
    go true is = is
    go false is = absurd (let e : None ≡ Some n = ap (λ (b : Bool). cond b (Some (from_be_bytes w64 (drop 9 payload))) None) (sym is) ∙ some in cc)

get_more : (payload : List ℕ) (payloads : List (List ℕ)) (index : ℕ) → slice_get (payload ∷ payloads) (index + 1) ≡ slice_get payloads index
get_more payload payloads index = ap (slice_get (payload ∷ payloads)) (let e : index + 1 ≡ suc index = omega arith in e)

behind_one : (Z : Type 0) (payloads : List (List ℕ)) (n index : ℕ) (found : Option (Vec ℕ Z × ℕ)) → first_generation payloads ≡ Some n → Finds payloads (index + 1) (Ok found) → Replays {Z = Z} (without_generation payloads) index (Ok (option_map (λ f. f.0) found))
behind_one Z [] n index found is finds = absurd (let e : None ≡ Some n = is in cc)
behind_one Z (payload ∷ payloads) n index None is finds = subst (λ (l : List (List ℕ)). length l ≤ index) (ap (λ (b : Bool). cond b payloads (payload ∷ payloads)) (sym (is_one payload n is))) (omega (arith, finds))
behind_one Z (payload ∷ payloads) n index (Some f) is finds =
    subst (λ (l : List (List ℕ)). slice_get l index ≡ Some f.0.items) (ap (λ (b : Bool). cond b payloads (payload ∷ payloads)) (sym (is_one payload n is))) (sym (get_more payload payloads index) ∙ finds.0)

plain : (Z : Type 0) (payloads : List (List ℕ)) (index : ℕ) (found : Option (Vec ℕ Z × ℕ)) → Finds payloads index (Ok found) → Replays {Z = Z} payloads index (Ok (option_map (λ f. f.0) found))
plain Z payloads index None finds = finds
plain Z payloads index (Some f) finds = finds.0

pub rows_found : (Z : Type 0) (other : Option Side) (generation : Option ℕ) (payloads : List (List ℕ)) (index : ℕ) (found : Option (Vec ℕ Z × ℕ)) → (newest_of other ≡ Two → first_generation payloads ≡ generation)
    → Finds payloads (place_in (is_some other) generation index) (Ok found) → Replays {Z = Z} (rows_in other payloads) index (Ok (option_map (λ f. f.0) found))
rows_found Z None None payloads index found is finds = plain Z payloads index found finds
rows_found Z None (Some n) payloads index found is finds = plain Z payloads index found finds
rows_found Z (Some side) None payloads index found is finds = subst (λ l. Replays {Z = Z} l index (Ok (option_map (λ f. f.0) found))) (sym (kept_rows payloads (is refl))) (plain Z payloads index found finds)
rows_found Z (Some side) (Some n) payloads index found is finds = behind_one Z payloads n index found (is refl) finds

rows_short : (other : Option Side) (payloads : List (List ℕ)) → length (rows_in other payloads) ≤ length payloads
rows_short None payloads = omega arith
rows_short (Some side) [] = omega arith
rows_short (Some side) (payload ∷ payloads) = go (is_generation payload)
  where
    go : (b : Bool) → length (cond b payloads (payload ∷ payloads)) ≤ length (payload ∷ payloads)
    go true = omega arith
    go false = omega arith

-- there are at most as many rows as bytes up to the end
pub rows_few : {newest format : Format} (other : Option Side) (payloads : List (List ℕ)) (end : ℕ) (bytes : List ℕ) → IsAtRest newest format payloads end bytes → length (rows_in other payloads) ≤ end
rows_few other payloads end bytes rests = omega (arith, rows_short other payloads, count_records payloads, rests.end_is)

pub some_mapped : {S T : Type 0} (f : S → T) (o : Option S) → is_some (option_map f o) ≡ is_some o
some_mapped f None = refl
some_mapped f (Some x) = refl

pub replay_rows : (Z : Type 0) (other : Option Side) (generation : Option ℕ) (payloads qs : List (List ℕ)) (index place : ℕ) (b : Bool) (found : Option (Vec ℕ Z × ℕ)) → (newest_of other ≡ Two → first_generation qs ≡ generation)
    → qs ≡ payloads → place ≡ place_in b generation index → b ≡ is_some other → Finds qs place (Ok found) → Replays {Z = Z} (rows_in other payloads) index (Ok (option_map (λ f. f.0) found))
replay_rows Z other generation payloads qs index place b found numbered same place_is paired finds =
    subst (λ l. Replays {Z = Z} (rows_in other l) index (Ok (option_map (λ f. f.0) found))) same
    (rows_found Z other generation qs index found numbered (subst (λ k. Finds qs k (Ok found)) (place_is ∙ ap (λ (x : Bool). place_in x generation index) paired) finds))
