-- What the buffer of a batch stands for.
use Rattle.std.proofs.Common.{◌≡◌, ◌≢◌, ◌≤◌, ◌<◌, ℕ, suc, ◌+◌, ◌-◌, Bool, false, cond, List, [], ◌∷◌, ◌++◌, length, take, drop, slice_set, Option, Some, None, refl, sym, ◌∙◌, ap, subst, arith, length-append, length-take, length-drop, append_assoc, take-append-drop}
use Rattle.std.specs.Prelude.{nat_lt}
use Rattle.std.proofs.lemmas.Bool.{le-ltb}
use Rattle.std.proofs.lemmas.List.{take_at, take-take, append-nil}
use Rattle.std.specs.List.{AllByRecursion}
use Rattle.disk_model.specs.Disk.{Tells}
use Rattle.disk_model.proofs.Stages.{tells_same}
use Rattle.tx_journal.specs.declared.error.JournalError.TheVariants.{Full, Reopen}
use Rattle.tx_journal.specs.declared.format.Format.TheVariants.{One}
use Rattle.tx_journal.specs.declared.staged.Staged.{Staged}
use Rattle.tx_journal.specs.declared.staged.Staged.TheVariants.{Added, NoRoom}
use Rattle.tx_journal.specs.File.{longest, most_bytes, framed, records, image, IsShort, payloads_from}
use Rattle.tx_journal.specs.Pair.{Files, Holds}
use Rattle.tx_journal.specs.Calls.{JournalState, generation_with}
use Rattle.tx_journal.specs.Batches.{most_batch, read_or_none, batch_payloads, IsBatch, AddsTo, batch_refusal, CommittedAll}
use Rattle.tx_journal.proofs.Files.{up, up_is, with_fronts, all_records, count_records, fronts_end, shut_end, length-framed}
use Rattle.tx_journal.proofs.Records.{records-append, short-push, one_text}
use Rattle.tx_journal.proofs.Grows.{grown, one_generation, one_length}

-- records and a closed gate stand for their payloads
pub batch_is : (payloads : List (List ℕ)) → AllByRecursion IsShort payloads → batch_payloads (records payloads ++ 0 ∷ []) ≡ payloads
batch_is payloads short =
    let text = records payloads ++ 0 ∷ [] in
    let size : length text ≡ length (records payloads) + 1 = length-append (records payloads) (0 ∷ []) in
    let more = suc (length text) - length payloads in
    let some : 1 ≤ more = omega (arith, count_records payloads, size) in
    let most : suc (length text) ≡ up payloads more = omega (arith, up_is payloads more, count_records payloads, size) in
    ap read_or_none
    (ap (λ (k : ℕ). payloads_from k 0 text) most ∙ all_records payloads more 0 (0 ∷ []) short
    ∙ ap (with_fronts payloads) (shut_end more (0 + length (records payloads)) 0 [] some (omega arith)) ∙ fronts_end payloads)

-- so does the buffer of a batch
pub view_is : {buffer : List ℕ} {len : ℕ} {generation : Option ℕ} (b : IsBatch buffer len generation) → batch_payloads (take (len + 1) buffer) ≡ b.payloads
view_is b = ap batch_payloads b.text ∙ batch_is b.payloads b.short

pub held_is : {buffer : List ℕ} {len : ℕ} {generation : Option ℕ} (b : IsBatch buffer len generation) (now : List (List ℕ)) → batch_payloads (take (len + 1) buffer) ≡ now → b.payloads ≡ now
held_is b now is = sym (view_is b) ∙ is

-- a buffer that begins with a closed gate
pub empty_batch : (buffer : List ℕ) → take 1 buffer ≡ 0 ∷ [] → length buffer ≡ longest + 6 → IsBatch buffer 0 None
empty_batch buffer shut room = record { payloads = []; short = tt; text = shut; len_is = refl; few = omega arith; room_is = room; numbered = refl }

-- one that gets one
pub cleared : (buffer : List ℕ) → length buffer ≡ longest + 6 → IsBatch (slice_set buffer 0 0) 0 None
cleared [] room = absurd (omega (arith, room))
cleared (b ∷ buffer) room = empty_batch (0 ∷ buffer) refl room

-- the text behind the first gate
pub text_of : (payloads : List (List ℕ)) → payloads ≢ [] → 1 ∷ drop 1 (records payloads ++ 0 ∷ []) ≡ records payloads ++ 0 ∷ []
text_of [] some = absurd (some refl)
text_of (first ∷ rest) some = refl

pub not_empty : (payloads : List (List ℕ)) → (length (records payloads) ≡ 0 → ⊥) → payloads ≢ []
not_empty payloads some = λ none. some (ap (λ (l : List (List ℕ)). length (records l)) none)

pub is_empty : (payloads : List (List ℕ)) → length (records payloads) ≡ 0 → payloads ≡ []
is_empty [] none = refl
is_empty (first ∷ rest) none = absurd (omega (arith, none))

regroup : (a f d p m : List ℕ) → (a ++ ((f ++ d) ++ p)) ++ m ≡ (a ++ f) ++ ((d ++ p) ++ m)
regroup a f d p m =
    append_assoc a ((f ++ d) ++ p) m ∙ ap (λ (l : List ℕ). a ++ (l ++ m)) (append_assoc f d p) ∙ ap (λ (l : List ℕ). a ++ l) (append_assoc f (d ++ p) m) ∙ sym (append_assoc a f ((d ++ p) ++ m))

-- One more record, over the closed gate. The buffer was lent, and is given back with this part of it overwritten.
module _ {buffer : List ℕ} {len : ℕ} {generation : Option ℕ} (b : IsBatch buffer len generation) (lent part post payload : List ℕ) (size : ℕ) (short : IsShort payload) (lent_is : lent ≡ buffer) (size_is : length lent ≡ size) (filled : take (6 + length payload) part ≡ 1 ∷ framed payload ++ 0 ∷ []) (room : len + (5 + length payload) ≤ most_batch) where
  abbrev whole : List ℕ
  whole = take len lent ++ (part ++ post)

  abbrev after : List ℕ
  after = take size (whole ++ drop (length whole) buffer)

  abbrev front : List ℕ
  front = 1 ∷ framed payload ++ 0 ∷ []

  cut : take len lent ≡ records b.payloads
  cut = ap (take len) lent_is ∙ sym (take-take len (len + 1) buffer (omega arith)) ∙ ap (take len) b.text ∙ take_at (records b.payloads) (0 ∷ []) len (sym b.len_is)

  part_is : part ≡ front ++ drop (6 + length payload) part
  part_is = sym (take-append-drop (6 + length payload) part) ∙ ap (λ (l : List ℕ). l ++ drop (6 + length payload) part) filled

  split : whole ++ drop (length whole) buffer ≡ (records b.payloads ++ front) ++ ((drop (6 + length payload) part ++ post) ++ drop (length whole) buffer)
  split =
      ap (λ (l : List ℕ). (l ++ (part ++ post)) ++ drop (length whole) buffer) cut
      ∙ ap (λ (l : List ℕ). (records b.payloads ++ (l ++ post)) ++ drop (length whole) buffer) part_is
      ∙ regroup (records b.payloads) front (drop (6 + length payload) part) post (drop (length whole) buffer)

  front_size : length (records b.payloads ++ front) ≡ len + (5 + length payload) + 1
  front_size = omega (arith, length-append (records b.payloads) front, b.len_is, length-framed payload, length-append (framed payload) (0 ∷ []))

  spelled_is : records (b.payloads ++ payload ∷ []) ++ 0 ∷ [] ≡ records b.payloads ++ front
  spelled_is =
      ap (λ (l : List ℕ). l ++ 0 ∷ []) (records-append b.payloads (payload ∷ [])) ∙ append_assoc (records b.payloads) (records (payload ∷ [])) (0 ∷ []) ∙ ap (λ (l : List ℕ). records b.payloads ++ l) (sym (one_text payload))

  fits : len + (5 + length payload) + 1 ≤ size
  fits = omega (arith, room, size_is, ap length lent_is, b.room_is)

  after_is : take (len + (5 + length payload) + 1) after ≡ records (b.payloads ++ payload ∷ []) ++ 0 ∷ []
  after_is =
      take-take (len + (5 + length payload) + 1) size (whole ++ drop (length whole) buffer) fits
      ∙ ap (take (len + (5 + length payload) + 1)) split
      ∙ take_at (records b.payloads ++ front) ((drop (6 + length payload) part ++ post) ++ drop (length whole) buffer) (len + (5 + length payload) + 1) front_size
      ∙ sym spelled_is

  after_size : length after ≡ length buffer
  after_size = omega (arith, length-take size (whole ++ drop (length whole) buffer), length-append whole (drop (length whole) buffer), length-drop (length whole) buffer, size_is, ap length lent_is)

  after_length : len + (5 + length payload) ≡ length (records (b.payloads ++ payload ∷ []))
  after_length = omega (arith, b.len_is, ap length (records-append b.payloads (payload ∷ [])), length-append (records b.payloads) (records (payload ∷ [])), one_length payload)

  pub one_more : (later : Option ℕ) → later ≡ generation_with (9 + len) generation payload → IsBatch after (len + (5 + length payload)) later
  one_more later later_is = record {
    payloads = b.payloads ++ payload ∷ [];
    short = short-push b.payloads payload b.short short;
    text = after_is;
    len_is = after_length;
    few = room;
    room_is = after_size ∙ b.room_is;
    numbered = later_is ∙ sym (one_generation (9 + len) generation payload) ∙ sym (grown One b.payloads (payload ∷ []) (9 + len) generation (omega (arith, b.len_is)) (sym b.numbered));
  }

  -- it holds the payload behind the others
  pub added : (later : Option ℕ) → later ≡ generation_with (9 + len) generation payload → (now : List (List ℕ)) → batch_payloads (take (len + 1) buffer) ≡ now → AddsTo payload Added now (batch_payloads (take (len + (5 + length payload) + 1) after))
  unfolding one_more
  added later later_is now is =
      let view : batch_payloads (take (len + (5 + length payload) + 1) after) ≡ b.payloads ++ payload ∷ [] = view_is (one_more later later_is) in (
        view ∙ ap (λ (l : List (List ℕ)). l ++ payload ∷ []) (held_is b now is),
        omega (arith, ap (λ (l : List (List ℕ)). length (records l)) view, after_length, room),
      )

-- a payload that has no room
pub no_room : {buffer : List ℕ} {len : ℕ} {generation : Option ℕ} (b : IsBatch buffer len generation) (now : List (List ℕ)) → batch_payloads (take (len + 1) buffer) ≡ now → (payload : List ℕ) → most_batch < len + (5 + length payload) → AddsTo payload NoRoom now now
no_room b now is payload full = (
  refl,
  omega (arith, full, b.len_is, ap (λ (l : List (List ℕ)). length (records l)) (held_is b now is), ap length (records-append now (payload ∷ [])), length-append (records now) (records (payload ∷ [])), one_length payload),
)

-- a batch that has room isn't refused
fits_in : (j : JournalState) (batch : List (List ℕ)) → j.is_broken ≡ false → j.end + length (records batch) ≤ most_bytes → batch_refusal j batch ≡ None
fits_in j batch works room =
    let small : nat_lt most_bytes (j.end + length (records batch)) ≡ false = le-ltb _ _ room in
    ap (λ (b : Bool). cond b (Some Reopen) (cond (nat_lt most_bytes (j.end + length (records batch))) (Some (Full j.end)) None)) works ∙ ap (λ (b : Bool). cond b (Some (Full j.end)) None) small

pub staged_fits : (j : JournalState) (old new : List (List ℕ)) (payload : List ℕ) (staged : Staged) → j.is_broken ≡ false → j.end + length (records old) + 5 + length payload ≤ most_bytes → AddsTo payload staged old new → batch_refusal j new ≡ None
staged_fits j old new payload Added works room adds =
    fits_in j new works (omega (arith, room, ap (λ (l : List (List ℕ)). length (records l)) adds.0, ap length (records-append old (payload ∷ [])), length-append (records old) (records (payload ∷ [])), one_length payload))
staged_fits j old new payload NoRoom works room adds = fits_in j new works (omega (arith, room, ap (λ (l : List (List ℕ)). length (records l)) adds.0))

-- an empty batch is done at once
pub empty_done : (batch : List (List ℕ)) → batch ≡ [] → (told : Option Files) → Tells (CommittedAll batch) told told
empty_done batch none told = tells_same (CommittedAll batch) told told
    (λ f held holds. subst (λ (l : List (List ℕ)). Holds (image held.format l) f) (sym (ap (λ (l : List (List ℕ)). held.payloads ++ l) none ∙ append-nil held.payloads)) holds) refl
