-- A compaction: the other file step by step, and the turn.
use Rattle.std.proofs.Common.{◌≡◌, inl, inr, ℕ, ◌+◌, ◌<◌, ◌≤◌, ◌^◌, Bool, true, false, List, [], ◌∷◌, ◌++◌, length, Option, Some, None, Ok, refl, sym, ◌∙◌, ap, subst, arith}
use Rattle.std.specs.Prelude.{not, unwrap_or, is_err, Result, Err}
use Rattle.actor_ports.specs.declared.port.PortError.{PortError}
use Rattle.actor_ports.specs.Port.{HasCause}
use Rattle.std.proofs.lemmas.Nat.{from_be_bytes-to_be_bytes_8}
use Rattle.disk_model.specs.Disk.{DiskState, Tells}
use Rattle.disk_model.specs.Crash.{Since}
use Rattle.disk_model.proofs.Moments.{leaves_durable, later_weaker, since_weaker}
use Rattle.disk_model.proofs.Stages.{Both, told_before}
use Rattle.tx_journal.specs.declared.format.Format.{Format}
use Rattle.tx_journal.specs.declared.format.Format.TheVariants.{Two}
use Rattle.tx_journal.specs.declared.find.Cursor.{Cursor}
use Rattle.tx_journal.specs.File.{most_bytes, file_payloads, image, framed, opened, IsShort}
use Rattle.tx_journal.specs.Pair.{Files, generation_row, first_generation, file_generation, generation_in, number, ReadsAs, SinceOpened, Holds, IsJust, IsEither}
use Rattle.tx_journal.specs.Journal.{IsAtRest, IsSpelled}
use Rattle.tx_journal.specs.Compaction.{IsShutFront, IsUnmade, StaysUnmade, IsMadeOrNot, Finishes, IsFinished, MayStart, Begins, HasFirstRow, HasBegunFile, AddsRow}
use Rattle.tx_journal.specs.Calls.{Side, JournalState, first_of, second_of, tell_sides, next_number, staged_payloads, OtherKeeps, Keeps, Kept, HasBegun, HasRow, Replaces, Replaced}
use Rattle.tx_journal.specs.Sound.{margin, Yields, Waits, IsLive, IsSound, newest_of}
use Rattle.tx_journal.specs.Found.{at_first}
use Rattle.tx_journal.proofs.Rests.{rest_image, same_payloads}
use Rattle.tx_journal.proofs.Chosen.{rest_generation, rest_made, live_in}
use Rattle.tx_journal.proofs.Fronts.{leaves_unmade}
use Rattle.tx_journal.proofs.Records.{rest_within}
use Rattle.tx_journal.proofs.Lifts.{files_in, OtherTells, lift, opens_both, waits_reads, same_since, live_counts, holds_two, holds_once, turned, files_turned}

-- a compaction may start on the file that waits
pub may_start : (s : Bool) (generation : Option ℕ) (is_shut : Bool) (staged : Option ℕ) (d : DiskState) → Waits s generation is_shut staged d → MayStart is_shut d
may_start s generation true staged d waits = waits.0
may_start s generation false staged d waits = (waits.0, waits.2)

-- a call of the disk that is done
pub cause_ok : {T : Type 0} (r : Result T PortError) (before after : ℕ) → is_err r ≡ false → HasCause before after r → before ≤ after
cause_ok (Ok x) before after done cause = cause
cause_ok (Err e) before after done cause = absurd (let f : true ≡ false = done in cc)

-- the count of the other disk after it
pub other_keeps : (old new : Option Side) (a b : Side) → old ≡ Some a → new ≡ Some b → a.faults ≤ b.faults → OtherKeeps old new
other_keeps None new a b is there le = tt
other_keeps (Some x) None a b is there le = absurd (let f : None ≡ Some b = there in cc)
other_keeps (Some x) (Some y) a b is there le =
    let one : x ≡ a = cc in
    let two : y ≡ b = cc in
    omega (arith, le, ap (λ (s : Side). s.faults) one, ap (λ (s : Side). s.faults) two)

pub number_or : (generation : Option ℕ) → unwrap_or generation 0 ≡ number generation
number_or None = refl
number_or (Some n) = refl

-- what a crash leaves of the other file during a start or a row yields to the live one
made_yields : (s : Bool) (n : ℕ) (bytes file : List ℕ) → Yields s n bytes → IsMadeOrNot bytes file → Yields s n file
made_yields s n bytes file yields (inl not_made) = inl not_made
made_yields s n bytes file yields (inr same) = subst (Yields s n) (sym same) yields

staged_is : (s : Bool) (d e : DiskState) → staged_payloads s (files_in s d (Some e)) ≡ file_payloads Two (opened e.bytes)
staged_is true d e = refl
staged_is false d e = refl

row_generation : (n : ℕ) → n < 2 ^ 64 → generation_in (generation_row n) ≡ Some n
row_generation n small = ap (λ (k : ℕ). Some k) (from_be_bytes-to_be_bytes_8 n small)

module _ (j : JournalState) (cursor : Cursor) (is_shut : Bool) (room : ℕ) (sound : IsSound j cursor is_shut room) (works : j.is_broken ≡ false) (side side_new : Side) (some : j.other ≡ Some side) where
  abbrev old : Option Files
  old = tell_sides (first_of j.is_second_live j.live j.other) (second_of j.is_second_live j.live j.other)

  abbrev new : Option Files
  new = tell_sides (first_of j.is_second_live j.live (Some side_new)) (second_of j.is_second_live j.live (Some side_new))

  pub live_two : (d : DiskState) → j.live.told ≡ Some d → IsLive Two j.format j.generation j.end cursor d
  live_two d tells = subst (λ n. IsLive n j.format j.generation j.end cursor d) (ap newest_of some) (sound.live works d tells)

  waits_at : (e : DiskState) → side.told ≡ Some e → Waits j.is_second_live j.generation is_shut j.staged e
  waits_at e tells = sound.waits works side some e tells

  -- a step of the other disk
  step_other : (step : Files → Files → Type 0) (Q : DiskState → DiskState → Type 0) → Tells Q side.told side_new.told
      → ((d e e_new : DiskState) → IsLive Two j.format j.generation j.end cursor d → Waits j.is_second_live j.generation is_shut j.staged e → Q e e_new → step (files_in j.is_second_live d (Some e)) (files_in j.is_second_live d (Some e_new)))
      → Tells step old new
  step_other step Q q f = lift j.is_second_live step (λ d e. e ≡ d) Q j.live j.live j.other (Some side_new) (same j.live.told) (others j.other some)
      (λ none. absurd (let e : None ≡ Some side = sym none ∙ some in cc))
      (λ other is d d_new e e_new tells tells_other same q.
      let one : other ≡ side = let e : Some other ≡ Some side = sym is ∙ some in cc in
      subst (λ x. step (files_in j.is_second_live d (Some e)) (files_in j.is_second_live x (Some e_new))) (sym same)
      (f d e e_new (live_two d tells) (waits_at e (ap (λ (x : Side). x.told) (sym one) ∙ tells_other)) q))
    where
      same : (t : Option DiskState) → Tells (λ d e. e ≡ d) t t
      same None = refl
      same (Some d) = (d, refl, refl)

      others : (o : Option Side) → o ≡ Some side → OtherTells Q o (Some side_new)
      others None is = absurd (let e : None ≡ Some side = is in cc)
      others (Some other) is = let one : other ≡ side = cc in (side_new, refl, subst (λ (x : Side). Tells Q x.told side_new.told) (sym one) q)

  keeps_with : (d e e_new : DiskState) → IsLive Two j.format j.generation j.end cursor d → Waits j.is_second_live j.generation is_shut j.staged e → Since (Yields j.is_second_live (number j.generation)) e e_new → Keeps (files_in j.is_second_live d (Some e)) (files_in j.is_second_live d (Some e_new))
  keeps_with d e e_new live waits since held holds =
      let same = holds_once (image j.format live.payloads) held (files_in j.is_second_live d (Some e)) (holds_two j.format j.generation j.end cursor d j.is_second_live is_shut j.staged e live waits) holds in
      subst (λ i. SinceOpened (IsJust i) (files_in j.is_second_live d (Some e)) (files_in j.is_second_live d (Some e_new))) same
      (opens_both j.is_second_live (IsJust (image j.format live.payloads)) (IsSpelled Two j.format live.payloads) (Yields j.is_second_live (number j.generation)) d d e e_new
      (same_since (IsSpelled Two j.format live.payloads) d d refl (leaves_durable (IsSpelled Two j.format live.payloads) d live.settled.durable (j.end, live.settled.file)))
      since
      (λ f g spells yields. live_counts j.is_second_live j.format live.payloads (number j.generation) f g spells (omega (arith, ap number (live.numbered refl))) yields))

  kept_with : (d e e_new : DiskState) (shut_new : Bool) (staged_new : Option ℕ) → IsLive Two j.format j.generation j.end cursor d → Waits j.is_second_live j.generation is_shut j.staged e → Waits j.is_second_live j.generation shut_new staged_new e_new → Kept (files_in j.is_second_live d (Some e)) (files_in j.is_second_live d (Some e_new))
  kept_with d e e_new shut_new staged_new live waits after held holds =
      let same = holds_once (image j.format live.payloads) held (files_in j.is_second_live d (Some e)) (holds_two j.format j.generation j.end cursor d j.is_second_live is_shut j.staged e live waits) holds in
      subst (λ i. Holds i (files_in j.is_second_live d (Some e_new))) same (holds_two j.format j.generation j.end cursor d j.is_second_live shut_new staged_new e_new live after)

  begun_waits : (e_new : DiskState) → IsShutFront e_new × HasFirstRow (next_number j.generation) e_new → Waits j.is_second_live j.generation true (Some 31) e_new
  begun_waits e_new has = (has.0, λ at is. let same : 31 ≡ at = cc in ([], subst (λ k. IsAtRest Two Two (generation_row (next_number j.generation) ∷ []) k (opened e_new.bytes)) same has.1))

  -- a start
  pub start_crash : Tells (Begins is_shut) side.told side_new.told → Tells Keeps old new
  start_crash begins = step_other Keeps (Begins is_shut) begins
      (λ d e e_new live waits begins. keeps_with d e e_new live waits
      (since_weaker (IsMadeOrNot e.bytes) (Yields j.is_second_live (number j.generation)) e e_new
      (λ file. made_yields j.is_second_live (number j.generation) e.bytes file (waits_reads j.is_second_live j.generation is_shut j.staged e waits))
      (begins (may_start j.is_second_live j.generation is_shut j.staged e waits))))

  pub start_kept : Tells (HasBegunFile is_shut (next_number j.generation)) side.told side_new.told → Tells Kept old new
  start_kept has = step_other Kept (HasBegunFile is_shut (next_number j.generation)) has
      (λ d e e_new live waits has. kept_with d e e_new true (Some 31) live waits (begun_waits e_new (has (may_start j.is_second_live j.generation is_shut j.staged e waits))))

  pub start_begun : Tells (HasBegunFile is_shut (next_number j.generation)) side.told side_new.told → Tells (HasBegun j.is_second_live (next_number j.generation)) old new
  start_begun has = step_other (HasBegun j.is_second_live (next_number j.generation)) (HasBegunFile is_shut (next_number j.generation)) has
      (λ d e e_new live waits has. staged_is j.is_second_live d e_new ∙ rest_image (generation_row (next_number j.generation) ∷ []) 31 (opened e_new.bytes) (has (may_start j.is_second_live j.generation is_shut j.staged e waits)).1)

  pub start_waits : Tells (HasBegunFile is_shut (next_number j.generation)) side.told side_new.told → (e : DiskState) → side_new.told ≡ Some e → Waits j.is_second_live j.generation true (Some 31) e
  start_waits has e tells =
      let before = told_before (HasBegunFile is_shut (next_number j.generation)) side.told side_new.told e has tells in
      begun_waits e (before.2 (may_start j.is_second_live j.generation is_shut j.staged before.0 (waits_at before.0 before.1)))

  -- a row, while a compaction is under way
  module _ (at : ℕ) (staged : j.staged ≡ Some at) where
    shut_front : (shut : Bool) (e : DiskState) → Waits j.is_second_live j.generation shut j.staged e → IsShutFront e × ((rows : List (List ℕ)) × IsAtRest Two Two (generation_row (next_number j.generation) ∷ rows) at (opened e.bytes))
    shut_front true e waits = (waits.0, waits.1 at staged)
    shut_front false e waits = absurd (let none : Some at ≡ None = sym staged ∙ waits.3 in cc)

    pub row_within : (e : DiskState) → side.told ≡ Some e → at ≤ length e.bytes
    row_within e tells =
        let front = shut_front is_shut e (waits_at e tells) in
        let rest = front.1.1 in
        let size : length (opened e.bytes) ≡ length e.bytes = ap (λ (l : List ℕ). length (opened l)) front.0.reads.1 ∙ sym (ap length front.0.reads.1) in
        omega (arith, size, (rest_size rest))
      where
        rest_size : {newest format : Format} {payloads : List (List ℕ)} {end : ℕ} {bytes : List ℕ} → IsAtRest newest format payloads end bytes → end ≤ length bytes
        rest_size {newest} {format} {payloads} {end} {bytes} rests = (rest_within payloads end bytes rests).1

    pub row_crash : Tells StaysUnmade side.told side_new.told → Tells Keeps old new
    row_crash stays = step_other Keeps StaysUnmade stays
        (λ d e e_new live waits stays.
        let front = (shut_front is_shut e waits).0 in
        keeps_with d e e_new live waits (record {
          start = λ file image. inl (leaves_unmade e front file image);
          later = later_weaker IsUnmade (Yields j.is_second_live (number j.generation)) e e_new (λ file not_made. inl not_made) (stays front).1;
        }))

    module _ (payload text : List ℕ) (short : IsShort payload) (is : text ≡ 1 ∷ framed payload ++ 0 ∷ []) (few : at + 5 + length payload ≤ most_bytes) where
      added_waits : (e e_new : DiskState) → Waits j.is_second_live j.generation is_shut j.staged e → StaysUnmade e e_new → AddsRow at text e e_new → Waits j.is_second_live j.generation true (Some (at + 5 + length payload)) e_new
      added_waits e e_new waits stays adds =
          let front = shut_front is_shut e waits in (
            (stays front.0).0,
            λ place same.
                let one : at + 5 + length payload ≡ place = cc in
                (front.1.0 ++ payload ∷ [], subst (λ k. IsAtRest Two Two (generation_row (next_number j.generation) ∷ (front.1.0 ++ payload ∷ [])) k (opened e_new.bytes)) one (adds (generation_row (next_number j.generation) ∷ front.1.0) payload front.0 front.1.1 short is few)),
          )

      pub row_kept : Tells (Both StaysUnmade (AddsRow at text)) side.told side_new.told → Tells Kept old new
      row_kept both = step_other Kept (Both StaysUnmade (AddsRow at text)) both
          (λ d e e_new live waits both. kept_with d e e_new true (Some (at + 5 + length payload)) live waits (added_waits e e_new waits both.0 both.1))

      pub row_added : Tells (Both StaysUnmade (AddsRow at text)) side.told side_new.told → Tells (HasRow j.is_second_live payload) old new
      row_added both = step_other (HasRow j.is_second_live payload) (Both StaysUnmade (AddsRow at text)) both
          (λ d e e_new live waits both rows reads.
          let front = shut_front is_shut e waits in
          let before = rest_image (generation_row (next_number j.generation) ∷ front.1.0) at (opened e.bytes) front.1.1 in
          let same = same_payloads (generation_row (next_number j.generation) ∷ front.1.0) rows (sym before ∙ sym (staged_is j.is_second_live d e) ∙ reads) in
          let after = both.1 (generation_row (next_number j.generation) ∷ front.1.0) payload front.0 front.1.1 short is few in
          staged_is j.is_second_live d e_new ∙ rest_image ((generation_row (next_number j.generation) ∷ front.1.0) ++ payload ∷ []) (at + 5 + length payload) (opened e_new.bytes) after ∙ ap (λ (l : List (List ℕ)). Ok (l ++ payload ∷ [])) same)

      pub row_waits : (staged_new : ℕ) → staged_new ≡ at + 5 + length payload → Tells (Both StaysUnmade (AddsRow at text)) side.told side_new.told → (e : DiskState) → side_new.told ≡ Some e → Waits j.is_second_live j.generation is_shut (Some staged_new) e
      row_waits staged_new new_is both e tells =
          let before = told_before (Both StaysUnmade (AddsRow at text)) side.told side_new.told e both tells in
          subst (λ k. Waits j.is_second_live j.generation is_shut (Some k) e) (sym new_is)
          (go before.0 is_shut (waits_at before.0 before.1) (added_waits before.0 e (waits_at before.0 before.1) before.2.0 before.2.1))
        where
          go : (d : DiskState) (shut : Bool) → Waits j.is_second_live j.generation shut j.staged d → Waits j.is_second_live j.generation true (Some (at + 5 + length payload)) e → Waits j.is_second_live j.generation shut (Some (at + 5 + length payload)) e
          go d true waits after = after
          go d false waits after = absurd (let none : Some at ≡ None = sym staged ∙ waits.3 in cc)

    -- the turn
    module _ (small : number j.generation < 2 ^ 62) where
      abbrev later : Option ℕ
      later = Some (next_number j.generation)

      old_yields : (format : Format) (payloads : List (List ℕ)) (f : List ℕ) (other : Bool) → IsSpelled Two format payloads f → first_generation payloads ≡ j.generation → Yields other (next_number j.generation) f
      old_yields format payloads f other spells is =
          let seen : number (file_generation f) ≡ number j.generation = ap number (rest_generation payloads spells.0 f spells.1 ∙ is) in
          inr (omega (arith, seen, margin_small other))
        where
          margin_small : (b : Bool) → margin b ≤ 1
          margin_small true = omega arith
          margin_small false = omega arith

      row_first : (rows : List (List ℕ)) → first_generation (generation_row (next_number j.generation) ∷ rows) ≡ later
      row_first rows = row_generation (next_number j.generation) (omega (arith, small))

      live_turned : (b : Bool) (f g : List ℕ) → live_in (not b) g f ≡ live_in b f g
      live_turned true f g = refl
      live_turned false f g = refl

      -- the file that is made is live beside the old one
      new_counts : (format : Format) (payloads rows : List (List ℕ)) (f : List ℕ) (made : List ℕ) → IsSpelled Two format payloads f → first_generation payloads ≡ j.generation → IsAtRest Two Two (generation_row (next_number j.generation) ∷ rows) at made → ReadsAs (IsJust (image Two (generation_row (next_number j.generation) ∷ rows))) Two (live_in j.is_second_live f made)
      new_counts format payloads rows f made spells is rests =
          subst (ReadsAs (IsJust (image Two (generation_row (next_number j.generation) ∷ rows))) Two) (live_turned j.is_second_live f made)
          (live_counts (not j.is_second_live) Two (generation_row (next_number j.generation) ∷ rows) (next_number j.generation) made f (at, rests) (omega (arith, ap number (row_first rows))) (old_yields format payloads f (not j.is_second_live) spells is))

      turn_either : (live_payloads rows : List (List ℕ)) (f g made : List ℕ) (format : Format) → IsSpelled Two format live_payloads f → first_generation live_payloads ≡ j.generation → IsAtRest Two Two (generation_row (next_number j.generation) ∷ rows) at made → IsMadeOrNot made g → ReadsAs (IsEither (image format live_payloads) (image Two (generation_row (next_number j.generation) ∷ rows))) Two (live_in j.is_second_live f g)
      turn_either payloads rows f g made format spells is rests (inl not_made) =
          let counts = live_counts j.is_second_live format payloads (number j.generation) f g spells (omega (arith, ap number is)) (inl not_made) in
          (inl counts.0, counts.1)
      turn_either payloads rows f g made format spells is rests (inr same) =
          let counts = subst (λ (l : List ℕ). ReadsAs (IsJust (image Two (generation_row (next_number j.generation) ∷ rows))) Two (live_in j.is_second_live f l)) (sym same) (new_counts format payloads rows f made spells is rests) in
          (inr counts.0, counts.1)

      replaces : (d e e_new : DiskState) → IsLive Two j.format j.generation j.end cursor d → Waits j.is_second_live j.generation is_shut j.staged e → Finishes e e_new → Replaces j.is_second_live (files_in j.is_second_live d (Some e)) (files_in j.is_second_live d (Some e_new))
      replaces d e e_new live waits finishes held rows holds reads =
          let front = shut_front is_shut e waits in
          let one = holds_once (image j.format live.payloads) held (files_in j.is_second_live d (Some e)) (holds_two j.format j.generation j.end cursor d j.is_second_live is_shut j.staged e live waits) holds in
          let two = same_payloads (generation_row (next_number j.generation) ∷ front.1.0) rows (sym (rest_image (generation_row (next_number j.generation) ∷ front.1.0) at (opened e.bytes) front.1.1) ∙ sym (staged_is j.is_second_live d e) ∙ reads) in
          subst (λ i. SinceOpened (IsEither i (image Two rows)) (files_in j.is_second_live d (Some e)) (files_in j.is_second_live d (Some e_new))) one
          (subst (λ (l : List (List ℕ)). SinceOpened (IsEither (image j.format live.payloads) (image Two l)) (files_in j.is_second_live d (Some e)) (files_in j.is_second_live d (Some e_new))) two
          (opens_both j.is_second_live (IsEither (image j.format live.payloads) (image Two (generation_row (next_number j.generation) ∷ front.1.0))) (IsSpelled Two j.format live.payloads) (IsMadeOrNot (opened e.bytes)) d d e e_new
          (same_since (IsSpelled Two j.format live.payloads) d d refl (leaves_durable (IsSpelled Two j.format live.payloads) d live.settled.durable (j.end, live.settled.file)))
          (finishes front.0)
          (λ f g spells made. turn_either live.payloads front.1.0 f g (opened e.bytes) j.format spells (live.numbered refl) front.1.1 made)))

      -- what holds after the turn
      turned_live : (e e_new : DiskState) → Waits j.is_second_live j.generation is_shut j.staged e → IsFinished e e_new → IsLive Two Two later at at_first e_new
      turned_live e e_new waits finished =
          let front = shut_front is_shut e waits in
          let done = finished front.0 in
          record {
            payloads = generation_row (next_number j.generation) ∷ front.1.0;
            settled = record {
              file = subst (λ (b : List ℕ). IsAtRest Two Two (generation_row (next_number j.generation) ∷ front.1.0) at b) (sym done.0) front.1.1;
              durable = done.1;
              gate = record { within = omega arith; place = refl };
            };
            numbered = λ two. row_first front.1.0;
          }

      turned_waits : (d : DiskState) → IsLive Two j.format j.generation j.end cursor d → Waits (not j.is_second_live) later false None d
      turned_waits d live = (
        live.settled.durable,
        old_yields j.format live.payloads d.bytes (not j.is_second_live) (j.end, live.settled.file) (live.numbered refl),
        inl (rest_made live.payloads j.end d.bytes live.settled.file),
        refl,
      )

      replaced : (d e e_new : DiskState) → IsLive Two j.format j.generation j.end cursor d → Waits j.is_second_live j.generation is_shut j.staged e → IsFinished e e_new → Replaced j.is_second_live (files_in j.is_second_live d (Some e)) (files_in j.is_second_live d (Some e_new))
      unfolding turned_live
      replaced d e e_new live waits finished rows reads =
          let front = shut_front is_shut e waits in
          let two = same_payloads (generation_row (next_number j.generation) ∷ front.1.0) rows (sym (rest_image (generation_row (next_number j.generation) ∷ front.1.0) at (opened e.bytes) front.1.1) ∙ sym (staged_is j.is_second_live d e) ∙ reads) in
          subst (λ (l : List (List ℕ)). Holds (image Two l) (files_in j.is_second_live d (Some e_new))) two
          (subst (Holds (image Two (generation_row (next_number j.generation) ∷ front.1.0))) (files_turned j.is_second_live d e_new)
          (holds_two Two later at at_first e_new (not j.is_second_live) false None d (turned_live e e_new waits finished) (turned_waits d live)))

      abbrev turned_new : Option Files
      turned_new = tell_sides (first_of (not j.is_second_live) side_new (Some j.live)) (second_of (not j.is_second_live) side_new (Some j.live))

      pub turn_fails : Tells Finishes side.told side_new.told → Tells (Replaces j.is_second_live) old new
      turn_fails finishes = step_other (Replaces j.is_second_live) Finishes finishes (λ d e e_new live waits finishes. replaces d e e_new live waits finishes)

      pub turn_crash : Tells Finishes side.told side_new.told → Tells (Replaces j.is_second_live) old turned_new
      turn_crash finishes = subst (Tells (Replaces j.is_second_live) old) (sym (turned j.is_second_live j.live side_new)) (turn_fails finishes)

      pub turn_done : Tells IsFinished side.told side_new.told → Tells (Replaced j.is_second_live) old turned_new
      turn_done finished = subst (Tells (Replaced j.is_second_live) old) (sym (turned j.is_second_live j.live side_new)) (step_other (Replaced j.is_second_live) IsFinished finished (λ d e e_new live waits finished. replaced d e e_new live waits finished))

      pub turn_live : Tells IsFinished side.told side_new.told → (e : DiskState) → side_new.told ≡ Some e → IsLive Two Two later at at_first e
      turn_live finished e tells =
          let before = told_before IsFinished side.told side_new.told e finished tells in
          turned_live before.0 e (waits_at before.0 before.1) before.2

      pub turn_waits : (d : DiskState) → j.live.told ≡ Some d → Waits (not j.is_second_live) later false None d
      turn_waits d tells = turned_waits d (live_two d tells)
