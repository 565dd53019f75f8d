-- A boot of the first form has no reading as one of today's: where a name of today would follow its node, it ends, or has
-- a boot that is too short for both.
use Rattle.std.proofs.Common.{◌≡◌, ℕ, suc, ◌+◌, ◌<◌, ◌≤◌, Bool, true, false, cond, ltb, List, [], ◌∷◌, ◌++◌, length, take, drop, Option, Some, None, Result, Ok, Err, refl, sym, ap, subst, ◌∙◌, arith}
use Rattle.std.specs.Prelude.{◌==◌, nat_lt, if◌then◌else◌, option_and_then, is_none}
use Rattle.std.specs.Int.{w64, from_be_bytes, to_be_bytes}
use Rattle.std.proofs.lemmas.Bool.Decides.{nat_tests}
use Rattle.std.proofs.lemmas.List.{append-nil, drop_at, length-drop, take_at}
use Rattle.actor_names.specs.Names.{space_fault, node_fault}
use Rattle.frame_wire.specs.declared.error.FrameError.{FrameError}
use Rattle.frame_wire.specs.declared.store_command.StoreCommand.{StoreCommand}
use Rattle.frame_wire.specs.declared.store_command.StoreCommand.TheVariants.{Boot}
use Rattle.frame_wire.specs.Kinds.{command_kind_of}
use Rattle.frame_wire.specs.Store.{command, located, command_reading}
use Rattle.store_tables.specs.declared.row.TableRow.{TableRow}
use Rattle.store_tables.specs.declared.row.TableRow.TheVariants as rows
use Rattle.wire_fields.specs.Fields.{◌>>=◌, bytes_of, byte, number64, both, sized, row, whole}
use Rattle.wire_fields.specs.Parts.{space_name, node_name, node_place, boot}
use Rattle.wire_fields.proofs.FieldLaws.{bind_ok, byte_law, guard_ok, passed_ok, sized_law}
use Rattle.store_payloads.specs.declared.payload.PayloadBody.{PayloadBody}
use Rattle.store_payloads.specs.declared.payload.PayloadBody.TheVariants.{Command, Row}
use Rattle.store_payloads.specs.declared.payload.StorePayload.{StorePayload}
use Rattle.store_payloads.specs.Fields.{boot_fields, table_row}
use Rattle.store_payloads.specs.FirstForm.{default_name, first_boot, first_boot_row, only_short, spaced, first_reading, IsOld}
use Rattle.store_payloads.specs.Laws.{ReadsCommands, ReadsRows, ReadsOldBoots, ReadsOldRows}
use Rattle.store_payloads.specs.Payloads.{end_of_moments, command_body, row_body, body_reading, at_moment, payload_reading}

-- ---- readings that fail

abbrev Fails : {A : Type 0} → Result A ℕ → Type 0
Fails r = (left : ℕ) × (r ≡ Err left)

fails_then : {A B : Type 0} (r : Result A ℕ) (f : A → Result B ℕ) → Fails r → Fails (r >>= f)
fails_then (Ok x) f fails = absurd (let e : Ok x ≡ Err fails.0 = fails.1 in cc)
fails_then (Err left) f fails = (left, refl)

then_fails : {A B : Type 0} (r : Result A ℕ) (f : A → Result B ℕ) → ((x : A) → r ≡ Ok x → Fails (f x)) → Fails (r >>= f)
then_fails (Ok x) f each = each x refl
then_fails (Err left) f each = (left, refl)

-- ---- what a space takes of a node, and of a boot

-- the bytes behind the node
space_rest : (node rest : List ℕ) → node_name.Fits node → (x : List ℕ × List ℕ) → space_name.at (node_name.spell node ++ rest) ≡ Ok x → x.1 ≡ rest
unfolding space_name node_name
space_rest node rest fits x e =
    let bytes : List ℕ = (sized byte).spell node ++ rest in
    let a = bind_ok ((sized byte).at bytes) (λ u. cond (is_none (space_fault u.0)) (Ok u) (Err (length bytes))) x e in
    let p = passed_ok (is_none (space_fault a.0.0)) (length bytes) (Ok a.0) x a.2 in
    let took : Ok a.0 ≡ Ok (node, rest) = sym a.1 ∙ (sized_law byte_law).again node rest fits.0 in
    let one : a.0 ≡ x = let e : Ok a.0 ≡ Ok x = p.1 in cc in
    let two : a.0 ≡ (node, rest) = cc in
    ap (λ (y : List ℕ × List ℕ). y.1) (sym one ∙ two)

-- a name takes a byte at least
sized_less : (bytes : List ℕ) (x : List ℕ × List ℕ) → (sized byte).at bytes ≡ Ok x → length x.1 < length bytes
unfolding byte
sized_less [] x e = absurd (let f : Err 0 ≡ Ok x = e in cc)
sized_less (b ∷ bytes) x e =
    let g = guard_ok (ltb (length bytes) b) (suc (length bytes)) (Ok (take b bytes, drop b bytes)) x e in
    let same : (take b bytes, drop b bytes) ≡ x = let f : Ok (take b bytes, drop b bytes) ≡ Ok x = g.1 in cc in
    let less : length (drop b bytes) < suc (length bytes) = let l = length-drop b bytes in omega (arith, l) in
    subst (λ (y : List ℕ × List ℕ). length y.1 < suc (length bytes)) same less

node_less : (bytes : List ℕ) (x : List ℕ × List ℕ) → node_name.at bytes ≡ Ok x → length x.1 < length bytes
unfolding node_name
node_less bytes x e =
    let a = bind_ok ((sized byte).at bytes) (λ u. cond (is_none (node_fault u.0)) (Ok u) (Err (length bytes))) x e in
    let p = passed_ok (is_none (node_fault a.0.0)) (length bytes) (Ok a.0) x a.2 in
    let one : a.0 ≡ x = let f : Ok a.0 ≡ Ok x = p.1 in cc in
    subst (λ (y : List ℕ × List ℕ). length y.1 < length bytes) one (sized_less bytes a.0 a.1)

node_none : Fails (node_name.at [])
unfolding node_name byte
node_none = (0, refl)

boot_short : (bytes : List ℕ) → length bytes < 8 → Fails (boot.at bytes)
unfolding boot number64
boot_short bytes short = let is : nat_lt (length bytes) 8 ≡ true = grind (arith, nat_tests) in rw is (length bytes, refl)

-- ---- today's readings of both

-- no node follows
place_fails : (node : List ℕ) → node_name.Fits node → Fails (node_place.at (node_name.spell node))
unfolding node_place
place_fails node fits =
    then_fails (space_name.at (node_name.spell node)) (λ x. node_name.at x.1 >>= λ y. Ok ((x.0, y.0), y.1))
    (λ x e.
    let whole_ : space_name.at (node_name.spell node ++ []) ≡ Ok x = ap space_name.at (append-nil (node_name.spell node)) ∙ e in
    let rest : x.1 ≡ [] = space_rest node [] fits x whole_ in
    fails_then (node_name.at x.1) (λ y. Ok ((x.0, y.0), y.1)) (subst (λ (l : List ℕ). Fails (node_name.at l)) (sym rest) node_none))

-- a boot has 8 bytes, of which a node takes one at least
boot_fails : (node : List ℕ) (n : ℕ) → node_name.Fits node → Fails (boot_fields.at (node_name.spell node ++ to_be_bytes w64 n))
unfolding boot_fields node_place
boot_fails node n fits =
    let bytes : List ℕ = node_name.spell node ++ to_be_bytes w64 n in
    then_fails (node_place.at bytes) (λ z. boot.at z.1 >>= λ m. Ok ((z.0, m.0), m.1))
    (λ z e.
    let x = bind_ok (space_name.at bytes) (λ u. node_name.at u.1 >>= λ y. Ok ((u.0, y.0), y.1)) z e in
    let y = bind_ok (node_name.at x.0.1) (λ u. Ok ((x.0.0, u.0), u.1)) z x.2 in
    let rest : x.0.1 ≡ to_be_bytes w64 n = space_rest node (to_be_bytes w64 n) fits x.0 x.1 in
    let less : length y.0.1 < 8 = subst (λ (l : List ℕ). length y.0.1 < length l) rest (node_less x.0.1 y.0 y.1) in
    let behind : y.0.1 ≡ z.1 = let f : Ok ((x.0.0, y.0.0), y.0.1) ≡ Ok z = y.2 in let g : ((x.0.0, y.0.0), y.0.1) ≡ z = cc in ap (λ (v : (List ℕ × List ℕ) × List ℕ). v.1) g in
    fails_then (boot.at z.1) (λ m. Ok ((z.0, m.0), m.1)) (boot_short z.1 (subst (λ (l : List ℕ). length l < 8) behind less)))

whole_fails : {A B : Type 0} (r : Result (A × List ℕ) ℕ) (f : A × List ℕ → Result B ℕ) → Fails r → Fails (r >>= f)
whole_fails r f fails = fails_then r f fails

command_none : (n : ℕ) (r : Result StoreCommand ℕ) → Fails r → command_body (located n r) ≡ None
command_none n (Ok c) fails = absurd (let e : Ok c ≡ Err fails.0 = fails.1 in cc)
command_none n (Err left) fails = refl

row_none : (r : Result TableRow ℕ) → Fails r → row_body r ≡ None
row_none (Ok c) fails = absurd (let e : Ok c ≡ Err fails.0 = fails.1 in cc)
row_none (Err left) fails = refl

boot_none : (node : List ℕ) → node_name.Fits node → body_reading (32 ∷ node_name.spell node) ≡ None
unfolding command_kind_of
boot_none node fits =
    let bytes : List ℕ = node_name.spell node in
    command_none _ (whole (row node_place (λ p. Boot p.0 p.1)) bytes)
    (whole_fails (row node_place (λ p. Boot p.0 p.1) bytes) (λ x. if length x.1 == 0 then Ok x.0 else Err (length x.1))
    (fails_then (node_place.at bytes) (λ x. Ok (Boot x.0.0 x.0.1, x.1)) (place_fails node fits)))

boot_row_none : (node : List ℕ) (n : ℕ) → node_name.Fits node → body_reading (129 ∷ node_name.spell node ++ to_be_bytes w64 n) ≡ None
unfolding table_row
boot_row_none node n fits =
    let bytes : List ℕ = node_name.spell node ++ to_be_bytes w64 n in
    row_none (whole (row boot_fields (λ p. rows.Boot p.0.0 p.0.1 p.1)) bytes)
    (whole_fails (row boot_fields (λ p. rows.Boot p.0.0 p.0.1 p.1) bytes) (λ x. if length x.1 == 0 then Ok x.0 else Err (length x.1))
    (fails_then (boot_fields.at bytes) (λ x. Ok (rows.Boot x.0.0.0 x.0.0.1 x.0.1, x.1)) (boot_fails node n fits)))

-- behind a moment nothing has a reading that has none by itself
none_behind : (now : ℕ) (body : List ℕ) → body_reading body ≡ None → payload_reading (to_be_bytes w64 now ++ body) ≡ None
unfolding payload_reading
none_behind now body none =
    let head = to_be_bytes w64 now in
    let bytes = head ++ body in
    let behind : at_moment (from_be_bytes w64 (take 8 bytes)) (body_reading (drop 8 bytes)) ≡ None =
    ap (λ (l : List ℕ). at_moment (from_be_bytes w64 (take 8 bytes)) (body_reading l)) (drop_at head body 8 refl) ∙ ap (at_moment (from_be_bytes w64 (take 8 bytes))) none in
    either (nat_lt (length bytes) 8) (at_moment (from_be_bytes w64 (take 8 bytes)) (body_reading (drop 8 bytes))) behind
  where
    either : (b : Bool) (o : Option StorePayload) → o ≡ None → (if b then None else o) ≡ None
    either true o is = refl
    either false o is = is

-- ---- what they say

spaced_boot : (now : ℕ) (node : List ℕ) → spaced (first_boot now node) ≡ Some (to_be_bytes w64 now ++ command.spell (Boot default_name node))
unfolding spaced command node_place space_name byte
spaced_boot now node = refl

spaced_boot_row : (now : ℕ) (node : List ℕ) (n : ℕ) → spaced (first_boot_row now node n) ≡ Some (to_be_bytes w64 now ++ table_row.spell (rows.Boot default_name node n))
unfolding spaced table_row boot_fields node_place space_name byte
spaced_boot_row now node n = refl

default_fits : space_name.Fits default_name
unfolding space_name byte
default_fits = (omega arith, refl)

boot_fits : (node : List ℕ) → node_name.Fits node → command.Fits (Boot default_name node)
unfolding command node_place
boot_fits node fits = (default_fits, fits)

boot_row_fits : (node : List ℕ) (n : ℕ) → node_name.Fits node → boot.Fits n → table_row.Fits (rows.Boot default_name node n)
unfolding table_row boot_fields node_place
boot_row_fits node n fits counts = ((default_fits, fits), counts)

pub reads_old_boots : ReadsCommands → ReadsOldBoots
reads_old_boots reads now node below fits = record {
  today = none_behind now (32 ∷ node_name.spell node) (boot_none node fits);
  first = ap (λ o. only_short (option_and_then payload_reading o)) (spaced_boot now node) ∙ ap only_short (reads (record { now = now; command = Boot default_name node }) (record { command = boot_fits node fits; now = below }));
}

pub reads_old_rows : ReadsRows → ReadsOldRows
unfolding boot number64
reads_old_rows reads now node n below fits counts = record {
  today = none_behind now (129 ∷ node_name.spell node ++ to_be_bytes w64 n) (boot_row_none node n fits);
  first = ap (λ o. only_short (option_and_then payload_reading o)) (spaced_boot_row now node n) ∙ ap only_short (reads now (rows.Boot default_name node n) below (boot_row_fits node n fits counts));
}
