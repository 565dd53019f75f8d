-- The rows of tables are read back to them.
use Rattle.std.proofs.Common.{◌≡◌, ℕ, ◌<◌, Bool, true, false, List, [], ◌∷◌, Option, Some, None, refl, sym, ap, ◌∙◌}
use Rattle.std.specs.Prelude.{map, if◌then◌else◌}
use Rattle.store_tables.specs.declared.row.TableRow.{TableRow}
use Rattle.store_tables.specs.declared.row.RowKey.{RowKey}
use Rattle.store_tables.specs.Tables.{Tables, no_tables}
use Rattle.store_tables.specs.Rows.{table_rows, key_of, is_taken, with_row, restored, Restores, is_behind, AreInOrder}
use Rattle.store_payloads.specs.declared.fold.FoldPlace.TheVariants.{Rows, Commands}
use Rattle.store_payloads.specs.Fields.{table_row}
use Rattle.store_payloads.specs.Payloads.{end_of_moments, row_payload, payload_reading}
use Rattle.store_payloads.specs.Folds.{Folded, folded, fold_from, start, tables_in}
use Rattle.std.specs.List.{AllByRecursion as Each}
use Rattle.store_payloads.specs.FirstForm.{is_first_form}
use Rattle.store_payloads.specs.Laws.{ReadsRows, ReadsSnapshot, SpellsToday}
use Rattle.store_payloads.proofs.Fitting.{tables_fit}

-- one row that may come here and is taken in
one_row : (now : ℕ) (r : TableRow) (last : Option RowKey) (t : Tables) → ReadsRows → now < end_of_moments → table_row.Fits r → is_behind last (key_of r) ≡ true → is_taken r t ≡ true
    → folded (payload_reading (row_payload now r)) (record { tables = t; place = Rows last }) ≡ Some (record { tables = with_row r t; place = Rows (Some (key_of r)) })
one_row now r last t reads below fits behind taken = rw (reads now r below fits, behind, taken) refl

rows_folded : (now : ℕ) (rs : List TableRow) (last : Option RowKey) (t u : Tables) → ReadsRows → now < end_of_moments → Each table_row.Fits rs → AreInOrder last rs → Restores rs t u
    → tables_in (fold_from false (Some (record { tables = t; place = Rows last })) (map (row_payload now) rs)) ≡ Some u
rows_folded now [] last t u reads below fits order restores = ap (λ (x : Tables). Some x) restores
rows_folded now (r ∷ rs) last t u reads below fits order restores =
    ap (λ o. tables_in (fold_from false o (map (row_payload now) rs))) (one_row now r last t reads below fits.0 order.0 restores.0)
    ∙ rows_folded now rs (Some (key_of r)) (with_row r t) u reads below fits.1 order.1 restores.1

pub reads_snapshot : ReadsRows → ReadsSnapshot
reads_snapshot reads now t below fits restores order = rows_folded now (table_rows t) None no_tables t reads below (tables_fit t fits) order restores

-- the first row has a reading
rows_today : (now : ℕ) (rs : List TableRow) → ReadsRows → now < end_of_moments → Each table_row.Fits rs → is_first_form (map (row_payload now) rs) ≡ false
rows_today now [] reads below fits = refl
rows_today now (r ∷ rs) reads below fits = rw (reads now r below fits.0) refl

pub spells_today : ReadsRows → SpellsToday
spells_today reads now t below fits = rows_today now (table_rows t) reads below (tables_fit t fits)
