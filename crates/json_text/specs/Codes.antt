-- How the logic stores a value: as words, from which a stack machine builds it again. Own; no clause reads it.
use Rattle.std.specs.Prelude.{◌≡◌, ℕ, pos, negsuc, List, [], ◌∷◌, true, false, cond, ◌==◌, refl}
use Rattle.std.proofs.Common.{◌∙◌, ap}
use Rattle.std.specs.Coded.{Coded, code_by, coded×, coded_ℕ, coded_list}
use Rattle.json_text.specs.Values.{JsonValue, null, truth, natural, negative, other_number, text, array, object, Items, no_items, item, Members, no_members, member}

abbrev pub Word : Type 0
Word = ℕ × List ℕ

pub data Cell : Type 0 where
  of_value : JsonValue → Cell
  of_items : Items → Cell
  of_members : Members → Cell

abbrev mutual
  -- the words of a value, followed by more
  pub spelled : JsonValue → List Word → List Word
  spelled null more = (0, []) ∷ more
  spelled (truth false) more = (1, []) ∷ more
  spelled (truth true) more = (2, []) ∷ more
  spelled (natural n) more = (3, n ∷ []) ∷ more
  spelled (negative (pos n)) more = (4, n ∷ []) ∷ more
  spelled (negative (negsuc n)) more = (5, n ∷ []) ∷ more
  spelled other_number more = (6, []) ∷ more
  spelled (text s) more = (7, s) ∷ more
  spelled (array vs) more = spelled_items vs ((8, []) ∷ more)
  spelled (object ms) more = spelled_members ms ((9, []) ∷ more)

  pub spelled_items : Items → List Word → List Word
  spelled_items no_items more = (10, []) ∷ more
  spelled_items (item v vs) more = spelled v (spelled_items vs ((11, []) ∷ more))

  pub spelled_members : Members → List Word → List Word
  spelled_members no_members more = (12, []) ∷ more
  spelled_members (member k v ms) more = spelled v (spelled_members ms ((13, k) ∷ more))

abbrev pub number_of : List ℕ → ℕ
number_of [] = 0
number_of (n ∷ _) = n

abbrev pub closed_array : List Cell → List Cell
closed_array (of_items vs ∷ rest) = of_value (array vs) ∷ rest
closed_array _ = []

abbrev pub closed_object : List Cell → List Cell
closed_object (of_members ms ∷ rest) = of_value (object ms) ∷ rest
closed_object _ = []

abbrev pub with_item : List Cell → List Cell
with_item (of_items vs ∷ of_value v ∷ rest) = of_items (item v vs) ∷ rest
with_item _ = []

abbrev pub with_member : List ℕ → List Cell → List Cell
with_member k (of_members ms ∷ of_value v ∷ rest) = of_members (member k v ms) ∷ rest
with_member k _ = []

abbrev pub stepped : Word → List Cell → List Cell
stepped w cells =
    cond (w.0 == 0) (of_value null ∷ cells) (cond (w.0 == 1) (of_value (truth false) ∷ cells) (cond (w.0 == 2) (of_value (truth true) ∷ cells)
    (cond (w.0 == 3) (of_value (natural (number_of w.1)) ∷ cells) (cond (w.0 == 4) (of_value (negative (pos (number_of w.1))) ∷ cells)
    (cond (w.0 == 5) (of_value (negative (negsuc (number_of w.1))) ∷ cells) (cond (w.0 == 6) (of_value other_number ∷ cells) (cond (w.0 == 7) (of_value (text w.1) ∷ cells)
    (cond (w.0 == 8) (closed_array cells) (cond (w.0 == 9) (closed_object cells) (cond (w.0 == 10) (of_items no_items ∷ cells) (cond (w.0 == 11) (with_item cells)
    (cond (w.0 == 12) (of_members no_members ∷ cells) (with_member w.1 cells)))))))))))))

abbrev pub run : List Word → List Cell → List Cell
run [] cells = cells
run (w ∷ ws) cells = run ws (stepped w cells)

abbrev pub top : List Cell → JsonValue
top (of_value v ∷ _) = v
top _ = null

mutual
  run-spelled : (v : JsonValue) (more : List Word) (cells : List Cell) → run (spelled v more) cells ≡ run more (of_value v ∷ cells)
  run-spelled null more cells = refl
  run-spelled (truth false) more cells = refl
  run-spelled (truth true) more cells = refl
  run-spelled (natural n) more cells = refl
  run-spelled (negative (pos n)) more cells = refl
  run-spelled (negative (negsuc n)) more cells = refl
  run-spelled other_number more cells = refl
  run-spelled (text s) more cells = refl
  run-spelled (array vs) more cells = run-spelled_items vs ((8, []) ∷ more) cells
  run-spelled (object ms) more cells = run-spelled_members ms ((9, []) ∷ more) cells

  run-spelled_items : (vs : Items) (more : List Word) (cells : List Cell) → run (spelled_items vs more) cells ≡ run more (of_items vs ∷ cells)
  run-spelled_items no_items more cells = refl
  run-spelled_items (item v vs) more cells = run-spelled v (spelled_items vs ((11, []) ∷ more)) cells ∙ run-spelled_items vs ((11, []) ∷ more) (of_value v ∷ cells)

  run-spelled_members : (ms : Members) (more : List Word) (cells : List Cell) → run (spelled_members ms more) cells ≡ run more (of_members ms ∷ cells)
  run-spelled_members no_members more cells = refl
  run-spelled_members (member k v ms) more cells =
      run-spelled v (spelled_members ms ((13, k) ∷ more)) cells ∙ run-spelled_members ms ((13, k) ∷ more) (of_value v ∷ cells)

abbrev pub words_of : JsonValue → List Word
words_of v = spelled v []

abbrev pub value_of : List Word → JsonValue
value_of ws = top (run ws [])

pub value_of-words_of : (v : JsonValue) → value_of (words_of v) ≡ v
value_of-words_of v = ap top (run-spelled v [] [])

abbrev pub value_code : Coded JsonValue
value_code = code_by (List Word) (coded_list (coded× coded_ℕ (coded_list coded_ℕ))) words_of value_of value_of-words_of
