-- What the bytes of a journal at rest become while a record is written behind them.
use Rattle.std.proofs.Common.{◌≡◌, ◌≢◌, inl, inr, ℕ, suc, ◌+◌, ◌≤◌, true, List, [], ◌∷◌, ◌++◌, length, get_or, take, drop, refl, sym, ◌∙◌, ap, subst, arith, append_assoc, length-append, take-append-drop}
use Rattle.std.proofs.lemmas.Bool.{cases_eq}
use Rattle.std.proofs.lemmas.List.{take_at, drop_at, drop_more, append-nil}
use Rattle.std.specs.List.{AllByRecursion}
use Rattle.disk_model.specs.Disk.{Torn, overwritten}
use Rattle.tx_journal.specs.declared.format.Format.{Format}
use Rattle.tx_journal.specs.File.{most_bytes, name, head, is_known, framed, records, spelled, IsShort}
use Rattle.tx_journal.specs.Journal.{IsAtRest, IsSpelled, RestsBeforeOrAfter, IsText}

pub records-append : (payloads batch : List (List ℕ)) → records (payloads ++ batch) ≡ records payloads ++ records batch
records-append [] batch = refl
records-append (first ∷ payloads) batch =
    ap (λ (l : List ℕ). (1 ∷ framed first) ++ l) (records-append payloads batch) ∙ sym (append_assoc (1 ∷ framed first) (records payloads) (records batch))

pub spelled-append : (format : Format) (payloads batch : List (List ℕ)) (rest : List ℕ) → spelled format (payloads ++ batch) ++ rest ≡ spelled format payloads ++ (records batch ++ rest)
spelled-append format payloads batch rest =
    ap (λ (l : List ℕ). (head format ++ l) ++ rest) (records-append payloads batch)
    ∙ ap (λ (l : List ℕ). l ++ rest) (sym (append_assoc (head format) (records payloads) (records batch)))
    ∙ append_assoc (spelled format payloads) (records batch) rest

pub spelled-push : (format : Format) (payloads : List (List ℕ)) (payload rest : List ℕ) → spelled format (payloads ++ payload ∷ []) ++ rest ≡ spelled format payloads ++ (1 ∷ (framed payload ++ rest))
spelled-push format payloads payload rest = spelled-append format payloads (payload ∷ []) rest ∙ ap (λ (l : List ℕ). spelled format payloads ++ (1 ∷ (l ++ rest))) (append-nil (framed payload))

-- the records of a batch, behind those of a file
pub spelled-text : (format : Format) (payloads batch : List (List ℕ)) (text rest : List ℕ) → IsText batch text → spelled format (payloads ++ batch) ++ 0 ∷ rest ≡ spelled format payloads ++ (1 ∷ (text ++ rest))
spelled-text format payloads batch text rest is =
    spelled-append format payloads batch (0 ∷ rest) ∙ ap (λ (l : List ℕ). spelled format payloads ++ l) (sym (append_assoc (records batch) (0 ∷ []) rest) ∙ ap (λ (l : List ℕ). l ++ rest) (sym is))

-- they are as long as their text
pub length-text : (batch : List (List ℕ)) (text : List ℕ) → IsText batch text → length text ≡ length (records batch)
length-text batch text is = omega (arith, ap length is, length-append (records batch) (0 ∷ []))

-- the text of one record
pub one_text : (payload : List ℕ) → IsText (payload ∷ []) (framed payload ++ 0 ∷ [])
one_text payload = ap (λ (l : List ℕ). 1 ∷ (l ++ 0 ∷ [])) (sym (append-nil (framed payload)))

pub short-append : (payloads batch : List (List ℕ)) → AllByRecursion IsShort payloads → AllByRecursion IsShort batch → AllByRecursion IsShort (payloads ++ batch)
short-append [] batch all more = more
short-append (first ∷ payloads) batch all more = (all.0, short-append payloads batch all.1 more)

pub short-push : (payloads : List (List ℕ)) (payload : List ℕ) → AllByRecursion IsShort payloads → IsShort payload → AllByRecursion IsShort (payloads ++ payload ∷ [])
short-push payloads payload all short = short-append payloads (payload ∷ []) all (short, tt)

pub rest_within : {newest format : Format} (payloads : List (List ℕ)) (end : ℕ) (bytes : List ℕ) → IsAtRest newest format payloads end bytes → (1 ≤ end) × (end ≤ length bytes)
rest_within {newest} {format} payloads end bytes at_rest =
    let size : length bytes ≡ length (spelled format payloads) + length (at_rest.gate ∷ at_rest.rest) = ap length at_rest.file ∙ length-append (spelled format payloads) (at_rest.gate ∷ at_rest.rest) in
    (omega (arith, at_rest.end_is), omega (arith, at_rest.end_is, size))

front : {newest format : Format} (payloads : List (List ℕ)) (end : ℕ) (bytes : List ℕ) (at_rest : IsAtRest newest format payloads end bytes) → take end bytes ≡ spelled format payloads ++ at_rest.gate ∷ []
front {newest} {format} payloads end bytes at_rest =
    ap (λ (l : List ℕ). take end l) (at_rest.file ∙ sym (append_assoc (spelled format payloads) (at_rest.gate ∷ []) at_rest.rest))
    ∙ take_at (spelled format payloads ++ at_rest.gate ∷ []) at_rest.rest end (omega (arith, at_rest.end_is, length-append (spelled format payloads) (at_rest.gate ∷ [])))

-- such a file, with a closed gate and any bytes behind it
pub at_rest_of : (newest format : Format) (payloads : List (List ℕ)) (gate : ℕ) (rest : List ℕ) → is_known newest (name format) ≡ true → AllByRecursion IsShort payloads → gate ≢ 1 → length (spelled format payloads ++ gate ∷ rest) ≤ most_bytes → IsSpelled newest format payloads (spelled format payloads ++ gate ∷ rest)
at_rest_of newest format payloads gate rest known short shut small =
    (length (spelled format payloads) + 1, record { known = known; gate = gate; rest = rest; shut = shut; short = short; file = refl; end_is = refl; small = small })

-- whatever the first write may leave still has the closed gate
pub torn_behind : {newest format : Format} (payloads : List (List ℕ)) (end n : ℕ) (bytes c : List ℕ) → IsAtRest newest format payloads end bytes → end + n ≤ most_bytes → Torn end n bytes c → IsSpelled newest format payloads c
torn_behind {newest} {format} payloads end n bytes c at_rest room torn =
    let whole : c ≡ spelled format payloads ++ at_rest.gate ∷ drop end c =
    sym (take-append-drop end c) ∙ ap (λ (l : List ℕ). l ++ drop end c) (torn.before ∙ front payloads end bytes at_rest) ∙ append_assoc (spelled format payloads) (at_rest.gate ∷ []) (drop end c) in
    subst (IsSpelled newest format payloads) (sym whole) (at_rest_of newest format payloads at_rest.gate (drop end c) at_rest.known at_rest.short at_rest.shut (omega (arith, ap length whole, torn.no_longer, at_rest.small, room)))

-- the file with this text behind its closed gate
abbrev pub staged : Format → List (List ℕ) → ℕ → List ℕ → List ℕ → List ℕ
staged format payloads gate text rest = spelled format payloads ++ (gate ∷ (text ++ rest))

pub written_behind : {newest format : Format} (payloads : List (List ℕ)) (end : ℕ) (bytes text : List ℕ) (at_rest : IsAtRest newest format payloads end bytes) → (rest : List ℕ) × (overwritten bytes end text ≡ staged format payloads at_rest.gate text rest)
written_behind {newest} {format} payloads end bytes text at_rest =
    let rest = drop (end + length text) bytes in (
      rest,
      ap (λ (l : List ℕ). (l ++ text) ++ rest) (front payloads end bytes at_rest)
          ∙ append_assoc (spelled format payloads ++ at_rest.gate ∷ []) text rest
          ∙ append_assoc (spelled format payloads) (at_rest.gate ∷ []) (text ++ rest),
    )

module _ (newest format : Format) (known : is_known newest (name format) ≡ true) (payloads : List (List ℕ)) (gate : ℕ) (batch : List (List ℕ)) (text rest : List ℕ) (is_text : IsText batch text) (short : AllByRecursion IsShort payloads) (fits : AllByRecursion IsShort batch) where
  -- with whole records behind any gate, the file has all of the batch or none of it
  either : (g : ℕ) → length (staged format payloads g text rest) ≤ most_bytes → RestsBeforeOrAfter newest format payloads batch (staged format payloads g text rest)
  either g room = elim (cases_eq g 1) [
    | inl open_ ↦ inr (subst (IsSpelled newest format (payloads ++ batch)) (spelled-text format payloads batch text rest is_text ∙ ap (λ (k : ℕ). staged format payloads k text rest) (sym open_)) (at_rest_of newest format (payloads ++ batch) 0 rest known (short-append payloads batch short fits) (omega arith) pushed))
    | inr shut ↦ inl (at_rest_of newest format payloads g (text ++ rest) known short shut room)
  ]
    where
      pushed : length (spelled format (payloads ++ batch) ++ 0 ∷ rest) ≤ most_bytes
      pushed = omega (arith, room, ap length (spelled-text format payloads batch text rest is_text), length-append (spelled format payloads) (1 ∷ (text ++ rest)), length-append (spelled format payloads) (g ∷ (text ++ rest)))

  -- whatever the second write may leave still has the whole records
  pub torn_gate : (at : ℕ) (c : List ℕ) → at ≡ length (spelled format payloads) → length (staged format payloads gate text rest) ≤ most_bytes → Torn at 1 (staged format payloads gate text rest) c → RestsBeforeOrAfter newest format payloads batch c
  torn_gate at c at_is room torn =
      let file = staged format payloads gate text rest in
      let size : length file ≡ length (spelled format payloads) + suc (length (text ++ rest)) = length-append (spelled format payloads) (gate ∷ (text ++ rest)) in
      let before : take at c ≡ spelled format payloads = torn.before ∙ take_at (spelled format payloads) (gate ∷ (text ++ rest)) at (sym at_is) in
      let regrouped : file ≡ (spelled format payloads ++ gate ∷ []) ++ (text ++ rest) = sym (append_assoc (spelled format payloads) (gate ∷ []) (text ++ rest)) in
      let behind : drop (at + 1) c ≡ text ++ rest =
      torn.after ∙ ap (λ (l : List ℕ). drop (at + 1) l) regrouped ∙ drop_at (spelled format payloads ++ gate ∷ []) (text ++ rest) (at + 1) (omega (arith, at_is, length-append (spelled format payloads) (gate ∷ []))) in
      let g = get_or c at 0 in
      let tail : drop at c ≡ g ∷ (text ++ rest) = drop_more c at 0 (omega (arith, torn.no_shorter, size, at_is)) ∙ ap (λ (l : List ℕ). g ∷ l) behind in
      let whole : c ≡ staged format payloads g text rest = sym (take-append-drop at c) ∙ ap (λ (l : List ℕ). l ++ drop at c) before ∙ ap (λ (l : List ℕ). spelled format payloads ++ l) tail in
      subst (RestsBeforeOrAfter newest format payloads batch) (sym whole) (either g (omega (arith, ap length whole, torn.no_longer, size, at_is, room)))

  pub written_gate : (at : ℕ) → at ≡ length (spelled format payloads) → overwritten (staged format payloads gate text rest) at (1 ∷ []) ≡ spelled format (payloads ++ batch) ++ 0 ∷ rest
  written_gate at at_is =
      let file = staged format payloads gate text rest in
      let regrouped : file ≡ (spelled format payloads ++ gate ∷ []) ++ (text ++ rest) = sym (append_assoc (spelled format payloads) (gate ∷ []) (text ++ rest)) in
      ap (λ (l : List ℕ). (l ++ (1 ∷ [])) ++ drop (at + 1) file) (take_at (spelled format payloads) (gate ∷ (text ++ rest)) at (sym at_is))
      ∙ ap (λ (l : List ℕ). (spelled format payloads ++ (1 ∷ [])) ++ l) (ap (λ (l : List ℕ). drop (at + 1) l) regrouped ∙ drop_at (spelled format payloads ++ gate ∷ []) (text ++ rest) (at + 1) (omega (arith, at_is, length-append (spelled format payloads) (gate ∷ []))))
      ∙ append_assoc (spelled format payloads) (1 ∷ []) (text ++ rest)
      ∙ sym (spelled-text format payloads batch text rest is_text)

  pub at_rest_all : (end : ℕ) (bytes : List ℕ) → end ≡ length (spelled format payloads) + 1 → bytes ≡ spelled format (payloads ++ batch) ++ 0 ∷ rest → length bytes ≤ most_bytes → IsAtRest newest format (payloads ++ batch) (end + length text) bytes
  at_rest_all end bytes end_is is small =
      let size : length (spelled format (payloads ++ batch)) ≡ length (spelled format payloads) + length (records batch) =
      ap length (sym (append-nil (spelled format (payloads ++ batch))) ∙ spelled-append format payloads batch [] ∙ ap (λ (l : List ℕ). spelled format payloads ++ l) (append-nil (records batch))) ∙ length-append (spelled format payloads) (records batch) in
      record { known = known; gate = 0; rest = rest; shut = omega arith; short = short-append payloads batch short fits; file = is; end_is = omega (arith, end_is, size, length-text batch text is_text); small = small }

-- the same of one record
pub at_rest_again : (newest format : Format) (known : is_known newest (name format) ≡ true) (payloads : List (List ℕ)) (gate : ℕ) (payload rest : List ℕ) (short : AllByRecursion IsShort payloads) (fits : IsShort payload) (end : ℕ) (bytes : List ℕ)
    → end ≡ length (spelled format payloads) + 1 → bytes ≡ spelled format (payloads ++ payload ∷ []) ++ 0 ∷ rest → length bytes ≤ most_bytes → IsAtRest newest format (payloads ++ payload ∷ []) (end + length (framed payload ++ 0 ∷ [])) bytes
at_rest_again newest format known payloads gate payload rest short fits = at_rest_all newest format known payloads gate (payload ∷ []) (framed payload ++ 0 ∷ []) rest (one_text payload) short (fits, tt)
