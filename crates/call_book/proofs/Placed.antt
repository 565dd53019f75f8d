-- Rows in order of lane and number: where a place cuts them, what it finds, and what each change leaves.
use Rattle.std.proofs.Common.{◌≡◌, ◌⊎◌, inl, inr, ℕ, suc, ◌+◌, Bool, true, false, not, if◌then◌else◌, List, [], ◌∷◌, length, map, filter, Some, None, refl, sym, ap, subst, ◌∙◌, arith, length-append}
use Rattle.std.specs.List.{AllByRecursion}
use Rattle.std.specs.declared.cmp.Ordering.{Ordering}
use Rattle.std.specs.declared.cmp.Ordering.TheVariants.{Less, Equal, Greater}
use Rattle.std.specs.Ordering.{is_eq, nat_cmp, ordering_then, ordering_reverse}
use Rattle.lists_and_limits.specs.Cuts.{AreBehind, NoneBefore, IsCut, IsRun}
use Rattle.lists_and_limits.specs.Lists.{found, count_at, without, without_all, put_by, with_put}
use Rattle.lists_and_limits.specs.Orders.{IsBelowAll, AscendBy}
use Rattle.lists_and_limits.proofs.Each.{each_weaker}
use Rattle.lists_and_limits.proofs.Orders.{cut_key, ascends_filter}
use Rattle.lists_and_limits.proofs.Maps.{found-is, meet, after_none, put-new, put-without}
use Rattle.call_book.specs.declared.lane.LaneName.{LaneName}
use Rattle.call_book.specs.declared.entry.CallStage.{CallStage}
use Rattle.call_book.specs.declared.row.Row.{Row}
use Rattle.call_book.specs.Lanes.{lane_cmp}
use Rattle.call_book.specs.Entries.{is_at, at_stage}
use Rattle.call_book.specs.Turns.{place, place_cmp, row_cmp, in_lane, at_row, row_at, rows_without, rows_with_stage}
use Rattle.call_book.specs.Orders.{names_total, places_total}
use Rattle.call_book.proofs.Ties.{at_call-is}

abbrev pub AreInOrder : List Row → Type 0
AreInOrder rows = AscendBy place place_cmp rows

-- ---- cuts

pub cut_call : (name : LaneName) (number : ℕ) (rows : List Row) → AreInOrder rows → IsCut (at_row name number) rows
cut_call name number rows a = cut_key place place_cmp places_total (name, number) rows a

pub cut_row : (r : Row) (rows : List Row) → AreInOrder rows → IsCut (λ x. row_cmp x r) rows
cut_row r rows a = cut_key place place_cmp places_total (place r) rows a

-- ---- the rows of a lane stand together

not_greater : (a b : Ordering) → ordering_then a b ≡ Less → a ≡ Greater → ⊥
not_greater Less b h g = cc
not_greater Equal b h g = cc
not_greater Greater b h g = cc

module _ (name : LaneName) (x y : Row) (h : place_cmp (place x) (place y) ≡ Less) where
  rises : lane_cmp x.entry.lane y.entry.lane ≡ Greater → ⊥
  rises g = not_greater (lane_cmp x.entry.lane y.entry.lane) (nat_cmp x.entry.number y.entry.number) h g

  before_on : in_lane name y ≡ Less → in_lane name x ≡ Less
  before_on l = go (lane_cmp x.entry.lane y.entry.lane) refl
    where
      go : (o : Ordering) → lane_cmp x.entry.lane y.entry.lane ≡ o → in_lane name x ≡ Less
      go Less e = let t = names_total in t.trans x.entry.lane y.entry.lane name e l
      go Equal e = let t = names_total in t.congr x.entry.lane y.entry.lane name e ∙ l
      go Greater e = absurd (rises e)

  after_on : in_lane name x ≡ Greater → in_lane name y ≡ Greater
  after_on g = go (lane_cmp x.entry.lane y.entry.lane) refl
    where
      go : (o : Ordering) → lane_cmp x.entry.lane y.entry.lane ≡ o → in_lane name y ≡ Greater
      go Less e =
          let t = names_total in
          let first : lane_cmp name x.entry.lane ≡ Less = t.antisymm name x.entry.lane ∙ ap ordering_reverse g in
          t.antisymm y.entry.lane name ∙ ap ordering_reverse (t.trans name x.entry.lane y.entry.lane first e)
      go Equal e = let t = names_total in sym (t.congr x.entry.lane y.entry.lane name e) ∙ g
      go Greater e = absurd (rises e)

  not_before : in_lane name x ≡ Equal → (in_lane name y ≡ Equal) ⊎ (in_lane name y ≡ Greater)
  not_before is = go (in_lane name y) refl
    where
      go : (o : Ordering) → in_lane name y ≡ o → (in_lane name y ≡ Equal) ⊎ (in_lane name y ≡ Greater)
      go Less e = absurd (let k : in_lane name x ≡ Less = before_on e in cc)
      go Equal e = inl e
      go Greater e = inr e

abbrev IsAfter : Row → Row → Type 0
IsAfter x y = place_cmp (place x) (place y) ≡ Less

pub run_lane : (name : LaneName) (rows : List Row) → AreInOrder rows → IsRun (in_lane name) rows
run_lane name [] a = tt
run_lane name (x ∷ xs) a = (side (in_lane name x) refl, run_lane name xs a.1)
  where
    side : (o : Ordering) → in_lane name x ≡ o → (in_lane name x ≡ Less) ⊎ (((in_lane name x ≡ Equal) × NoneBefore (in_lane name) xs) ⊎ ((in_lane name x ≡ Greater) × AreBehind (in_lane name) xs))
    side Less e = inl e
    side Equal e = inr (inl (e, each_weaker (IsAfter x) (λ (y : Row). (in_lane name y ≡ Equal) ⊎ (in_lane name y ≡ Greater)) (λ y l. not_before name x y l e) xs a.0))
    side Greater e = inr (inr (e, each_weaker (IsAfter x) (λ (y : Row). in_lane name y ≡ Greater) (λ y l. after_on name x y l e) xs a.0))

-- ---- how many a change leaves

module _ {E : Type 0} (at : E → Ordering) where
  pub length-without_all : (xs : List E) → count_at at xs + length (without_all at xs) ≡ length xs
  length-without_all [] = refl
  length-without_all (x ∷ xs) = go (is_eq (at x)) (length-without_all xs)
    where
      go : (b : Bool) → count_at at xs + length (without_all at xs) ≡ length xs → (if b then suc (count_at at xs) else count_at at xs) + length (if not b then x ∷ without_all at xs else without_all at xs) ≡ suc (length xs)
      go true ih = omega arith
      go false ih = omega arith

  pub without_all-none : (xs : List E) → count_at at xs ≡ 0 → without_all at xs ≡ xs
  without_all-none [] h = refl
  without_all-none (x ∷ xs) h = go (is_eq (at x)) h (without_all-none xs)
    where
      go : (b : Bool) → (if b then suc (count_at at xs) else count_at at xs) ≡ 0 → (count_at at xs ≡ 0 → without_all at xs ≡ xs) → (if not b then x ∷ without_all at xs else without_all at xs) ≡ x ∷ xs
      go true k ih = absurd (omega arith)
      go false k ih = rw (ih k) refl

  pub length-without : (e : E) (xs : List E) → found at xs ≡ Some e → suc (length (without at xs)) ≡ length xs
  length-without e [] h = absurd (cc)
  length-without e (x ∷ xs) h = go (is_eq (at x)) h (length-without e xs)
    where
      go : (b : Bool) → (if b then Some x else found at xs) ≡ Some e → (found at xs ≡ Some e → suc (length (without at xs)) ≡ length xs) → suc (length (if b then xs else x ∷ without at xs)) ≡ suc (length xs)
      go true k ih = refl
      go false k ih = ap suc (ih k)

  -- if none is found, none matches
  pub none_at : (xs : List E) → found at xs ≡ None → AllByRecursion (λ (x : E). is_eq (at x) ≡ false) xs
  none_at [] h = tt
  none_at (x ∷ xs) h = go (is_eq (at x)) refl (none_at xs)
    where
      go : (b : Bool) → is_eq (at x) ≡ b → (found at xs ≡ None → AllByRecursion (λ (x : E). is_eq (at x) ≡ false) xs) → AllByRecursion (λ (x : E). is_eq (at x) ≡ false) (x ∷ xs)
      go true e ih = absurd (let k : Some x ≡ None = rw e at h in cc)
      go false e ih = (e, ih (rw e at h))

  -- taking those that match where none does
  pub filter-none_at : (xs : List E) → AllByRecursion (λ (x : E). is_eq (at x) ≡ false) xs → filter (λ (x : E). not (is_eq (at x))) xs ≡ xs
  filter-none_at [] h = refl
  filter-none_at (x ∷ xs) h = rw (h.0, filter-none_at xs h.1) refl

pub length-map : {E : Type 0} (g : E → E) (xs : List E) → length (map g xs) ≡ length xs
length-map g [] = refl
length-map g (x ∷ xs) = ap suc (length-map g xs)

pub each_map : {E : Type 0} (P Q : E → Type 0) (g : E → E) → ((x : E) → P x → Q (g x)) → (xs : List E) → AllByRecursion P xs → AllByRecursion Q (map g xs)
each_map P Q g keeps [] h = tt
each_map P Q g keeps (x ∷ xs) h = (keeps x h.0, each_map P Q g keeps xs h.1)

-- ---- the row of a lane and a number

module _ (name : LaneName) (number : ℕ) where
  none_after : (x y : Row) → place_cmp (place x) (place y) ≡ Less → is_at name number x.entry ≡ true → is_at name number y.entry ≡ false
  none_after x y l h = go (is_at name number y.entry) refl
    where
      go : (b : Bool) → is_at name number y.entry ≡ b → is_at name number y.entry ≡ false
      go true e = absurd (let k : is_eq (place_cmp (place x) (place y)) ≡ true = meet place place_cmp places_total (place x) (place y) (name, number) h e in let m : is_eq (place_cmp (place x) (place y)) ≡ false = ap is_eq l in cc)
      go false e = e

  abbrev NoneHere : List Row → Type 0
  NoneHere rows = AllByRecursion (λ (r : Row). is_at name number r.entry ≡ false) rows

  rest_none : (x : Row) (xs : List Row) → is_at name number x.entry ≡ true → IsBelowAll place place_cmp (place x) xs → NoneHere xs
  rest_none x xs h b = each_weaker (IsAfter x) (λ (y : Row). is_at name number y.entry ≡ false) (λ y l. none_after x y l h) xs b

  -- it is there once at most
  abbrev pub IsOnce : List Row → Type 0
  IsOnce [] = Unit {0}
  IsOnce (x ∷ xs) = (is_at name number x.entry ≡ true → NoneHere xs) × IsOnce xs

  pub is_once : (rows : List Row) → AreInOrder rows → IsOnce rows
  is_once [] a = tt
  is_once (x ∷ xs) a = (λ h. rest_none x xs h a.0, is_once xs a.1)

  -- the row that goes
  pub without-rows : (rows : List Row) → AreInOrder rows → without (at_row name number) rows ≡ rows_without (is_at name number) rows
  without-rows [] a = refl
  without-rows (x ∷ xs) a = go (is_at name number x.entry) refl (without-rows xs a.1)
    where
      go : (b : Bool) → is_at name number x.entry ≡ b → without (at_row name number) xs ≡ rows_without (is_at name number) xs → without (at_row name number) (x ∷ xs) ≡ rows_without (is_at name number) (x ∷ xs)
      go true e ih = rw e (sym (filter-none_at (at_row name number) xs (rest_none x xs e a.0)))
      go false e ih = rw (e, ih) refl

  -- ---- the row whose call is at another stage

  module _ (stage : CallStage) where
    abbrev pub moved : Row → Row
    moved r = record r { entry = at_stage name number stage r.entry }

    pub moved-place : (r : Row) → place (moved r) ≡ place r
    moved-place r = go (is_at name number r.entry)
      where
        go : (b : Bool) → place (record r { entry = if b then record r.entry { stage = stage } else r.entry }) ≡ place r
        go true = refl
        go false = refl

    pub moved_here : (r : Row) → is_at name number r.entry ≡ true → moved r ≡ record r { entry = record r.entry { stage = stage } }
    moved_here r h = rw h refl

    moved_else : (r : Row) → is_at name number r.entry ≡ false → moved r ≡ r
    moved_else r h = rw h refl

    pub moved_none : (rows : List Row) → NoneHere rows → map moved rows ≡ rows
    moved_none [] h = refl
    moved_none (x ∷ xs) h = rw (moved_else x h.0, moved_none xs h.1) refl

    below_moved : (x : Row) (xs : List Row) → IsBelowAll place place_cmp (place x) xs → IsBelowAll place place_cmp (place (moved x)) (map moved xs)
    below_moved x [] b = tt
    below_moved x (y ∷ ys) b = (
      subst (λ (p : LaneName × ℕ). place_cmp p (place (moved y)) ≡ Less) (sym (moved-place x)) (subst (λ (p : LaneName × ℕ). place_cmp (place x) p ≡ Less) (sym (moved-place y)) b.0),
      below_moved x ys b.1,
    )

    pub ascends_moved : (rows : List Row) → AreInOrder rows → AreInOrder (map moved rows)
    ascends_moved [] a = tt
    ascends_moved (x ∷ xs) a = (below_moved x xs a.0, ascends_moved xs a.1)

    cons_same : (x y : Row) (xs ys : List Row) → x ≡ y → xs ≡ ys → x ∷ xs ≡ y ∷ ys
    cons_same x y xs ys first rest = rw (first, rest) refl

    put_moved : (e new : Row) (rows : List Row) → place new ≡ (name, number) → new ≡ moved e → AreInOrder rows → row_at name number rows ≡ Some e → with_put row_cmp new rows ≡ map moved rows
    put_moved e new [] p is a h = absurd (cc)
    put_moved e new (x ∷ xs) p is a h =
        ap (λ (q : LaneName × ℕ). put_by (place_cmp (place x) q) new x xs (with_put row_cmp new xs)) p
        ∙ go (at_row name number x) refl (put_moved e new xs p is a.1)
      where
        go : (o : Ordering) → at_row name number x ≡ o → (row_at name number xs ≡ Some e → with_put row_cmp new xs ≡ map moved xs) → put_by (at_row name number x) new x xs (with_put row_cmp new xs) ≡ map moved (x ∷ xs)
        go Less o ih =
            let other : is_at name number x.entry ≡ false = ap is_eq o in
            ap (λ (v : Ordering). put_by v new x xs (with_put row_cmp new xs)) o
            ∙ cons_same x (moved x) (with_put row_cmp new xs) (map moved xs) (sym (moved_else x other)) (ih (rw other at h))
        go Equal o ih =
            let here : is_at name number x.entry ≡ true = ap is_eq o in
            let k : Some x ≡ Some e = rw here at h in
            let same : x ≡ e = cc in
            ap (λ (v : Ordering). put_by v new x xs (with_put row_cmp new xs)) o
            ∙ cons_same new (moved x) xs (map moved xs) (is ∙ ap moved (sym same)) (sym (moved_none xs (rest_none x xs here a.0)))
        go Greater o ih =
            let other : is_at name number x.entry ≡ false = ap is_eq o in
            let none : row_at name number xs ≡ None = after_none place place_cmp places_total (place x) (name, number) xs o a.0 in
            absurd (let k : row_at name number xs ≡ Some e = rw other at h in cc)

    -- the row that was taken is put back with its call at this stage
    pub put_back : (e : Row) (rows : List Row) → AreInOrder rows → row_at name number rows ≡ Some e → is_at name number e.entry ≡ true → (e.entry.lane ≡ name) × (e.entry.number ≡ number) → with_put row_cmp (record e { entry = record e.entry { stage = stage } }) (without (at_row name number) rows) ≡ rows_with_stage name number stage rows
    put_back e rows a h here same =
        let new : Row = record e { entry = record e.entry { stage = stage } } in
        let tied : is_eq (place_cmp (place new) (name, number)) ≡ true = here in
        let p : place new ≡ (name, number) = rw (same.0, same.1) refl in
        put-without place place_cmp places_total (name, number) new rows a tied ∙ put_moved e new rows p (sym (moved_here e here)) a h

module _ (name : LaneName) (number : ℕ) (stage : CallStage) where
  -- if no row has the place, no call changes
  pub stage_none : (rows : List Row) → row_at name number rows ≡ None → rows_with_stage name number stage rows ≡ rows
  stage_none rows none = moved_none name number stage rows (none_at (at_row name number) rows none)

  pub stage_back : (e : Row) (rows : List Row) → AreInOrder rows → row_at name number rows ≡ Some e → with_put row_cmp (record e { entry = record e.entry { stage = stage } }) (without (at_row name number) rows) ≡ rows_with_stage name number stage rows
  stage_back e rows a found =
      let here : is_at name number e.entry ≡ true = found-is (at_row name number) e rows found in
      put_back name number stage e rows a found here (at_call-is name number e.entry here)

-- ---- a new row

pub length-put_new : (r : Row) (rows : List Row) → row_at r.entry.lane r.entry.number rows ≡ None → length (with_put row_cmp r rows) ≡ suc (length rows)
length-put_new r rows h =
    let s = put-new place place_cmp places_total r rows h in
    let whole = ap length s.3 ∙ length-append s.0 (r ∷ s.1) in
    let before = ap length s.2 ∙ length-append s.0 s.1 in
    omega arith

-- a cut is a run of one at most
pub cut_run : {E : Type 0} (at : E → Ordering) (xs : List E) → IsCut at xs → IsRun at xs
cut_run at [] c = tt
cut_run {E} at (x ∷ xs) c = (side (at x) refl c.0, cut_run at xs c.1)
  where
    after : (y : E) → at y ≡ Greater → (at y ≡ Equal) ⊎ (at y ≡ Greater)
    after y g = inr g

    side : (o : Ordering) → at x ≡ o → (at x ≡ Less) ⊎ AreBehind at xs → (at x ≡ Less) ⊎ (((at x ≡ Equal) × NoneBefore at xs) ⊎ ((at x ≡ Greater) × AreBehind at xs))
    side o e (inl l) = inl l
    side Less e (inr b) = inl e
    side Equal e (inr b) = inr (inl (e, each_weaker (λ (y : E). at y ≡ Greater) (λ (y : E). (at y ≡ Equal) ⊎ (at y ≡ Greater)) after xs b))
    side Greater e (inr b) = inr (inr (e, b))

pub run_call : (name : LaneName) (number : ℕ) (rows : List Row) → AreInOrder rows → IsRun (at_row name number) rows
run_call name number rows a = cut_run (at_row name number) rows (cut_call name number rows a)

pub ascends_without_all : (at : Row → Ordering) (rows : List Row) → AreInOrder rows → AreInOrder (without_all at rows)
ascends_without_all at rows a = ascends_filter place place_cmp (λ (r : Row). not (is_eq (at r))) rows a
