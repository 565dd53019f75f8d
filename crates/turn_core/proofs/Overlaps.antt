-- Marks in which each turn enters beside turns of its own chain, below the depth, never mix turns.
use Rattle.std.proofs.Common.{◌≡◌, ℕ, zero, suc, ◌<◌, ◌≤◌, List, [], ◌∷◌, ◌++◌, length, take, Option, Some, IsSome, refl, sym, ap, subst, ◌∙◌, arith, length-append}
use Rattle.std.specs.Prelude.{slice_get}
use Rattle.turn_core.specs.declared.cell.Turn.{Turn}
use Rattle.turn_core.specs.Cell.{without_turn}
use Rattle.turn_core.specs.CellMarks.{TurnMark, Began, Ended, TurnsIsolated, open_after, most_turns}
use Rattle.turn_core.specs.CellSound.{In}
use Rattle.turn_core.proofs.Elements.{In-left, In-last, In-without_other, length-without_turn}

-- a turn of this chain may begin beside the open ones
pub record Enters (depth : ℕ) (turns : List Turn) (chain : Option (List ℕ)) : Type 0 where
  pub same : (t : Turn) → In t turns → (t.chain ≡ chain) × IsSome chain × (0 < depth)
  pub few : length turns < most_turns depth

-- each turn that begins in these marks enters beside those that are open then
abbrev pub EntersAll : ℕ → List Turn → List TurnMark → Type 0
EntersAll depth turns [] = Unit {0}
EntersAll depth turns (Began call chain ∷ marks) = Enters depth turns chain × EntersAll depth (turns ++ record { call = call; chain = chain } ∷ []) marks
EntersAll depth turns (Ended call ∷ marks) = EntersAll depth (without_turn call turns) marks

pub open_after-append : (turns : List Turn) (xs ys : List TurnMark) → open_after turns (xs ++ ys) ≡ open_after (open_after turns xs) ys
open_after-append turns [] ys = refl
open_after-append turns (Began call chain ∷ xs) ys = open_after-append (turns ++ record { call = call; chain = chain } ∷ []) xs ys
open_after-append turns (Ended call ∷ xs) ys = open_after-append (without_turn call turns) xs ys

pub EntersAll-append : (depth : ℕ) (turns : List Turn) (xs ys : List TurnMark) → EntersAll depth turns xs → EntersAll depth (open_after turns xs) ys → EntersAll depth turns (xs ++ ys)
EntersAll-append depth turns [] ys p q = q
EntersAll-append depth turns (Began call chain ∷ xs) ys p q = (p.0, EntersAll-append depth (turns ++ record { call = call; chain = chain } ∷ []) xs ys p.1 q)
EntersAll-append depth turns (Ended call ∷ xs) ys p q = EntersAll-append depth (without_turn call turns) xs ys p q

pub EntersAll-parts : (depth : ℕ) (turns : List Turn) (xs ys : List TurnMark) → EntersAll depth turns (xs ++ ys) → EntersAll depth turns xs × EntersAll depth (open_after turns xs) ys
EntersAll-parts depth turns [] ys p = (tt, p)
EntersAll-parts depth turns (Began call chain ∷ xs) ys p =
    let more = EntersAll-parts depth (turns ++ record { call = call; chain = chain } ∷ []) xs ys p.1 in
    ((p.0, more.0), more.1)
EntersAll-parts depth turns (Ended call ∷ xs) ys p = EntersAll-parts depth (without_turn call turns) xs ys p

-- ---- at no moment are more turns open than the depth allows

open_within : (depth : ℕ) (turns : List Turn) (marks : List TurnMark) (n : ℕ) → EntersAll depth turns marks → length turns ≤ most_turns depth → length (open_after turns (take n marks)) ≤ most_turns depth
open_within depth turns marks zero p few = few
open_within depth turns [] (suc n) p few = few
open_within depth turns (Began call chain ∷ marks) (suc n) p few =
    open_within depth (turns ++ record { call = call; chain = chain } ∷ []) marks n p.1 (let h = p.0.few in simp length-append (omega arith))
open_within depth turns (Ended call ∷ marks) (suc n) p few =
    open_within depth (without_turn call turns) marks n p (let h = length-without_turn call turns in omega arith)

-- ---- two turns that overlap

-- a turn is still open at a later place, if no mark in between ends its call
met_open : (depth : ℕ) (turns : List Turn) (marks : List TurnMark) (j : ℕ) (t : Turn) (b : ℕ) (y : Option (List ℕ))
    → In t turns → EntersAll depth turns marks → slice_get marks j ≡ Some (Began b y)
    → ((p : ℕ) → p < j → slice_get marks p ≡ Some (Ended t.call) → ⊥)
    → (t.chain ≡ y) × IsSome y × (0 < depth)
met_open depth turns [] j t b y i p e not_over = absurd (cc)
met_open depth turns (Began call chain ∷ marks) zero t b y i p e not_over =
    let same : chain ≡ y = cc in
    subst (λ (z : Option (List ℕ)). (t.chain ≡ z) × IsSome z × (0 < depth)) same (p.0.same t i)
met_open depth turns (Ended call ∷ marks) zero t b y i p e not_over = absurd (cc)
met_open depth turns (Began call chain ∷ marks) (suc j) t b y i p e not_over =
    met_open depth (turns ++ record { call = call; chain = chain } ∷ []) marks j t b y (In-left turns _ t i) p.1 e
    (λ q l. not_over (suc q) (omega arith))
met_open depth turns (Ended call ∷ marks) (suc j) t b y i p e not_over =
    met_open depth (without_turn call turns) marks j t b y
    (In-without_other call turns t (λ same. not_over zero (omega arith) (ap (λ (z : ℕ). Some (Ended z)) same)) i) p e
    (λ q l. not_over (suc q) (omega arith))

overlap_within : (depth : ℕ) (turns : List Turn) (marks : List TurnMark) (i j a b : ℕ) (x y : Option (List ℕ))
    → EntersAll depth turns marks → slice_get marks i ≡ Some (Began a x) → slice_get marks j ≡ Some (Began b y) → i < j
    → ((p : ℕ) → i < p → p < j → slice_get marks p ≡ Some (Ended a) → ⊥)
    → (x ≡ y) × IsSome y × (0 < depth)
overlap_within depth turns [] i j a b x y p e f l not_over = absurd (cc)
overlap_within depth turns (m ∷ marks) i zero a b x y p e f l not_over = absurd (omega arith)
overlap_within depth turns (Began call chain ∷ marks) zero (suc j) a b x y p e f l not_over =
    let same_call : call ≡ a = cc in
    let same_chain : chain ≡ x = cc in
    let t : Turn = record { call = call; chain = chain } in
    let h = met_open depth (turns ++ t ∷ []) marks j t b y (In-last turns t) p.1 f
    (λ q less r. not_over (suc q) (omega arith) (omega arith) (r ∙ ap (λ (z : ℕ). Some (Ended z)) same_call)) in
    (sym same_chain ∙ h.0, h.1, h.2)
overlap_within depth turns (Ended call ∷ marks) zero (suc j) a b x y p e f l not_over = absurd (cc)
overlap_within depth turns (Began call chain ∷ marks) (suc i) (suc j) a b x y p e f l not_over =
    overlap_within depth (turns ++ record { call = call; chain = chain } ∷ []) marks i j a b x y p.1 e f (omega arith)
    (λ q l m. not_over (suc q) (omega arith) (omega arith))
overlap_within depth turns (Ended call ∷ marks) (suc i) (suc j) a b x y p e f l not_over =
    overlap_within depth (without_turn call turns) marks i j a b x y p e f (omega arith)
    (λ q l m. not_over (suc q) (omega arith) (omega arith))

pub isolated_from_enters : (depth : ℕ) (marks : List TurnMark) → EntersAll depth [] marks → TurnsIsolated depth marks
isolated_from_enters depth marks p =
    record {
      one_chain = λ i j a b x y o.
          let h = overlap_within depth [] marks i j a b x y p o.first o.second o.in_order o.not_over in
          (h.0, subst (λ (z : Option (List ℕ)). IsSome z) (sym h.0) h.1, h.2);
      within_depth = λ n. open_within depth [] marks n p (omega arith);
    }
