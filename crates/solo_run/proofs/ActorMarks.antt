-- Each actor's cell against its own marks: one actor's call leaves every other actor's cell and marks as they are.
use Rattle.std.proofs.Common.{◌≡◌, ℕ, Bool, true, false, List, [], ◌∷◌, ◌++◌, Option, None, Some, refl, sym, ap, subst, ◌∙◌, append-nil}
use Rattle.std.specs.Str.{bytes_eq}
use Rattle.std.proofs.lemmas.Slice.Eq.{bytes_eq-Decides}
use Rattle.actor_names.specs.Names.{before_slash}
use Rattle.turn_core.specs.declared.cell.Turn.{Turn}
use Rattle.turn_core.specs.Cell.{CellState, new_cell}
use Rattle.turn_core.specs.CellMarks.{TurnMark, TurnsIsolated, open_after}
use Rattle.turn_core.proofs.Overlaps.{EntersAll, EntersAll-append, open_after-append, isolated_from_enters}
use Rattle.turn_core.proofs.CellKeeps.{KeepsTurns, new_cell_sound, stays}
use Rattle.solo_run.specs.World.{TypeDepth, Actor, ActorMark, depth_of, cell_at, put_cell, cell_for, marks_at, marks_of}

-- ---- marks of one actor

pub marks_of-append : (key : List ℕ) (xs ys : List ActorMark) → marks_of key (xs ++ ys) ≡ marks_of key xs ++ marks_of key ys
marks_of-append key [] ys = refl
marks_of-append key (m ∷ xs) ys = by (bytes_eq key m.key) refl (marks_of-append key xs ys)
  where
    by : (b : Bool) → bytes_eq key m.key ≡ b → marks_of key (xs ++ ys) ≡ marks_of key xs ++ marks_of key ys
        → marks_of key (m ∷ (xs ++ ys)) ≡ marks_of key (m ∷ xs) ++ marks_of key ys
    by true e ih = rw (e, ih)
    by false e ih = rw (e, ih)

pub marks_of-own : (key at : List ℕ) (ms : List TurnMark) → bytes_eq key at ≡ true → marks_of key (marks_at at ms) ≡ ms
marks_of-own key at [] e = refl
marks_of-own key at (m ∷ ms) e = rw e (ap (λ (rest : List TurnMark). m ∷ rest) (marks_of-own key at ms e))

pub marks_of-other : (key at : List ℕ) (ms : List TurnMark) → bytes_eq key at ≡ false → marks_of key (marks_at at ms) ≡ []
marks_of-other key at [] e = refl
marks_of-other key at (m ∷ ms) e = rw e (marks_of-other key at ms e)

-- ---- the cell of one actor

-- equal texts compare alike with a third
same_test : (key at other : List ℕ) → bytes_eq key at ≡ true → bytes_eq key other ≡ bytes_eq at other
same_test key at other e = ap (λ (k : List ℕ). bytes_eq k other) ((bytes_eq-Decides key at).0 e)

pub cell_at-own : (key at : List ℕ) (cell : CellState) (actors : List Actor) → bytes_eq key at ≡ true → cell_at key (put_cell at cell actors) ≡ Some cell
cell_at-own key at cell [] e = rw e
cell_at-own key at cell (a ∷ actors) e = by (bytes_eq at a.key) refl (same_test key at a.key e) (cell_at-own key at cell actors e)
  where
    by : (b : Bool) → bytes_eq at a.key ≡ b → bytes_eq key a.key ≡ bytes_eq at a.key → cell_at key (put_cell at cell actors) ≡ Some cell
        → cell_at key (put_cell at cell (a ∷ actors)) ≡ Some cell
    by true f same ih = rw (f, same, f)
    by false f same ih = rw (f, same, f, ih)

pub cell_at-other : (key at : List ℕ) (cell : CellState) (actors : List Actor) → bytes_eq key at ≡ false → cell_at key (put_cell at cell actors) ≡ cell_at key actors
cell_at-other key at cell [] e = rw e
cell_at-other key at cell (a ∷ actors) e = by (bytes_eq at a.key) refl (cell_at-other key at cell actors e)
  where
    by : (b : Bool) → bytes_eq at a.key ≡ b → cell_at key (put_cell at cell actors) ≡ cell_at key actors
        → cell_at key (put_cell at cell (a ∷ actors)) ≡ cell_at key (a ∷ actors)
    by true f ih =
        let apart : bytes_eq key a.key ≡ false = ap (λ (k : List ℕ). bytes_eq key k) (sym ((bytes_eq-Decides at a.key).0 f)) ∙ e in
        rw (f, apart)
    by false f ih = rw (f, ih)

-- ---- the invariant

-- What an actor's marks so far say of its cell, at the depth of its type: they are the marks of turns that each
-- entered beside turns of their own chain, and show which are open. An actor without a cell has no marks.
abbrev pub CellTold : ℕ → Option CellState → List TurnMark → Type 0
CellTold depth None marks = marks ≡ []
CellTold depth (Some cell) marks = KeepsTurns depth [] cell marks

-- the same for every actor
abbrev pub ActorsTold : List TypeDepth → List Actor → List ActorMark → Type 0
ActorsTold depths actors marks = (key : List ℕ) → CellTold (depth_of (before_slash key) depths) (cell_at key actors) (marks_of key marks)

-- two lists of marks, one after the other
pub keeps_append : (depth : ℕ) (turns : List Turn) (cell after : CellState) (ms ns : List TurnMark) → KeepsTurns depth turns cell ms → KeepsTurns cell.depth cell.turns after ns
    → KeepsTurns depth turns after (ms ++ ns)
keeps_append depth turns cell after ms ns h k =
    record {
      same_depth = k.same_depth ∙ h.same_depth;
      sound = k.sound;
      enters =
          EntersAll-append depth turns ms ns h.enters
          (subst (λ (ts : List Turn). EntersAll depth ts ns) (sym h.opens) (subst (λ (d : ℕ). EntersAll d cell.turns ns) h.same_depth k.enters));
      opens = open_after-append turns ms ns ∙ ap (λ (ts : List Turn). open_after ts ns) h.opens ∙ k.opens;
    }

-- the cell that an actor's call finds, made if there was none
pub told_for : (depths : List TypeDepth) (actors : List Actor) (marks : List ActorMark) (key : List ℕ) → ActorsTold depths actors marks
    → KeepsTurns (depth_of (before_slash key) depths) [] (cell_for depths key actors) (marks_of key marks)
told_for depths actors marks key told = by (cell_at key actors) refl (told key)
  where
    by : (found : Option CellState) → cell_at key actors ≡ found → CellTold (depth_of (before_slash key) depths) found (marks_of key marks)
        → KeepsTurns (depth_of (before_slash key) depths) [] (cell_for depths key actors) (marks_of key marks)
    by None e none =
        let depth = depth_of (before_slash key) depths in
        rw e (subst (λ (ms : List TurnMark). KeepsTurns depth [] (new_cell depth) ms) (sym none) (stays (new_cell depth) (new_cell_sound depth)))
    by (Some cell) e kept = rw e kept

-- the cell that an actor has
pub told_at : (depths : List TypeDepth) (actors : List Actor) (marks : List ActorMark) (key : List ℕ) (cell : CellState) → ActorsTold depths actors marks → cell_at key actors ≡ Some cell
    → KeepsTurns (depth_of (before_slash key) depths) [] cell (marks_of key marks)
told_at depths actors marks key cell told e =
    subst (λ (found : Option CellState). CellTold (depth_of (before_slash key) depths) found (marks_of key marks)) e (told key)

-- one actor's call changes its cell and adds its marks
pub told-put : (depths : List TypeDepth) (actors : List Actor) (marks : List ActorMark) (at : List ℕ) (cell after : CellState) (ns : List TurnMark) → ActorsTold depths actors marks
    → KeepsTurns (depth_of (before_slash at) depths) [] cell (marks_of at marks) → KeepsTurns cell.depth cell.turns after ns
    → ActorsTold depths (put_cell at after actors) (marks ++ marks_at at ns)
told-put depths actors marks at cell after ns told kept step key = by (bytes_eq key at) refl
  where
    by : (b : Bool) → bytes_eq key at ≡ b
        → CellTold (depth_of (before_slash key) depths) (cell_at key (put_cell at after actors)) (marks_of key (marks ++ marks_at at ns))
    by true e =
        let same = (bytes_eq-Decides key at).0 e in
        let joined = keeps_append (depth_of (before_slash at) depths) [] cell after (marks_of at marks) ns kept step in
        rw (cell_at-own key at after actors e, marks_of-append key marks (marks_at at ns), marks_of-own key at ns e)
        (subst (λ (k : List ℕ). KeepsTurns (depth_of (before_slash k) depths) [] after (marks_of k marks ++ ns)) (sym same) joined)
    by false e =
        rw (cell_at-other key at after actors e, marks_of-append key marks (marks_at at ns), marks_of-other key at ns e, append-nil (marks_of key marks)) (told key)

-- nothing happened
pub told-same : (depths : List TypeDepth) (actors : List Actor) (marks : List ActorMark) → ActorsTold depths actors marks → ActorsTold depths actors (marks ++ [])
told-same depths actors marks told = subst (λ (ms : List ActorMark). ActorsTold depths actors ms) (sym (append-nil marks)) told

-- without actors no depth is used, and there are no marks
pub told-none : (depths depths' : List TypeDepth) (actors : List Actor) (marks : List ActorMark) → actors ≡ [] → ActorsTold depths actors marks → ActorsTold depths' actors marks
told-none depths depths' actors marks none told key =
    let at_none : cell_at key actors ≡ None = ap (λ (others : List Actor). cell_at key others) none in
    let no_marks : marks_of key marks ≡ [] = subst (λ (found : Option CellState). CellTold (depth_of (before_slash key) depths) found (marks_of key marks)) at_none (told key) in
    subst (λ (found : Option CellState). CellTold (depth_of (before_slash key) depths') found (marks_of key marks)) (sym at_none) no_marks

-- ---- what it gives

pub told_isolated : (depth : ℕ) (found : Option CellState) (marks : List TurnMark) → CellTold depth found marks → TurnsIsolated depth marks
told_isolated depth None marks none = isolated_from_enters depth marks (subst (λ (ms : List TurnMark). EntersAll depth [] ms) (sym none) tt)
told_isolated depth (Some cell) marks kept = isolated_from_enters depth marks kept.enters
