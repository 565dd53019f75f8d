-- The rule of a gate, which holds whoever has the turn, and what each atomic step says to the seat that makes it. Own.
use Rattle.std.specs.Prelude.{◌≡◌, ◌≢◌, ℕ, ◌+◌, ◌*◌, ◌^◌, ◌<◌, ◌≤◌, true, false, List, [], ◌∷◌, ◌++◌, length, slice_index, Option, Some, None}
use mathlib.Core.Option as m
use mathlib.Core.List.{IsPrefix}
use lib.ListN.{get_elem?}
use Rattle.atomic_table.specs.Table.{State, Me, Step}
use Rattle.step_gate.specs.declared.view.HistoryEntry.{HistoryEntry}
use Rattle.step_gate.specs.declared.view.View.{View}
use Rattle.step_gate.specs.declared.view.Turn.{Turn}
use Rattle.step_gate.specs.declared.view.Turn.TheVariants.{Idle, Has, Shut}
use Rattle.step_gate.specs.History.{HistoryLeadsTo, LegalHistory, entry, made, made_by, longer, shorter}

module _ {S : Type 0} where
  -- What the turn of the seat with this number means. An idle seat claims nothing. A seat that has the turn is the
  -- holder, knows the word and found the present value. One that keeps the turn for good has put that value back.
  abbrev pub InTurn : ℕ → S → List (m.Option S) → ℕ → ℕ → Turn S → Type 0
  InTurn word value homes holder by Idle = Unit {0}
  InTurn word value homes holder by (Has at x) = (word ≡ at) × (holder ≡ by) × (x ≡ value)
  InTurn word value homes holder by Shut = (holder ≡ by) × (get_elem? homes 0 ≡ m.some (m.some value))

module _ {S E R : Type 0} where
  -- the view of the first seat
  abbrev pub newcomer : S → View S E R
  newcomer x = record { live = true; opening = Some x; seen = []; mine = []; also = []; named = true; number = 0; met = false; other = 0; turn = Idle }

  -- the view of a seat that was joined into another
  abbrev pub ended : View S E R
  ended = record { live = false; opening = None; seen = []; mine = []; also = []; named = false; number = 0; met = false; other = 0; turn = Idle }

  -- the view of a new seat that was split from an old one
  abbrev pub told : View S E R → View S E R
  told v = record { live = v.live; opening = v.opening; seen = v.seen; mine = []; also = []; named = false; number = 0; met = v.named; other = v.number; turn = Idle }

  -- the view of a seat after another was joined into it
  abbrev pub both : View S E R → View S E R → View S E R
  both v w = record { live = v.live; opening = v.opening; seen = longer v.seen w.seen; mine = v.mine; also = shorter v.seen w.seen; named = v.named; number = v.number; met = w.named; other = w.number; turn = v.turn }

  -- the view with this turn
  abbrev pub holding : Turn S → View S E R → View S E R
  holding t v = record { live = v.live; opening = v.opening; seen = v.seen; mine = v.mine; also = v.also; named = v.named; number = v.number; met = v.met; other = v.other; turn = t }

  -- the view with this number
  abbrev pub called : ℕ → View S E R → View S E R
  called k v = record { live = v.live; opening = v.opening; seen = v.seen; mine = v.mine; also = v.also; named = true; number = k; met = v.met; other = v.other; turn = v.turn }

  -- what the seat with this number knows, if this is the history
  pub record Fits (opening : S) (log : List (HistoryEntry E R)) (by : ℕ) (v : View S E R) : Type 0 where
    pub from : v.opening ≡ Some opening
    pub seen : IsPrefix v.seen log
    pub also : IsPrefix v.also log
    pub mine : made_by by log ≡ v.mine
    pub own : made_by by v.seen ≡ v.mine
    pub number : v.named ≡ true → v.number ≡ by
    pub apart : v.met ≡ true → v.other ≢ by

  -- what is true of the seat with this number; while the turn is free every seat is idle
  pub record Seated (opening : S) (log : List (HistoryEntry E R)) (word : ℕ) (value : S) (homes : List (m.Option S)) (holder taken by : ℕ) (v : View S E R) : Type 0 where
    pub fits : Fits opening log by v
    pub in_turn : InTurn word value homes holder by v.turn
    pub free : taken ≡ 0 → v.turn ≡ Idle

  -- There is one legal history, and the word is twice its length, and one more while a seat has the turn. While the
  -- word is even, the slot holds the value to which the history leads. Every live seat knows a prefix of the history
  -- and its own entries in it, and a number that no seat has yet names no entry.
  pub record Kept (moves : S → E → R → S → Type 0) (opening : S) (s : State S (View S E R)) : Type 0 where
    pub log : List (HistoryEntry E R)
    pub value : S
    pub holder : ℕ
    pub taken : ℕ
    pub leads : HistoryLeadsTo moves opening log value
    pub short : length log ≤ 2 ^ 62
    pub width : length s.words ≡ 1
    pub word : slice_index s.words 0 ≡ 2 * length log + taken
    pub one : taken < 2
    pub at_home : taken ≡ 0 → get_elem? s.homes 0 ≡ m.some (m.some value)
    pub seats : (by : ℕ) (v : View S E R) → get_elem? s.views by ≡ m.some v → v.live ≡ true → Seated opening log (slice_index s.words 0) value s.homes holder taken by v
    pub fresh : (by : ℕ) → length s.views ≤ by → made_by by log ≡ []

  -- the seat stays the same seat, and is idle
  pub record Stays (v w : View S E R) : Type 0 where
    pub live : w.live ≡ true
    pub opening : w.opening ≡ v.opening
    pub named : w.named ≡ true
    pub number : w.number ≡ v.number
    pub turn : w.turn ≡ Idle

  -- what was seen is a legal history, and the seat's own entries are those of it that name the seat
  pub record Knows (moves : S → E → R → S → Type 0) (w : View S E R) : Type 0 where
    pub legal : (x : S) → w.opening ≡ Some x → LegalHistory moves x w.seen
    pub own : made_by w.number w.seen ≡ w.mine

  -- the history was seen to its end, and this entry was added there
  pub record Extends (moves : S → E → R → S → Type 0) (event : E) (reply : R) (v w : View S E R) : Type 0 where
    pub between : List (HistoryEntry E R)
    pub seen : w.seen ≡ (v.seen ++ between) ++ entry v.number event reply ∷ []
    pub mine : w.mine ≡ v.mine ++ made (length (v.seen ++ between)) (entry v.number event reply) ∷ []
    pub small : length w.seen ≤ 2 ^ 62
    pub knows : Knows moves w
    pub stays : Stays v w

  -- the history was seen to its end, and it has `count` entries
  pub record Sees (moves : S → E → R → S → Type 0) (count : ℕ) (v w : View S E R) : Type 0 where
    pub seen : IsPrefix v.seen w.seen
    pub count_is : length w.seen ≡ count
    pub mine : w.mine ≡ v.mine
    pub knows : Knows moves w
    pub stays : Stays v w

  module _ (moves : S → E → R → S → Type 0) where
    -- the seat has the turn, or nothing changed
    abbrev pub took : Step S → Me S (View S E R) → ℕ → Me S (View S E R) → Type 0
    took st m r m' =
        (r ≡ st.first → (x : S) × (m'.0 ≡ holding (Has st.second x) m.0) × (m'.1 ≡ (0, x) ∷ []))
        × (r ≢ st.first → (m'.0 ≡ m.0) × (m'.1 ≡ []))

    -- the entry was added to the end of the history, and the value is back in its slot
    abbrev pub added : Option (E × R) → Step S → Me S (View S E R) → ℕ → Me S (View S E R) → Type 0
    added said st m r m' = (a : E × R) × (said ≡ Some a) × Extends moves a.0 a.1 m.0 m'.0 × (m'.1 ≡ [])

    -- the turn is free again, nothing was added, and the whole history was seen
    abbrev pub gave_up : Step S → Me S (View S E R) → ℕ → Me S (View S E R) → Type 0
    gave_up st m r m' = (n : ℕ) × (st.first ≡ 2 * n) × Sees moves n m.0 m'.0 × (m'.1 ≡ [])

    -- the seat's number is known, and the shorter of the two lists that were joined is a prefix of the longer
    abbrev pub looked : Step S → Me S (View S E R) → ℕ → Me S (View S E R) → Type 0
    looked st m r m' =
        (m'.0 ≡ called m'.0.number m.0) × (m'.1 ≡ m.1) × Knows moves m'.0 × (m.0.named ≡ true → m'.0.number ≡ m.0.number)
        × (length m.0.also ≤ length m.0.seen → IsPrefix m.0.also m.0.seen) × (m.0.met ≡ true → m.0.other ≢ m'.0.number)

    -- the turn is kept for good, and the value is back in its slot
    abbrev pub closed : Step S → Me S (View S E R) → ℕ → Me S (View S E R) → Type 0
    closed st m r m' = (m'.0 ≡ holding Shut m.0) × (m'.1 ≡ [])
