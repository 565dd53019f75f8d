-- The rule of a gate, which holds whoever has the turn, and what each atomic step says to the seat that makes it. Own.
use Rattle.std.specs.Prelude.{◌≡◌, ◌≢◌, ℕ, ◌+◌, ◌*◌, ◌^◌, ◌<◌, ◌≤◌, true, false, List, [], ◌∷◌, ◌++◌, length, slice_index, Option, Some, None, vec_capacity}
use mathlib.Core.Option as m
use mathlib.Core.List.{IsPrefix}
use lib.ListN.{get_elem?}
use Rattle.atomic_table.specs.Table.{State, Me, Step, rest}
use Rattle.group_gate.specs.declared.view.Asked.{Asked}
use Rattle.group_gate.specs.declared.view.Core.{Core}
use Rattle.group_gate.specs.declared.view.Done.{Done}
use Rattle.group_gate.specs.declared.view.GroupEntry.{GroupEntry}
use Rattle.group_gate.specs.declared.view.Held.{Held}
use Rattle.group_gate.specs.declared.view.Held.TheVariants.{Machine, Nothing, Ask, Answer}
use Rattle.group_gate.specs.declared.view.Sits.{Sits}
use Rattle.group_gate.specs.declared.view.Sits.TheVariants.{Stands, At, Waits}
use Rattle.group_gate.specs.declared.view.Turn.{Turn}
use Rattle.group_gate.specs.declared.view.Turn.TheVariants.{Idle, Leads, Owes, Shut}
use Rattle.group_gate.specs.declared.view.View.{View}
use Rattle.group_gate.specs.History.{HistoryLeadsTo, LegalHistory, asked, made_at}

-- How far a place is: free, owned with nothing asked, asked, collected by the seat that has the turn, answered in the
-- history, or answered at the place too
pub data Stage (A R : Type 0) : Type 0 where
  free : Stage A R
  owned : Stage A R
  asking : A → Stage A R
  taken : A → Stage A R
  owed : Done A R → Stage A R
  answered : Done A R → Stage A R

-- What only the rule knows: the history, the value to which it leads, the seat that took the turn last, whether the turn
-- is taken (1) or free (0), and of each place its owner and how far it is
pub record Facts (S A R : Type 0) : Type 0 where
  pub log : List (GroupEntry A R)
  pub value : S
  pub holder : ℕ
  pub busy : ℕ
  pub owner : ℕ → ℕ
  pub stage : ℕ → Stage A R

module _ {S A R : Type 0} where
  -- the machine with empty lists that have room for one ask of each place
  abbrev pub IsReady : ℕ → Core S A R → Type 0
  IsReady slots c =
      (c.asks.items ≡ []) × (c.answers.items ≡ []) × (c.places.items ≡ [])
      × (slots ≤ 1 + vec_capacity c.asks) × (slots ≤ 1 + vec_capacity c.answers) × (slots ≤ 1 + vec_capacity c.places)

  -- the slot 0 is at home and has the machine with this value
  abbrev pub AtHome : S → List (m.Option (Held S A R)) → Type 0
  AtHome x homes = (c : Core S A R) × (get_elem? homes 0 ≡ m.some (m.some (Machine c))) × IsReady (length homes) c × (c.machine ≡ x)

  -- the word and the slot of a place that is so far
  abbrev pub DeskIs : (A → Type 0) → Stage A R → ℕ → m.Option (m.Option (Held S A R)) → Type 0
  DeskIs takes free word home = (word ≡ 0) × (home ≡ m.some (m.some Nothing))
  DeskIs takes owned word home = word ≡ 1
  DeskIs takes (asking a) word home = (word ≡ 2) × (home ≡ m.some (m.some (Ask a))) × takes a
  DeskIs takes (taken a) word home = word ≡ 3
  DeskIs takes (owed d) word home = word ≡ 3
  DeskIs takes (answered d) word home = (word ≡ 4) × (home ≡ m.some (m.some (Answer d.answer)))

module _ {A : Type 0} where
  -- the place is not among these
  abbrev pub Apart : ℕ → List (Asked A) → Type 0
  Apart i [] = Unit {0}
  Apart i (c ∷ cs) = (c.place ≢ i) × Apart i cs

module _ {A R : Type 0} where
  -- how far the ask of a seat that waits at the place is: what was asked there before is `before`, and the ask was made
  -- when the history had `since` entries
  abbrev pub IsDue : A → List (Done A R) → ℕ → List (Done A R) → Done A R → Type 0
  IsDue a before since made d = (made ≡ before ++ d ∷ []) × (d.ask ≡ a) × (since ≤ d.entry)

  abbrev pub Waiting : A → List (Done A R) → ℕ → List (Done A R) → Stage A R → Type 0
  Waiting a before since made free = ⊥
  Waiting a before since made owned = ⊥
  Waiting a before since made (asking b) = (b ≡ a) × (made ≡ before)
  Waiting a before since made (taken b) = (b ≡ a) × (made ≡ before)
  Waiting a before since made (owed d) = IsDue a before since made d
  Waiting a before since made (answered d) = IsDue a before since made d

  -- each place once, and each collected
  abbrev pub Collected : (ℕ → Stage A R) → List (Asked A) → Type 0
  Collected stage [] = Unit {0}
  Collected stage (c ∷ cs) = (stage c.place ≡ taken c.ask) × Apart c.place cs × Collected stage cs

  -- each place once, and each still owed its answer
  abbrev pub IsApartOf : ℕ → List (Done A R) → Type 0
  IsApartOf i [] = Unit {0}
  IsApartOf i (d ∷ ds) = (d.place ≢ i) × IsApartOf i ds

  abbrev pub Owing : (ℕ → Stage A R) → List (Done A R) → Type 0
  Owing stage [] = Unit {0}
  Owing stage (d ∷ ds) = (stage d.place ≡ owed d) × IsApartOf d.place ds × Owing stage ds

  -- what an entry with these asks and answers has done, from the index k on
  abbrev pub dones : ℕ → ℕ → List (Asked A) → List R → List (Done A R)
  dones p k [] rs = []
  dones p k (c ∷ cs) [] = []
  dones p k (c ∷ cs) (r ∷ rs) = record { place = c.place; entry = p; index = k; ask = c.ask; answer = r } ∷ dones p (k + 1) cs rs

module _ {S A R : Type 0} where
  -- the view of the first seat
  abbrev pub newcomer : S → View S A R
  newcomer x = record { live = true; opening = Some x; seen = []; also = []; turn = Idle; sits = Stands }

  -- the view of a seat that was joined into another
  abbrev pub ended : View S A R
  ended = record { live = false; opening = None; seen = []; also = []; turn = Idle; sits = Stands }

  -- the view of a new seat that was split from an old one
  abbrev pub told : View S A R → View S A R
  told v = record { live = v.live; opening = v.opening; seen = v.seen; also = []; turn = Idle; sits = Stands }

  -- the view of a seat after another was joined into it
  abbrev pub both : View S A R → View S A R → View S A R
  both v w = record { live = v.live; opening = v.opening; seen = v.seen; also = w.seen; turn = v.turn; sits = v.sits }

  -- the view with this turn
  abbrev pub holding : Turn S A R → View S A R → View S A R
  holding t v = record { live = v.live; opening = v.opening; seen = v.seen; also = v.also; turn = t; sits = v.sits }

  -- the view without the turn
  abbrev pub released : View S A R → View S A R
  released v = holding Idle v

  -- the view with this place
  abbrev pub placed : Sits A R → View S A R → View S A R
  placed p v = record { live = v.live; opening = v.opening; seen = v.seen; also = v.also; turn = v.turn; sits = p }

  -- the view of a seat that has seen this history, with this place
  abbrev pub seeing : List (GroupEntry A R) → Sits A R → View S A R → View S A R
  seeing es p v = record { live = v.live; opening = v.opening; seen = es; also = v.also; turn = v.turn; sits = p }

  -- What the place of the seat with this number means. Where it sits, the place is its own, and what was asked there is
  -- what it knows; where it waits, its ask is on its way.
  abbrev pub InPlace : Facts S A R → ℕ → ℕ → Sits A R → Type 0
  InPlace f slots by Stands = Unit {0}
  InPlace f slots by (At i mine) = (0 < i) × (i < slots) × (f.owner i ≡ by) × (f.stage i ≡ owned) × (made_at i f.log ≡ mine)
  InPlace f slots by (Waits i mine a since) = (0 < i) × (i < slots) × (f.owner i ≡ by) × Waiting a mine since (made_at i f.log) (f.stage i) × (since ≤ length f.log)

  -- What the turn of the seat with this number means. A seat that has the turn is the holder, knows the word and the
  -- present value, and each place that it collected is still its to answer.
  abbrev pub InTurn : Facts S A R → ℕ → List (m.Option (Held S A R)) → ℕ → Turn S A R → Type 0
  InTurn f word homes by Idle = Unit {0}
  InTurn f word homes by (Leads at x cs) = (word ≡ at) × (f.holder ≡ by) × (x ≡ f.value) × Collected f.stage cs
  InTurn f word homes by (Owes at x ds) = (word ≡ at) × (f.holder ≡ by) × (x ≡ f.value) × Owing f.stage ds
  InTurn f word homes by Shut = (f.holder ≡ by) × AtHome f.value homes

  -- what is true of the seat with this number; while the turn is free every seat is idle
  pub record Seated (opening : S) (f : Facts S A R) (word : ℕ) (homes : List (m.Option (Held S A R))) (by : ℕ) (v : View S A R) : Type 0 where
    pub from : v.opening ≡ Some opening
    pub seen : IsPrefix v.seen f.log
    pub also : IsPrefix v.also f.log
    pub in_place : InPlace f (length homes) by v.sits
    pub in_turn : InTurn f word homes by v.turn
    pub idle : f.busy ≡ 0 → v.turn ≡ Idle

  -- There is one legal history, and the word 0 is twice its length, and one more while a seat has the turn. While it is
  -- even, the slot 0 holds the value to which the history leads. Each place is as far as its word and its slot say, and
  -- every live seat knows a prefix of the history, and what was asked at its own place.
  pub record Kept (takes : A → Type 0) (moves : S → List A → List R → S → Type 0) (opening : S) (s : State (Held S A R) (View S A R)) : Type 0 where
    pub facts : Facts S A R
    pub leads : HistoryLeadsTo moves opening facts.log facts.value
    pub short : length facts.log ≤ 2 ^ 62
    pub width : length s.words ≡ length s.homes
    pub some_slot : 0 < length s.homes
    pub word : slice_index s.words 0 ≡ 2 * length facts.log + facts.busy
    pub one : facts.busy < 2
    pub at_home : facts.busy ≡ 0 → AtHome facts.value s.homes
    pub desks : (i : ℕ) → 0 < i → i < length s.homes → DeskIs takes (facts.stage i) (slice_index s.words i) (get_elem? s.homes i)
    pub seats : (by : ℕ) (v : View S A R) → get_elem? s.views by ≡ m.some v → v.live ≡ true → Seated opening facts (slice_index s.words 0) s.homes by v

  -- the history was seen to its end
  pub record Sees (moves : S → List A → List R → S → Type 0) (seen : List (GroupEntry A R)) (v : View S A R) : Type 0 where
    pub prefix : IsPrefix v.seen seen
    pub also : IsPrefix v.also seen
    pub small : length seen ≤ 2 ^ 62
    pub legal : (x : S) → v.opening ≡ Some x → LegalHistory moves x seen

  module _ (takes : A → Type 0) (moves : S → List A → List R → S → Type 0) where
    abbrev Said : Type 1
    Said = Step (Held S A R) → Me (Held S A R) (View S A R) → ℕ → Me (Held S A R) (View S A R) → Type 0

    -- the seat has the turn, or nothing changed
    abbrev pub took : Said
    took st m r m' =
        (r ≡ st.first → (c : Core S A R) × (m'.0 ≡ holding (Leads st.second c.machine []) m.0) × (m'.1 ≡ (0, Machine c) ∷ []) × IsReady st.slots c)
        × (r ≢ st.first → (m'.0 ≡ m.0) × (m'.1 ≡ []))

    -- an ask was collected, or nothing changed
    abbrev pub collected : Said
    collected st m r m' =
        (r ≡ 2 → (a : A) × takes a × ((at : ℕ) (x : S) (cs : List (Asked A)) → m.0.turn ≡ Leads at x cs → m'.0 ≡ holding (Leads at x (cs ++ asked st.word a ∷ [])) m.0) × (m'.1 ≡ (st.word, Ask a) ∷ m.1))
        × (r ≢ 2 → (m'.0 ≡ m.0) × (m'.1 ≡ m.1))

    -- the entry with the asks that were collected and these answers was added to the history, and its answers are owed
    abbrev pub recorded : Option (List R × S) → Said
    recorded said st m r m' =
        (rs : List R) × (y : S) × (n : ℕ) × (said ≡ Some (rs, y)) × (m'.1 ≡ m.1)
        × ((at : ℕ) (x : S) (cs : List (Asked A)) → m.0.turn ≡ Leads at x cs → m'.0 ≡ holding (Owes st.first y (dones n 0 cs rs)) m.0)

    -- the last of the answers that were owed is at its place
    abbrev pub answered_at : Said
    answered_at st m r m' =
        ((at : ℕ) (y : S) (ds : List (Done A R)) (d : Done A R) → m.0.turn ≡ Owes at y (ds ++ d ∷ []) → m'.0 ≡ holding (Owes at y ds) m.0) × (m'.1 ≡ rest m.1)

    -- the turn is free again
    abbrev pub gave_up : Said
    gave_up st m r m' = (m'.0 ≡ holding Idle m.0) × (m'.1 ≡ [])

    -- the turn is kept for good, and the machine is back in its slot
    abbrev pub closed : Said
    closed st m r m' = (m'.0 ≡ holding Shut m.0) × (m'.1 ≡ [])

    -- the whole history was seen, and the word tells its length
    abbrev pub looked : Said
    looked st m r m' =
        (es : List (GroupEntry A R)) × (b : ℕ) × (m'.0 ≡ seeing es m.0.sits m.0) × (m'.1 ≡ m.1) × Sees moves es m.0 × (r ≡ 2 * length es + b) × (b < 2)
        × ((i : ℕ) (mine : List (Done A R)) → m.0.sits ≡ At i mine → made_at i es ≡ mine)

    -- the seat has the place, or nothing changed
    abbrev pub sat : Said
    sat st m r m' =
        (r ≡ 0 → (es : List (GroupEntry A R)) × (m'.0 ≡ seeing es (At st.word (made_at st.word es)) m.0) × (m'.1 ≡ (st.word, Nothing) ∷ m.1) × Sees moves es m.0)
        × (r ≢ 0 → (m'.0 ≡ m.0) × (m'.1 ≡ m.1))

    -- the place is free again
    abbrev pub rose : Said
    rose st m r m' = (m'.0 ≡ placed Stands m.0) × (m'.1 ≡ [])

    -- what is in the slot of the place is asked there
    abbrev pub posted : Said
    posted st m r m' =
        (m'.1 ≡ []) × ((mine : List (Done A R)) (a : A) → m.0.sits ≡ At st.word mine → m.1 ≡ (st.word, Ask a) ∷ [] → m'.0 ≡ placed (Waits st.word mine a (length m.0.seen)) m.0)

    -- the ask is taken back, or nothing changed
    abbrev pub withdrawn : Said
    withdrawn st m r m' =
        (r ≡ 2 → (a : A) × (m'.1 ≡ (st.word, Ask a) ∷ m.1) × ((mine : List (Done A R)) (b : A) (since : ℕ) → m.0.sits ≡ Waits st.word mine b since → (a ≡ b) × (m'.0 ≡ placed (At st.word mine) m.0)))
        × (r ≢ 2 → (m'.0 ≡ m.0) × (m'.1 ≡ m.1))

    -- the ask was answered, in an entry that has been added since it was made; or nothing changed
    abbrev pub fetched : Said
    fetched st m r m' =
        (r ≡ 4 → (es : List (GroupEntry A R)) × (d : Done A R) × (m'.1 ≡ (st.word, Answer d.answer) ∷ m.1) × Sees moves es m.0
        × ((mine : List (Done A R)) (a : A) (since : ℕ) → m.0.sits ≡ Waits st.word mine a since → (m'.0 ≡ seeing es (At st.word (mine ++ d ∷ [])) m.0) × IsDue a mine since (made_at st.word es) d))
        × (r ≢ 4 → (m'.0 ≡ m.0) × (m'.1 ≡ m.1))
