-- Rows: lists whose elements belong together place by place. Own.
use Rattle.std.specs.Prelude.{◌≡◌, ℕ, List, [], length, Some}
use Rattle.std.specs.List.{slice_get}
use mathlib.Core.List.{IsPrefix}
use Rattle.step_gate.specs.declared.gate.Gate.{Gate}
use Rattle.step_gate.specs.History.{longer}
use Rattle.step_gate.specs.Gates.{SeatOf, IsSeatOf, KeepsMine, opening_of, seen_of, mine_of}

-- the two lists are equally long, and the two elements at each place are related
pub record Along {A B : Type 0} (related : ℕ → A → B → Type 0) (xs : List A) (ys : List B) : Type 0 where
  pub many : length ys ≡ length xs
  pub each : (k : ℕ) (x : A) (y : B) → slice_get xs k ≡ Some x → slice_get ys k ≡ Some y → related k x y

module _ {S E R : Type 0} where
  -- the seats belong to the gates
  abbrev pub AreSeatsOf : (S → E → R → S → Type 0) → List (Gate S E R) → List (SeatOf S E R) → Type 0
  AreSeatsOf moves gates seats = Along (λ k gate seat. IsSeatOf moves gate seat) gates seats

  -- the gate has this opening value, and nothing has happened there
  pub record IsNewAt (moves : S → E → R → S → Type 0) (opening : S) (gate : Gate S E R) (seat : SeatOf S E R) : Type 0 where
    pub seat_of : IsSeatOf moves gate seat
    pub opening_is : opening_of gate ≡ opening
    pub seen : seen_of seat ≡ []
    pub mine : mine_of seat ≡ []

  -- after a split the seat's lists are as before
  pub record KeepsLists (before after : SeatOf S E R) : Type 0 where
    pub keeps : KeepsMine before after
    pub seen : seen_of after ≡ seen_of before

  -- the new seat has seen what the old one had seen, and has no entry
  pub record StartsFrom (old new : SeatOf S E R) : Type 0 where
    pub seen : seen_of new ≡ seen_of old
    pub mine : mine_of new ≡ []

  -- The seat keeps its own entries, and has then seen the longer of the two lists, of which the other is a prefix. If
  -- they are equally long, it is the seat's own.
  pub record Meets (kept given after : SeatOf S E R) : Type 0 where
    pub keeps : KeepsMine kept after
    pub seen : seen_of after ≡ longer (seen_of kept) (seen_of given)
    pub given_seen : IsPrefix (seen_of given) (seen_of after)

  -- the kept seat at this place was joined with the given seat at this place
  abbrev pub MeetsAt : List (SeatOf S E R) → ℕ → SeatOf S E R → SeatOf S E R → Type 0
  MeetsAt given k kept after = (s : SeatOf S E R) → slice_get given k ≡ Some s → Meets kept s after
