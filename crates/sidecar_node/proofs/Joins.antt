-- Seats that are split, and seats that are joined from the last place down.
use Rattle.std.proofs.Common.{◌≡◌, ◌∙◌, ℕ, ◌+◌, ◌<◌, ◌≤◌, List, [], ◌∷◌, ◌++◌, length, Some, refl, sym, subst, arith, length-set, take}
use Rattle.std.specs.List.{slice_get, slice_set}
use Rattle.std.proofs.lemmas.Option.{slice_get_within}
use mathlib.Core.Logic.{dite}
use native.Mathlib.Decide.{ℕ_discrete}
use Rattle.step_gate.specs.declared.gate.Gate.{Gate}
use Rattle.step_gate.specs.Gates.{SeatOf, IsSeatOf, KeepsMine, seen_of, mine_of}
use Rattle.step_gate.proofs.Beginnings.{prefix_self, prefix_trans}
use Rattle.sidecar_node.specs.Rows.{Along, AreSeatsOf, KeepsLists, StartsFrom, Meets, MeetsAt}
use Rattle.sidecar_node.proofs.Places.{get_set_same, get_set_other, get_there, along_self, along_put, along_map, along_then, along_set, along_more, along_whole}

module _ {S E R : Type 0} where
  pub keeps_self : (s : SeatOf S E R) → KeepsLists s s
  keeps_self s = record { keeps = record { mine = refl; seen = prefix_self _; number = refl }; seen = refl }

  pub keeps_then : (s t u : SeatOf S E R) → KeepsLists s t → KeepsLists t u → KeepsLists s u
  keeps_then s t u p q = record {
    keeps = record { mine = q.keeps.mine ∙ p.keeps.mine; seen = prefix_trans _ _ _ p.keeps.seen q.keeps.seen; number = q.keeps.number ∙ p.keeps.number };
    seen = q.seen ∙ p.seen;
  }

  -- the seats from this place on were joined, and those before it are as they were
  pub record JoinedFrom (n : ℕ) (given : List (SeatOf S E R)) (k : ℕ) (kept after : SeatOf S E R) : Type 0 where
    pub before : k < n → kept ≡ after
    pub behind : n ≤ k → MeetsAt given k kept after

  pub joined_none : (n : ℕ) (given : List (SeatOf S E R)) (kept : List (SeatOf S E R)) → length kept ≤ n → Along (JoinedFrom n given) kept kept
  joined_none n given kept le = record {
    many = refl;
    each = λ k x y ex ey. let l = slice_get_within kept k x ex in record {
      before = λ _. cc (ex, ey);
      behind = λ ge. absurd (omega arith);
    };
  }

  -- one more seat was joined, below those joined so far
  pub joined_step : (n m : ℕ) (given kept after : List (SeatOf S E R)) (old new s : SeatOf S E R) → m ≡ n + 1 → Along (JoinedFrom m given) kept after → slice_get after n ≡ Some old → slice_get given n ≡ Some s → Meets old s new
      → Along (JoinedFrom n given) kept (slice_set after n new)
  joined_step n m given kept after old new s next r at given_at meets = record {
    many = length-set after n new ∙ r.many;
    each = λ j x y ex ey. dite (ℕ_discrete j n)
        (λ is. let same : slice_get (slice_set after n new) n ≡ Some new = get_set_same after n old new at in
        let eo : slice_get after j ≡ Some old = cc (at, is) in
        let en : new ≡ y = cc (same, ey, is) in
        let b : j < m = omega arith in
        let first : x ≡ old = (r.each j x old ex eo).before b in
        record {
          before = λ lt. absurd (omega arith);
          behind = λ ge t et. let es : s ≡ t = cc (given_at, et, is) in
              subst (λ (p : SeatOf S E R × SeatOf S E R × SeatOf S E R). Meets p.0 p.1 p.2) (λ i. (sym first i, es i, en i)) meets;
        })
        (λ other. let ey_then : slice_get after j ≡ Some y = sym (get_set_other after j n new other) ∙ ey in
        let was = r.each j x y ex ey_then in
        record {
          before = λ lt. was.before (omega arith);
          behind = λ ge. was.behind (omega arith);
        });
  }

  -- the same, if the place goes by two names
  pub joined_next : (k n m : ℕ) (given kept after : List (SeatOf S E R)) (old new s : SeatOf S E R) → k ≡ n → m ≡ k + 1 → Along (JoinedFrom m given) kept after → slice_get after k ≡ Some old → slice_get given k ≡ Some s → Meets old s new
      → Along (JoinedFrom n given) kept (slice_set after k new)
  joined_next k n m given kept after old new s e next r at given_at meets =
      subst (λ (p : ℕ). Along (JoinedFrom p given) kept (slice_set after k new)) e (joined_step k m given kept after old new s next r at given_at meets)

  pub joined_all : (n : ℕ) (given kept after : List (SeatOf S E R)) → n ≡ 0 → Along (JoinedFrom n given) kept after → Along (MeetsAt given) kept after
  joined_all n given kept after none r = along_map (JoinedFrom n given) (MeetsAt given) kept after r (λ k x y j. j.behind (omega arith))

module _ {S E R : Type 0} (moves : S → E → R → S → Type 0) where
  pub seats_set : (gates : List (Gate S E R)) (seats : List (SeatOf S E R)) (k : ℕ) (gate : Gate S E R) (new : SeatOf S E R) → AreSeatsOf moves gates seats → slice_get gates k ≡ Some gate → IsSeatOf moves gate new → AreSeatsOf moves gates (slice_set seats k new)
  seats_set gates seats k gate new h at of = along_set (λ j (g : Gate S E R) (s : SeatOf S E R). IsSeatOf moves g s) gates seats k gate new h at of

  pub seats_more : (gates : List (Gate S E R)) (others : List (SeatOf S E R)) (k : ℕ) (gate : Gate S E R) (other : SeatOf S E R) → AreSeatsOf moves (take k gates) others → slice_get gates k ≡ Some gate → IsSeatOf moves gate other → AreSeatsOf moves (take (k + 1) gates) (others ++ other ∷ [])
  seats_more gates others k gate other h at of = along_more (λ j (g : Gate S E R) (s : SeatOf S E R). IsSeatOf moves g s) gates others k gate other h at of

  pub seats_whole : (gates : List (Gate S E R)) (others : List (SeatOf S E R)) (k : ℕ) → length gates ≡ k → AreSeatsOf moves (take k gates) others → AreSeatsOf moves gates others
  seats_whole gates others k e h = along_whole (λ j (g : Gate S E R) (s : SeatOf S E R). IsSeatOf moves g s) gates others k e h

module _ {S E R : Type 0} where
  abbrev Keeps : ℕ → SeatOf S E R → SeatOf S E R → Type 0
  Keeps k old new = KeepsLists old new

  abbrev Starts : ℕ → SeatOf S E R → SeatOf S E R → Type 0
  Starts k old new = StartsFrom old new

  pub kept_all : (seats : List (SeatOf S E R)) → Along (λ k (old new : SeatOf S E R). KeepsLists old new) seats seats
  kept_all seats = along_self Keeps seats (λ k x. keeps_self x)

  pub kept_set : (first seats : List (SeatOf S E R)) (k : ℕ) (seat new : SeatOf S E R) → Along (λ k (old new : SeatOf S E R). KeepsLists old new) first seats → slice_get seats k ≡ Some seat → KeepsMine seat new → seen_of new ≡ seen_of seat
      → Along (λ k (old new : SeatOf S E R). KeepsLists old new) first (slice_set seats k new)
  kept_set first seats k seat new h at mine seen =
      along_then Keeps Keeps Keeps first seats (slice_set seats k new) h (along_put Keeps seats k seat new at (record { keeps = mine; seen = seen }) (λ j x other. keeps_self x)) (λ j x y z p q. keeps_then x y z p q)

  -- the first seats have second ones, and one more seat gets one
  pub starts_more : (first seats others : List (SeatOf S E R)) (k : ℕ) (seat other : SeatOf S E R) → Along (λ k (old new : SeatOf S E R). KeepsLists old new) first seats → Along (λ k (old new : SeatOf S E R). StartsFrom old new) (take k first) others
      → slice_get seats k ≡ Some seat → seen_of other ≡ seen_of seat → mine_of other ≡ [] → Along (λ k (old new : SeatOf S E R). StartsFrom old new) (take (k + 1) first) (others ++ other ∷ [])
  starts_more first seats others k seat other kept h at seen mine =
      let there = get_there seats first k seat (sym kept.many) at in
      let same = kept.each k there.0 seat there.1 at in
      along_more Starts first others k there.0 other h there.1 (record { seen = seen ∙ same.seen; mine = mine })

  pub starts_whole : (first others : List (SeatOf S E R)) (k : ℕ) → length first ≡ k → Along (λ k (old new : SeatOf S E R). StartsFrom old new) (take k first) others → Along (λ k (old new : SeatOf S E R). StartsFrom old new) first others
  starts_whole first others k e h = along_whole Starts first others k e h
