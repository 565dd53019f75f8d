-- The timers of an actor are next to each other.
use Rattle.std.proofs.Common.{◌≡◌, ℕ, true, false, not, ◌&&◌, List, refl, sym, ap, ◌∙◌}
use Rattle.std.specs.declared.cmp.Ordering.{Ordering}
use Rattle.std.specs.declared.cmp.Ordering.TheVariants.{Less, Equal, Greater}
use Rattle.std.specs.Ordering.{nat_cmp, is_eq, ordering_reverse, ordering_then}
use Rattle.std.specs.Cmp.Lexicographic.{slice_cmp}
use Rattle.std.proofs.lemmas.Map.Text.{is_eq-slice_cmp}
use Rattle.actor_names.specs.declared.actor_key.ActorKey.{ActorKey}
use Rattle.timer_book.specs.declared.entry.TimerEntry.{TimerEntry}
use Rattle.timer_book.specs.Entries.{entry_place, place_cmp, actor_place, is_at, is_of, timer_place}
use Rattle.timer_book.proofs.Places.{total}
use Rattle.lists_and_limits.proofs.Maps.{eq-is}

-- the order of two actors
abbrev order : ActorKey → TimerEntry → Ordering
order key e = place_cmp (actor_place e.key) (actor_place key)

all_equal : (a b c : Ordering) → is_eq (ordering_then a (ordering_then b (ordering_then c Equal))) ≡ (is_eq a && (is_eq b && is_eq c))
all_equal Less b c = refl
all_equal Equal Less c = refl
all_equal Equal Equal Less = refl
all_equal Equal Equal Equal = refl
all_equal Equal Equal Greater = refl
all_equal Equal Greater c = refl
all_equal Greater b c = refl

-- a timer is the actor's exactly if it is neither before nor after the actor
pub is_of-order : (key : ActorKey) (e : TimerEntry) → is_of key e ≡ is_eq (order key e)
is_of-order key e =
    rw (
      all_equal (slice_cmp nat_cmp e.key.space key.space) (slice_cmp nat_cmp e.key.kind key.kind) (slice_cmp nat_cmp e.key.id key.id),
      is_eq-slice_cmp e.key.space key.space,
      is_eq-slice_cmp e.key.kind key.kind,
      is_eq-slice_cmp e.key.id key.id,
    ) refl

not_greater : (a b c d : Ordering) → ordering_then a (ordering_then b (ordering_then c (ordering_then d Equal))) ≡ Less → ordering_then a (ordering_then b (ordering_then c Equal)) ≡ Greater → ⊥
not_greater Less b c d h g = cc
not_greater Equal Less c d h g = cc
not_greater Equal Equal Less d h g = cc
not_greater Equal Equal Equal d h g = cc
not_greater Equal Equal Greater d h g = cc
not_greater Equal Greater c d h g = cc
not_greater Greater b c d h g = cc

-- actors of timers in order
module _ (x y : TimerEntry) (h : place_cmp (entry_place x) (entry_place y) ≡ Less) where
  actors_rise : order y.key x ≡ Greater → ⊥
  actors_rise g = not_greater (slice_cmp nat_cmp x.key.space y.key.space) (slice_cmp nat_cmp x.key.kind y.key.kind) (slice_cmp nat_cmp x.key.id y.key.id) (slice_cmp nat_cmp x.name y.name) h g

  module _ (key : ActorKey) where
    pub before_on : order key y ≡ Less → order key x ≡ Less
    before_on l = go (order y.key x) refl
      where
        go : (o : Ordering) → order y.key x ≡ o → order key x ≡ Less
        go Less e = let t = total in t.trans (actor_place x.key) (actor_place y.key) (actor_place key) e l
        go Equal e = let t = total in t.congr (actor_place x.key) (actor_place y.key) (actor_place key) e ∙ l
        go Greater e = absurd (actors_rise e)

    pub after_on : order key x ≡ Greater → order key y ≡ Greater
    after_on g = go (order y.key x) refl
      where
        go : (o : Ordering) → order y.key x ≡ o → order key y ≡ Greater
        go Less e =
            let t = total in
            let first : place_cmp (actor_place key) (actor_place x.key) ≡ Less = t.antisymm (actor_place key) (actor_place x.key) ∙ ap ordering_reverse g in
            t.antisymm (actor_place y.key) (actor_place key) ∙ ap ordering_reverse (t.trans (actor_place key) (actor_place x.key) (actor_place y.key) first e)
        go Equal e = let t = total in sym (t.congr (actor_place x.key) (actor_place y.key) (actor_place key) e) ∙ g
        go Greater e = absurd (actors_rise e)

-- ---- a timer's place names its actor

same_actor : (a b c d : Ordering) → ordering_then a (ordering_then b (ordering_then c (ordering_then d Equal))) ≡ Equal → ordering_then a (ordering_then b (ordering_then c Equal)) ≡ Equal
same_actor Less b c d h = absurd (cc)
same_actor Equal Less c d h = absurd (cc)
same_actor Equal Equal Less d h = absurd (cc)
same_actor Equal Equal Equal d h = refl
same_actor Equal Equal Greater d h = absurd (cc)
same_actor Equal Greater c d h = absurd (cc)
same_actor Greater b c d h = absurd (cc)

module _ (key : ActorKey) (name : List ℕ) (x : TimerEntry) where
  at_is : is_at (timer_place key name) x ≡ true → order key x ≡ Equal
  at_is h = same_actor (slice_cmp nat_cmp x.key.space key.space) (slice_cmp nat_cmp x.key.kind key.kind) (slice_cmp nat_cmp x.key.id key.id) (slice_cmp nat_cmp x.name name) (eq-is (place_cmp (entry_place x) (timer_place key name)) h)

  pub at_of : is_at (timer_place key name) x ≡ true → not (is_of key x) ≡ false
  at_of h = ap not (is_of-order key x ∙ ap is_eq (at_is h))

  pub at_other : (other : ActorKey) → is_eq (place_cmp (actor_place key) (actor_place other)) ≡ false → is_at (timer_place key name) x ≡ true → not (is_of other x) ≡ true
  at_other other apart h =
      let t = total in
      ap not (is_of-order other x ∙ (ap is_eq (t.congr (actor_place x.key) (actor_place key) (actor_place other) (at_is h)) ∙ apart))
