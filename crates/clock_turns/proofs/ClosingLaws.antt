-- What follows from the walk of a turn over the parts.
use Rattle.std.proofs.Common.{◌≡◌, ◌≢◌, ◌⊎◌, ◌∙◌, ℕ, ◌+◌, ◌<◌, ◌≤◌, List, [], ◌∷◌, Option, Some, None, Ok, Err, refl, sym, subst, arith, inl, inr}
use mathlib.Core.Logic.{dite}
use native.Mathlib.Decide.{ℕ_discrete}
use Rattle.actor_names.specs.declared.actor_key.ActorKey.{ActorKey}
use Rattle.actor_names.specs.declared.address.Address.{Address}
use Rattle.part_model.specs.declared.event.Reply.TheVariants as replies
use Rattle.sidecar_node.specs.declared.node.Seats.{Seats}
use Rattle.sidecar_node.specs.Turns.{Said}
use Rattle.clock_turns.specs.declared.ends.TickEnd.{TickEnd}
use Rattle.clock_turns.specs.declared.closing_stand.Stand.{Stand}
use Rattle.clock_turns.specs.declared.closing_stand.Stand.TheVariants.{On, Over}
use Rattle.clock_turns.specs.Closings.{Closing, Taking, IsTold, IsTaking, closing_end, after_closing, stand, GoesOn}
use Rattle.clock_turns.specs.ClosingLaws.{NoneOn, EndsWithNone, AreClosed}

-- ---- a part that the turn has left

abbrev IsPast : ℕ → Stand → Type 0
IsPast k (On p) = k < p
IsPast k (Over end) = Unit {0}

past_after : (k p : ℕ) (end : Option TickEnd) → k < p → IsPast k (after_closing p end)
past_after k p None h = h
past_after k p (Some end) h = tt

past_stand : (k p : ℕ) (said : Said) (closing : Option Closing) → k < p → IsPast k (stand p said closing)
past_stand k p (Ok (replies.Close key)) (Some c) h = past_after k p (closing_end c.dropped c.closed c.got) h
past_stand k p (Ok (replies.Close key)) None h = tt
past_stand k p (Ok replies.NoneClosing) closing h = let l : k < p + 1 = omega arith in l
past_stand k p (Ok reply) closing h = tt
past_stand k p (Err spent) closing h = tt

past_none : (k p : ℕ) (said : Said) (closing : Option Closing) → p ≡ k → said ≡ Ok replies.NoneClosing → IsPast k (stand p said closing)
past_none k p said closing same is = let l : k < p + 1 = omega arith in subst (λ (s : Said). IsPast k (stand p s closing)) (sym is) l

differs : (x p k : ℕ) → x ≡ p → k < p → x ≢ k
differs x p k same less e = omega arith

none_on : (app : Address) (now parts k : ℕ) (place : Stand) (ts : List Taking) (before after : Seats) (last : Option TickEnd) → IsPast k place → GoesOn app now parts place ts before after last → NoneOn k ts
none_on app now parts k place [] before after last h g = tt
none_on app now parts k (Over end) (t ∷ ts) before after last h g = absurd g
none_on app now parts k (On p) (t ∷ ts) before after last h g =
    (differs t.part p k g.1 h, none_on app now parts k (stand p t.said t.closing) ts t.after after last (past_stand k p t.said t.closing h) g.4)

-- ---- a part that is still to come

abbrev Reaches : Stand → ℕ → Type 0
Reaches (On p) k = p ≤ k
Reaches (Over end) k = Unit {0}

reach_after : (p k : ℕ) (end : Option TickEnd) → p ≤ k → Reaches (after_closing p end) k
reach_after p k None h = h
reach_after p k (Some end) h = tt

further : (p k : ℕ) → p ≤ k → p ≢ k → p + 1 ≤ k
further p k le ne = omega arith

-- the last TakeClosing on the part, or it is still to come
reach_stand : (p k : ℕ) (said : Said) (closing : Option Closing) → p ≤ k → ((p ≡ k) × (said ≡ Ok replies.NoneClosing)) ⊎ Reaches (stand p said closing) k
reach_stand p k (Ok (replies.Close key)) (Some c) h = inr (reach_after p k (closing_end c.dropped c.closed c.got) h)
reach_stand p k (Ok (replies.Close key)) None h = inr tt
reach_stand p k (Ok replies.NoneClosing) closing h = dite (ℕ_discrete p k) (λ e. inl (e, refl)) (λ n. inr (further p k h n))
reach_stand p k (Ok reply) closing h = inr tt
reach_stand p k (Err spent) closing h = inr tt

ends_none : (app : Address) (now parts k : ℕ) (place : Stand) (ts : List Taking) (before after : Seats) → Reaches place k → k < parts → GoesOn app now parts place ts before after None → EndsWithNone k ts
ends_none app now parts k (Over end) [] before after r less g = absurd (let h : ⊥ = cc (g.0) in h)
ends_none app now parts k (Over end) (t ∷ ts) before after r less g = absurd g
ends_none app now parts k (On p) [] before after r less g = absurd (let past : parts ≤ p = g.0 in omega arith)
ends_none app now parts k (On p) (t ∷ ts) before after r less g = elim (reach_stand p k t.said t.closing r) [
  | inl h ↦ inl (g.1 ∙ h.0, h.1, none_on app now parts k (stand p t.said t.closing) ts t.after after None (past_none k p t.said t.closing h.0 h.1) g.4)
  | inr h ↦ inr (ends_none app now parts k (stand p t.said t.closing) ts t.after after h less g.4)
]

pub through_law : (app : Address) (now parts : ℕ) (ts : List Taking) (before after : Seats) → GoesOn app now parts (On 0) ts before after None → (k : ℕ) → k < parts → EndsWithNone k ts
through_law app now parts ts before after g k less = let first : 0 ≤ k = omega arith in ends_none app now parts k (On 0) ts before after first less g

-- ---- each actor that was given

close_of : (app : Address) (part : ℕ) (said : Said) (closing : Option Closing) (after : Seats) → IsTaking app part said closing after
    → (key : ActorKey) → said ≡ Ok (replies.Close key) → (c : Closing) × (closing ≡ Some c) × (c.key ≡ key) × IsTold app c
close_of app part (Ok (replies.Close k)) (Some c) after i key e = let same : k ≡ key = cc in (c, refl, i.0 ∙ same, i.1)
close_of app part (Ok (replies.Close k)) None after i key e = absurd i
close_of app part (Ok reply) closing after i key e = absurd (let h : ⊥ = cc in h)
close_of app part (Err spent) closing after i key e = absurd (let h : ⊥ = cc in h)

are_closed : (app : Address) (now parts : ℕ) (place : Stand) (ts : List Taking) (before after : Seats) (last : Option TickEnd) → GoesOn app now parts place ts before after last → AreClosed app ts
are_closed app now parts place [] before after last g = tt
are_closed app now parts (Over end) (t ∷ ts) before after last g = absurd g
are_closed app now parts (On p) (t ∷ ts) before after last g =
    (close_of app t.part t.said t.closing t.after g.2, are_closed app now parts (stand p t.said t.closing) ts t.after after last g.4)

pub closed_law : (app : Address) (now parts : ℕ) (ts : List Taking) (before after : Seats) (last : Option TickEnd) → GoesOn app now parts (On 0) ts before after last → AreClosed app ts
closed_law app now parts ts before after last g = are_closed app now parts (On 0) ts before after last g
