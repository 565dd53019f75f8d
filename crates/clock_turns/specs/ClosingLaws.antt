-- What follows from a turn that deactivates. Own.
use Rattle.std.specs.Prelude.{◌≡◌, ◌≢◌, ◌⊎◌, ℕ, List, [], ◌∷◌, Some, Ok}
use Rattle.actor_names.specs.declared.actor_key.ActorKey.{ActorKey}
use Rattle.actor_names.specs.declared.address.Address.{Address}
use Rattle.part_model.specs.declared.event.Reply.TheVariants as replies
use Rattle.clock_turns.specs.Closings.{Closing, Taking, IsTold}

-- no TakeClosing is on this part
abbrev pub NoneOn : ℕ → List Taking → Type 0
NoneOn k [] = Unit {0}
NoneOn k (t ∷ ts) = (t.part ≢ k) × NoneOn k ts

-- the last TakeClosing on this part was answered that no actor is left
abbrev pub EndsWithNone : ℕ → List Taking → Type 0
EndsWithNone k [] = ⊥
EndsWithNone k (t ∷ ts) = ((t.part ≡ k) × (t.said ≡ Ok replies.NoneClosing) × NoneOn k ts) ⊎ EndsWithNone k ts

-- to each TakeClosing that gave an actor belongs that actor's deactivation, of which the application was told
abbrev pub AreClosed : Address → List Taking → Type 0
AreClosed app [] = Unit {0}
AreClosed app (t ∷ ts) = ((key : ActorKey) → t.said ≡ Ok (replies.Close key) → (c : Closing) × (t.closing ≡ Some c) × (c.key ≡ key) × IsTold app c) × AreClosed app ts
