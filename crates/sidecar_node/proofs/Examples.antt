-- Worked examples of entries.
use Rattle.std.proofs.Common.{◌≡◌, ℕ, List, [], ◌∷◌, Option, Some, None, Ok, Err, refl, inl}
use Rattle.actor_names.specs.declared.actor_key.ActorKey.{ActorKey}
use Rattle.step_gate.specs.declared.gate.Spent.{Spent}
use Rattle.part_model.specs.declared.event.PartEvent.{PartEvent}
use Rattle.part_model.specs.declared.event.PartEvent.TheVariants.{Ask, AskAt, Poll, End, StopPart}
use Rattle.part_model.specs.Receipts.{PartReply}
use Rattle.part_model.specs.declared.event.Reply.TheVariants.{Begun, Waits, Stopped, Ended, Drawn}
use Rattle.part_model.specs.declared.event.Reply.TheVariants as replies
use Rattle.sidecar_node.specs.Entries.{PartEntry, BookEntry, CallsEntry, OnPart, OnBook, OnCalls, part_entries, book_entries, calls_entries}
use Rattle.sidecar_node.specs.Turns.{Begins, Ends, stop_entries, first_spent}

entry : PartEvent → PartReply → PartEntry
entry event reply = record { event = event; reply = reply }

module _ (key : ActorKey) (chain : Option (List ℕ)) where
  -- a turn that begins at once
  at_once : Begins key chain None 20 (entry (Ask key chain 20) (Begun 1 chain) ∷ []) (Ok (Begun 1 chain))
  unfolding entry
  at_once = (refl, (refl, refl))

  -- a call that is polled until it begins; one of its polls runs out of memory
  after_waiting : Begins key chain (Some 3) 20 (entry (AskAt key chain 3 20) (Waits 2 1) ∷ entry (Poll 2) (Waits 2 1) ∷ entry (Poll 2) replies.OutOfMemory ∷ entry (Poll 2) (Begun 2 chain) ∷ []) (Ok (Begun 2 chain))
  unfolding entry
  after_waiting = (refl, (refl, (refl, (refl, (refl, refl)))))

  -- a call that waits isn't answered so
  not_yet : Begins key chain None 20 (entry (Ask key chain 20) (Waits 2 1) ∷ []) (Ok (Waits 2 1)) → ⊥
  unfolding entry
  not_yet h = h.1

  -- memory ran out before the Ask
  no_entry : Begins key chain None 20 [] (Ok replies.OutOfMemory)
  no_entry = inl refl

-- a turn that ends
ended_turn : Ends 1 30 (entry (End 1 30) (Ended None) ∷ []) (Ok (Ended None))
unfolding entry
ended_turn = (refl, refl)

-- the entries of each part and of each book
sorted_by_part : (e f : PartEntry) (g : BookEntry) → part_entries 1 (OnPart 0 e ∷ OnPart 1 f ∷ OnBook 1 g ∷ []) ≡ f ∷ []
sorted_by_part e f g = refl

sorted_by_book : (e f : PartEntry) (g : BookEntry) → book_entries 1 (OnPart 0 e ∷ OnPart 1 f ∷ OnBook 1 g ∷ []) ≡ g ∷ []
sorted_by_book e f g = refl

sorted_as_calls : (e : PartEntry) (f g : CallsEntry) → calls_entries (OnCalls f ∷ OnPart 0 e ∷ OnCalls g ∷ []) ≡ f ∷ g ∷ []
sorted_as_calls e f g = refl

-- three parts that stop, of which the second's gate takes no entry
three_stop : (s : Spent) → stop_entries 0 (Ok Stopped ∷ Err s ∷ Ok Stopped ∷ []) ≡ OnPart 0 (entry StopPart Stopped) ∷ OnPart 2 (entry StopPart Stopped) ∷ []
unfolding entry
three_stop s = refl

one_spent : (s : Spent) → first_spent (Ok Stopped ∷ Err s ∷ Ok Stopped ∷ []) ≡ Some s
one_spent s = refl
