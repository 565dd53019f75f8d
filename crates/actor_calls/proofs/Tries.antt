-- Exchanges that are made again after a fault, and a step that is one entry.
use Rattle.std.proofs.Common.{◌≡◌, refl, sym, subst, Bool, true, false, List, [], ◌++◌, Ok, Err}
use Rattle.std.proofs.lemmas.List.{append-nil}
use Rattle.part_model.specs.declared.event.PartEvent.{PartEvent}
use Rattle.sidecar_node.specs.Entries.{one_entry}
use Rattle.sidecar_node.specs.Turns.{Said, Either, MakesOne}
use Rattle.exchanges.specs.Exchanges.{Exchange}
use Rattle.exchanges.specs.Replies.{Got}
use Rattle.actor_calls.specs.Hops.{is_fault, TriesOn}

module _ (One More : List Exchange → Got → Type 0) where
  -- the first failed with its link, and more followed
  pub tries_on : (front back : List Exchange) (first got : Got) → is_fault first ≡ true → One front first → More back got → TriesOn One More (front ++ back) got
  tries_on front back first got fault one more =
      record {
        front = front;
        back = back;
        first = first;
        exchanges = refl;
        one = one;
        more = subst (λ (b : Bool). Either b (More back got) ((back ≡ []) × (got ≡ first))) (sym fault) more;
      }

  -- the first was the only one
  pub tries_once : (ys : List Exchange) (got : Got) → is_fault got ≡ false → One ys got → TriesOn One More ys got
  tries_once ys got calm one =
      record {
        front = ys;
        back = [];
        first = got;
        exchanges = sym (append-nil ys);
        one = one;
        more = subst (λ (b : Bool). Either b (More [] got) ((let none : List Exchange = [] in none ≡ []) × (got ≡ got))) (sym calm) (refl, refl);
      }

-- one step on a part, as the entry that it made
pub makes_one : (event : PartEvent) (said : Said) → MakesOne event (one_entry event said) said
makes_one event (Ok reply) = (refl, refl)
makes_one event (Err spent) = tt
