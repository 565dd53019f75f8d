-- A text has its form exactly if it has no fault.
use Rattle.std.proofs.Common.{◌≡◌, ℕ, List, Option, None}
use Rattle.actor_names.specs.declared.error.NameError.{NameError}
use Rattle.actor_names.specs.Names.{HasForm}

pub without_fault : (fault : List ℕ → Option NameError) (text : List ℕ) → HasForm fault text → fault text ≡ None
unfolding HasForm
without_fault fault text form = form

pub has_form : (fault : List ℕ → Option NameError) (text : List ℕ) → fault text ≡ None → HasForm fault text
unfolding HasForm
has_form fault text none = none
