-- Diallers that weren't used.
use Rattle.std.proofs.Common.{◌≡◌, sym, subst, ℕ, List, [], Option}
use Rattle.actor_ports.specs.Traffic.{Dialled}
use Rattle.exchanges.specs.Exchanges.{Exchange, Dialling}
use Rattle.exchanges.proofs.Diallings.{none_made}

module _ {P : Type 0} (look : P → Option Dialled) (count : P → ℕ) (p q : P) (same : q ≡ p) where
  -- a dialler that wasn't used
  pub none_kept : Dialling [] (look p) (look q) (count p) (count q)
  none_kept = subst (λ (m : P). Dialling [] (look p) (look m) (count p) (count m)) (sym same) (none_made (look p) (count p))

  -- one that wasn't used before
  pub kept_before : (xs : List Exchange) (after : Option Dialled) (rose : ℕ) → Dialling xs (look q) after (count q) rose → Dialling xs (look p) after (count p) rose
  kept_before xs after rose d = subst (λ (m : P). Dialling xs (look m) after (count m) rose) same d

  -- one that wasn't used afterwards
  pub kept_after : (xs : List Exchange) (before : Option Dialled) (rose : ℕ) → Dialling xs before (look p) rose (count p) → Dialling xs before (look q) rose (count q)
  kept_after xs before rose d = subst (λ (m : P). Dialling xs before (look m) rose (count m)) (sym same) d
