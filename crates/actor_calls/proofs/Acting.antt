-- Diallers that weren't used.
use Rattle.std.proofs.Common.{◌≡◌, sym, subst, ℕ, List, [], Option}
use Rattle.exchanges.specs.Exchanges.{Exchange, Dialling}
use Rattle.exchanges.proofs.Diallings.{none_made}
use Rattle.actor_ports.specs.Traffic.{Dialled}

-- a dialler that wasn't used
pub none_kept : {P : Type 0} (look : P → Option Dialled) (count : P → ℕ) (p q : P) → q ≡ p → Dialling [] (look p) (look q) (count p) (count q)
none_kept {P = P} look count p q e = subst (λ (m : P). Dialling [] (look p) (look m) (count p) (count m)) (sym e) (none_made (look p) (count p))

-- a dialler that wasn't used before
pub none_before : {P : Type 0} (look : P → Option Dialled) (count : P → ℕ) (p q : P) → q ≡ p → (ys : List Exchange) (after : Option Dialled) (rose : ℕ)
    → Dialling ys (look q) after (count q) rose → Dialling ys (look p) after (count p) rose
none_before {P = P} look count p q e ys after rose d = subst (λ (m : P). Dialling ys (look m) after (count m) rose) e d
