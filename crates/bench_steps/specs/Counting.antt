-- A counter that stops at the greatest number. Own.
use Rattle.std.specs.Prelude.{◌≡◌, ℕ, ◌+◌, ◌-◌, ◌^◌, min}
use Rattle.bench_steps.specs.declared.gates.counter.Counter.{Counter}
use Rattle.bench_steps.specs.declared.gates.counter.Up.{Up}

-- the count grows by one, up to the greatest number, and is the answer
abbrev pub CounterMoves : Counter → Up → ℕ → Counter → Type 0
CounterMoves old event reply new = (new.count ≡ min (old.count + 1) (2 ^ 64 - 1)) × (reply ≡ new.count)
