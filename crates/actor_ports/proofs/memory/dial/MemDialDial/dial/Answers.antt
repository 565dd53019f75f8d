use Rattle.std.proofs.Common.{◌≡◌, ◌+◌, ◌⊎◌, [], subst, rules}
use Rattle.std.specs.Prelude.{Contains}
use Rattle.actor_ports.specs.Memory.{DialMemory}
use Rattle.actor_ports.proofs.memory.dial.MemDialDial.dial.Goals as goal

pub returns-then-fails-clause-failed : goal.returns-then-fails-clause-failed
returns-then-fails-clause-failed c =
    let calls = c.self.inside.calls in
    let told = c.must_fail-fails.ensures.cause.0 (search rules) in
    let left = subst (λ w. Contains c.as_slice-2.result.now (calls + 1) ⊎ (w ≡ [])) c.as_slice.ensures.value told in
    let inside = subst (λ f. Contains f (calls + 1) ⊎ (c.self.inside.waiting.items ≡ [])) c.as_slice-2.ensures.value left in
    λ _. subst (λ (m : DialMemory). Contains m.failing (m.calls + 1) ⊎ (m.waiting ≡ [])) c.self.view_is inside
