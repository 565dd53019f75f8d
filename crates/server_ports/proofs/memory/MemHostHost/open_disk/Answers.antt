use Rattle.std.proofs.Common.{◌≡◌, ◌+◌, ◌⊎◌, length, subst, rules}
use Rattle.std.specs.Prelude.{Contains}
use Rattle.server_ports.proofs.memory.MemHostHost.open_disk.Goals as goal

pub returns-then-fails-clause-failed : goal.returns-then-fails-clause-failed
returns-then-fails-clause-failed g c =
    let calls = c.self.inside.calls in
    let told = c.must_fail-fails.ensures.cause (search rules) in
    let left = subst (λ xs. Contains c.as_slice-2.result.now (calls + 1) ⊎ (length xs ≡ 0)) c.as_slice.ensures.value told in
    let inside = subst (λ f. Contains f (calls + 1) ⊎ (length c.self.inside.disks.items ≡ 0)) c.as_slice-2.ensures.value left in
    λ _. subst (λ m. Contains m.failing (m.calls + 1) ⊎ (length m.disks ≡ 0)) c.self.view_is inside
