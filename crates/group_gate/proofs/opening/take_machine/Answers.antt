use Rattle.std.proofs.Common.{◌≡◌, ℕ, ◌+◌, ◌<◌, Bool, false, List, length, get_or, set, sym, ap, ◌∙◌, subst, arith, get_or-set_same, get_or-set_other}
use mathlib.Core.Logic.{dite}
use native.Mathlib.Decide.{ℕ_discrete}
use Rattle.std.specs.Mem.Slots.{slots_items, slots_filled, slots_len, slots_counts}
use Rattle.std.specs.Mem.Slots.Ownership.{Filled}
use Rattle.step_gate.proofs.Beginnings.{in_length}
use Rattle.group_gate.proofs.opening.take_machine.Goals as goal

-- one slot more is empty
emptied : (fs new : List Bool) (i n : ℕ) → new ≡ set fs i false → n ≡ length fs → i < n → Filled fs i n → ((k : ℕ) → k < i → get_or fs k false ≡ false) → Filled new (i + 1) n × ((k : ℕ) → k < i + 1 → get_or new k false ≡ false)
emptied fs new i n is len below full none = subst (λ (z : List Bool). Filled z (i + 1) n × ((k : ℕ) → k < i + 1 → get_or z k false ≡ false)) (sym is) (
  (λ k a b. get_or-set_other fs i k false false (λ e. omega arith) ∙ full k (omega arith) b),
  (λ k a. dite (ℕ_discrete k i)
      (λ e. ap (λ (j : ℕ). get_or (set fs i false) j false) e ∙ get_or-set_same fs i false false (omega arith))
      (λ ne. get_or-set_other fs i k false false ne ∙ none k (omega arith))),
)

pub loop-i-init : goal.loop-i-init
loop-i-init g c =
    let old = c.args.closed.slots in let others = c.take-first.ensures.others in
    let some_slot : 0 < slots_len old = omega (arith, in_length (slots_items old) 0 _ c.requires.machine.1, (slots_counts old).0) in
    let r = emptied (slots_filled old) (slots_filled c.take-first.new.self.slots) 0 (slots_len old) others.1 (slots_counts old).1 some_slot c.requires.full (λ k a. absurd (omega arith)) in
    (others.2, r.0, r.1)

pub take-requires : goal.take-requires
take-requires g c =
    let inv = c.loop-i.invariant in let low = c.loop-i.auto.i in
    let below : c.loop-i.i < slots_len c.loop-i.closed.slots = omega arith in
    (below, inv.1 c.loop-i.i (omega arith) (omega arith))

pub loop-i-preserved : goal.loop-i-preserved
loop-i-preserved g c =
    let inv = c.loop-i.invariant in let old = c.loop-i.closed.slots in let others = c.take.ensures.others in
    let below : c.loop-i.i < slots_len c.args.closed.slots = omega arith in
    let r = emptied (slots_filled old) (slots_filled c.take.new.self.slots) c.loop-i.i (slots_len c.args.closed.slots) others.1 (sym inv.0 ∙ (slots_counts old).1) below inv.1 inv.2 in
    (others.2 ∙ inv.0, r.0, r.1)
