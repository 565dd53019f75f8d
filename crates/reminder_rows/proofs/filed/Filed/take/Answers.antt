use Rattle.std.proofs.Common.{◌≡◌, Some, None, sym, ◌∙◌}
use Rattle.lists_and_limits.specs.Lists.{found}
use Rattle.search_tree.specs.Trees.{element_in}
use Rattle.reminder_rows.specs.Reminders.{row_at}
use Rattle.reminder_rows.proofs.Sorted.{cut_name, cut_key, filed_dues, filed_without, none-without, due-found, at_key}
use Rattle.reminder_rows.proofs.filed.Filed.take.Goals as goal
use Rattle.reminder_rows.proofs.filed.Filed.take.Goals.{in-None-take, in-Some-take}

pub take-requires : goal.take-requires
take-requires c = cut_name c.args.actor.now c.args.name.now c.self.inside.rows c.self.invariant.order

pub invariant_of-self : goal.invariant_of-self
invariant_of-self c =
    let none : row_at c.args.actor.now c.args.name.now c.self.inside.rows ≡ None = sym c.in-None.ensures.taken in
    rw (c.take.ensures.rest, none-without c.args.actor.now c.args.name.now c.self.inside.rows none) c.self.invariant

pub take-requires-in-Some : goal.take-requires-in-Some
take-requires-in-Some c = cut_key c.deref.result.now.element.key c.self.inside.dues (filed_dues c.self.inside.rows c.self.inside.dues c.self.invariant)

pub invariant_of-self-in-Some : goal.invariant_of-self-in-Some
invariant_of-self-in-Some c =
    let e = c.in-Some.row.value.element in
    let there : row_at c.args.actor.now c.args.name.now c.self.inside.rows ≡ Some e = sym c.in-Some.ensures.taken in
    let rest = rw c.deref.ensures at c.take-in-Some.ensures.rest in
    rw (c.take.ensures.rest, rest) (filed_without c.args.actor.now c.args.name.now c.self.inside.rows c.self.inside.dues e c.self.invariant there)

-- the key of the record that was taken is found
its-key : (c : goal.Joined-take-2) → element_in c.take-in-Some.result ≡ Some c.in-Some.row.value.element.key
its-key c =
    let e = c.in-Some.row.value.element in
    let there : row_at c.args.actor.now c.args.name.now c.self.inside.rows ≡ Some e = sym c.in-Some.ensures.taken in
    let its : found (at_key e.key) c.self.inside.dues ≡ Some e.key = rw c.self.invariant.keys (due-found c.args.actor.now c.args.name.now c.self.inside.rows c.self.invariant.order e there) in
    let taken = rw c.deref.ensures at c.take-in-Some.ensures.taken in
    taken ∙ its

pub returns-after-take-2-clause-taken : goal.returns-after-take-2-clause-taken
returns-after-take-2-clause-taken c =
    elim c.match-take-2.branch [
      | in-None-take w ↦
          let none : None ≡ Some c.in-Some.row.value.element.key = rw w.in-None-take.is at (its-key c) in
          absurd (cc)
      | in-Some-take w ↦ rw (w.result-is, ← c.self.view_is) c.in-Some.ensures.taken
    ]

pub returns-after-take-2-clause-keyed : goal.returns-after-take-2-clause-keyed
returns-after-take-2-clause-keyed c =
    elim c.match-take-2.branch [
      | in-None-take w ↦ rw w.result-is tt
      | in-Some-take w ↦
          let some : Some w.in-Some-take.key.value.element ≡ Some c.in-Some.row.value.element.key = rw w.in-Some-take.is at (its-key c) in
          let same : w.in-Some-take.key.value.element ≡ c.in-Some.row.value.element.key = cc in
          rw w.result-is same
    ]
