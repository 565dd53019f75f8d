use Rattle.std.proofs.Common.{ℕ, List, ◌++◌, length, drop, length-drop, take-append-drop, sym, ◌∙◌, ap, arith}
use Rattle.disk_model.proofs.file.FileDiskDisk.read.Goals as goal

pub returns-in-Ok-Some-clause-appends : goal.returns-in-Ok-Some-clause-appends
returns-in-Ok-Some-clause-appends g c =
    let before = c.args.into.now.items in
    let after = c.fill_from.new.into.items in
    let count = rw c.in-Ok-Some.field-0-is at c.in-Ok-Some.ensures.count in (
      drop (length before) after,
      omega (arith, count, length-drop (length before) after),
      sym (take-append-drop (length before) after) ∙ ap (λ (l : List ℕ). l ++ drop (length before) after) c.in-Ok-Some.ensures.front,
    )
