use Rattle.std.proofs.Common.{◌≡◌, inr, refl, rules}
use Rattle.server_ports.proofs.Handed.{hands_nothing}
use Rattle.store_command.specs.Commands.{second_path}
use Rattle.store_command.proofs.Kept.{first_opened_then, none_opened}
use Rattle.store_command.proofs.command.run_store.Goals as goal

pub returns-in_default-clause-ran : goal.returns-in_default-clause-ran
returns-in_default-clause-ran g c = none_opened c.args.words.now.journal.now c.args.words.now.is_new _ _ _ (inr refl) (hands_nothing _ _ refl)

pub returns-in-Ok-open_disk-clause-ran : goal.returns-in-Ok-open_disk-clause-ran
returns-in-Ok-open_disk-clause-ran g c =
    let at : c.as_str.result.now ≡ second_path c.args.words.now.journal.now = search rules in
    first_opened_then c.args.words.now.journal.now _ c.args.words.now.is_new _ c.run_first.result _ _ _ at c.in-Ok-open_disk.ensures.gives c.run_first.ensures.ran
