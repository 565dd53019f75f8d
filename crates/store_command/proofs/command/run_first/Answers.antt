use Rattle.store_command.proofs.Kept.{both_opened, half_opened}
use Rattle.store_command.proofs.command.run_first.Goals as goal

pub returns-in-Ok-clause-ran : goal.returns-in-Ok-clause-ran
returns-in-Ok-clause-ran g c = both_opened c.args.path.now c.args.words.now.is_new _ _ c.run_both.result _ _ _ c.in-Ok.ensures.gives c.run_both.ensures.ran

pub returns-in-Err-clause-ran : goal.returns-in-Err-clause-ran
returns-in-Err-clause-ran g c = half_opened c.args.path.now c.args.words.now.is_new _ c.unopened.result _ _ _ c.unopened.ensures.either c.in-Err.ensures.gives c.done_disk.ensures.takes
