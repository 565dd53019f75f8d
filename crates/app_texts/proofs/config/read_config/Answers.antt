use Rattle.std.proofs.Common.{◌≡◌}
use Rattle.std.specs.Prelude.{IfOk}
use Rattle.app_texts.specs.Answers.{GivesConfig}
use Rattle.app_texts.proofs.Configs.{answer_of}
use Rattle.app_texts.proofs.config.read_config.Goals as goal

pub returns-in-Ok-clause-config : goal.returns-in-Ok-clause-config
returns-in-Ok-clause-config c = answer_of c.args.body.now c.as_ref.result c.config_in.result (rw c.as_ref.ensures c.in-Ok.ensures.read) c.config_in.ensures.config
