use Rattle.epoch_law.proofs.Rising.{epochs_rise}
use Rattle.epoch_law.proofs.Staying.{stays_active, beside_active}
use Rattle.epoch_law.proofs.Telling.{tells_epoch, holds_active}
use Rattle.epoch_law.proofs.law.epoch_law.Goals as goal

pub returns : goal.returns
returns c = record { rises = epochs_rise; told = tells_epoch; held = holds_active; stays = stays_active; beside = beside_active }
