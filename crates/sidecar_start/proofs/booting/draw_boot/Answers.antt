use Rattle.exchanges.specs.Replies.{place_at}
use Rattle.sidecar_start.specs.Booting.{boot_frame, BootCarries}
use Rattle.sidecar_start.proofs.Tries.{none_tried}
use Rattle.sidecar_start.proofs.booting.draw_boot.Goals as goal

pub returns-in-Err-clause-draws : goal.returns-in-Err-clause-draws
returns-in-Err-clause-draws g c = none_tried (BootCarries (boot_frame c.args.words.now)) (place_at c.args.words.now.store_at) _ _
