use Rattle.std.proofs.Common.{refl, []}
use Rattle.exchanges.proofs.Diallings.{none_made}
use Rattle.exchanges.proofs.asking.send_frame.Goals as goal

pub returns-in-Err : goal.returns-in-Err
returns-in-Err g c = ([], refl, none_made _ _)
