use Rattle.std.proofs.Common.{None}
use Rattle.reminder_turns.specs.declared.standing.Stand.TheVariants.{On}
use Rattle.reminder_turns.proofs.Listings.{pages_listed, pages_settled}
use Rattle.reminder_turns.proofs.Replies.{pages_part}
use Rattle.reminder_turns.proofs.PartCauses.{pages_cause}
use Rattle.reminder_turns.proofs.StoreCauses.{pages_store}
use Rattle.reminder_turns.proofs.law.reminder_law.Goals as goal

pub returns-clause-listed : goal.returns-clause-listed
returns-clause-listed c = λ node app store first last pages g. pages_listed node app store first None pages last g

pub returns-clause-reported : goal.returns-clause-reported
returns-clause-reported c = λ node app store first last pages g. pages_settled node app store first (On None) pages last g

pub returns-clause-replied : goal.returns-clause-replied
returns-clause-replied c = λ node app store first last pages stop reply g e h. pages_part node app store reply e first (On None) pages last stop g h

pub returns-clause-parts : goal.returns-clause-parts
returns-clause-parts c = λ node app store first last pages stop g. pages_cause node app store first None pages last stop g

pub returns-clause-stores : goal.returns-clause-stores
returns-clause-stores c = λ node app store first last pages stop g. pages_store node app store first None pages last stop g
