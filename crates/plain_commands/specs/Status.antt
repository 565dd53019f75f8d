-- The statuses with which the program ends. Own: the table is in README.md.
use Rattle.std.specs.Prelude.{ℕ}
use Rattle.plain_commands.specs.declared.status.Status.{Status}
use Rattle.plain_commands.specs.declared.status.Status.TheVariants.{Done, Usage, Refused, SourceFault, SinkFault, OutOfMemory, Limit}

abbrev pub code_of : Status → ℕ
code_of Done = 0
code_of Usage = 2
code_of Refused = 3
code_of SourceFault = 4
code_of SinkFault = 5
code_of OutOfMemory = 8
code_of Limit = 10
