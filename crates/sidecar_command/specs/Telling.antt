-- What a sidecar prints of its end. Own: docs/operations.md has the table.
use Rattle.std.specs.Prelude.{ℕ, List, [], ◌++◌, codes, decimal}
use Rattle.round_core.specs.declared.event.PlaceReply.TheVariants as replies
use Rattle.sidecar_server.specs.declared.watch.StopCause.{StopCause}
use Rattle.sidecar_server.specs.declared.watch.StopCause.TheVariants as causes
use Rattle.sidecar_start.specs.Ends.{end_line}
use Rattle.sidecar_command.specs.declared.ends.SidecarEnd.{SidecarEnd}
use Rattle.sidecar_command.specs.declared.ends.SidecarEnd.TheVariants as ends

abbrev pub number_text : List ℕ → ℕ → List ℕ
number_text front n = front ++ decimal n

-- the start of the lease, and when it was seen that it had ended
abbrev pub silent_line : ℕ → ℕ → List ℕ
silent_line start now = number_text (codes "stopped ") start ++ (number_text (codes " ") now ++ codes "\n")

abbrev pub refused_line : List ℕ → ℕ → List ℕ
refused_line front n = number_text front n ++ codes "\n"

-- the number is that of the frame that refused the sidecar
abbrev pub stop_line : StopCause → List ℕ
stop_line (causes.Silent start now) = silent_line start now
stop_line (causes.Refused (replies.StaleBoot greatest)) = refused_line (codes "refused stale-boot ") greatest
stop_line (causes.Refused (replies.NotMember greatest)) = refused_line (codes "refused not-member ") greatest
stop_line (causes.Refused (replies.SpacesFull spaces)) = refused_line (codes "refused spaces-full ") spaces
stop_line (causes.Refused (replies.Full members nodes)) = refused_line (codes "refused full ") members
stop_line (causes.Refused reply) = []

-- one line, or none
abbrev pub end_text : SidecarEnd → List ℕ
end_text (ends.Unstarted end) = end_line end
end_text (ends.Stopped cause) = stop_line cause
end_text end = []
