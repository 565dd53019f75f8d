-- What the end says, if the server ran and if it didn't.
use Rattle.std.proofs.Common.{◌≡◌, ℕ, Option, Some, Result, Ok, Err, List, [], refl, sym, subst}
use Rattle.actor_ports.specs.Traffic.{Traffic, Dialled}
use Rattle.command_words.specs.Reading.{Seating}
use Rattle.exchanges.specs.Exchanges.{Exchange, Dialling}
use Rattle.exchanges.proofs.Diallings.{none_made}
use Rattle.sidecar_node.specs.declared.node.SidecarNode.{SidecarNode}
use Rattle.sidecar_node.specs.declared.node.Seats.{Seats}
use Rattle.sidecar_node.specs.Nodes.{IsNewNode, host_of, kinds_of}
use Rattle.sidecar_start.specs.declared.end.StartEnd.{StartEnd}
use Rattle.sidecar_start.specs.declared.end.StartEnd.TheVariants as start_ends
use Rattle.sidecar_start.specs.declared.hosting.Started.{Started}
use Rattle.sidecar_start.specs.declared.words.StartWords.{StartWords}
use Rattle.sidecar_start.specs.Starting.{IsStart}
use Rattle.sidecar_server.specs.declared.watch.StopCause.{StopCause}
use Rattle.sidecar_server.specs.Causes.{IsSound}
use Rattle.sidecar_server.specs.Stopped.{NodeStopped, StopsParts}
use Rattle.sidecar_command.specs.declared.ends.SidecarEnd.{SidecarEnd}
use Rattle.sidecar_command.specs.declared.ends.SidecarEnd.TheVariants as ends
use Rattle.sidecar_command.specs.Commands.{IsServed, IsSidecarRun, parts_in, parties_in, start_words}

-- a start for which there was no memory, before anything was dialled
pub no_start : (w : StartWords) (t : Option Dialled) (f : ℕ) → (xs : List Exchange) × IsStart w xs (Err start_ends.OutOfMemory) × Dialling xs t t f f
no_start w t f = (
  [],
  record {
    boots = [];
    asks = [];
    are = refl;
    drawn = Err start_ends.OutOfMemory;
    draws = record { vain = []; last = []; are = refl; in_vain = tt; ends = refl };
    goes_on = (refl, refl);
  },
  none_made t f,
)

-- a new node, as one of its own host and types
pub new_itself : (started : Started) (parts : ℕ) (node : SidecarNode) (first : Seats) → IsNewNode started.host started.kinds parts node first
    → IsNewNode (host_of node) (kinds_of node) parts node first
new_itself started parts node first new =
    subst (λ h. IsNewNode h (kinds_of node) parts node first) (sym new.host_is) (subst (λ k. IsNewNode started.host k parts node first) (sym new.kinds_are) new)

-- the node that was served is the one of the start
pub served_itself : {N L K : Type 0} (dialled : N → Option Dialled) (traffic : L → Option Traffic) (shown : K → ℕ) (words : Seating) (started : Started) (parts : ℕ) (node : SidecarNode) (first : Seats) (end : SidecarEnd)
    → IsNewNode started.host started.kinds parts node first
    → IsServed dialled traffic shown words (record { host = host_of node; kinds = kinds_of node }) end → IsServed dialled traffic shown words started end
served_itself dialled traffic shown words started parts node first end new served =
    subst (λ h. IsServed dialled traffic shown words (record { host = h; kinds = started.kinds }) end) new.host_is
    (subst (λ k. IsServed dialled traffic shown words (record { host = host_of node; kinds = k }) end) new.kinds_are served)

module _ {N L K : Type 0} (dialled : N → Option Dialled) (traffic : L → Option Traffic) (shown : K → ℕ) where
  -- once the server has ended, and its seats have stopped all parts
  pub after_served : (words : Seating) (node : SidecarNode) (first last : Seats) (stop : Option StopCause) (end : SidecarEnd)
      → IsNewNode (host_of node) (kinds_of node) (parts_in words.parts) node first → StopsParts node first last → IsSound dialled traffic shown (parties_in words (record { host = host_of node; kinds = kinds_of node })) stop
      → ((e : StartEnd) → end ≡ ends.Unstarted e → ⊥) → ((c : StopCause) → end ≡ ends.Stopped c → stop ≡ Some c)
      → IsServed dialled traffic shown words (record { host = host_of node; kinds = kinds_of node }) end
  after_served words node first last stop ends.Done new stops sound own why = record { node = node; first = first; last = last; new = new; stops = stops }
  after_served words node first last stop ends.PortFault new stops sound own why = tt
  after_served words node first last stop (ends.Unstarted e) new stops sound own why = own e refl
  after_served words node first last stop (ends.Stopped c) new stops sound own why =
      (subst (λ (s : Option StopCause). IsSound dialled traffic shown (parties_in words (record { host = host_of node; kinds = kinds_of node })) s) (why c refl) sound, record { node = node; first = first; last = last; new = new; stops = stops })
  after_served words node first last stop ends.OutOfMemory new stops sound own why = tt

  -- before the server ran
  pub before_served : (words : Seating) (started : Started) (end : SidecarEnd)
      → (end ≡ ends.Done → ⊥) → ((e : StartEnd) → end ≡ ends.Unstarted e → ⊥) → ((c : StopCause) → end ≡ ends.Stopped c → ⊥)
      → IsServed dialled traffic shown words started end
  before_served words started ends.Done done own stop = absurd (done refl)
  before_served words started ends.PortFault done own stop = tt
  before_served words started (ends.Unstarted e) done own stop = own e refl
  before_served words started (ends.Stopped c) done own stop = absurd (stop c refl)
  before_served words started ends.OutOfMemory done own stop = tt

  -- memory ran out before anything was dialled
  pub nothing_run : (words : Seating) (t : Option Dialled) (f : ℕ) → IsSidecarRun dialled traffic shown words t t f f ends.OutOfMemory
  nothing_run words t f =
      let s = no_start (start_words words) t f in
      record { exchanges = s.0; got = Err start_ends.OutOfMemory; starts = s.1; dialling = s.2; ends = refl }
