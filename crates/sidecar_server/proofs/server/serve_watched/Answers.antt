use Rattle.std.proofs.Common.{ℕ, List, [], ◌∷◌}
use denote.Exit.{no}
use denote.Param.{param}
use denote.Ref.{NamedLft}
use denote.Param.Send.{IsSync, AllSend, recorded_send, recorded_sync, struct_send, struct_sync, param_send, param_sync, arg_send, arg_sync, sendable}
use denote.RattleType.{RattleType}
use denote.Struct.Declared.{fields, shape}
use denote.Struct.Field.{shr_ref_field}
use denote.Struct.Tuple.{TupleAt, type_at}
use Rattle.std.proofs.Crossing.{crosses}
use Rattle.actor_names.proofs.address.Address.TheSendSync as address
use Rattle.atomic_table.proofs.shared.Seat.TheSendSync as seat
use Rattle.step_gate.proofs.gate.Gate.TheSendSync as gate
use Rattle.sidecar_node.specs.contracts.node.SidecarNode as node
use Rattle.sidecar_server.specs.contracts.pass.Pass as pass
use Rattle.sidecar_server.specs.contracts.service.SidecarService as service
use Rattle.sidecar_server.proofs.link.PlacementLink.TheSendSync as link
use Rattle.sidecar_server.proofs.placements.Placements.TheSendSync as placements
use Rattle.sidecar_server.proofs.watch.Watch.TheSendSync as watch
use Rattle.event_log.proofs.log.EventLog.TheSendSync as log
use Rattle.server_ports.proofs.ending.Ending.TheSendSync as ending
use Rattle.sidecar_server.proofs.server.serve_watched.Given as given
use Rattle.sidecar_server.proofs.server.serve_watched.Goals as goal

-- the type of what the threads share
abbrev shared_of : (g : given.Over) → NamedLft → RattleType
shared_of g ℓ = service.the_row ℓ (param 5 g.row.N) (param 6 g.row.K) (param 7 g.row.N-Link) g.N.Dial g.N.Link.Conn g.N.Link.Source g.N.Link.Sink g.K.Clock

-- what the threads share may be shared, whatever it borrows for
service_crosses : (g : given.Over) → IsSync node.the_row → (ℓ : NamedLft) → IsSync (shared_of g ℓ)
service_crosses g n ℓ =
    let T = service.the_type ℓ (param 5 g.row.N) (param 6 g.row.K) (param 7 g.row.N-Link) g.N.Dial g.N.Link.Conn g.N.Link.Source g.N.Link.Sink g.K.Clock in
    let w = watch.the_send (param 5 g.row.N) (param 6 g.row.K) (param 7 g.row.N-Link) g.N.Dial g.N.Link.Source g.N.Link.Sink g.K.Clock in
    recorded_sync _ _ T.to T.to_one (struct_sync (shape T) (search (sendable, crosses) depth 20, (search (n, sendable) depth 9, (search (w, gate.the_sync, sendable, crosses) depth 20, (placements.the_field_sync, (search (ending.the_sync, sendable, crosses) depth 20, (search sendable, (search (log.the_sync, sendable, crosses) depth 20, tt))))))))

-- a closure that captures two references may be shared if what they lead to may be
closure_shared : (ν : List ℕ) (A B : RattleType) → IsSync A → IsSync B → IsSync (TupleAt ν (A ∷ B ∷ []))
closure_shared ν A B a b = let T = type_at ν (A ∷ B ∷ []) in recorded_sync _ _ T.to T.to_one (struct_sync (shape T) (a, (b, tt)))

-- so it is with those of this server: each captures the runtime and what the threads share
serve_shared : (g : given.Over) (ν : List ℕ) (k ℓ m : NamedLft) → IsSync (param 0 g.row.R) → ((n : NamedLft) → IsSync (shared_of g n))
    → IsSync (TupleAt ν ((shr_ref_field k (param 0 g.row.R) tt).row ∷ (shr_ref_field ℓ (shared_of g m) tt).row ∷ []))
serve_shared g ν k ℓ m r v = closure_shared ν (shr_ref_field k (param 0 g.row.R) tt).row (shr_ref_field ℓ (shared_of g m) tt).row (search (r, sendable) depth 9) (search (v, sendable) depth 9)

pub serve_ports-requires-send-P : goal.serve_ports-requires-send-P
serve_ports-requires-send-P g c κs within =
    let A = param 3 g.row.A in
    let P = param 4 g.row.P in
    let N = param 5 g.row.N in
    let K = param 6 g.row.K in
    let L = param 7 g.row.N-Link in
    let w = watch.the_send N K L g.N.Dial g.N.Link.Source g.N.Link.Sink g.K.Clock in
    let T = pass.the_type A P N K L L L g.N.Dial g.N.Link.Source g.N.Link.Sink g.K.Clock in
    let parts : AllSend (fields T) = (c.seats_cross.ensures, (search (w, seat.the_send) depth 9, (search (c.type_bounds.send-A, c.type_bounds.send-P, c.type_bounds.send-N, address.the_field_send, sendable, crosses) depth 20, (c.type_bounds.send-N, (c.type_bounds.send-K, (c.type_bounds.send-K, (search (sendable, crosses) depth 20, (search (link.the_send, c.type_bounds.send-N-Link, sendable, crosses) depth 20, (search sendable, tt))))))))) in
    param_send _ _ (arg_send _ no (pass.the_row A P N K L L L g.N.Dial g.N.Link.Source g.N.Link.Sink g.K.Clock) (recorded_send _ _ T.to T.to_one (struct_send (shape T) parts)))

pub serve_ports-requires-sync-V : goal.serve_ports-requires-sync-V
serve_ports-requires-sync-V g c κs within =
    param_sync _ _ (arg_sync _ no (shared_of g _) (service_crosses g c.node_crosses.ensures _))

pub serve_ports-requires-sync-F : goal.serve_ports-requires-sync-F
serve_ports-requires-sync-F g c κs within =
    param_sync _ _ (arg_sync _ no (TupleAt _ ((shr_ref_field _ (param 0 g.row.R) tt).row ∷ (shr_ref_field _ (shared_of g _) tt).row ∷ [])) (serve_shared g _ _ _ _ c.type_bounds.sync-R (service_crosses g c.node_crosses.ensures)))

pub serve_ports-requires-sync-G : goal.serve_ports-requires-sync-G
serve_ports-requires-sync-G g c κs within =
    param_sync _ _ (arg_sync _ no (TupleAt _ ((shr_ref_field _ (param 0 g.row.R) tt).row ∷ (shr_ref_field _ (shared_of g _) tt).row ∷ [])) (serve_shared g _ _ _ _ c.type_bounds.sync-R (service_crosses g c.node_crosses.ensures)))

pub serve_ports-requires-sync-W : goal.serve_ports-requires-sync-W
serve_ports-requires-sync-W g c κs within =
    param_sync _ _ (arg_sync _ no (TupleAt _ ((shr_ref_field _ (param 0 g.row.R) tt).row ∷ (shr_ref_field _ (shared_of g _) tt).row ∷ [])) (serve_shared g _ _ _ _ c.type_bounds.sync-R (service_crosses g c.node_crosses.ensures)))
