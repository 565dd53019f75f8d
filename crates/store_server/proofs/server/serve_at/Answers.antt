use Rattle.std.proofs.Common.{ℕ, List, [], ◌∷◌}
use denote.Exit.{no}
use denote.Param.{param}
use denote.Ref.{NamedLft}
use denote.Param.Send.{IsSend, IsSync, AllSend, recorded_send, recorded_sync, struct_send, struct_sync, param_send, param_sync, arg_send, arg_sync, sendable}
use denote.RattleType.{RattleType}
use denote.Struct.Declared.{fields, shape}
use denote.Struct.Field.{shr_ref_field}
use denote.Struct.Tuple.{TupleAt, type_at}
use Rattle.std.proofs.Crossing.{crosses}
use Rattle.event_log.proofs.log.EventLog.TheSendSync as log
use Rattle.server_ports.proofs.ending.Ending.TheSendSync as ending
use Rattle.atomic_table.proofs.shared.Seat.TheSendSync as seat
use Rattle.group_gate.specs.contracts.gate.GroupGate as group
use Rattle.group_gate.specs.declared.grouped.Grouped.{Ghosts}
use Rattle.group_gate.proofs.gate.GroupGate.TheSendSync as gate
use Rattle.group_gate.proofs.view.Held.TheSendSync as held
use Rattle.fence_rows.proofs.event.FencedEvent.TheSendSync as event
use Rattle.fence_rows.proofs.event.FencedOutcome.TheSendSync as outcome
use Rattle.fence_rows.specs.contracts.fenced.Fenced as store
use Rattle.store_server.specs.contracts.pass.Pass as pass
use Rattle.store_server.specs.contracts.service.StoreService as service
use Rattle.store_server.proofs.server.serve_at.Given as given
use Rattle.store_server.proofs.server.serve_at.Goals as goal

-- the type of what the threads share
abbrev shared_of : (g : given.Over) → NamedLft → RattleType
shared_of g ℓ = service.the_row ℓ (param 1 g.row.D) g.D.Disk

-- a gate that is lent may be shared if its machine, what is asked and what is answered may be sent
gate_crosses : (M A R : RattleType) (x : Ghosts M.Denot A.Denot R.Denot) → IsSend M → IsSend A → IsSend R → (ℓ : NamedLft) → IsSync (shr_ref_field ℓ (group.the_row M A R x) tt).row
gate_crosses M A R x m a r ℓ = let lent = gate.the_sync M A R x m a r in search (lent, sendable) depth 9

-- what the threads share may be shared, whatever it borrows for
service_crosses : (g : given.Over) → IsSend (store.the_row (param 1 g.row.D) g.D.Disk) → (ℓ : NamedLft) → IsSync (shared_of g ℓ)
service_crosses g s ℓ =
    let T = service.the_type ℓ (param 1 g.row.D) g.D.Disk in
    recorded_sync _ _ T.to T.to_one (struct_sync (shape T) (search sendable depth 20, (gate_crosses _ _ _ _ s event.the_send outcome.the_send ℓ, (search (ending.the_sync, sendable, crosses) depth 20, (search sendable, (search (log.the_sync, sendable, crosses) depth 20, tt))))))

-- a closure that captures two references may be shared if what they lead to may be
closure_shared : (ν : List ℕ) (A B : RattleType) → IsSync A → IsSync B → IsSync (TupleAt ν (A ∷ B ∷ []))
closure_shared ν A B a b = let T = type_at ν (A ∷ B ∷ []) in recorded_sync _ _ T.to T.to_one (struct_sync (shape T) (a, (b, tt)))

-- so it is with those of this server: each captures the runtime and what the threads share
serve_shared : (g : given.Over) (ν : List ℕ) (k ℓ m : NamedLft) → IsSync (param 0 g.row.R) → ((n : NamedLft) → IsSync (shared_of g n))
    → IsSync (TupleAt ν ((shr_ref_field k (param 0 g.row.R) tt).row ∷ (shr_ref_field ℓ (shared_of g m) tt).row ∷ []))
serve_shared g ν k ℓ m r v = closure_shared ν (shr_ref_field k (param 0 g.row.R) tt).row (shr_ref_field ℓ (shared_of g m) tt).row (search (r, sendable) depth 9) (search (v, sendable) depth 9)

pub serve_port-requires-send-P : goal.serve_port-requires-send-P
serve_port-requires-send-P g c κs within =
    let D = param 1 g.row.D in
    let K = param 4 g.row.K in
    let N = param 5 g.row.N in
    let L = param 6 g.row.N-Link in
    let s : IsSend (store.the_row D g.D.Disk) = record { owned = c.fenced_crosses.ensures.owned; leaving = λ k d w. tt } in
    let T = pass.the_type D K N L g.D.Disk in
    let parts : AllSend (fields T) = (seat.the_send _ _ (held.the_send _ _ _ s event.the_send outcome.the_send), (c.type_bounds.send-K, (c.type_bounds.send-N, (search sendable, tt)))) in
    param_send _ _ (arg_send _ no (pass.the_row D K N L g.D.Disk) (recorded_send _ _ T.to T.to_one (struct_send (shape T) parts)))

pub serve_port-requires-sync-V : goal.serve_port-requires-sync-V
serve_port-requires-sync-V g c κs within =
    let s : IsSend (store.the_row (param 1 g.row.D) g.D.Disk) = record { owned = c.fenced_crosses.ensures.owned; leaving = λ k d w. tt } in
    param_sync _ _ (arg_sync _ no (shared_of g _) (service_crosses g s _))

pub serve_port-requires-sync-F : goal.serve_port-requires-sync-F
serve_port-requires-sync-F g c κs within =
    let s : IsSend (store.the_row (param 1 g.row.D) g.D.Disk) = record { owned = c.fenced_crosses.ensures.owned; leaving = λ k d w. tt } in
    param_sync _ _ (arg_sync _ no (TupleAt _ ((shr_ref_field _ (param 0 g.row.R) tt).row ∷ (shr_ref_field _ (shared_of g _) tt).row ∷ [])) (serve_shared g _ _ _ _ c.type_bounds.sync-R (service_crosses g s)))

pub serve_port-requires-sync-W : goal.serve_port-requires-sync-W
serve_port-requires-sync-W g c κs within =
    let s : IsSend (store.the_row (param 1 g.row.D) g.D.Disk) = record { owned = c.fenced_crosses.ensures.owned; leaving = λ k d w. tt } in
    param_sync _ _ (arg_sync _ no (TupleAt _ ((shr_ref_field _ (param 0 g.row.R) tt).row ∷ (shr_ref_field _ (shared_of g _) tt).row ∷ [])) (serve_shared g _ _ _ _ c.type_bounds.sync-R (service_crosses g s)))
