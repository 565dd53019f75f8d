-- A node that is opened on the records of a run is at the end of the run with this restart.
use Rattle.std.proofs.Common.{◌≡◌, ℕ, List, [], ◌∷◌, ◌++◌, Some, Result, Ok, sym, ap, ◌∙◌, subst}
use Rattle.tx_journal.specs.Pair.{Holds}
use Rattle.round_core.specs.Runs.{RunEvent, Steps as Stepped, Restarts}
use Rattle.placement_core.specs.Entries.{placement_restart_record}
use Rattle.placement_core.specs.Placement.{SpaceRoom, PlacementState, new_placement, placement_restarted}
use Rattle.placement_core.proofs.Ordered.{run_ordered}
use Rattle.placement_node.specs.declared.error.PlacementOpenError.{PlacementOpenError}
use Rattle.placement_node.specs.Found.{all_found, restart_entries, restart_payloads}
use Rattle.placement_node.specs.Openings.{with_restart_record}
use Rattle.placement_node.specs.Records.{payloads_of}
use Rattle.placement_node.specs.Runs.{reached, with_restart, RunFits, AreOfRun, OpensAtEnd}
use Rattle.placement_node.proofs.Laws.{run_fits}
use Rattle.placement_node.proofs.Pushes.{Restores, state_push, of_run_push, rooms_restarted, run_found, found_run}
use Rattle.placement_node.proofs.Rooms.{restart_record_fits}
use Rattle.placement_node.proofs.Versions.{run_recorded}

-- what a restart of these payloads has to write is what the run's last state has to record
restart_is : Restores → (run : List RunEvent) (payloads : List (List ℕ)) (now : ℕ) → AreOfRun run payloads → restart_entries (all_found payloads) now ≡ placement_restart_record (reached run) now
restart_is restored run payloads now reads =
    let rooms = run_found restored run payloads reads in
    let same = ap (λ (s : PlacementState). s.rooms) (rooms_restarted restored run rooms.0 now rooms.2) in
    ap (λ (r : Result (List SpaceRoom) PlacementOpenError). restart_entries r now) rooms.1 ∙ run_recorded now run rooms.0 rooms.2 same

-- the payloads with the record of the restart are those of the run with it
pub restart_pushed : Restores → (run : List RunEvent) (payloads : List (List ℕ)) (now : ℕ) → RunFits run → AreOfRun run payloads → AreOfRun (with_restart run now) (payloads ++ restart_payloads payloads now)
restart_pushed restored run payloads now fits reads =
    let pushed = of_run_push run (Restarts now) payloads (restart_record_fits (reached run).rooms now (run_fits run fits) (run_ordered run).few) reads in
    let written : restart_payloads payloads now ≡ payloads_of (placement_restart_record (reached run) now) = ap payloads_of (restart_is restored run payloads now reads) in
    subst (λ (ps : List (List ℕ)). AreOfRun (with_restart run now) (payloads ++ ps)) (sym written) pushed

fits_restart : (run : List RunEvent) (now : ℕ) → RunFits run → RunFits (with_restart run now)
fits_restart [] now fits = tt
fits_restart (Stepped event at ∷ run) now fits = (fits.0, fits_restart run now fits.1)
fits_restart (Restarts at ∷ run) now fits = fits_restart run now fits

pub opens_at_end : Restores → OpensAtEnd
opens_at_end restored run create now n files fits rooms whole of_run tells =
    let opened = tells.2 in
    let found = opened.0 in
    let reads = of_run found opened.1 in
    let next = state_push new_placement run (Restarts now) in
    let both : Ok n.state ≡ Ok (placement_restarted (reached run) now) = sym opened.2 ∙ found_run restored run found.payloads now reads in
    let state : n.state ≡ placement_restarted (reached run) now = cc in
    record {
      works = whole;
      state = state ∙ sym next;
      fits = fits_restart run now fits;
      rooms = rooms;
      holds = λ later is.
          let same : Some tells.0 ≡ Some later = sym tells.1 ∙ is in
          let here : tells.0 ≡ later = cc in
          (with_restart_record now found, subst (Holds (with_restart_record now found)) here opened.3, restart_pushed restored run found.payloads now fits reads);
    }
