-- One more event of a run.
use Rattle.std.proofs.Common.{◌≡◌, List, [], ◌∷◌, ◌++◌, sym, ◌∙◌, subst, inl, inr}
use Rattle.std.specs.Prelude.{Result, Ok, Err, MatchResult}
use Rattle.part_model.specs.Part.{ring_owner}
use Rattle.world_events.specs.declared.event.WorldEvent.{WorldEvent}
use Rattle.world_events.specs.declared.outcome.Outcome.{Outcome}
use Rattle.world_events.specs.declared.error.WorldError.{WorldError}
use Rattle.world_events.specs.declared.error.WorldError.TheVariants as refused
use Rattle.cluster_model.specs.World.{ClusterState, WorldStep, key_part, cluster_step}
use Rattle.world_run.specs.Worlds.{WorldView, GivesStep, Runs, view_of}

ok_err : (o : Outcome) (x : WorldError) → ◌≡◌ {A = Result Outcome WorldError} (Ok o) (Err x) → ⊥
ok_err o x e = cc

-- a step that was done gave the outcome and the view of the model's
pub gave : (r : Result Outcome WorldError) (v u : WorldView) (s : WorldStep) (o : Outcome) → GivesStep r v s u → r ≡ Ok o → (s.outcome ≡ Ok o) × (u ≡ view_of s.world)
gave r v u s o h ok = elim h [ inl k ↦ absurd (ok_err o refused.OutOfMemory (sym ok ∙ k.0)) | inr k ↦ (sym k.0 ∙ ok, k.1) ]

-- a run goes on after it
pub run_more : (w : ClusterState) (e : WorldEvent) (es all : List WorldEvent) (before : List Outcome) (o : Outcome) (r : Result (Unit {0}) WorldError) (outs : List Outcome) (v : WorldView) → all ≡ e ∷ es →
    (cluster_step ring_owner key_part w e).outcome ≡ Ok o → Runs (cluster_step ring_owner key_part w e).world es (before ++ o ∷ []) r outs v → Runs w all before r outs v
run_more w e es all before o r outs v all_is done runs =
    subst (λ (xs : List WorldEvent). Runs w xs before r outs v) (sym all_is)
    (inr (subst (λ (z : Result Outcome WorldError). MatchResult z (λ p. Runs (cluster_step ring_owner key_part w e).world es (before ++ p ∷ []) r outs v) (λ x. (r ≡ Err x) × (outs ≡ before) × (v ≡ view_of (cluster_step ring_owner key_part w e).world))) (sym done) runs))
