-- The epochs of members that have an actor active one after the other rise.
use Rattle.std.proofs.Common.{◌≡◌, ◌≢◌, ◌∙◌, ◌<◌, sym, ap, subst, ℕ, List, Option, inl, inr}
use Rattle.std.proofs.lemmas.Bool.{cases_order}
use Rattle.actor_names.specs.declared.actor_key.ActorKey.{ActorKey}
use Rattle.place_table.specs.declared.host.HostInfo.{HostInfo}
use Rattle.place_table.specs.Hosts.{PlacementTable}
use Rattle.turn_core.specs.CellSound.{In}
use Rattle.turn_core.proofs.Elements.{In-left}
use Rattle.part_model.specs.Part.{PartState}
use Rattle.world_events.specs.declared.event.WorldEvent.{WorldEvent}
use Rattle.world_events.specs.declared.settings.WorldSettings.{WorldSettings}
use Rattle.cluster_model.specs.Messages.{Message, UpdateTo, UnlockAt, Tells}
use Rattle.cluster_model.specs.World as world
use Rattle.cluster_model.specs.World.{ClusterState}
use Rattle.cluster_model.specs.Spaces.{KeepsToSpace}
use Rattle.cluster_model.specs.Invariant.{Gives}
use Rattle.cluster_model.proofs.Basics.{one_owner}
use Rattle.cluster_model.proofs.SpaceParts.{backed, spaces_apart}
use Rattle.cluster_model.proofs.Lines.{AreKept, run_kept}
use Rattle.cluster_model.proofs.Worlds.{safe_kept, run_safe}
use Rattle.cluster_model.proofs.Growths.{HasGrown}
use Rattle.epoch_law.specs.Epochs.{HasActive}

-- messages are only added
grown_kept : (owner : PlacementTable → ActorKey → Option HostInfo) (part_of : ActorKey → ℕ → ℕ) (ms : List Message) → AreKept owner part_of (HasGrown owner part_of ms)
grown_kept owner part_of ms =
    record {
      safe = λ w t. t.safe;
      other = λ w now calls events t. record { safe = (safe_kept owner part_of).other w now calls events t.safe; kept = t.kept };
      step = λ w n p e t at heard asked. record { safe = (safe_kept owner part_of).step w n p e t.safe at heard asked; kept = t.kept };
      ask = λ w r t may booted. record { safe = (safe_kept owner part_of).ask w r t.safe may booted; kept = λ x i. In-left w.messages _ x (t.kept x i) };
      answer = λ w r t i. record { safe = (safe_kept owner part_of).answer w r t.safe i; kept = λ x j. In-left w.messages _ x (t.kept x j) };
      change = λ w e t h. record { safe = (safe_kept owner part_of).change w e t.safe h; kept = t.kept };
      restart = λ w t. record { safe = (safe_kept owner part_of).restart w t.safe; kept = t.kept };
      boot = λ w m kinds fresh t. record { safe = (safe_kept owner part_of).boot w m kinds fresh t.safe; kept = λ x i. In-left w.messages _ x (t.kept x i) };
    }

-- The table of the later opening gives the actor to both members, if the earlier part opened at the same version or at a
-- later one.
pub epochs_rise : (owner : PlacementTable → ActorKey → Option HostInfo) (part_of : ActorKey → ℕ → ℕ) (settings : WorldSettings) (earlier later : List WorldEvent) (p q : PartState) (key : ActorKey) → KeepsToSpace owner →
    In p (world.cluster_run owner part_of (world.opening_cluster settings) earlier).parts → HasActive p key →
    In q (world.cluster_run owner part_of (world.cluster_run owner part_of (world.opening_cluster settings) earlier) later).parts → HasActive q key →
    p.member ≢ q.member → p.opened < q.opened
epochs_rise owner part_of settings earlier later p q key keeps i a j b apart_ =
    let before : ClusterState = world.cluster_run owner part_of (world.opening_cluster settings) earlier in
    let after : ClusterState = world.cluster_run owner part_of before later in
    let safe = run_safe owner part_of settings earlier in
    let g = run_kept owner part_of (HasGrown owner part_of before.messages) (grown_kept owner part_of before.messages) before later (record { safe = safe; kept = λ x l. l }) in
    let mine = backed owner before safe p i in
    let theirs = backed owner after g.safe q j in
    let c = a.0 in
    let d = b.0 in
    let o = mine.owned c a.1 a.2 in
    let r = theirs.owned d b.1 b.2 in
    let t = o.1.0 in
    let e : c.key ≡ d.key = a.3 ∙ sym b.3 in
    let told : In (Tells p.member (UpdateTo t)) after.messages = g.kept _ o.1.1 in
    let unlocked : In (Tells p.member (UnlockAt p.opened)) after.messages = g.kept _ (mine.unlock_came o.0) in
    let spaces = spaces_apart owner keeps after g.safe in
    let here = spaces.given p.member t c.key told o.1.3 in
    let there = spaces.given q.member r.1.0 d.key r.1.1 r.1.3 in
    let same : p.member.space ≡ q.member.space = sym here ∙ ap (λ (z : ActorKey). z.space) e ∙ there in
    let gives : Gives owner t d.key p.member = subst (λ (z : ActorKey). Gives owner t z p.member) e o.1.3 in
    elim (cases_order p.opened q.opened) [
      | inl equal ↦
          let one = spaces.one_table p.member q.member t r.1.0 same told r.1.1 (o.1.2 ∙ equal ∙ sym r.1.2) in
          absurd (apart_ (one_owner p.member q.member (owner r.1.0 d.key) (subst (λ (z : PlacementTable). Gives owner z d.key p.member) one gives) r.1.3))
      | inr h ↦ elim h [
        | inl less ↦ less
        | inr more ↦ absurd (apart_ (one_owner p.member q.member (owner t d.key) gives (spaces.owned p.opened q d p.member same unlocked j b.1 b.2 more t told o.1.2)))
      ]
    ]
