-- Over every list of events: the marks say what the parts are, no actor is active twice in them, and turns overlap
-- only under one chain.
use Rattle.std.proofs.Common.{◌≡◌, ◌⊎◌, ℕ, cond, ◌+◌, ◌≤◌, List, [], ◌∷◌, ◌++◌, length, set, Option, Some, refl, sym, ap, ◌∙◌, subst, inl, inr, arith}
use Rattle.std.specs.Prelude.{zero, suc, slice_get, bytes_eq}
use Rattle.std.proofs.lemmas.Bool.{cond_both, false≢true}
use Rattle.std.proofs.lemmas.Slice.Eq.{bytes_eq-Decides}
use Rattle.actor_names.specs.declared.member.Member.{Member}
use Rattle.actor_names.specs.declared.actor_key.ActorKey.{ActorKey}
use Rattle.place_table.specs.declared.host.HostInfo.{HostInfo}
use Rattle.place_table.specs.Hosts.{PlacementTable}
use Rattle.turn_core.specs.CellSound.{In}
use Rattle.turn_core.proofs.Elements.{In-left}
use Rattle.part_model.specs.declared.actor_cell.ActorCell.{ActorCell}
use Rattle.part_model.specs.Cells.{cell_at}
use Rattle.part_model.specs.declared.event.PartEvent.{PartEvent}
use Rattle.part_model.specs.declared.settings.TypeSettings.{TypeSettings}
use Rattle.part_model.specs.Activity.{no_activity, activity_of, IsAsked, Replays}
use Rattle.part_model.specs.Marks.{PartMark}
use Rattle.part_model.specs.Part.{PartState, new_part, part_step}
use Rattle.part_model.specs.PartMoves.{Stepped}
use Rattle.part_model.specs.Settings.{default_settings, settings_or, settings_of}
use Rattle.part_model.proofs.PartReplays.{part_replays}
use Rattle.part_model.proofs.PartTables.{part_stepped}
use Rattle.world_events.specs.declared.event.WorldEvent.{WorldEvent}
use Rattle.world_events.specs.declared.settings.WorldSettings.{WorldSettings}
use Rattle.cluster_model.specs.Messages.{Message}
use Rattle.cluster_model.specs.World as world
use Rattle.cluster_model.specs.World.{ClusterState, TraceMark, new_parts, tagged}
use Rattle.cluster_model.specs.Invariant.{IsHeard}
use Rattle.cluster_model.specs.History.{history, IsNeverTwice, IsOneChain, opened_version_at, AreGiven, DoVersionsRise}
use Rattle.cluster_model.proofs.Basics.{In-append, In-set, In-slice_get}
use Rattle.cluster_model.specs.Spaces.{KeepsToSpace}
use Rattle.cluster_model.proofs.SpaceParts.{backed, spaces_apart, world_once}
use Rattle.cluster_model.proofs.Boots.{In-new_parts}
use Rattle.cluster_model.proofs.Histories.{FitsHistory, get-set_same, fits_step, never_step, chain_step}
use Rattle.cluster_model.proofs.Openings.{FitsOpenings, openings_step, given_step, rise_step}
use Rattle.cluster_model.specs.Invariant.{IsSafeWorld}
use Rattle.cluster_model.proofs.Lines.{AreKept, run_kept}
use Rattle.cluster_model.proofs.Worlds.{step_safe, safe_kept, new_world_safe}

-- an element of two joined lists
pub get-append : {A : Type 0} (xs ys : List A) (i : ℕ) (x : A) → slice_get (xs ++ ys) i ≡ Some x → (slice_get xs i ≡ Some x) ⊎ ((j : ℕ) × (i ≡ length xs + j) × (slice_get ys j ≡ Some x))
get-append [] ys i x e = inr (i, omega arith, e)
get-append (z ∷ xs) ys zero x e = inl e
get-append (z ∷ xs) ys (suc i) x e = elim (get-append xs ys i x e) [ inl h ↦ inl h | inr h ↦ inr (h.0, (let a = h.1 in omega arith), h.2) ]

pub get-left : {A : Type 0} (xs ys : List A) (i : ℕ) (x : A) → slice_get xs i ≡ Some x → slice_get (xs ++ ys) i ≡ Some x
get-left [] ys i x e = absurd (cc)
get-left (z ∷ xs) ys zero x e = e
get-left (z ∷ xs) ys (suc i) x e = get-left xs ys i x e

get-new_parts : (m : Member) (kinds : List TypeSettings) (i n j : ℕ) (x : PartState) → slice_get (new_parts m kinds i n) j ≡ Some x → x ≡ new_part m (i + j) kinds
get-new_parts m kinds i zero j x e = absurd (cc)
get-new_parts m kinds i (suc n) zero x e = (let a : new_part m i kinds ≡ x = cc in let b : i + 0 ≡ i = omega arith in rw b (sym a))
get-new_parts m kinds i (suc n) (suc j) x e = (let a = get-new_parts m kinds (suc i) n j x e in let b : suc i + j ≡ i + suc j = omega arith in rw (← b) a)

module _ (owner : PlacementTable → ActorKey → Option HostInfo) (part_of : ActorKey → ℕ → ℕ) where
  -- what bounds the depth of a part's cells
  abbrev pub IsDeep : WorldSettings → PartState → Type 0
  IsDeep settings p = ((kind : List ℕ) → (settings_of p.kinds kind).depth ≤ world.depth_in settings kind) × ((c : ActorCell) → In c p.cells → c.inner.depth ≤ world.depth_in settings c.key.kind)

  pub record IsToldAt (settings : WorldSettings) (ps : List PartState) (marks : List TraceMark) (ms : List Message) : Type 0 where
    pub fits : FitsHistory part_of settings.parts ps marks
    pub never : IsNeverTwice marks
    pub chain : IsOneChain (world.depth_in settings) marks
    pub openings : FitsOpenings part_of settings.parts ps marks
    pub given : AreGiven owner part_of settings.parts ms marks
    pub deep : (p : PartState) → In p ps → IsDeep settings p
    pub rise : DoVersionsRise owner part_of settings.parts marks

  abbrev pub IsTold : ClusterState → Type 0
  IsTold w = IsToldAt w.settings w.parts w.marks w.messages

  -- more messages leave it as it is
  grown : (settings : WorldSettings) (ps : List PartState) (marks : List TraceMark) (ms ns : List Message) → IsToldAt settings ps marks ms → IsToldAt settings ps marks (ms ++ ns)
  grown settings ps marks ms ns t =
      record {
        fits = t.fits;
        never = t.never;
        chain = t.chain;
        openings = t.openings;
        given = λ m k u h. (let g = t.given m k u h in (g.0, In-left ms ns _ g.1, In-left ms ns _ g.2, g.3, g.4));
        rise = t.rise;
        deep = t.deep;
      }

  deep_step : (settings : WorldSettings) (e : PartEvent) (p q : PartState) (xs : List PartMark) → Stepped owner p e q → Replays e p q xs → IsDeep settings p → IsDeep settings q
  deep_step settings e p q xs st r d = (
    λ kind. rw st.kinds (d.0 kind),
    λ c i. elim (r.cells c i) [
      | inl h ↦ rw (← h.3) (subst (λ (z : ActorKey). h.0.inner.depth ≤ world.depth_in settings z.kind) h.2 (d.1 h.0 h.1))
      | inr h ↦ rw (← h.1) (d.0 c.key.kind)
    ],
  )

  with_step_told : KeepsToSpace owner → (w : ClusterState) (n : ℕ) (p : PartState) (e : PartEvent) → IsSafeWorld owner w → IsTold w → slice_get w.parts n ≡ Some p → IsHeard w.messages p.member e →
      ((k : ActorKey) → IsAsked e k → part_of k w.settings.parts ≡ p.number) →
      IsToldAt w.settings (set w.parts n (part_step owner p e).part) (w.marks ++ tagged p.member (part_step owner p e).marks) w.messages
  with_step_told keeps w n p e s t at heard asked =
      let q : PartState = (part_step owner p e).part in
      let i = In-slice_get w.parts n p at in
      let sound = (backed owner w s p i).sound in
      let st = part_stepped owner p e sound in
      let r = part_replays owner p e sound in
      let next = world.with_step owner part_of w n p (part_step owner p e) in
      let safe = step_safe owner part_of w n p e s at heard in
      let once = world_once owner keeps next safe in
      let deep = deep_step w.settings e p q _ st r (t.deep p i) in
      let kept = backed owner next safe q (In-slice_get (set w.parts n q) n q (get-set_same w.parts n q p at)) in
      let given = given_step part_of w.settings.parts owner w.messages w.parts w.marks t.fits t.openings n p q at e _ asked st r w.boots (backed owner w s p i) kept t.given in
      record {
        fits = fits_step part_of w.settings.parts owner w.parts w.marks t.fits n p q at e _ asked st r;
        never = never_step part_of w.settings.parts owner w.parts w.marks t.fits n p q at e _ asked st r t.never once;
        chain = chain_step part_of w.settings.parts owner w.parts w.marks t.fits n p q at e _ asked st r (world.depth_in w.settings) deep.1 t.chain once (λ x j c k. (backed owner w s x j).sound.each_sound c k);
        openings = openings_step part_of w.settings.parts owner w.messages w.parts w.marks t.fits t.openings n p q at e _ asked st r;
        given = given;
        rise = rise_step part_of w.settings.parts owner w.messages w.parts w.marks t.fits t.openings n p q at e _ asked st r w.boots (backed owner w s p i) kept keeps (spaces_apart owner keeps next safe) given t.rise;
        deep = λ x j. elim (In-set w.parts n q x j) [ inl z ↦ subst (IsDeep w.settings) (sym z) deep | inr l ↦ t.deep x l ];
      }

  -- the settings of a boot line are those of the world, or none
  same_kind : (d : TypeSettings) (ts : List TypeSettings) (kind : List ℕ) → d.kind ≡ kind → (settings_or d ts kind).kind ≡ kind
  same_kind d [] kind e = e
  same_kind d (t ∷ ts) kind e =
      same_kind (cond (bytes_eq t.kind kind) t d) ts kind
      (cond_both (bytes_eq t.kind kind) _ _ (λ (z : TypeSettings). z.kind ≡ kind) (λ b. (bytes_eq-Decides t.kind kind).0 b) (λ _. e))

  deep_kinds : (s : WorldSettings) (kinds : List (List ℕ)) (kind : List ℕ) (d : TypeSettings) → d.depth ≤ world.depth_in s kind → (settings_or d (world.settings_for s kinds) kind).depth ≤ world.depth_in s kind
  deep_kinds s [] kind d h = h
  deep_kinds s (x ∷ kinds) kind d h =
      let first : TypeSettings = settings_or (record { kind = x; idle_ms = s.idle_ms; drain_ms = s.drain_ms; depth = 0 }) s.kinds x in
      deep_kinds s kinds kind (cond (bytes_eq first.kind kind) first d)
      (cond_both (bytes_eq first.kind kind) _ _ (λ (z : TypeSettings). z.depth ≤ world.depth_in s kind)
      (λ b.
      let e : x ≡ kind = sym (same_kind (record { kind = x; idle_ms = s.idle_ms; drain_ms = s.drain_ms; depth = 0 }) s.kinds x refl) ∙ (bytes_eq-Decides first.kind kind).0 b in
      subst (λ (z : List ℕ). world.depth_in s x ≤ world.depth_in s z) e (omega arith))
      (λ _. h))

  boot_told : (w : ClusterState) (m : Member) (kinds : List TypeSettings) (n : ℕ) → ((kind : List ℕ) → (settings_of kinds kind).depth ≤ world.depth_in w.settings kind) → m.boot ≡ suc w.boots → IsSafeWorld owner w → IsTold w → IsToldAt w.settings (w.parts ++ new_parts m kinds 0 n) w.marks w.messages
  boot_told w m kinds n deep fresh s t =
      let other : (i : ℕ) (p : PartState) → slice_get w.parts i ≡ Some p → p.member ≡ m → ⊥ = λ i p g a.
      (let b = (backed owner w s p (In-slice_get w.parts i p g)).booted in let c : p.member.boot ≡ suc w.boots = ap (λ (z : Member). z.boot) a ∙ fresh in absurd (omega arith)) in
      let new : (j : ℕ) (x : PartState) → slice_get (new_parts m kinds 0 n) j ≡ Some x → (x ≡ new_part m j kinds) = λ j x g.
      (let a = get-new_parts m kinds 0 n j x g in let b : 0 + j ≡ j = omega arith in subst (λ (z : ℕ). x ≡ new_part m z kinds) b a) in
      record {
        fits = record {
          placed = λ i p g c k. elim (get-append w.parts (new_parts m kinds 0 n) i p g) [
            | inl h ↦ t.fits.placed i p h c k
            | inr h ↦ absurd (subst (In c) (ap (λ (z : PartState). z.cells) (new h.0 p h.2)) k)
          ];
          apart = λ i j p q g h a b. elim (get-append w.parts (new_parts m kinds 0 n) i p g) [
            | inl u ↦ elim (get-append w.parts (new_parts m kinds 0 n) j q h) [
              | inl v ↦ t.fits.apart i j p q u v a b
              | inr v ↦ absurd (other i p u (a ∙ ap (λ (z : PartState). z.member) (new v.0 q v.2)))
            ]
            | inr u ↦ elim (get-append w.parts (new_parts m kinds 0 n) j q h) [
              | inl v ↦ absurd (other j q v (sym a ∙ ap (λ (z : PartState). z.member) (new u.0 p u.2)))
              | inr v ↦ (
                  let x : p.number ≡ u.0 = ap (λ (z : PartState). z.number) (new u.0 p u.2) in
                  let y : q.number ≡ v.0 = ap (λ (z : PartState). z.number) (new v.0 q v.2) in
                  let f = u.1 in let l = v.1 in omega arith)
            ]
          ];
          here = λ i p g k l. elim (get-append w.parts (new_parts m kinds 0 n) i p g) [
            | inl h ↦ t.fits.here i p h k l
            | inr h ↦ (
                let a = new h.0 p h.2 in
                ap (λ (z : PartState). history w.marks z.member k no_activity) a ∙ t.fits.nowhere m k (λ j q f b c. other j q f b) ∙ ap (λ (z : PartState). activity_of (cell_at z.cells k)) (sym a))
          ];
          nowhere = λ x k away. t.fits.nowhere x k (λ i p g a b. away i p (get-left w.parts (new_parts m kinds 0 n) i p g) a b);
        };
        never = t.never;
        chain = t.chain;
        openings = record {
          opened = λ i p g. elim (get-append w.parts (new_parts m kinds 0 n) i p g) [
            | inl h ↦ t.openings.opened i p h
            | inr h ↦ (
                let a = new h.0 p h.2 in
                ap (λ (z : PartState). opened_version_at w.marks z.member z.number 0) a ∙ t.openings.never m h.0 (λ j q f b c. other j q f b) ∙ ap (λ (z : PartState). z.opened) (sym a))
          ];
          never = λ x k away. t.openings.never x k (λ i p g a b. away i p (get-left w.parts (new_parts m kinds 0 n) i p g) a b);
        };
        given = t.given;
        rise = t.rise;
        deep = λ x j. elim (In-append w.parts (new_parts m kinds 0 n) x j) [
          | inl l ↦ t.deep x l
          | inr l ↦ (let h = In-new_parts m kinds 0 n x l in subst (IsDeep w.settings) (sym h.1) (deep, λ c i. absurd i))
        ];
      }

  -- ---- every list of events

  pub record IsToldWorld (w : ClusterState) : Type 0 where
    pub safe : IsSafeWorld owner w
    pub told : IsTold w

  pub told_kept : KeepsToSpace owner → AreKept owner part_of IsToldWorld
  told_kept keeps =
      record {
        safe = λ w t. t.safe;
        other = λ w now calls events t. record { safe = (safe_kept owner part_of).other w now calls events t.safe; told = t.told };
        step = λ w n p e t at heard asked. record { safe = step_safe owner part_of w n p e t.safe at heard; told = with_step_told keeps w n p e t.safe t.told at heard asked };
        ask = λ w r t may booted. record { safe = (safe_kept owner part_of).ask w r t.safe may booted; told = grown w.settings w.parts w.marks w.messages _ t.told };
        answer = λ w r t i. record { safe = (safe_kept owner part_of).answer w r t.safe i; told = grown w.settings w.parts w.marks w.messages _ t.told };
        change = λ w e t h. record { safe = (safe_kept owner part_of).change w e t.safe h; told = t.told };
        restart = λ w t. record { safe = (safe_kept owner part_of).restart w t.safe; told = t.told };
        boot = λ w m kinds fresh t. record {
          safe = (safe_kept owner part_of).boot w m kinds fresh t.safe;
          told = grown w.settings _ w.marks w.messages _
              (boot_told w m (world.settings_for w.settings kinds) w.settings.parts (λ kind. deep_kinds w.settings kinds kind (default_settings kind) (omega arith)) fresh t.safe t.told);
        };
      }

  nothing_before : (before after : List TraceMark) → ◌≡◌ {A = List TraceMark} [] (before ++ after) → [] ≡ before
  nothing_before [] after e = refl
  nothing_before (x ∷ before) after e = absurd (cc)

  no_split : (before after : List TraceMark) (x : TraceMark) → [] ≡ before ++ x ∷ after → ⊥
  no_split [] after x e = cc
  no_split (y ∷ before) after x e = cc

  pub new_world_told : (settings : WorldSettings) → IsTold (world.opening_cluster settings)
  new_world_told settings =
      record {
        fits = record {
          placed = λ i p g. absurd (cc);
          apart = λ i j p q g. absurd (cc);
          here = λ i p g. absurd (cc);
          nowhere = λ m k away. refl;
        };
        never = λ before after m n k v e. absurd (no_split before after _ e);
        chain = λ before after m n k call chain e. absurd (no_split before after _ e);
        openings = record { opened = λ i p g. absurd (cc); never = λ m i away. refl };
        given = λ m k u h. absurd (false≢true (ap (λ (l : List TraceMark). (history l m k no_activity).active) (nothing_before h.before h.after h.place) ∙ h.active));
        rise = λ before after m n k u v e. absurd (no_split before after _ e);
        deep = λ p i. absurd i;
      }

  pub run_told : KeepsToSpace owner → (settings : WorldSettings) (es : List WorldEvent) → IsToldWorld (world.cluster_run owner part_of (world.opening_cluster settings) es)
  run_told keeps settings es = run_kept owner part_of IsToldWorld (told_kept keeps) (world.opening_cluster settings) es (record { safe = new_world_safe owner part_of settings; told = new_world_told settings })
