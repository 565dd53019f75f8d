-- Every turn and every call that waits was made by a line of the script, over every list of events.
use Rattle.std.proofs.Common.{◌≡◌, ℕ, cond, ◌+◌, ◌≤◌, List, [], ◌∷◌, ◌++◌, length, set, Option, None, Some, refl, sym, ap, ◌∙◌, subst, inl, inr, arith, append_assoc, length-append}
use Rattle.std.specs.Prelude.{zero, suc, slice_get, nat_le, ◌==◌}
use Rattle.std.specs.declared.result.Result.TheVariants.{Ok}
use Rattle.std.proofs.lemmas.Bool.{cases_eq, cond_both, eqb-true}
use Rattle.actor_names.specs.declared.member.Member.{Member}
use Rattle.actor_names.specs.declared.actor_key.ActorKey.{ActorKey}
use Rattle.place_table.specs.declared.host.HostInfo.{HostInfo}
use Rattle.place_table.specs.Hosts.{PlacementTable}
use Rattle.turn_core.specs.CellSound.{In}
use Rattle.turn_core.proofs.Elements.{In-left, In-last}
use Rattle.part_model.specs.declared.event.PartEvent.{PartEvent}
use Rattle.part_model.specs.declared.settings.TypeSettings.{TypeSettings}
use Rattle.part_model.specs.Activity.{IsAsked}
use Rattle.part_model.specs.Marks.{PartMark, TurnBegan}
use Rattle.part_model.specs.Part.{PartState, PartStep, chain_or, made_chain, part_step}
use Rattle.part_model.specs.Settings.{settings_of}
use Rattle.part_model.proofs.PartReplays.{part_replays}
use Rattle.part_model.proofs.PartTables.{part_stepped}
use Rattle.world_events.specs.declared.event.WorldEvent.{WorldEvent}
use Rattle.world_events.specs.declared.event.WorldEvent.TheVariants as lines
use Rattle.world_events.specs.declared.settings.WorldSettings.{WorldSettings}
use Rattle.cluster_model.proofs.SpaceParts.{backed}
use Rattle.cluster_model.specs.Asked.{AskedCall, asked_by, asked_calls, chain_under, WasAsked, TurnsAreAsked}
use Rattle.cluster_model.specs.World as world
use Rattle.cluster_model.specs.World.{ClusterState, WorldStep, CallPlace, TraceMark, tagged, call_at, place_of_call, call_outcome, ask_of, new_parts, most_events}
use Rattle.cluster_model.proofs.AskedLines.{append_nil, call_at-left, call_at-push, call_at-last, In-tagged, asked_none, asked_taken, asked_own}
use Rattle.cluster_model.proofs.Basics.{In-append, In-set, In-slice_get}
use Rattle.cluster_model.proofs.Boots.{In-new_parts}
use Rattle.cluster_model.proofs.Histories.{some_same, get-set_same, get-set_other}
use Rattle.cluster_model.specs.Invariant.{IsSafeWorld}
use Rattle.cluster_model.proofs.Lines.{AreQuietKept, quiet_line}
use Rattle.cluster_model.proofs.Named.{same_place, ask_heard}
use Rattle.cluster_model.proofs.PartCalls.{HaveTypesDepth, types_depth_kept, AllHave, ask_takes, step_has}
use Rattle.cluster_model.proofs.Runs.{get-left}
use Rattle.cluster_model.proofs.Worlds.{step_safe, safe_kept, new_world_safe}

-- ---- calls that were asked stay so

same_chain_under : (p q : PartState) (k : ActorKey) (call : ℕ) (named : Option (List ℕ)) → q.member ≡ p.member → q.number ≡ p.number → q.kinds ≡ p.kinds → chain_under p k call named ≡ chain_under q k call named
same_chain_under p q k call named m n kinds =
    let under : Member → ℕ → List TypeSettings → Option (List ℕ) = λ x i ts. cond ((settings_of ts k.kind).depth == 0) None (chain_or named (made_chain x i call)) in
    ap (λ (x : Member). under x p.number p.kinds) (sym m) ∙ ap (λ (i : ℕ). under q.member i p.kinds) (sym n) ∙ ap (λ (ts : List TypeSettings). under q.member q.number ts) (sym kinds)

-- each part is where it was, and calls and lines have only been added
record IsLater (ps : List PartState) (calls : List (Option CallPlace)) (asked : List AskedCall) (qs : List PartState) (more : List (Option CallPlace)) (all : List AskedCall) : Type 0 where
  parts : (n : ℕ) (p : PartState) → slice_get ps n ≡ Some p → (q : PartState) × (slice_get qs n ≡ Some q) × (q.member ≡ p.member) × (q.number ≡ p.number) × (q.kinds ≡ p.kinds)
  taken : (i : ℕ) (c : CallPlace) → call_at calls i ≡ Some c → call_at more i ≡ Some c
  lines : (a : AskedCall) → In a asked → In a all

-- a part at a place takes a step
parts_later : (ps : List PartState) (n : ℕ) (p q : PartState) → slice_get ps n ≡ Some p → q.member ≡ p.member → q.number ≡ p.number → q.kinds ≡ p.kinds → (i : ℕ) (x : PartState) → slice_get ps i ≡ Some x
    → (y : PartState) × (slice_get (set ps n q) i ≡ Some y) × (y.member ≡ x.member) × (y.number ≡ x.number) × (y.kinds ≡ x.kinds)
parts_later ps n p q at m number kinds i x g = elim (cases_eq i n) [
  | inl h ↦ (
      let s : p ≡ x = some_same p x (sym at ∙ subst (λ (j : ℕ). slice_get ps j ≡ Some x) h g) in
      (q, subst (λ (j : ℕ). slice_get (set ps n q) j ≡ Some q) (sym h) (get-set_same ps n q p at), m ∙ ap (λ (z : PartState). z.member) s, number ∙ ap (λ (z : PartState). z.number) s, kinds ∙ ap (λ (z : PartState). z.kinds) s))
  | inr h ↦ (x, get-set_other ps n i q x h g, refl, refl, refl)
]

module _ (owner : PlacementTable → ActorKey → Option HostInfo) (part_of : ActorKey → ℕ → ℕ) where
  later : (n : ℕ) (ps : List PartState) (calls : List (Option CallPlace)) (asked : List AskedCall) (qs : List PartState) (more : List (Option CallPlace)) (all : List AskedCall) → IsLater ps calls asked qs more all
      → (m : Member) (k : ActorKey) (call : ℕ) (chain : Option (List ℕ)) → WasAsked part_of n ps calls asked m k call chain → WasAsked part_of n qs more all m k call chain
  later n ps calls asked qs more all l m k call chain h =
      let q = l.parts h.place h.part h.found in
      record {
        number = h.number;
        named = h.named;
        line = l.lines _ h.line;
        place = h.place;
        part = q.0;
        stands = l.taken h.number _ h.stands;
        found = q.1;
        of_member = q.2 ∙ h.of_member;
        of_key = q.3 ∙ h.of_key;
        under = h.under ∙ same_chain_under h.part q.0 k call h.named q.2 q.3 q.4;
      }

  -- so far each turn and each call that waits was made by a line, and each call that was taken has a number of its own
  pub record AreAskedAt (n : ℕ) (ps : List PartState) (calls : List (Option CallPlace)) (marks : List TraceMark) (asked : List AskedCall) : Type 0 where
    pub deep : (p : PartState) → In p ps → HaveTypesDepth p
    pub cells : (p : PartState) → In p ps → AllHave owner (λ k call chain. WasAsked part_of n ps calls asked p.member k call chain) p.cells
    pub began : (m : Member) (k : ActorKey) (call : ℕ) (chain : Option (List ℕ)) → In (record { member = m; what = TurnBegan k call chain }) marks → WasAsked part_of n ps calls asked m k call chain
    pub numbered : (a : AskedCall) → In a asked → a.number ≤ length calls
    pub one_line : (a b : AskedCall) → In a asked → In b asked → a.number ≡ b.number → a ≡ b
    pub placed : (i : ℕ) (c : CallPlace) → call_at calls i ≡ Some c → (p : PartState) × (slice_get ps c.place ≡ Some p) × (c.call ≤ p.drawn)
    pub one_number : (i j : ℕ) (c : CallPlace) → call_at calls i ≡ Some c → call_at calls j ≡ Some c → i ≡ j

  pub record AreAsked (asked : List AskedCall) (w : ClusterState) : Type 0 where
    pub safe : IsSafeWorld owner w
    pub all : AreAskedAt w.settings.parts w.parts w.calls w.marks asked

  -- what a step of a part at a place does to the cells and the marks
  stepped : (w : ClusterState) (n : ℕ) (p q : PartState) (xs : List PartMark) (asked : List AskedCall) (more : List (Option CallPlace)) (all : List AskedCall) → slice_get w.parts n ≡ Some p → q.member ≡ p.member
      → IsLater w.parts w.calls asked (set w.parts n q) more all
      → AllHave owner (λ k call chain. WasAsked part_of w.settings.parts (set w.parts n q) more all p.member k call chain) q.cells
      → ((k : ActorKey) (call : ℕ) (chain : Option (List ℕ)) → In (TurnBegan k call chain) xs → WasAsked part_of w.settings.parts (set w.parts n q) more all p.member k call chain)
      → AreAskedAt w.settings.parts w.parts w.calls w.marks asked
      → ((x : PartState) → In x (set w.parts n q) → AllHave owner (λ k call chain. WasAsked part_of w.settings.parts (set w.parts n q) more all x.member k call chain) x.cells)
      × ((m : Member) (k : ActorKey) (call : ℕ) (chain : Option (List ℕ)) → In (record { member = m; what = TurnBegan k call chain }) (w.marks ++ tagged p.member xs) → WasAsked part_of w.settings.parts (set w.parts n q) more all m k call chain)
  stepped w n p q xs asked more all at same l cells began t = (
    λ x i. elim (In-set w.parts n q x i) [
      | inl e ↦ subst (λ (z : PartState). AllHave owner (λ k call chain. WasAsked part_of w.settings.parts (set w.parts n q) more all z.member k call chain) z.cells) (sym e)
          (subst (λ (m : Member). AllHave owner (λ k call chain. WasAsked part_of w.settings.parts (set w.parts n q) more all m k call chain) q.cells) (sym same) cells)
      | inr j ↦ (λ c d. let h = t.cells x j c d in record {
        turns = λ u a. later w.settings.parts w.parts w.calls asked (set w.parts n q) more all l x.member c.key u.call u.chain (h.turns u a);
        queue = λ v a. later w.settings.parts w.parts w.calls asked (set w.parts n q) more all l x.member c.key v.call v.chain (h.queue v a);
      })
    ],
    λ m k call chain i. elim (In-append w.marks (tagged p.member xs) _ i) [
      | inl j ↦ later w.settings.parts w.parts w.calls asked (set w.parts n q) more all l m k call chain (t.began m k call chain j)
      | inr j ↦ (let h = In-tagged m p.member (TurnBegan k call chain) xs j in
          subst (λ (z : Member). WasAsked part_of w.settings.parts (set w.parts n q) more all z k call chain) (sym h.0) (began k call chain h.1))
    ],
  )

  deep_stepped : (w : ClusterState) (n : ℕ) (q : PartState) → HaveTypesDepth q → ((p : PartState) → In p w.parts → HaveTypesDepth p) → (x : PartState) → In x (set w.parts n q) → HaveTypesDepth x
  deep_stepped w n q new old x i = elim (In-set w.parts n q x i) [ inl e ↦ subst HaveTypesDepth (sym e) new | inr j ↦ old x j ]

  -- a call that was taken is at a part that has drawn its number
  placed_stepped : (ps : List PartState) (n : ℕ) (p q : PartState) (c : CallPlace) → slice_get ps n ≡ Some p → p.drawn ≤ q.drawn → (x : PartState) → slice_get ps c.place ≡ Some x → c.call ≤ x.drawn
      → (y : PartState) × (slice_get (set ps n q) c.place ≡ Some y) × (c.call ≤ y.drawn)
  placed_stepped ps n p q c at more x g d = elim (cases_eq c.place n) [
    | inl h ↦ (
        let s : p ≡ x = some_same p x (sym at ∙ subst (λ (j : ℕ). slice_get ps j ≡ Some x) h g) in
        let e : p.drawn ≡ x.drawn = ap (λ (z : PartState). z.drawn) s in
        (q, subst (λ (j : ℕ). slice_get (set ps n q) j ≡ Some q) (sym h) (get-set_same ps n q p at), omega arith))
    | inr h ↦ (x, get-set_other ps n c.place q x h g, d)
  ]

  -- ---- a step that asks nothing

  quiet_step : (asked : List AskedCall) (w : ClusterState) (n : ℕ) (p : PartState) (e : PartEvent) → AreAsked asked w → slice_get w.parts n ≡ Some p → ((k : ActorKey) → IsAsked e k → ⊥)
      → AreAskedAt w.settings.parts (set w.parts n (part_step owner p e).part) w.calls (w.marks ++ tagged p.member (part_step owner p e).marks) asked
  quiet_step asked w n p e t at quiet =
      let q : PartState = (part_step owner p e).part in
      let i = In-slice_get w.parts n p at in
      let sound = (backed owner w t.safe p i).sound in
      let st = part_stepped owner p e sound in
      let l : IsLater w.parts w.calls asked (set w.parts n q) w.calls asked =
      record { parts = parts_later w.parts n p q at st.member st.number st.kinds; taken = λ j c x. x; lines = λ a x. x } in
      let has = step_has owner (λ k call chain. WasAsked part_of w.settings.parts (set w.parts n q) w.calls asked p.member k call chain) p e quiet
      (λ c d. let h = t.all.cells p i c d in record {
        turns = λ u a. later w.settings.parts w.parts w.calls asked (set w.parts n q) w.calls asked l p.member c.key u.call u.chain (h.turns u a);
        queue = λ v a. later w.settings.parts w.parts w.calls asked (set w.parts n q) w.calls asked l p.member c.key v.call v.chain (h.queue v a);
      }) in
      let now = stepped w n p q (part_step owner p e).marks asked w.calls asked at st.member l has.cells has.began t.all in
      record {
        deep = deep_stepped w n q (types_depth_kept e p q _ st.kinds (part_replays owner p e sound) (t.all.deep p i)) t.all.deep;
        cells = now.0;
        began = now.1;
        numbered = t.all.numbered;
        one_line = t.all.one_line;
        placed = λ j c x. (let h = t.all.placed j c x in placed_stepped w.parts n p q c at st.drawn h.0 h.1 h.2);
        one_number = t.all.one_number;
      }

  booted_asked : (asked : List AskedCall) (w : ClusterState) (m : Member) (kinds : List TypeSettings) (n : ℕ) → AreAskedAt w.settings.parts w.parts w.calls w.marks asked
      → AreAskedAt w.settings.parts (w.parts ++ new_parts m kinds 0 n) w.calls w.marks asked
  booted_asked asked w m kinds n t =
      let new : List PartState = new_parts m kinds 0 n in
      let l : IsLater w.parts w.calls asked (w.parts ++ new) w.calls asked =
      record { parts = λ i p g. (p, get-left w.parts new i p g, refl, refl, refl); taken = λ j c x. x; lines = λ a x. x } in
      record {
        deep = λ p i. elim (In-append w.parts new p i) [
          | inl j ↦ t.deep p j
          | inr j ↦ (let h = In-new_parts m kinds 0 n p j in subst HaveTypesDepth (sym h.1) (λ c x. absurd x))
        ];
        cells = λ p i. elim (In-append w.parts new p i) [
          | inl j ↦ (λ c d. let h = t.cells p j c d in record {
            turns = λ u a. later w.settings.parts w.parts w.calls asked (w.parts ++ new) w.calls asked l p.member c.key u.call u.chain (h.turns u a);
            queue = λ v a. later w.settings.parts w.parts w.calls asked (w.parts ++ new) w.calls asked l p.member c.key v.call v.chain (h.queue v a);
          })
          | inr j ↦ (let h = In-new_parts m kinds 0 n p j in
              subst (λ (z : PartState). AllHave owner (λ k call chain. WasAsked part_of w.settings.parts (w.parts ++ new) w.calls asked z.member k call chain) z.cells) (sym h.1) (λ c x. absurd x))
        ];
        began = λ x k call chain i. later w.settings.parts w.parts w.calls asked (w.parts ++ new) w.calls asked l x k call chain (t.began x k call chain i);
        numbered = t.numbered;
        one_line = t.one_line;
        placed = λ j c x. (let h = t.placed j c x in (h.0, get-left w.parts new c.place h.0 h.1, h.2));
        one_number = t.one_number;
      }

  quiet_asked : (asked : List AskedCall) → AreQuietKept owner part_of (AreAsked asked)
  quiet_asked asked =
      record {
        safe = λ w t. t.safe;
        other = λ w now events t. record { safe = (safe_kept owner part_of).other w now w.calls events t.safe; all = t.all };
        step = λ w n p e t at heard quiet. record { safe = step_safe owner part_of w n p e t.safe at heard; all = quiet_step asked w n p e t at quiet };
        ask = λ w r t may booted. record { safe = (safe_kept owner part_of).ask w r t.safe may booted; all = t.all };
        answer = λ w r t i. record { safe = (safe_kept owner part_of).answer w r t.safe i; all = t.all };
        change = λ w e t h. record { safe = (safe_kept owner part_of).change w e t.safe h; all = t.all };
        restart = λ w t. record { safe = (safe_kept owner part_of).restart w t.safe; all = t.all };
        boot = λ w m kinds fresh t. record {
          safe = (safe_kept owner part_of).boot w m kinds fresh t.safe;
          all = booted_asked asked w m (world.settings_for w.settings kinds) w.settings.parts t.all;
        };
      }

  -- ---- a call

  module _ (asked : List AskedCall) (w : ClusterState) (t : AreAsked asked w) (number : ℕ) (m : Member) (key : ActorKey) (least : ℕ) (chain : Option (List ℕ)) (next : number ≡ suc (length w.calls))
      (n : ℕ) (home : world.key_place_of owner part_of w m key ≡ Some n) (p : PartState) (at : slice_get w.parts n ≡ Some p) where
    abbrev step : PartStep
    step = part_step owner p (ask_of key least chain w.now)

    abbrev line : AskedCall
    line = record { number = number; member = m; key = key; chain = chain }

    abbrev entry : Option CallPlace
    entry = place_of_call n (part_step owner p (ask_of key least chain w.now)).reply

    abbrev calls : List (Option CallPlace)
    calls = w.calls ++ place_of_call n (part_step owner p (ask_of key least chain w.now)).reply ∷ []

    abbrev all : List AskedCall
    all = asked ++ asked_by (lines.Call number m key least chain) (Ok (call_outcome number (part_step owner p (ask_of key least chain w.now)).reply))

    abbrev parts : List PartState
    parts = set w.parts n (part_step owner p (ask_of key least chain w.now)).part

    call_asked : AreAskedAt w.settings.parts parts calls (w.marks ++ tagged p.member (part_step owner p (ask_of key least chain w.now)).marks) all
    call_asked =
        let e : PartEvent = ask_of key least chain w.now in
        let q : PartState = (part_step owner p e).part in
        let i = In-slice_get w.parts n p at in
        let sound = (backed owner w t.safe p i).sound in
        let st = part_stepped owner p e sound in
        let here = same_place w.parts m (part_of key w.settings.parts) n p home at in
        let l : IsLater w.parts w.calls asked parts calls all =
        record { parts = parts_later w.parts n p q at st.member st.number st.kinds; taken = λ j c x. call_at-left w.calls (entry ∷ []) j c x; lines = λ a x. In-left asked _ a x } in
        let takes = ask_takes owner (λ k call x. WasAsked part_of w.settings.parts parts calls all p.member k call x) n p key least chain w.now (t.all.deep p i)
        (λ c d. let h = t.all.cells p i c d in record {
          turns = λ u a. later w.settings.parts w.parts w.calls asked parts calls all l p.member c.key u.call u.chain (h.turns u a);
          queue = λ v a. later w.settings.parts w.parts w.calls asked parts calls all l p.member c.key v.call v.chain (h.queue v a);
        }) in
        let has = takes.has (λ c x. record {
          number = number;
          named = chain;
          line = subst (λ (z : Member). In (let a : AskedCall = record { number = number; member = z; key = key; chain = chain } in a) all) (sym here.0)
              (subst (λ (z : List AskedCall). In line (asked ++ z)) (sym (asked_taken number m key least chain n _ c x)) (In-last asked line));
          place = n;
          part = q;
          stands = ap (call_at calls) next ∙ call_at-last w.calls entry ∙ x ∙ ap Some (takes.taken c x).0;
          found = get-set_same w.parts n q p at;
          of_member = st.member;
          of_key = st.number ∙ here.1;
          under = same_chain_under p q key (p.drawn + 1) chain st.member st.number st.kinds;
        }) in
        let now = stepped w n p q (part_step owner p e).marks asked calls all at st.member l has.cells has.began t.all in
        let longer : length calls ≡ length w.calls + 1 = length-append w.calls (entry ∷ []) in
        record {
          deep = deep_stepped w n q (types_depth_kept e p q _ st.kinds (part_replays owner p e sound) (t.all.deep p i)) t.all.deep;
          cells = now.0;
          began = now.1;
          numbered = λ a x. elim (In-append asked _ a x) [
            | inl old ↦ (let h = t.all.numbered a old in omega arith)
            | inr new ↦ (let h = ap (λ (z : AskedCall). z.number) (own a new) in omega arith)
          ];
          one_line = λ a b x y same. elim (In-append asked _ a x) [
            | inl old ↦ elim (In-append asked _ b y) [
              | inl older ↦ t.all.one_line a b old older same
              | inr new ↦ absurd (let h = t.all.numbered a old in let g = ap (λ (z : AskedCall). z.number) (own b new) in omega arith)
            ]
            | inr new ↦ elim (In-append asked _ b y) [
              | inl old ↦ absurd (let h = t.all.numbered b old in let g = ap (λ (z : AskedCall). z.number) (own a new) in omega arith)
              | inr newer ↦ own a new ∙ sym (own b newer)
            ]
          ];
          placed = λ j c x. elim (call_at-push w.calls entry j c x) [
            | inl old ↦ (let h = t.all.placed j c old in placed_stepped w.parts n p q c at st.drawn h.0 h.1 h.2)
            | inr new ↦ (
                let h = takes.taken c new.1 in
                let d : c.call ≡ p.drawn + 1 = ap (λ (z : CallPlace). z.call) h.0 in
                let f : c.place ≡ n = ap (λ (z : CallPlace). z.place) h.0 in
                let g = h.1 in
                (q, subst (λ (k : ℕ). slice_get parts k ≡ Some q) (sym f) (get-set_same w.parts n q p at), omega arith))
          ];
          one_number = λ j k c x y. elim (call_at-push w.calls entry j c x) [
            | inl old ↦ elim (call_at-push w.calls entry k c y) [
              | inl older ↦ t.all.one_number j k c old older
              | inr new ↦ absurd (fresh j c old new.1)
            ]
            | inr new ↦ elim (call_at-push w.calls entry k c y) [
              | inl old ↦ absurd (fresh k c old new.1)
              | inr newer ↦ new.0 ∙ sym newer.0
            ]
          ];
        }
      where
        own : (a : AskedCall) → In a (asked_by (lines.Call number m key least chain) (Ok (call_outcome number (part_step owner p (ask_of key least chain w.now)).reply))) → a ≡ line
        own a i = asked_own number m key least chain (Ok (call_outcome number (part_step owner p (ask_of key least chain w.now)).reply)) a i

        -- the new call's number wasn't drawn before
        fresh : (j : ℕ) (c : CallPlace) → call_at w.calls j ≡ Some c → entry ≡ Some c → ⊥
        fresh j c old new =
            let h = t.all.placed j c old in
            let takes = (ask_takes owner (λ k call x. Unit {0}) n p key least chain w.now (t.all.deep p (In-slice_get w.parts n p at)) (λ c d. record { turns = λ u a. tt; queue = λ v a. tt })).taken c new in
            let d : c.call ≡ p.drawn + 1 = ap (λ (z : CallPlace). z.call) takes.0 in
            let f : c.place ≡ n = ap (λ (z : CallPlace). z.place) takes.0 in
            let s : p ≡ h.0 = some_same p h.0 (sym at ∙ subst (λ (k : ℕ). slice_get w.parts k ≡ Some h.0) f h.1) in
            let g : p.drawn ≡ h.0.drawn = ap (λ (z : PartState). z.drawn) s in
            let k = h.2 in
            omega arith

  -- ---- every line, and every list of events

  abbrev AskedEnds : List AskedCall → WorldEvent → WorldStep → Type 0
  AskedEnds asked e s = AreAsked (asked ++ asked_by e s.outcome) s.world

  none_asked : (asked more : List AskedCall) (w : ClusterState) → more ≡ [] → AreAsked asked w → AreAsked (asked ++ more) w
  none_asked asked more w e t = subst (λ (z : List AskedCall). AreAsked z w) (sym (ap (λ (z : List AskedCall). asked ++ z) e ∙ append_nil asked)) t

  asked_call : (asked : List AskedCall) (w : ClusterState) (number : ℕ) (m : Member) (key : ActorKey) (least : ℕ) (chain : Option (List ℕ)) → number ≡ suc (length w.calls) → AreAsked asked w
      → (o : Option ℕ) → world.key_place_of owner part_of w m key ≡ o → AskedEnds asked (lines.Call number m key least chain) (world.call_at_place owner part_of w number (ask_of key least chain w.now) o)
  asked_call asked w number m key least chain next t None home = none_asked asked [] w refl t
  asked_call asked w number m key least chain next t (Some n) home = go (slice_get w.parts n) refl
    where
      go : (found : Option PartState) → slice_get w.parts n ≡ found → AskedEnds asked (lines.Call number m key least chain) (world.call_of_part owner part_of w number n (ask_of key least chain w.now) found)
      go None at = none_asked asked [] w refl t
      go (Some p) at =
          let stepped_world = world.with_step owner part_of w n p (part_step owner p (ask_of key least chain w.now)) in
          record {
            safe = (safe_kept owner part_of).other stepped_world w.now _ w.events (step_safe owner part_of w n p (ask_of key least chain w.now) t.safe at (ask_heard w.messages p.member key least chain w.now));
            all = call_asked asked w t number m key least chain next n home p at;
          }

  asked_line : (asked : List AskedCall) (w : ClusterState) (e : WorldEvent) → AreAsked asked w → AskedEnds asked e (world.happens owner part_of w e)
  asked_line asked w (lines.Call number m key least chain) t =
      cond_both (number == suc (length w.calls)) _ _ (AskedEnds asked (lines.Call number m key least chain))
      (λ b. asked_call asked w number m key least chain (eqb-true number (suc (length w.calls)) b) t (world.key_place_of owner part_of w m key) refl)
      (λ _. none_asked asked [] w refl t)
  asked_line asked w e t = none_asked asked [] _ refl (quiet_line owner part_of (AreAsked asked) (quiet_asked asked) w e tt t)

  asked_step : (asked : List AskedCall) (w : ClusterState) (e : WorldEvent) → AreAsked asked w → AskedEnds asked e (world.cluster_step owner part_of w e)
  asked_step asked w e t =
      cond_both (nat_le most_events w.events) _ _ (AskedEnds asked e) (λ _. none_asked asked _ w (asked_none e _) t)
      (λ _. let s = world.happens owner part_of w e in let h = asked_line asked w e t in (quiet_asked (asked ++ asked_by e s.outcome)).other s.world s.world.now (s.world.events + world.weight_of s.outcome) h)

  asked_run : (asked : List AskedCall) (w : ClusterState) (es : List WorldEvent) → AreAsked asked w → AreAsked (asked ++ asked_calls es (world.outcomes owner part_of w es)) (world.cluster_run owner part_of w es)
  asked_run asked w [] t = none_asked asked [] w refl t
  asked_run asked w (e ∷ es) t =
      let s = world.cluster_step owner part_of w e in
      subst (λ (z : List AskedCall). AreAsked z (world.cluster_run owner part_of s.world es)) (append_assoc asked (asked_by e s.outcome) (asked_calls es (world.outcomes owner part_of s.world es)))
      (asked_run (asked ++ asked_by e s.outcome) s.world es (asked_step asked w e t))

  new_world_asked : (settings : WorldSettings) → AreAsked [] (world.opening_cluster settings)
  new_world_asked settings =
      record {
        safe = new_world_safe owner part_of settings;
        all = record {
          deep = λ p i. absurd i;
          cells = λ p i. absurd i;
          began = λ m k call chain i. absurd i;
          numbered = λ a i. absurd i;
          one_line = λ a b i. absurd i;
          placed = λ i c e. absurd (no_call i c e);
          one_number = λ i j c e. absurd (no_call i c e);
        };
      }
    where
      no_call : (i : ℕ) (c : CallPlace) → call_at [] i ≡ Some c → ⊥
      no_call zero c e = cc
      no_call (suc i) c e = cc

  -- over every list of events
  pub run_asked : (settings : WorldSettings) (es : List WorldEvent)
      → TurnsAreAsked part_of (world.cluster_run owner part_of (world.opening_cluster settings) es) (asked_calls es (world.outcomes owner part_of (world.opening_cluster settings) es))
  run_asked settings es =
      let t = (asked_run [] (world.opening_cluster settings) es (new_world_asked settings)).all in
      record {
        began = t.began;
        open_turns = λ p c u i d a. (t.cells p i c d).turns u a;
        waiting = λ p c v i d a. (t.cells p i c d).queue v a;
        one_line = t.one_line;
        one_number = t.one_number;
      }
