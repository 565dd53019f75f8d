-- The parts and messages of a space among those of the cluster, and what the spaces together say of all parts.
use Rattle.std.proofs.Common.{◌≡◌, ℕ, append-nil, Bool, true, false, List, [], ◌∷◌, ◌++◌, Option, None, Some, refl, sym, ap, ◌∙◌, subst}
use Rattle.std.specs.Prelude.{zero, suc, ◌<◌, if◌then◌else◌, bytes_eq}
use Rattle.std.proofs.lemmas.List.Elements.{filter-append}
use Rattle.std.proofs.lemmas.Slice.Eq.{bytes_eq-Decides}
use Rattle.actor_names.specs.declared.member.Member.{Member}
use Rattle.actor_names.specs.declared.actor_key.ActorKey.{ActorKey}
use Rattle.place_table.specs.declared.host.HostInfo.{HostInfo}
use Rattle.place_table.specs.declared.ack_stage.AckStage.{AckStage}
use Rattle.place_table.specs.Hosts.{PlacementTable}
use Rattle.turn_core.specs.CellSound.{In}
use Rattle.part_model.specs.declared.actor_cell.ActorCell.{ActorCell}
use Rattle.part_model.specs.declared.event.PartEvent.{PartEvent}
use Rattle.part_model.specs.declared.event.PartEvent.TheVariants as events
use Rattle.part_model.specs.declared.settings.TypeSettings.{TypeSettings}
use Rattle.part_model.specs.Part.{PartState, new_part, is_owned_by}
use Rattle.part_model.specs.Progress.{MemberReached}
use Rattle.cluster_model.specs.Messages.{LockAt, UpdateTo, UnlockAt, Message, Tells, named_in}
use Rattle.cluster_model.specs.World.{ClusterState, new_parts}
use Rattle.cluster_model.specs.Spaces.{is_of, parts_of, messages_of, KeepsToSpace}
use Rattle.cluster_model.specs.Invariant.{IsHeard, AllStopped, Gives, IsPartBacked, IsSafeWorld, IsActiveOnce}
use Rattle.cluster_model.proofs.Filters.{In-filter, In-passes}
use Rattle.cluster_model.proofs.PartKeeps.{active_once}

pub of_itself : (m : Member) → is_of m.space m ≡ true
of_itself m = (bytes_eq-Decides m.space m.space).1 refl

pub space_is : (space : List ℕ) (m : Member) → is_of space m ≡ true → space ≡ m.space
space_is space m e = (bytes_eq-Decides space m.space).0 e

pub in_parts : (ps : List PartState) (p : PartState) (space : List ℕ) → In p ps → is_of space p.member ≡ true → In p (parts_of space ps)
in_parts ps p space i e = In-passes (λ (x : PartState). is_of space x.member) ps p i e

pub from_parts : (ps : List PartState) (p : PartState) (space : List ℕ) → In p (parts_of space ps) → In p ps
from_parts ps p space i = (In-filter (λ (x : PartState). is_of space x.member) ps p i).0

pub in_messages : (ms : List Message) (x : Message) (space : List ℕ) → In x ms → is_of space (named_in x) ≡ true → In x (messages_of space ms)
in_messages ms x space i e = In-passes (λ (y : Message). is_of space (named_in y)) ms x i e

pub from_messages : (ms : List Message) (x : Message) (space : List ℕ) → In x (messages_of space ms) → In x ms × (is_of space (named_in x) ≡ true)
from_messages ms x space i = In-filter (λ (y : Message). is_of space (named_in y)) ms x i

-- one more message
pub pushed_own : (ms : List Message) (x : Message) (space : List ℕ) → is_of space (named_in x) ≡ true → messages_of space (ms ++ x ∷ []) ≡ messages_of space ms ++ x ∷ []
pushed_own ms x space e = filter-append (λ (y : Message). is_of space (named_in y)) ms (x ∷ []) ∙ ap (λ (b : Bool). messages_of space ms ++ (if b then x ∷ [] else [])) e

pub pushed_other : (ms : List Message) (x : Message) (space : List ℕ) → is_of space (named_in x) ≡ false → messages_of space (ms ++ x ∷ []) ≡ messages_of space ms
pushed_other ms x space e =
    filter-append (λ (y : Message). is_of space (named_in y)) ms (x ∷ []) ∙ ap (λ (b : Bool). messages_of space ms ++ (if b then x ∷ [] else [])) e ∙ append-nil (messages_of space ms)

-- the parts of a new member
all_new : (m : Member) (kinds : List TypeSettings) (i n : ℕ) (space : List ℕ) → is_of space m ≡ true → parts_of space (new_parts m kinds i n) ≡ new_parts m kinds i n
all_new m kinds i zero space e = refl
all_new m kinds i (suc n) space e = ap (λ (b : Bool). if b then new_part m i kinds ∷ parts_of space (new_parts m kinds (suc i) n) else parts_of space (new_parts m kinds (suc i) n)) e ∙ ap (λ (l : List PartState). new_part m i kinds ∷ l) (all_new m kinds (suc i) n space e)

none_new : (m : Member) (kinds : List TypeSettings) (i n : ℕ) (space : List ℕ) → is_of space m ≡ false → parts_of space (new_parts m kinds i n) ≡ []
none_new m kinds i zero space e = refl
none_new m kinds i (suc n) space e = ap (λ (b : Bool). if b then new_part m i kinds ∷ parts_of space (new_parts m kinds (suc i) n) else parts_of space (new_parts m kinds (suc i) n)) e ∙ none_new m kinds (suc i) n space e

pub booted_own : (ps : List PartState) (m : Member) (kinds : List TypeSettings) (n : ℕ) (space : List ℕ) → is_of space m ≡ true → parts_of space (ps ++ new_parts m kinds 0 n) ≡ parts_of space ps ++ new_parts m kinds 0 n
booted_own ps m kinds n space e = filter-append (λ (x : PartState). is_of space x.member) ps (new_parts m kinds 0 n) ∙ ap (λ (l : List PartState). parts_of space ps ++ l) (all_new m kinds 0 n space e)

pub booted_other : (ps : List PartState) (m : Member) (kinds : List TypeSettings) (n : ℕ) (space : List ℕ) → is_of space m ≡ false → parts_of space (ps ++ new_parts m kinds 0 n) ≡ parts_of space ps
booted_other ps m kinds n space e = filter-append (λ (x : PartState). is_of space x.member) ps (new_parts m kinds 0 n) ∙ ap (λ (l : List PartState). parts_of space ps ++ l) (none_new m kinds 0 n space e) ∙ append-nil (parts_of space ps)

-- an event that a message brings has its message among those of the member's space
pub heard_own : (ms : List Message) (m : Member) (e : PartEvent) (space : List ℕ) → is_of space m ≡ true → IsHeard ms m e → IsHeard (messages_of space ms) m e
heard_own ms m (events.Lock v) space own h = in_messages ms (Tells m (LockAt v)) space h own
heard_own ms m (events.Update t now) space own h = in_messages ms (Tells m (UpdateTo t)) space h own
heard_own ms m (events.Unlock v) space own h = in_messages ms (Tells m (UnlockAt v)) space h own
heard_own ms m e space own h = tt

pub stopped_own : (ps : List PartState) (m : Member) (space : List ℕ) → AllStopped ps m → AllStopped (parts_of space ps) m
stopped_own ps m space h p i e = h p (from_parts ps p space i) e

module _ (owner : PlacementTable → ActorKey → Option HostInfo) where
  pub reached_own : (ps : List PartState) (m : Member) (stage : AckStage) (v : ℕ) (space : List ℕ) → MemberReached owner ps m stage v → MemberReached owner (parts_of space ps) m stage v
  reached_own ps m stage v space h p i e = h p (from_parts ps p space i) e

  -- what a part has among the messages of its space, it has among all messages
  pub backed : (w : ClusterState) → IsSafeWorld owner w → (p : PartState) → In p w.parts → IsPartBacked owner w.messages w.boots p
  backed w s p i =
      let space = p.member.space in
      let b = (s.spaces space).safe.parts p (in_parts w.parts p space i (of_itself p.member)) in
      record {
        sound = b.sound;
        tied = b.tied;
        booted = b.booted;
        open_above = b.open_above;
        lock_came = λ h. (from_messages w.messages _ space (b.lock_came h)).0;
        update_came = λ h. (from_messages w.messages _ space (b.update_came h)).0;
        unlock_came = λ h. (from_messages w.messages _ space (b.unlock_came h)).0;
        owned = λ c j a. (let o = b.owned c j a in (o.0, (o.1.0, (from_messages w.messages _ space o.1.1).0, o.1.2, o.1.3)));
      }

  module _ (keeps : KeepsToSpace owner) where
    given_space : (t : PlacementTable) (k : ActorKey) (m : Member) → Gives owner t k m → k.space ≡ t.space
    given_space t k m given = go (owner t k) refl given
      where
        go : (o : Option HostInfo) → owner t k ≡ o → is_owned_by m o ≡ true → k.space ≡ t.space
        go None e f = absurd (cc)
        go (Some h) e f = keeps t k h e

    -- What a safe cluster says of its members' tables and parts, over all spaces.
    pub record AreSpacesApart (ms : List Message) (ps : List PartState) : Type 0 where
      -- a table gives a member actors of its space
      pub given : (m : Member) (t : PlacementTable) (k : ActorKey) → In (Tells m (UpdateTo t)) ms → Gives owner t k m → k.space ≡ m.space
      pub one_table : (m n : Member) (t u : PlacementTable) → m.space ≡ n.space → In (Tells m (UpdateTo t)) ms → In (Tells n (UpdateTo u)) ms → t.version ≡ u.version → t ≡ u
      pub owned : (v : ℕ) (p : PartState) (c : ActorCell) (m : Member) → m.space ≡ p.member.space → In (Tells m (UnlockAt v)) ms → In p ps → In c p.cells → c.active ≡ true → p.opened < v →
          (t : PlacementTable) → In (Tells m (UpdateTo t)) ms → t.version ≡ v → Gives owner t c.key p.member

    pub spaces_apart : (w : ClusterState) → IsSafeWorld owner w → AreSpacesApart w.messages w.parts
    spaces_apart w s =
        record {
          given = λ m t k i g. given_space t k m g ∙ s.tables m t i;
          one_table = λ m n t u same i j e.
              let own : is_of m.space n ≡ true = subst (λ (z : List ℕ). bytes_eq z n.space ≡ true) (sym same) (of_itself n) in
              (s.spaces m.space).safe.messages.one_table m n t u (in_messages w.messages _ m.space i (of_itself m)) (in_messages w.messages _ m.space j own) e;
          owned = λ v p c m same u i j a h t k e.
              let space = p.member.space in
              let own : is_of space m ≡ true = subst (λ (z : List ℕ). bytes_eq z m.space ≡ true) same (of_itself m) in
              (s.spaces space).safe.unlocks.owned v p c (m, in_messages w.messages _ space u own) (in_parts w.parts p space i (of_itself p.member)) j a h m t (in_messages w.messages _ space k own) e;
        }

    -- no actor is active on two members: one that is active is of its member's space
    pub world_once : (w : ClusterState) → IsSafeWorld owner w → IsActiveOnce w.parts
    world_once w s p q c d i j k l a b e =
        let x = (backed w s p i).owned c k a in
        let y = (backed w s q j).owned d l b in
        let apart = spaces_apart w s in
        let here : c.key.space ≡ p.member.space = apart.given p.member x.1.0 c.key x.1.1 x.1.3 in
        let there : d.key.space ≡ q.member.space = apart.given q.member y.1.0 d.key y.1.1 y.1.3 in
        let space = p.member.space in
        let same : space ≡ q.member.space = sym here ∙ ap (λ (z : ActorKey). z.space) e ∙ there in
        let own : is_of space q.member ≡ true = subst (λ (z : List ℕ). bytes_eq z q.member.space ≡ true) (sym same) (of_itself q.member) in
        active_once owner _ _ _ _ _ (parts_of space w.parts) (messages_of space w.messages) w.boots (s.spaces space).safe
        p q c d (in_parts w.parts p space i (of_itself p.member)) (in_parts w.parts q space j own) k l a b e
