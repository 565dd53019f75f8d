-- What the marks say: which actor is active on which member, and with which open turns. Own.
use Rattle.std.specs.Prelude.{if◌then◌else◌, ◌≡◌, ◌==◌, ℕ, ◌<◌, true, List, [], ◌∷◌, ◌++◌, length, Option, Some}
use Rattle.actor_names.specs.declared.member.Member.{Member}
use Rattle.actor_names.specs.declared.actor_key.ActorKey.{ActorKey}
use Rattle.place_table.specs.declared.host.HostInfo.{HostInfo}
use Rattle.place_table.specs.Hosts.{PlacementTable}
use Rattle.turn_core.specs.declared.cell.Turn.{Turn}
use Rattle.turn_core.specs.CellSound.{In}
use Rattle.part_model.specs.Activity.{Activity, no_activity, after_mark, is_mark_of}
use Rattle.actor_names.specs.Same.{same_member}
use Rattle.part_model.specs.Marks.{PartMark, TurnBegan, BecameActive, PartOpened}
use Rattle.cluster_model.specs.Invariant.{Gives}
use Rattle.cluster_model.specs.Messages.{UpdateTo, UnlockAt, Message, Tells}
use Rattle.cluster_model.specs.World.{TraceMark}

-- what a member's marks say of an actor
abbrev pub history : List TraceMark → Member → ActorKey → Activity → Activity
history [] m k a = a
history (x ∷ xs) m k a = history xs m k (if same_member m x.member then (if is_mark_of x.what k then after_mark x.what a else a) else a)

-- At each Active of an actor no other member has it active.
abbrev pub IsNeverTwice : List TraceMark → Type 0
IsNeverTwice marks =
    (before after : List TraceMark) (m n : Member) (k : ActorKey) (v : ℕ) → marks ≡ before ++ record { member = n; what = BecameActive k v } ∷ after →
    (history before m k no_activity).active ≡ true → m ≡ n

-- At each Began of an actor, if turns of it are open, they are on that member, carry that chain, an identifier, and are
-- fewer than the depth of its type: so no other two turns overlap, and those that do are of a type with reentrancy on.
abbrev pub IsOneChain : (List ℕ → ℕ) → List TraceMark → Type 0
IsOneChain depth marks =
    (before after : List TraceMark) (m n : Member) (k : ActorKey) (call : ℕ) (chain : Option (List ℕ)) → marks ≡ before ++ record { member = n; what = TurnBegan k call chain } ∷ after →
    (t : Turn) → In t (history before m k no_activity).turns → (m ≡ n) × (t.chain ≡ chain) × (length (history before n k no_activity).turns < depth k.kind) × ((name : List ℕ) × (chain ≡ Some name))

-- the version at which a part of a member opened last
abbrev pub opened_at : PartMark → ℕ → ℕ → ℕ
opened_at (PartOpened j v) i before = if i == j then v else before
opened_at _ i before = before

abbrev pub opened_version_at : List TraceMark → Member → ℕ → ℕ → ℕ
opened_version_at [] m i v = v
opened_version_at (x ∷ xs) m i v = opened_version_at xs m i (if same_member m x.member then opened_at x.what i v else v)

module _ (owner : PlacementTable → ActorKey → Option HostInfo) (part_of : ActorKey → ℕ → ℕ) (parts : ℕ) where
  -- at some place of the marks, a member had an actor active while its part had last opened at a version
  pub record HadActive (marks : List TraceMark) (m : Member) (k : ActorKey) (u : ℕ) : Type 0 where
    pub before : List TraceMark
    pub after : List TraceMark
    pub place : marks ≡ before ++ after
    pub active : (history before m k no_activity).active ≡ true
    pub opened : opened_version_at before m (part_of k parts) 0 ≡ u

  -- an Update and an Unlock message of the version went to the member, and that Update's table gives it the actor
  abbrev pub WasGiven : List Message → Member → ActorKey → ℕ → Type 0
  WasGiven ms m k u = (t : PlacementTable) × In (Tells m (UpdateTo t)) ms × In (Tells m (UnlockAt u)) ms × (t.version ≡ u) × Gives owner t k m

  abbrev pub AreGiven : List Message → List TraceMark → Type 0
  AreGiven ms marks = (m : Member) (k : ActorKey) (u : ℕ) → HadActive marks m k u → WasGiven ms m k u

  -- a later Active of another member has a greater version
  abbrev pub DoVersionsRise : List TraceMark → Type 0
  DoVersionsRise marks =
      (before after : List TraceMark) (m n : Member) (k : ActorKey) (u v : ℕ) → marks ≡ before ++ record { member = n; what = BecameActive k v } ∷ after →
      HadActive before m k u → (m ≡ n → ⊥) → u < v
