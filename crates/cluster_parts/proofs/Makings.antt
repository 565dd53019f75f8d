-- The parts of a new member.
use Rattle.std.proofs.Common.{◌≡◌, ℕ, ◌+◌, List, [], ◌∷◌, ◌++◌, length, refl, sym, ap, ◌∙◌, subst, inl, inr, arith, append_assoc}
use Rattle.std.specs.Prelude.{zero, suc, ◌≤◌, if◌then◌else◌, bytes_eq}
use Rattle.std.proofs.lemmas.Bool.{cond_both}
use Rattle.std.proofs.lemmas.List.Elements.{All-head, All-tail}
use Rattle.turn_core.specs.Cell.{greatest_depth}
use Rattle.part_model.specs.Settings.{settings_or, AreShallow}
use Rattle.std.proofs.lemmas.List.{map-append}
use Rattle.actor_names.specs.declared.member.Member.{Member}
use Rattle.turn_core.specs.CellSound.{In}
use Rattle.part_model.specs.declared.settings.TypeSettings.{TypeSettings}
use Rattle.part_model.specs.Part.{PartState, new_part, ring_owner}
use Rattle.part_model.specs.Rooms.{PartView}
use Rattle.part_model.specs.Sound.{IsPartSound}
use Rattle.part_model.proofs.PartTables.{new_part_sound}
use Rattle.world_events.specs.declared.settings.WorldSettings.{WorldSettings}
use Rattle.cluster_model.specs.World.{unnamed_settings, settings_in, settings_for, new_parts}
use Rattle.cluster_model.proofs.Basics.{In-append}
use Rattle.cluster_parts.specs.declared.home.Home.{Home}
use Rattle.cluster_parts.specs.Layout.{booted_at, home_of, PartTag, tags_of, member_tags, AreLaidOut}
use Rattle.cluster_parts.specs.Views.{state_in, states_of}
use Rattle.cluster_parts.proofs.Blocks.{tags-boot}

-- one more part
pub new_parts-suc : (m : Member) (ks : List TypeSettings) (i n : ℕ) → new_parts m ks i (suc n) ≡ new_parts m ks i n ++ new_part m (i + n) ks ∷ []
new_parts-suc m ks i zero = ap (λ (k : ℕ). new_part m k ks ∷ []) (omega arith)
new_parts-suc m ks i (suc n) = ap (λ (z : List PartState). new_part m i ks ∷ z) (new_parts-suc m ks (suc i) n ∙ ap (λ (k : ℕ). new_parts m ks (suc i) n ++ new_part m k ks ∷ []) (omega arith))

pub made-more : (m : Member) (ks : List TypeSettings) (i : ℕ) (vs : List PartView) (v : PartView) → states_of vs ≡ new_parts m ks 0 i → v ≡ record { state = new_part m i ks; recent = [] } → states_of (vs ++ v ∷ []) ≡ new_parts m ks 0 (i + 1)
made-more m ks i vs v e f =
    let one : i + 1 ≡ suc i = omega arith in
    let zero : i ≡ 0 + i = omega arith in
    map-append state_in vs (v ∷ []) ∙ ap (λ (z : List PartState). z ++ v.state ∷ []) e ∙ ap (λ (z : PartView). new_parts m ks 0 i ++ z.state ∷ []) f ∙ ap (λ (k : ℕ). new_parts m ks 0 i ++ new_part m k ks ∷ []) zero ∙ sym (new_parts-suc m ks 0 i) ∙ ap (λ (k : ℕ). new_parts m ks 0 k) (sym one)

-- the settings of one more type
pub settings-more : (s : WorldSettings) (kinds : List (List ℕ)) (list : List TypeSettings) (kind : List ℕ) (rest : List (List ℕ)) (t : TypeSettings) → kinds ≡ kind ∷ rest → t ≡ settings_in s kind →
    list ++ settings_for s kinds ≡ (list ++ t ∷ []) ++ settings_for s rest
settings-more s kinds list kind rest t e f = ap (λ (z : List (List ℕ)). list ++ settings_for s z) e ∙ ap (λ (z : TypeSettings). list ++ z ∷ settings_for s rest) (sym f) ∙ sym (append_assoc list (t ∷ []) (settings_for s rest))

new_tags : (m : Member) (ks : List TypeSettings) (i n : ℕ) → tags_of (new_parts m ks i n) ≡ member_tags m i n
new_tags m ks i zero = refl
new_tags m ks i (suc n) = ap (λ (z : List PartTag). record { member = m; number = i } ∷ z) (new_tags m ks (suc i) n)

new_sound : (m : Member) (ks : List TypeSettings) (i n : ℕ) (p : PartState) → In p (new_parts m ks i n) → IsPartSound ring_owner p
new_sound m ks i zero p h = absurd h
new_sound m ks i (suc n) p (inl e) = subst (λ (z : PartState). IsPartSound ring_owner z) (sym e) (new_part_sound ring_owner m i ks)
new_sound m ks i (suc n) p (inr j) = new_sound m ks (suc i) n p j

-- one more member keeps the layout
pub boot_laid : (per : ℕ) (nodes : List Home) (ps : List PartState) (m : Member) (ks : List TypeSettings) → AreLaidOut per nodes ps → m.boot ≡ suc (length nodes) → AreLaidOut per (nodes ++ home_of m ∷ []) (ps ++ new_parts m ks 0 per)
boot_laid per nodes ps m ks laid boot =
    let same : m.boot ≡ 1 + length nodes = omega arith in
    let own : m ≡ booted_at (home_of m) (1 + length nodes) = (λ i. record { space = m.space; node = m.node; boot = same i }) in
    record {
      many = laid.many;
      few = laid.few;
      laid = tags-boot per 1 nodes (home_of m) ps (new_parts m ks 0 per) laid.laid (new_tags m ks 0 per ∙ ap (λ (z : Member). member_tags z 0 per) own);
      sound = λ p i. elim (In-append ps (new_parts m ks 0 per) p i) [ inl j ↦ laid.sound p j | inr j ↦ new_sound m ks 0 per p j ];
    }

-- ---- depths

shallow_or : (found : TypeSettings) (ts : List TypeSettings) (kind : List ℕ) → found.depth ≤ greatest_depth → AreShallow ts → (settings_or found ts kind).depth ≤ greatest_depth
shallow_or found [] kind f a = f
shallow_or found (t ∷ ts) kind f a =
    shallow_or (if bytes_eq t.kind kind then t else found) ts kind
    (cond_both (bytes_eq t.kind kind) _ _ (λ (s : TypeSettings). s.depth ≤ greatest_depth) (λ _. All-head (λ (s : TypeSettings). s.depth ≤ greatest_depth) t ts a) (λ _. f))
    (All-tail (λ (s : TypeSettings). s.depth ≤ greatest_depth) t ts a)

-- the types of a boot line have depths in range
pub shallow_for : (s : WorldSettings) (kinds : List (List ℕ)) → AreShallow s.kinds → AreShallow (settings_for s kinds)
shallow_for s [] a k d l = absurd (omega arith)
shallow_for s (kind ∷ kinds) a zero d l = shallow_or (unnamed_settings s kind) s.kinds kind (omega arith) a
shallow_for s (kind ∷ kinds) a (suc k) d l = shallow_for s kinds a k d (omega arith)
