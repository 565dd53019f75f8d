-- The text that tells an owner is read as that owner.
use Rattle.std.proofs.Common.{◌≡◌, ◌∙◌, ℕ, ◌^◌, ◌<◌, ◌≤◌, List, [], ◌∷◌, ◌++◌, append_assoc, arith, lit<, Some, None, Ok, refl, ap}
use Rattle.std.specs.Prelude.{decimal}
use Rattle.std.specs.Result.{result_ok}
use Rattle.lists_and_limits.proofs.DecimalTexts.{number_of-decimal}
use Rattle.actor_names.specs.declared.address.Address.{Address}
use Rattle.actor_names.specs.Names.{app_id_fault}
use Rattle.actor_names.specs.Addresses.{address_reading}
use Rattle.actor_names.specs.Forms.{AddressText}
use Rattle.place_table.specs.declared.host.HostInfo.{HostInfo}
use Rattle.call_names.specs.Texts.{address_text, member_text}
use Rattle.call_names.proofs.AddressTexts.{address_form}
use Rattle.call_names.proofs.CallTexts.{HasNoSpace, decimal_no_space, node_no_space, cut_at, behind, member_form, member_no_space, ReadsMembers, member_read}
use Rattle.actors_api.specs.Owners.{owner_text}
use Rattle.app_texts.specs.PeerReplies.{app_in, address_in, version_in, owner_of, owner_reading}
use Rattle.actor_calls.specs.PeerReads.{IsTellable, told_owner}

abbrev pub ReadsAddresses : Type 0
ReadsAddresses = (x : Address) (text : List ℕ) → AddressText x text → address_reading text ≡ Ok x

app_read : (app : List ℕ) → app_id_fault app ≡ None → app_in app ≡ Some app
app_read app is = rw is refl

address_read : (a : Address) (text : List ℕ) → ReadsAddresses → AddressText a text → address_in text ≡ Some a
address_read a text reads form = ap result_ok (reads a text form)

version_read : (version : ℕ) → version ≤ 2 ^ 62 → version_in (decimal version) ≡ Some version
version_read version high = let big : 2 ^ 62 < 2 ^ 64 = lit< tt in number_of-decimal (2 ^ 62) version high (omega arith)

owner_parts : (version : ℕ) (owner : HostInfo) → ReadsMembers → ReadsAddresses → IsTellable version owner
    → owner_of (decimal version) (member_text owner.member) owner.app (address_text owner.address) ≡ Some (version, told_owner owner)
owner_parts version owner members addresses t =
    let m = member_read owner.member (member_text owner.member) members (member_form owner.member t.space t.node t.boot_counts t.boot_fits) in
    let a = app_read owner.app t.app in
    let d = address_read owner.address (address_text owner.address) addresses (address_form owner.address t.ip_fits t.port_fits) in
    let v = version_read version t.version_fits in
    rw (v, m, a, d) refl

-- the four texts, each behind a space
spaced : (v m app a : List ℕ) → (((((v ++ (32 ∷ [])) ++ m) ++ (32 ∷ [])) ++ app) ++ (32 ∷ [])) ++ a ≡ v ++ (32 ∷ (m ++ (32 ∷ (app ++ (32 ∷ a)))))
spaced v m app a =
    append_assoc ((((v ++ (32 ∷ [])) ++ m) ++ (32 ∷ [])) ++ app) (32 ∷ []) a
    ∙ behind ((v ++ (32 ∷ [])) ++ m) 32 app (32 ∷ a)
    ∙ behind v 32 m (32 ∷ (app ++ (32 ∷ a)))

texts_read : (v m app a : List ℕ) → HasNoSpace v → HasNoSpace m → HasNoSpace app → owner_reading (v ++ (32 ∷ (m ++ (32 ∷ (app ++ (32 ∷ a)))))) ≡ owner_of v m app a
unfolding owner_reading
texts_read v m app a in_v in_m in_app = rw (cut_at v (m ++ (32 ∷ (app ++ (32 ∷ a)))) in_v, cut_at m (app ++ (32 ∷ a)) in_m, cut_at app a in_app) refl

pub owner_read : (version : ℕ) (owner : HostInfo) → ReadsMembers → ReadsAddresses → IsTellable version owner → owner_reading (owner_text version owner) ≡ Some (version, told_owner owner)
owner_read version owner members addresses t =
    let v = decimal version in
    let m = member_text owner.member in
    let a = address_text owner.address in
    let big : 2 ^ 62 < 2 ^ 64 = lit< tt in
    let low = t.version_fits in
    ap owner_reading (spaced v m owner.app a)
    ∙ texts_read v m owner.app a (decimal_no_space version (omega arith)) (member_no_space owner.member t.space t.node t.boot_fits) (node_no_space owner.app t.app)
    ∙ owner_parts version owner members addresses t
