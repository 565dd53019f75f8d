-- What `==` says of two hosts.
use Rattle.std.proofs.Common.{◌≡◌, ℕ, Bool, true, false, ◌&&◌, ◌==◌, bytes_eq, refl, subst}
use Rattle.std.specs.Bool.{Decides}
use Rattle.std.specs.Cmp.Lexicographic.{pointwise}
use Rattle.std.proofs.lemmas.Bool.Decides.{Decides-eqb}
use Rattle.std.proofs.lemmas.Slice.Eq.{bytes_eq-Decides, slice_eq-Decides}
use Rattle.actor_names.specs.Same.{same_member}
use Rattle.place_table.specs.declared.host.HostInfo.{HostInfo}

-- all fields of two hosts are equal
abbrev pub same_host : HostInfo → HostInfo → Bool
same_host a b =
    same_member a.member b.member && (bytes_eq a.app b.app && (((a.address.ip == b.address.ip) && (a.address.port == b.address.port)) && pointwise bytes_eq a.kinds b.kinds))

both : (a b : Bool) → (a && b) ≡ true → (a ≡ true) × (b ≡ true)
both true b is = (refl, is)
both false b is = cc

same_host-true : (a b : HostInfo) → same_host a b ≡ true → a ≡ b
same_host-true a b is =
    let all = both _ _ is in
    let member = both _ _ all.0 in
    let later = both _ _ member.1 in
    let rest = both _ _ all.1 in
    let others = both _ _ rest.1 in
    let address = both _ _ others.0 in
    let space = (bytes_eq-Decides a.member.space b.member.space).0 member.0 in
    let node = (bytes_eq-Decides a.member.node b.member.node).0 later.0 in
    let boot = (Decides-eqb a.member.boot b.member.boot).0 later.1 in
    let app = (bytes_eq-Decides a.app b.app).0 rest.0 in
    let ip = (Decides-eqb a.address.ip b.address.ip).0 address.0 in
    let port = (Decides-eqb a.address.port b.address.port).0 address.1 in
    let kinds = (slice_eq-Decides bytes_eq-Decides a.kinds b.kinds (pointwise bytes_eq a.kinds b.kinds) refl).0 others.1 in
    λ i. record {
      member = record { space = space i; node = node i; boot = boot i };
      app = app i;
      address = record { ip = ip i; port = port i };
      kinds = kinds i;
    }

itself : (a : HostInfo) → same_host a a ≡ true
itself a =
    rw (
      (bytes_eq-Decides a.member.space a.member.space).1 refl,
      (bytes_eq-Decides a.member.node a.member.node).1 refl,
      (Decides-eqb a.member.boot a.member.boot).1 refl,
      (bytes_eq-Decides a.app a.app).1 refl,
      (Decides-eqb a.address.ip a.address.ip).1 refl,
      (Decides-eqb a.address.port a.address.port).1 refl,
      (slice_eq-Decides bytes_eq-Decides a.kinds a.kinds (pointwise bytes_eq a.kinds a.kinds) refl).1 refl,
    ) refl

-- it is true exactly if they are equal
pub same_host-Decides : (a b : HostInfo) → Decides (same_host a b) (a ≡ b)
same_host-Decides a b = (same_host-true a b, λ is. subst (λ (x : HostInfo). same_host a x ≡ true) is (itself a))
