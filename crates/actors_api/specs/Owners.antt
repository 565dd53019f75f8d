-- How a peer is told the owner of an actor: `VERSION MEMBER APP ADDRESS`. Own.
use Rattle.std.specs.Prelude.{ℕ, List, ◌++◌, codes, decimal}
use Rattle.place_table.specs.declared.host.HostInfo.{HostInfo}
use Rattle.call_names.specs.Texts.{address_text, member_text}

-- the version of the table, and the host by its member, application and address
abbrev pub owner_text : ℕ → HostInfo → List ℕ
owner_text version host = decimal version ++ codes " " ++ member_text host.member ++ codes " " ++ host.app ++ codes " " ++ address_text host.address
