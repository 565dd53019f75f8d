-- What a host hands out and takes back, one after the other.
use Rattle.std.proofs.Common.{◌≡◌, List, [], ◌++◌, Option, None, Some, sym, ◌∙◌, ap, append_assoc, append-nil}
use Rattle.std.specs.Prelude.{option_map}
use Rattle.disk_model.specs.Disk.{DiskState}
use Rattle.server_ports.specs.Hosts.{Opened, Handed, nothing_handed, handed_on, Hands}

pub handed_twice : (h u v : Handed) → handed_on (handed_on h u) v ≡ handed_on h (handed_on u v)
handed_twice h u v =
    ap (λ (xs : List Opened). let r : Handed = record { opened = xs; returned = (h.returned ++ u.returned) ++ v.returned } in r) (append_assoc h.opened u.opened v.opened)
    ∙ ap (λ (xs : List (Option DiskState)). let r : Handed = record { opened = h.opened ++ (u.opened ++ v.opened); returned = xs } in r) (append_assoc h.returned u.returned v.returned)

pub handed_none : (h : Handed) → handed_on h nothing_handed ≡ h
handed_none h =
    ap (λ (xs : List Opened). let r : Handed = record { opened = xs; returned = h.returned ++ [] } in r) (append-nil h.opened)
    ∙ ap (λ (xs : List (Option DiskState)). let r : Handed = record { opened = h.opened; returned = xs } in r) (append-nil h.returned)

-- nothing was given out or given back
pub hands_nothing : (before after : Option Handed) → after ≡ before → Hands before nothing_handed after
hands_nothing None after is = is
hands_nothing (Some h) after is = is ∙ ap (λ (x : Handed). let o : Option Handed = Some x in o) (sym (handed_none h))

-- two calls, one after the other
pub hands_both : (before mid after : Option Handed) (u v : Handed) → Hands before u mid → Hands mid v after → Hands before (handed_on u v) after
hands_both None mid after u v first second = second ∙ ap (λ (m : Option Handed). option_map (λ h. handed_on h v) m) first
hands_both (Some h) mid after u v first second =
    second ∙ ap (λ (m : Option Handed). option_map (λ h. handed_on h v) m) first ∙ ap (λ (x : Handed). let o : Option Handed = Some x in o) (handed_twice h u v)
