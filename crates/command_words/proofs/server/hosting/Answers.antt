use Rattle.std.proofs.Common.{◌≡◌, Bool, true, false, codes, refl, rules}
use Rattle.command_words.specs.Options.{names_of, is_among}
use Rattle.command_words.proofs.server.hosting.Goals as goal

pub returns-clause-server : goal.returns-clause-server
returns-clause-server c given holds =
    let among = is_among (names_of given) (codes "new") in
    let flag : (b : Bool) → among ≡ b → c.get_flag.result ≡ b = λ b. elim b as (λ x. among ≡ x → c.get_flag.result ≡ x) [
      | true ↦ λ e. c.get_flag.ensures.value (rw e at (holds.1 (codes "new") refl))
      | false ↦ λ e. c.get_flag.ensures.other (rw e at (holds.1 (codes "new") refl))
    ] in
    rw (flag among refl) (search rules)

pub returns-clause-placement : goal.returns-clause-placement
returns-clause-placement c given holds =
    let among = is_among (names_of given) (codes "new") in
    let flag : (b : Bool) → among ≡ b → c.get_flag.result ≡ b = λ b. elim b as (λ x. among ≡ x → c.get_flag.result ≡ x) [
      | true ↦ λ e. c.get_flag.ensures.value (rw e at (holds.1 (codes "new") refl))
      | false ↦ λ e. c.get_flag.ensures.other (rw e at (holds.1 (codes "new") refl))
    ] in
    rw (flag among refl) (search rules)
