-- Worked examples of the first form.
use Rattle.std.proofs.Common.{◌≡◌, ℕ, Bool, true, false, List, [], ◌∷◌, Option, Some, None, refl}
use Rattle.frame_wire.specs.declared.store_command.StoreCommand.TheVariants.{Boot}
use Rattle.frame_wire.specs.Kinds.{command_kind_of}
use Rattle.wire_fields.specs.Fields.{byte}
use Rattle.wire_fields.specs.Parts.{space_name, node_name, node_place}
use Rattle.store_payloads.specs.declared.payload.PayloadBody.TheVariants.{Command}
use Rattle.store_payloads.specs.Payloads.{payload_reading}
use Rattle.store_payloads.specs.FirstForm.{spaced, first_reading, is_first_form}

-- a boot of the node `a` at the moment 0, without a space
abbrev old_boot : List ℕ
old_boot = 0 ∷ 0 ∷ 0 ∷ 0 ∷ 0 ∷ 0 ∷ 0 ∷ 0 ∷ 32 ∷ 1 ∷ 97 ∷ []

boot_spaced : spaced old_boot ≡ Some (0 ∷ 0 ∷ 0 ∷ 0 ∷ 0 ∷ 0 ∷ 0 ∷ 0 ∷ 32 ∷ 7 ∷ 100 ∷ 101 ∷ 102 ∷ 97 ∷ 117 ∷ 108 ∷ 116 ∷ 1 ∷ 97 ∷ [])
unfolding spaced
boot_spaced = refl

-- a DeleteReminder of `r` of `t/i` under the number 2 of part 0 of `a/1`
abbrev old_delete : List ℕ
old_delete = 0 ∷ 0 ∷ 0 ∷ 0 ∷ 0 ∷ 0 ∷ 0 ∷ 5 ∷ 37 ∷ 1 ∷ 97 ∷ 0 ∷ 0 ∷ 0 ∷ 0 ∷ 0 ∷ 0 ∷ 0 ∷ 1 ∷ 0 ∷ 0 ∷ 0 ∷ 0 ∷ 0 ∷ 0 ∷ 0 ∷ 0 ∷ 2 ∷ 1 ∷ 116 ∷ 1 ∷ 105 ∷ 1 ∷ 114 ∷ []

delete_spaced :
    spaced old_delete
    ≡ Some (0 ∷ 0 ∷ 0 ∷ 0 ∷ 0 ∷ 0 ∷ 0 ∷ 5 ∷ 37 ∷ 7 ∷ 100 ∷ 101 ∷ 102 ∷ 97 ∷ 117 ∷ 108 ∷ 116 ∷ 1 ∷ 97 ∷ 0 ∷ 0 ∷ 0 ∷ 0 ∷ 0 ∷ 0 ∷ 0 ∷ 1 ∷ 0 ∷ 0 ∷ 0 ∷ 0 ∷ 0 ∷ 0 ∷ 0 ∷ 0 ∷ 2 ∷ 7 ∷ 100 ∷ 101 ∷ 102 ∷ 97 ∷ 117 ∷ 108 ∷ 116 ∷ 1 ∷ 116 ∷ 1 ∷ 105 ∷ 1 ∷ 114 ∷ [])
unfolding spaced
delete_spaced = refl

-- what the old boot says
boot_read : first_reading old_boot ≡ Some (record { now = 0; body = Command (Boot (100 ∷ 101 ∷ 102 ∷ 97 ∷ 117 ∷ 108 ∷ 116 ∷ []) (97 ∷ [])) })
unfolding spaced payload_reading command_kind_of node_place space_name node_name byte
boot_read = refl

boot_is_first : is_first_form (old_boot ∷ []) ≡ true
unfolding spaced payload_reading command_kind_of node_place space_name node_name byte
boot_is_first = refl
