-- Names, members, actors and hosts are read as they are spelled.
use Rattle.std.proofs.Common.{◌≡◌, ℕ, Bool, true, false, List, [], ◌∷◌, ◌++◌, Option, Some, None, option_map, Ok, refl, sym, ◌∙◌}
use Rattle.std.specs.Prelude.{◌==◌}
use Rattle.std.proofs.lemmas.Bool.{eqb-true}
use Rattle.actor_names.specs.declared.member.Member.{Member}
use Rattle.place_table.specs.declared.host.HostInfo.{HostInfo}
use Rattle.place_table.specs.declared.ack_stage.AckStage.{AckStage}
use Rattle.place_table.specs.declared.ack_stage.AckStage.TheVariants as stages
use Rattle.wire_fields.specs.Fields.{byte, number16, number32, number64, nothing, in_any_order, row_of}
use Rattle.wire_fields.specs.Parts.{space_name, node_name, app_name, type_name, id_name, record_name, counter, boot, fixed, small, flag_tag, flag_rows, flag, node_place, member_parts, member_of, member, actor_parts, actor_of, actor, types, host_app, host_parts, host_of, host, place_follows, member_after, host_after, host_member, host_behind, hosts, stage_tag, stage_rows, stage}
use Rattle.wire_fields.proofs.FieldLaws.{IsField, byte_law, number16_law, number32_law, number64_law, nothing_law, both_law, seen_law, only_law, sized_law, counted_law, maybe_law, row_takes, AllTake, RowsAgain, rows_take, tagged_law}

pub space_name_law : IsField space_name
unfolding space_name
space_name_law = only_law _ (sized_law byte_law)

pub node_name_law : IsField node_name
unfolding node_name
node_name_law = only_law _ (sized_law byte_law)

pub app_name_law : IsField app_name
unfolding app_name
app_name_law = only_law _ (sized_law byte_law)

pub type_name_law : IsField type_name
unfolding type_name
type_name_law = only_law _ (sized_law byte_law)

pub id_name_law : IsField id_name
unfolding id_name
id_name_law = only_law _ (sized_law byte_law)

pub record_name_law : IsField record_name
unfolding record_name
record_name_law = only_law _ (sized_law byte_law)

pub counter_law : IsField counter
unfolding counter
counter_law = only_law _ number64_law

pub boot_law : IsField boot
unfolding boot
boot_law = only_law _ number64_law

pub fixed_law : (n : ℕ) → IsField (fixed n)
fixed_law n = seen_law (λ u. n) (λ m. tt) (only_law (λ m. m == n) number64_law) (λ m h. sym (eqb-true m n h.1)) (λ u. refl)

pub small_law : IsField small
unfolding small
small_law = only_law _ number64_law

flag_again : RowsAgain flag_tag (λ b. []) (λ b. Unit {0}) (row_of flag_rows)
flag_again false rest h = refl
flag_again true rest h = refl

flag_takes : AllTake flag_tag (λ b. []) (λ b. Unit {0}) flag_rows
flag_takes = (
  row_takes flag_tag (λ b. []) (λ b. Unit {0}) 0 (λ u. false) nothing_law (λ u. refl) (λ u. refl) (λ u h. tt),
  (row_takes flag_tag (λ b. []) (λ b. Unit {0}) 1 (λ u. true) nothing_law (λ u. refl) (λ u. refl) (λ u h. tt), tt),
)

pub flag_law : IsField flag
unfolding flag
flag_law = tagged_law flag_tag (λ b. []) (λ b. Unit {0}) (row_of flag_rows) (rows_take flag_tag (λ b. []) (λ b. Unit {0}) flag_rows flag_takes) flag_again

pub node_place_law : IsField node_place
unfolding node_place
node_place_law = both_law space_name_law node_name_law

pub member_law : IsField member
unfolding member
member_law = seen_law member_parts member_of (both_law node_place_law boot_law) (λ p h. refl) (λ m. refl)

pub actor_law : IsField actor
unfolding actor
actor_law = seen_law actor_parts actor_of (both_law space_name_law (both_law type_name_law id_name_law)) (λ p h. refl) (λ a. refl)

pub types_law : IsField types
unfolding types
types_law = counted_law (only_law _ byte_law) (λ b. type_name_law) (λ b a. refl)

host_app_law : IsField host_app
unfolding host_app
host_app_law = both_law app_name_law (both_law number32_law (both_law number16_law types_law))

pub host_law : IsField host
unfolding host
host_law = seen_law host_parts host_of (both_law member_law host_app_law) (λ p h. refl) (λ h. refl)

-- ---- hosts, each behind another one

member_after_law : (before : Option Member) → IsField (member_after before)
unfolding member_after
member_after_law before = seen_law member_parts member_of (both_law (only_law (place_follows before) node_place_law) boot_law) (λ p h. refl) (λ m. refl)

host_after_law : (before : Option Member) → IsField (host_after before)
unfolding host_after
host_after_law before = seen_law host_parts host_of (both_law (member_after_law before) host_app_law) (λ p h. refl) (λ h. refl)

pub host_after-spell : (before : Option Member) (h : HostInfo) → (host_after before).spell h ≡ host.spell h
unfolding host_after member_after host member
host_after-spell before h = refl

pub host_from_after : (before : Option Member) (h : HostInfo) → (host_after before).Fits h → host.Fits h
unfolding host_after member_after host member
host_from_after before h fits = ((fits.0.0.0, fits.0.1), fits.1)

pub hosts_law : IsField hosts
unfolding hosts
hosts_law = counted_law (only_law _ number16_law) (λ b. host_after_law (option_map host_member b)) (λ b h. host_after-spell (option_map host_member b) h ∙ sym (host_after-spell None h))

stage_again : RowsAgain stage_tag (λ s. []) (λ s. Unit {0}) (row_of stage_rows)
stage_again stages.Lock rest h = refl
stage_again stages.Update rest h = refl
stage_again stages.Unlock rest h = refl

stage_takes : AllTake stage_tag (λ s. []) (λ s. Unit {0}) stage_rows
stage_takes = (
  row_takes stage_tag (λ s. []) (λ s. Unit {0}) 1 (λ u. stages.Lock) nothing_law (λ u. refl) (λ u. refl) (λ u h. tt),
  (
    row_takes stage_tag (λ s. []) (λ s. Unit {0}) 2 (λ u. stages.Update) nothing_law (λ u. refl) (λ u. refl) (λ u h. tt),
    (row_takes stage_tag (λ s. []) (λ s. Unit {0}) 3 (λ u. stages.Unlock) nothing_law (λ u. refl) (λ u. refl) (λ u h. tt), tt),
  ),
)

pub stage_law : IsField stage
unfolding stage
stage_law = tagged_law stage_tag (λ s. []) (λ s. Unit {0}) (row_of stage_rows) (rows_take stage_tag (λ s. []) (λ s. Unit {0}) stage_rows stage_takes) stage_again
