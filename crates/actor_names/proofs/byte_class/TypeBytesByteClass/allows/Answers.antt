-- The table is compared with the class at each of the 256 bytes, by computation.
use Rattle.std.proofs.Common.{not, nat_eq, get_or, refl, arith}
use Rattle.std.proofs.lemmas.Bool.{agree_below_at}
use Rattle.actor_names.specs.Names.{is_type_byte}
use Rattle.actor_names.specs.declared.byte_class.TheConstants.{TYPE_BYTES}
use Rattle.actor_names.proofs.byte_class.TypeBytesByteClass.allows.Goals as goal

pub returns : goal.returns
returns c = agree_below_at (λ k. not (nat_eq (get_or TYPE_BYTES k 0) 44)) is_type_byte 256 c.args.byte refl (omega arith)
