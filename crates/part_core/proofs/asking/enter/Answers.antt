use Rattle.std.specs.Prelude.{if◌then◌else◌}
use Rattle.std.proofs.Common.{◌≡◌, Bool, false, sym, ap, ◌∙◌, refl}
use Rattle.std.proofs.lemmas.Bool.{cond-true, cond-false}
use Rattle.std.specs.Option.{option_copied}
use Rattle.turn_core.specs.Cell.{is_open_chain}
use Rattle.part_model.specs.declared.stage.Stage.{Stage}
use Rattle.part_model.specs.declared.stage.Stage.TheVariants.{Locked, Updated, Open, Stopped}
use Rattle.part_core.specs.Actors.{state_of}
use Rattle.part_model.specs.Part.{PartState, PartStep, is_open, ask_cell, ask_owned, ask_here, ring_owner}
use Rattle.part_core.proofs.AskedGives.{entered_by}
use Rattle.part_core.proofs.asking.enter.Goals as goal

not_open : (s : Stage) → (s ≡ Open → ⊥) → is_open s ≡ false
not_open Locked n = refl
not_open Updated n = refl
not_open Open n = absurd (n refl)
not_open Stopped n = refl

pub returns-then-carries : goal.returns-then-carries
returns-then-carries c = λ a full. cond-true (is_open_chain c.args.cell.now.inner (option_copied c.args.chain)) _ _ (sym c.carries.ensures ∙ c.if-carries.true)

pub returns-in-Open : goal.returns-in-Open
returns-in-Open c =
    let s = c.args.standing.now in
    let cell = c.args.cell.now in
    let chain = option_copied c.args.chain in
    let off : is_open_chain cell.inner chain ≡ false = sym c.carries.ensures ∙ c.if-carries.false in
    let outer : Bool → PartState → PartStep = λ full p. ask_here ring_owner full p cell chain in
    let step : Bool → PartState → PartStep = λ full p. ask_owned full p cell chain (ring_owner s.table cell.key) in
    entered_by s cell chain outer step c.enter_owned.result
    (λ a full.
    cond-false (is_open_chain cell.inner chain) (ask_cell full (state_of s a) cell chain false) (if is_open s.stage then step full (state_of s a) else ask_cell full (state_of s a) cell chain false) off
    ∙ cond-true (is_open s.stage) (step full (state_of s a)) (ask_cell full (state_of s a) cell chain false) (ap is_open c.in-Open.is))
    (c.enter_owned.ensures chain)

pub returns-in_default : goal.returns-in_default
returns-in_default c =
    let off : is_open_chain c.args.cell.now.inner (option_copied c.args.chain) ≡ false = sym c.carries.ensures ∙ c.if-carries.false in
    λ a full. cond-false (is_open_chain c.args.cell.now.inner (option_copied c.args.chain)) _ _ off ∙ cond-false (is_open c.args.standing.now.stage) _ _ (not_open c.args.standing.now.stage c.in_default.not-Open)
