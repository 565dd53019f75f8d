-- Names, lists of types and hosts that fit the fields of frames.
use Rattle.std.proofs.Common.{◌≡◌, ◌<◌, ◌≤◌, ℕ, Bool, List, [], ◌∷◌, ◌++◌, length, Option, Some, None, is_none, map, take, get_or, ◌+◌, ◌∙◌, sym, ap, subst, arith}
use Rattle.std.proofs.lemmas.Bool.{le-leb}
use Rattle.std.proofs.lemmas.List.{length-map, length-take, map_more}
use Rattle.actor_names.specs.declared.error.NameError.{NameError}
use Rattle.actor_names.specs.Names.{HasForm, is_node_byte, is_type_byte, text_fault, space_fault, node_fault, app_id_fault, actor_type_fault}
use Rattle.actor_names.specs.NameLengths.{most-text_fault}
use Rattle.place_table.specs.declared.host.HostInfo.{HostInfo}
use Rattle.part_model.specs.declared.settings.TypeSettings.{TypeSettings}
use Rattle.wire_fields.specs.Fields.{Field, byte, number16, number32, in_any_order, AllFit}
use Rattle.wire_fields.specs.Parts.{named, space_name, node_name, app_name, type_name, node_place, boot, member, types, host_app, host}
use Rattle.frame_wire.specs.declared.frame.Frame.TheVariants as frames
use Rattle.frame_wire.specs.Frames.{payload}
use Rattle.sidecar_start.specs.Starting.{kind_in}

-- a name of at most 64 bytes
name_fits : (ok : ℕ → Bool) (name : List ℕ) → HasForm (text_fault ok 64) name → (named (text_fault ok 64)).Fits name
unfolding HasForm byte
name_fits ok name form =
    let short : length name ≤ 64 = most-text_fault ok 64 name form in
    let fits : length name < 256 = omega arith in
    (fits, ap (λ (o : Option NameError). is_none o) form)

pub place_fits : (space node : List ℕ) → HasForm space_fault space → HasForm node_fault node → node_place.Fits (space, node)
unfolding node_place space_name node_name
place_fits space node a b = (name_fits is_node_byte space a, name_fits is_node_byte node b)

pub app_fits : (app : List ℕ) → HasForm app_id_fault app → app_name.Fits app
unfolding app_name
app_fits app form = name_fits is_node_byte app form

pub type_fits : (kind : List ℕ) → HasForm actor_type_fault kind → type_name.Fits kind
unfolding type_name
type_fits kind form = name_fits is_type_byte kind form

-- one more value fits, whatever is before it
pub fits_then : {A : Type 0} (f : Field A) (before : Option A) (xs : List A) (x : A) → AllFit (in_any_order f) before xs → f.Fits x → AllFit (in_any_order f) before (xs ++ x ∷ [])
fits_then f before [] x all fits = (fits, tt)
fits_then f before (y ∷ ys) x all fits = (all.0, fits_then f (Some y) ys x all.1 fits)

pub types_fit : (kinds : List (List ℕ)) → length kinds ≤ 32 → AllFit (in_any_order type_name) None kinds → types.Fits kinds
unfolding types byte
types_fit kinds few all = let fits : length kinds < 256 = omega arith in ((fits, le-leb (length kinds) 32 few), all)

-- ---- the types of settings

-- one more type
pub pushed_fits : (xs ys : List (List ℕ)) (kind x : List ℕ) → ys ≡ xs ++ x ∷ [] → x ≡ kind → type_name.Fits kind → AllFit (in_any_order type_name) None xs → AllFit (in_any_order type_name) None ys
pushed_fits xs ys kind x e is fits all =
    subst (λ (l : List (List ℕ)). AllFit (in_any_order type_name) None l) (sym e) (fits_then type_name None xs x all (subst (λ (k : List ℕ). type_name.Fits k) (sym is) fits))

pub pushed_kinds :
    (settings : List TypeSettings) (i : ℕ) (s : TypeSettings) (xs ys : List (List ℕ)) (x : List ℕ)
    → i < length settings → s ≡ get_or settings i s → xs ≡ map kind_in (take i settings) → ys ≡ xs ++ x ∷ [] → x ≡ s.kind → ys ≡ map kind_in (take (i + 1) settings)
pushed_kinds settings i s xs ys x lt at same e is =
    e ∙ ap (λ (l : List (List ℕ)). l ++ x ∷ []) same ∙ ap (λ (k : List ℕ). map kind_in (take i settings) ++ k ∷ []) (is ∙ ap kind_in at) ∙ sym (map_more kind_in settings i s lt)

pub kinds_fit :
    (list items : List (List ℕ)) (settings kinds : List TypeSettings) (i : ℕ)
    → list ≡ items → items ≡ map kind_in (take i settings) → settings ≡ kinds → length kinds ≤ 32 → AllFit (in_any_order type_name) None items → types.Fits list
kinds_fit list items settings kinds i is same all few fits =
    let a : length items ≡ length (take i settings) = ap (λ (l : List (List ℕ)). length l) same ∙ length-map (take i settings) kind_in in
    let b : length settings ≡ length kinds = ap (λ (l : List TypeSettings). length l) all in
    let short : length items ≤ 32 = omega (arith, length-take i settings) in
    subst (λ (l : List (List ℕ)). types.Fits l) (sym is) (types_fit items short fits)

-- ---- a host

pub host_fits : (h : HostInfo) → boot.Fits h.member.boot → types.Fits h.kinds → node_place.Fits (h.member.space, h.member.node) → app_name.Fits h.app → number32.Fits h.address.ip → number16.Fits h.address.port
    → payload.Fits (frames.Register h)
unfolding payload host member host_app
host_fits h drawn kinds place app ip port = ((place, drawn), (app, (ip, (port, kinds))))
