-- The entries of a history of lists, each with its ask and its answer.
use Rattle.std.proofs.Common.{◌≡◌, inl, inr, List, [], ◌∷◌, ◌++◌, refl, sym, ◌∙◌, ap, subst}
use Rattle.std.specs.List.{AllByRecursion}
use Rattle.step_gate.specs.declared.view.HistoryEntry.{HistoryEntry}
use Rattle.step_gate.specs.History.{entry}
use Rattle.store_core.specs.Store.{StoreState}
use Rattle.fence_rows.specs.declared.event.FencedEvent.{FencedEvent}
use Rattle.fence_rows.specs.declared.event.FencedOutcome.{FencedOutcome}
use Rattle.fence_rows.specs.Runs.{FencedHistory, Runs}
use Rattle.fence_rows.specs.Together.{MayShare, SharesShort, SharedFits}
use Rattle.fence_rows.specs.Groups.{disk_failed, FlatOf}

abbrev pub Single : Type 0
Single = HistoryEntry FencedEvent FencedOutcome

-- ---- entries as pairs

abbrev pub pairs_of : FencedHistory → List (FencedEvent × FencedOutcome)
pairs_of [] = []
pairs_of (e ∷ es) = (e.event, e.reply) ∷ pairs_of es

pub same_cons : {A : Type 0} (x y : A) (xs ys : List A) → x ≡ y → xs ≡ ys → x ∷ xs ≡ y ∷ ys
same_cons {A} x y xs ys first rest = ap (λ (z : A). z ∷ xs) first ∙ ap (λ (zs : List A). y ∷ zs) rest

-- ---- what is known of those that share syncs

abbrev pub MayBe : Single → Type 0
MayBe e = MayShare e.event × SharesShort e.event

abbrev pub FitsFrame : Single → Type 0
FitsFrame e = SharedFits e.reply

pub all_append : {A : Type 0} (P : A → Type 0) (xs ys : List A) → AllByRecursion P (xs ++ ys) → AllByRecursion P xs × AllByRecursion P ys
all_append P [] ys all = (tt, all)
all_append P (x ∷ xs) ys all = let rest = all_append P xs ys all.1 in ((all.0, rest.0), rest.1)

-- ---- lists of entries that are joined

pub flat_append : (es fs flat more : FencedHistory) → FlatOf es flat → FlatOf fs more → FlatOf (es ++ fs) (flat ++ more)
flat_append [] fs flat more is rest = subst (λ (l : FencedHistory). FlatOf fs (l ++ more)) (sym is) rest
flat_append (e ∷ es) fs flat more (inl out) rest = inl (out.0, flat_append es fs flat more out.1 rest)
flat_append (e ∷ es) fs flat more (inr kept) rest = inr (kept.0 ++ more, ap (λ (l : FencedHistory). l ++ more) kept.1, flat_append es fs kept.0 more kept.2 rest)

-- nothing is left out
pub flat_same : (es : FencedHistory) → FlatOf es es
flat_same [] = refl
flat_same (e ∷ es) = inr (es, refl, flat_same es)

pub runs_append : (old mid new : StoreState) (es fs : FencedHistory) → Runs old es mid → Runs mid fs new → Runs old (es ++ fs) new
runs_append old mid new [] fs is rest = subst (λ (s : StoreState). Runs s fs new) (sym is) rest
runs_append old mid new (e ∷ es) fs runs rest = (runs.0, runs.1, runs_append runs.0 mid new es fs runs.2 rest)

-- ---- a batch whose disk failed

abbrev pub failed_of : FencedHistory → FencedHistory
failed_of [] = []
failed_of (e ∷ es) = entry e.by e.event disk_failed ∷ failed_of es
