-- What holds of a disk's moments from call to call.
use Rattle.std.proofs.Common.{◌≡◌, ℕ, List, [], ◌∷◌, ◌++◌, refl, sym, ◌∙◌, ap, subst, append_assoc}
use Rattle.std.proofs.lemmas.List.{append-nil, same_from_push}
use Rattle.std.specs.List.{AllByRecursion}
use Rattle.disk_model.specs.Disk.{Instant, DiskState, moments, MayMake, MayLead, MayLeave, changed, flushed}
use Rattle.disk_model.specs.Crash.{LeavesOnly, IsDurable, Later, Since}
use Rattle.disk_model.specs.declared.change.Change.{Change}

abbrev pub Facts : Type 1
Facts = List ℕ → Type 0

all_append : {X : Type 0} (P : X → Type 0) (xs ys : List X) → AllByRecursion P xs → AllByRecursion P ys → AllByRecursion P (xs ++ ys)
all_append P [] ys all more = more
all_append P (x ∷ xs) ys all more = (all.0, all_append P xs ys all.1 more)

-- before any call
pub later_here : (P : Facts) (d : DiskState) → Later P d d
later_here P d = record { recent = []; grows = sym (append-nil (moments d)); each = tt }

-- one moment more, at which all that a crash may leave has P
pub later_more : (P : Facts) (d e f : DiskState) → Later P d e → moments f ≡ moments e ++ f.instant ∷ [] → LeavesOnly P f.instant → Later P d f
later_more P d e f so_far next leaves = record {
  recent = so_far.recent ++ f.instant ∷ [];
  grows = next ∙ ap (λ (l : List Instant). l ++ f.instant ∷ []) so_far.grows ∙ append_assoc (moments d) so_far.recent (f.instant ∷ []);
  each = all_append (LeavesOnly P) so_far.recent (f.instant ∷ []) so_far.each (leaves, tt);
}

pub later_changed : (P : Facts) (d e f : DiskState) (change : Change) (bytes : List ℕ) → Later P d e → f ≡ changed e change bytes → LeavesOnly P f.instant → Later P d f
later_changed P d e f change bytes so_far is leaves =
    later_more P d e f so_far (ap moments is ∙ ap (λ (i : Instant). moments e ++ i ∷ []) (sym (ap (λ (g : DiskState). g.instant) is))) leaves

pub later_flushed : (P : Facts) (d e f : DiskState) → Later P d e → f ≡ flushed e → LeavesOnly P f.instant → Later P d f
later_flushed P d e f so_far is leaves =
    later_more P d e f so_far (ap moments is ∙ ap (λ (i : Instant). moments e ++ i ∷ []) (sym (ap (λ (g : DiskState). g.instant) is))) leaves

-- two stretches, one after the other
pub later_then : (P : Facts) (d e f : DiskState) → Later P d e → Later P e f → Later P d f
later_then P d e f one two = record {
  recent = one.recent ++ two.recent;
  grows = two.grows ∙ ap (λ (l : List Instant). l ++ two.recent) one.grows ∙ append_assoc (moments d) one.recent two.recent;
  each = all_append (LeavesOnly P) one.recent two.recent one.each two.each;
}

all_weaker : {X : Type 0} (P Q : X → Type 0) (xs : List X) → ((x : X) → P x → Q x) → AllByRecursion P xs → AllByRecursion Q xs
all_weaker P Q [] f all = tt
all_weaker P Q (x ∷ xs) f all = (f x all.0, all_weaker P Q xs f all.1)

pub later_weaker : (P Q : Facts) (d e : DiskState) → ((c : List ℕ) → P c → Q c) → Later P d e → Later Q d e
later_weaker P Q d e f so_far = record {
  recent = so_far.recent;
  grows = so_far.grows;
  each = all_weaker (LeavesOnly P) (LeavesOnly Q) so_far.recent (λ i leaves c image. f c (leaves c image)) so_far.each;
}

-- a crash of a durable disk leaves the bytes that it reads
pub leaves_durable : (P : Facts) (d : DiskState) → IsDurable d → P d.bytes → LeavesOnly P d.instant
leaves_durable P d durable here c image =
    let at : MayLeave (record { synced = d.bytes; pending = [] }) c = subst (λ (i : Instant). MayLeave i c) durable image in
    subst P (sym at) here

-- after one change of a durable disk, a crash leaves what the change may make of its bytes
pub leaves_change : (P : Facts) (d e : DiskState) (change : Change) (bytes : List ℕ) → IsDurable d → e ≡ changed d change bytes → ((c : List ℕ) → MayMake change d.bytes c → P c) → LeavesOnly P e.instant
leaves_change P d e change bytes durable is makes c image =
    let there : MayLeave (changed d change bytes).instant c = subst (λ (g : DiskState). MayLeave g.instant c) is image in
    let here : MayLead ([] ++ change ∷ []) d.bytes c = subst (λ (i : Instant). MayLead (i.pending ++ change ∷ []) i.synced c) durable there in
    makes c (subst (MayMake change d.bytes) (sym here.2) here.1)

pub flushed_durable : (d e : DiskState) → e ≡ flushed d → IsDurable e
flushed_durable d e is = ap (λ (g : DiskState). g.instant) is ∙ ap (λ (b : List ℕ). record { synced = b; pending = [] }) (sym (ap (λ (g : DiskState). g.bytes) is))

pub since_weaker : (P Q : Facts) (d e : DiskState) → ((c : List ℕ) → P c → Q c) → Since P d e → Since Q d e
since_weaker P Q d e f since = record { start = λ c image. f c (since.start c image); later = later_weaker P Q d e f since.later }

record LastOf (P : Instant → Type 0) (first : Instant) (rest : List Instant) : Type 0 where
  front : List Instant
  end : Instant
  is : first ∷ rest ≡ front ++ end ∷ []
  has : P end

last_of : (P : Instant → Type 0) (first : Instant) (rest : List Instant) → P first → AllByRecursion P rest → LastOf P first rest
last_of P first [] here all = record { front = []; end = first; is = refl; has = here }
last_of P first (next ∷ rest) here all =
    let more = last_of P next rest all.0 all.1 in
    record { front = first ∷ more.front; end = more.end; is = ap (λ (l : List Instant). first ∷ l) more.is; has = more.has }

-- this moment is one of those since an earlier one
pub since_now : (P : Facts) (d e : DiskState) → Since P d e → LeavesOnly P e.instant
since_now P d e since =
    let more = last_of (LeavesOnly P) d.instant since.later.recent since.start since.later.each in
    let same : e.past ++ e.instant ∷ [] ≡ (d.past ++ more.front) ++ more.end ∷ [] =
    since.later.grows ∙ append_assoc d.past (d.instant ∷ []) since.later.recent ∙ ap (λ (l : List Instant). d.past ++ l) more.is ∙ sym (append_assoc d.past more.front (more.end ∷ [])) in
    subst (LeavesOnly P) (sym (same_from_push e.past (d.past ++ more.front) e.instant more.end same).1) more.has
