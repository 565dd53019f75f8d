-- What an opening of two files finds.
use Rattle.std.proofs.Common.{◌≡◌, ◌⊎◌, inl, inr, ℕ, ◌+◌, ◌≤◌, Bool, true, false, cond, List, length, Option, Some, None, Result, Ok, Err, refl, sym, ◌∙◌, ap, subst, arith}
use Rattle.std.specs.Prelude.{not, ◌&&◌, ◌||◌, nat_lt}
use Rattle.std.proofs.lemmas.Bool.Decides.{nat_tests}
use Rattle.actor_ports.specs.declared.port.PortError.{PortError}
use Rattle.actor_ports.specs.declared.port.PortError.TheVariants.{Failed, OutOfMemory as port_memory}
use Rattle.std.specs.List.{AllByRecursion}
use Rattle.disk_model.specs.Disk.{Instant, DiskState, Syncs, Tells}
use Rattle.disk_model.specs.Crash.{IsDurable, Later}
use Rattle.disk_model.proofs.Moments.{later_here, later_then, later_weaker}
use Rattle.disk_model.proofs.Stages.{Then, Both, tells_map, tells_both, tells_on, told_before, stage_synced, synced_bytes}
use Rattle.tx_journal.specs.declared.error.JournalError.{JournalError}
use Rattle.tx_journal.specs.declared.error.JournalError.TheVariants.{DiskFault, Damaged, TooLong, Full, Reopen, NotStarted, OneDisk, Spent, OutOfMemory}
use Rattle.tx_journal.specs.declared.format.Format.{Format}
use Rattle.tx_journal.specs.declared.format.Format.TheVariants.{Two}
use Rattle.tx_journal.specs.declared.kind.FileKind.{FileKind}
use Rattle.tx_journal.specs.declared.kind.FileKind.TheVariants.{Unmade, Other, Journal as Journal_}
use Rattle.tx_journal.specs.declared.survey.Seen.{Seen}
use Rattle.tx_journal.specs.File.{is_made, image, file_payloads, file_image}
use Rattle.tx_journal.specs.Pair.{Files, first_generation, file_generation, number, is_second_live, live_file}
use Rattle.tx_journal.specs.Journal.{IsSame, LooksLike, is_to_make, MayBeLeft, KeepsFile, OpensAs, Opens, Refuses}
use Rattle.tx_journal.specs.Compaction.{IsBehind, MayBeShut}
use Rattle.tx_journal.specs.Calls.{tell_both, is_making, FindsIn, OpensFiles, MayBeLeftIn, KeepsFiles, RefusesFiles}
use Rattle.tx_journal.specs.Seen.{Sees, is_made_kind, is_second_seen}
use Rattle.tx_journal.specs.Sound.{margin, Yields, Waits, IsLive}
use Rattle.tx_journal.specs.Found.{Synced, IsSynced, is_closed_seen, at_first}
use Rattle.tx_journal.proofs.Openings.{head_made, opened_stands}
use Rattle.tx_journal.proofs.Rests.{damaged}
use Rattle.tx_journal.proofs.Making.{shut_of}
use Rattle.tx_journal.proofs.Chosen.{rest_generation}
use Rattle.tx_journal.proofs.Lifts.{both_tell, holds_two}
use Rattle.tx_journal.proofs.Rowed.{both_of}

synced_done : {T : Type 0} (x : T) (d e : DiskState) → Syncs (Ok x) d e → Synced d e
synced_done x d e syncs = ((stage_synced (IsSame d.bytes) d e x syncs refl).later, synced_bytes x d e syncs)

pub synced_any : {T : Type 0} (r : Result T PortError) (d e : DiskState) → Syncs r d e → Synced d e
synced_any (Ok x) d e syncs = synced_done x d e syncs
synced_any (Err Failed) d e (inl same) = subst (Synced d) (sym same) (later_here (IsSame d.bytes) d, refl)
synced_any (Err Failed) d e (inr syncs) = synced_done {T = Unit {0}} tt d e syncs
synced_any (Err port_memory) d e same = subst (Synced d) (sym same) (later_here (IsSame d.bytes) d, refl)

-- a step, with a claim about the state reported after it
pub tells_with : {S : Type 0} (R : S → S → Type 0) (P : S → Type 0) (a b : Option S) → Tells R a b → ((e : S) → b ≡ Some e → P e) → Tells (λ d e. R d e × P e) a b
tells_with R P None b tells f = tells
tells_with R P (Some d) b tells f = (tells.0, tells.1, (tells.2, f tells.0 tells.1))

-- a file that was synced and looked at
pub record Ready (seen : Seen) (d e : DiskState) : Type 0 where
  pub synced : Synced d e
  pub durable : IsDurable e
  pub sees : Sees e seen

abbrev pair : DiskState → DiskState → Files
pair d e = record { first = d; second = Some e }

-- as long as nothing is written, a crash leaves the files as they are
same_left : (making : Bool) (d e : DiskState) (f g : List ℕ) → (making ≡ true → is_made d.bytes ≡ false) → f ≡ d.bytes → g ≡ e.bytes → MayBeLeftIn making d (Some e) f (Some g)
same_left true d e f g unmade one two = ((inl (ap is_made one ∙ unmade refl), λ room. omega (arith, ap length one, room)), two)
same_left false d e f g unmade one two = (one, two)

and_3 : (a b c : Bool) → (a && not b && not c) ≡ true → b ≡ false
and_3 true true c is = absurd (let e : false ≡ true = is in cc)
and_3 true false c is = refl
and_3 false b c is = absurd (let e : false ≡ true = is in cc)

making_unmade : (create : Bool) (d e : DiskState) → is_making create d (Some e) ≡ true → is_made d.bytes ≡ false
making_unmade create d e is = and_3 create (is_made d.bytes) (is_made e.bytes) is

keeps_same : (create : Bool) (d d_new e e_new : DiskState) → Later (IsSame d.bytes) d d_new → Later (IsSame e.bytes) e e_new → KeepsFiles create (pair d e) (pair d_new e_new)
keeps_same create d d_new e e_new one two =
    later_weaker (IsSame d.bytes) (λ f. Later (λ g. MayBeLeftIn (is_making create d (Some e)) d (Some e) f (Some g)) e e_new) d d_new
    (λ f is. later_weaker (IsSame e.bytes) (λ g. MayBeLeftIn (is_making create d (Some e)) d (Some e) f (Some g)) e e_new (λ g also. same_left (is_making create d (Some e)) d e f g (making_unmade create d e) is also) two) one

pub synced_keeps_both : (create : Bool) (a a_new b b_new : Option DiskState) → Tells Synced a a_new → Tells Synced b b_new → Tells (KeepsFiles create) (tell_both a b) (tell_both a_new b_new)
synced_keeps_both create a a_new b b_new one two = both_tell false (KeepsFiles create) Synced Synced a a_new b b_new one two (λ d d_new e e_new is1 is2 x y. keeps_same create d d_new e e_new x.0 y.0)

-- what is seen of the files is true of them
made_seen : (d : DiskState) (kind : FileKind) → LooksLike Two d kind → is_made d.bytes ≡ is_made_kind kind
made_seen d Unmade looks = looks
made_seen d Other looks = looks.0
made_seen d (Journal_ format) looks = head_made format d.bytes looks.0

second_is : (d e : DiskState) (a b : Seen) → Sees d a → Sees e b → is_second_live d.bytes e.bytes ≡ is_second_seen a b
second_is d e a b one two =
    ap (λ (x : Bool). x && (not (is_made d.bytes) || nat_lt (number (file_generation d.bytes)) (number (file_generation e.bytes)))) (made_seen e b.kind two.kind_is)
    ∙ ap (λ (x : Bool). is_made_kind b.kind && (not x || nat_lt (number (file_generation d.bytes)) (number (file_generation e.bytes)))) (made_seen d a.kind one.kind_is)
    ∙ ap (λ (x : Option ℕ). is_made_kind b.kind && (not (is_made_kind a.kind) || nat_lt (number x) (number (file_generation e.bytes)))) (sym one.generation_is)
    ∙ ap (λ (x : Option ℕ). is_made_kind b.kind && (not (is_made_kind a.kind) || nat_lt (number a.generation) (number x))) (sym two.generation_is)

and_left : (a b : Bool) → (a && b) ≡ true → a ≡ true
and_left true b both = refl
and_left false b both = absurd (let e : false ≡ true = both in cc)

second_made : (a b : Seen) → is_second_seen a b ≡ true → is_made_kind b.kind ≡ true
second_made a b is = and_left (is_made_kind b.kind) _ is

-- if the second isn't live and the first isn't made, neither is made
both_unmade : (a b c : Bool) → (a && (not b || c)) ≡ false → b ≡ false → a ≡ false
both_unmade true b c is unmade = absurd (let e : true ≡ false = ap (λ (x : Bool). not x || c) (sym unmade) ∙ is in cc)
both_unmade false b c is unmade = refl

to_make_made : (create : Bool) (bytes : List ℕ) → is_made bytes ≡ true → is_to_make create bytes ≡ false
to_make_made create bytes made = ap (λ (b : Bool). create && not b) made ∙ and_false create
  where
    and_false : (b : Bool) → (b && false) ≡ false
    and_false true = refl
    and_false false = refl

making_made : (create m n : Bool) → n ≡ true → (create && not m && not n) ≡ false
making_made create m n is = ap (λ (x : Bool). create && not m && not x) is ∙ go create m
  where
    go : (a b : Bool) → (a && not b && false) ≡ false
    go true true = refl
    go true false = refl
    go false b = refl

making_one : (create m n : Bool) → (m ≡ false → n ≡ false) → (create && not m && not n) ≡ (create && not m)
making_one create true n other = go create
  where
    go : (a : Bool) → (a && false && not n) ≡ (a && false)
    go true = refl
    go false = refl
making_one create false n other = ap (λ (x : Bool). create && true && not x) (other refl) ∙ go create
  where
    go : (a : Bool) → (a && true && true) ≡ (a && true)
    go true = refl
    go false = refl

-- the second file is the live one
module _ (a b : Seen) (create : Bool) (newer : is_second_seen a b ≡ true) (d d_new e e_one : DiskState) (one : Ready a d d_new) (two : Ready b e e_one) where
  made : is_made e_one.bytes ≡ true
  made = made_seen e_one b.kind two.sees.kind_is ∙ second_made a b newer

  made_first : is_made e.bytes ≡ true
  made_first = ap is_made (sym two.synced.1) ∙ made

  live_is : live_file d.bytes e.bytes ≡ e.bytes
  live_is =
      let is : is_second_live d.bytes e.bytes ≡ true = ap (λ (l : List ℕ). is_second_live l e.bytes) (sym one.synced.1) ∙ ap (is_second_live d_new.bytes) (sym two.synced.1) ∙ second_is d_new e_one a b one.sees two.sees ∙ newer in
      ap (λ (x : Bool). cond x e.bytes d.bytes) is

  pub second_keeps : (e_new : DiskState) → KeepsFile Two create e_one e_new → KeepsFiles create (pair d e) (pair d_new e_new)
  second_keeps e_new keeps =
      let same = subst (λ (x : Bool). Later (MayBeLeft Two x e_one.bytes) e_one e_new) (to_make_made create e_one.bytes made) keeps in
      keeps_same create d d_new e e_new one.synced.0 (later_then (IsSame e.bytes) e e_one e_new two.synced.0 (later_weaker (IsSame e_one.bytes) (IsSame e.bytes) e_one e_new (λ g is. is ∙ two.synced.1) same))

  pub second_refuses : (x : JournalError) → Refuses Two create x e_one → RefusesFiles create x (pair d e)
  second_refuses DiskFault refuses = tt
  second_refuses (Damaged offset) refuses = (making_made create (is_made d.bytes) (is_made e.bytes) made_first, damaged Two (live_file d.bytes e.bytes) offset (ap (file_payloads Two) (live_is ∙ sym two.synced.1) ∙ refuses.1))
  second_refuses (TooLong n) refuses = refuses
  second_refuses (Full len) refuses = (refuses.0 ∙ ap length (two.synced.1 ∙ sym live_is), refuses.1)
  second_refuses Reopen refuses = refuses
  second_refuses NotStarted refuses = refuses
  second_refuses OneDisk refuses = refuses
  second_refuses (Spent count) refuses = refuses
  second_refuses OutOfMemory refuses = tt

-- the file that isn't live, from what was seen of it
pub waits_seen : (s : Bool) (generation : Option ℕ) (seen : Seen) (d : DiskState) → Sees d seen → IsDurable d → (is_made_kind seen.kind ≡ true → number seen.generation + margin s ≤ number generation) → Waits s generation (is_closed_seen seen) None d
waits_seen s generation seen d sees durable older = go (is_closed_seen seen) refl
  where
    shut_kind : (m n : Bool) → (not m && n) ≡ true → (m ≡ false) × (n ≡ true)
    shut_kind true n is = absurd (let e : false ≡ true = is in cc)
    shut_kind false n is = (refl, is)

    open_kind : (m n : Bool) → (not m && n) ≡ false → (m ≡ true) ⊎ (n ≡ false)
    open_kind true n is = inl refl
    open_kind false n is = inr is

    long_test : (n : ℕ) → nat_lt 1 n ≡ true → 2 ≤ n
    long_test n is = grind (arith, nat_tests)

    short_test : (n : ℕ) → nat_lt 1 n ≡ false → n ≤ 1
    short_test n is = grind (arith, nat_tests)

    made_is : is_made d.bytes ≡ is_made_kind seen.kind
    made_is = made_seen d seen.kind sees.kind_is

    may_shut : (is_made_kind seen.kind ≡ true) ⊎ (nat_lt 1 seen.len ≡ false) → MayBeShut d.bytes
    may_shut (inl made) = inl (made_is ∙ made)
    may_shut (inr short) = inr (omega (arith, short_test seen.len short, sees.len_is))

    yields : (m : Bool) → is_made_kind seen.kind ≡ m → Yields s (number generation) d.bytes
    yields true is = inr (omega (arith, older is, ap number sees.generation_is))
    yields false is = inl (made_is ∙ is)

    go : (b : Bool) → is_closed_seen seen ≡ b → Waits s generation b None d
    go true is =
        let both = shut_kind (is_made_kind seen.kind) (nat_lt 1 seen.len) is in
        let front = shut_of d.bytes (made_is ∙ both.0) (omega (arith, long_test seen.len both.1, sees.len_is)) in (
          record {
            gate = front.0;
            shut = front.2;
            synced = (front.1, ap (λ (i : Instant). i.synced) durable ∙ front.3);
            reads = (front.1, front.3);
            behind = subst (λ (i : Instant). AllByRecursion IsBehind i.pending) (sym durable) tt;
          },
          λ at none. absurd (let no : None ≡ Some at = none in cc),
        )
    go false is = (durable, yields (is_made_kind seen.kind) refl, may_shut (open_kind (is_made_kind seen.kind) (nat_lt 1 seen.len) is), refl)

-- the live file, from what was seen of it
pub seen_live : (seen : Seen) (create : Bool) (found : ℕ × Format) (d e : DiskState) → Sees d seen → Opens Two create found d e → IsLive Two found.1 seen.generation found.0 at_first e
seen_live seen create found d e sees opens = record {
  payloads = opens.1;
  settled = record { file = opens.3; durable = opens.4; gate = record { within = omega arith; place = refl } };
  numbered = λ two. go (is_to_make create d.bytes) refl opens.2;
}
  where
    unmade_of : (c m : Bool) → (c && not m) ≡ true → m ≡ false
    unmade_of true true is = absurd (let no : false ≡ true = is in cc)
    unmade_of true false is = refl
    unmade_of false m is = absurd (let no : false ≡ true = is in cc)

    none : (m k : Bool) (t : Option ℕ) → m ≡ false → cond (m && k) t None ≡ None
    none true k t is = absurd (let no : true ≡ false = is in cc)
    none false k t is = refl

    go : (b : Bool) → is_to_make create d.bytes ≡ b → OpensAs Two b d.bytes opens.1 → first_generation opens.1 ≡ seen.generation
    go true is as_ =
        ap first_generation as_ ∙ sym (none (is_made d.bytes) _ _ (unmade_of create (is_made d.bytes) is)) ∙ sym sees.generation_is
    go false is as_ = sym (rest_generation opens.1 found.0 e.bytes opens.3) ∙ ap file_generation (opens.0 is) ∙ sym sees.generation_is

newer_than : (a b : Seen) → is_second_seen a b ≡ true → is_made_kind a.kind ≡ true → number a.generation + 1 ≤ number b.generation
newer_than a b newer made =
    let test : (not (is_made_kind a.kind) || nat_lt (number a.generation) (number b.generation)) ≡ true = and_right (is_made_kind b.kind) _ newer in
    lt_of (number a.generation) (number b.generation) (ap (λ (x : Bool). not x || nat_lt (number a.generation) (number b.generation)) (sym made) ∙ test)
  where
    and_right : (x y : Bool) → (x && y) ≡ true → y ≡ true
    and_right true y both = both
    and_right false y both = absurd (let no : false ≡ true = both in cc)

    lt_of : (m n : ℕ) → nat_lt m n ≡ true → m + 1 ≤ n
    lt_of m n is = grind (arith, nat_tests)

not_newer : (a b : Seen) → is_second_seen a b ≡ false → is_made_kind b.kind ≡ true → number b.generation + 0 ≤ number a.generation
not_newer a b older made =
    le_of (is_made_kind a.kind) (number a.generation) (number b.generation) (ap (λ (x : Bool). x && (not (is_made_kind a.kind) || nat_lt (number a.generation) (number b.generation))) (sym made) ∙ older)
  where
    le_of : (x : Bool) (m n : ℕ) → (not x || nat_lt m n) ≡ false → n + 0 ≤ m
    le_of true m n is = grind (arith, nat_tests)
    le_of false m n is = absurd (let no : true ≡ false = is in cc)

pub second_waits : (a b : Seen) (d : DiskState) → is_second_seen a b ≡ true → Sees d a → IsDurable d → Waits true b.generation (is_closed_seen a) None d
second_waits a b d newer sees durable = waits_seen true b.generation a d sees durable (newer_than a b newer)

pub first_waits : (a b : Seen) (e : DiskState) → is_second_seen a b ≡ false → Sees e b → IsDurable e → Waits false a.generation (is_closed_seen b) None e
first_waits a b e older sees durable = waits_seen false a.generation b e sees durable (not_newer a b older)

second_opens : (a b : Seen) (create : Bool) (newer : is_second_seen a b ≡ true) (found : ℕ × Format) (d d_new e e_one e_new : DiskState) → Ready a d d_new → Ready b e e_one → Opens Two create found e_one e_new → OpensFiles create (pair d e) (pair d_new e_new)
unfolding seen_live live_is made_first made
second_opens a b create newer found d d_new e e_one e_new one two opens =
    let live = live_is a b create newer d d_new e e_one one two in
    let not_making = making_made create (is_made d.bytes) (is_made e.bytes) (made_first a b create newer d d_new e e_one one two) in
    let reads = opened_stands Two create found e_one e_new opens (to_make_made create e_one.bytes (made a b create newer d d_new e e_one one two)) in (
      image found.1 opens.1,
      subst (λ (x : Bool). FindsIn x (pair d e) (image found.1 opens.1)) (sym not_making) (ap (file_image Two) (live ∙ sym two.synced.1) ∙ reads),
      holds_two found.1 b.generation found.0 at_first e_new true (is_closed_seen a) None d_new (seen_live b create found e_one e_new two.sees opens) (second_waits a b d_new newer one.sees one.durable),
      omega (arith, opens.5, ap length live, ap length two.synced.1),
    )

-- the first file is the live one
module _ (a b : Seen) (create : Bool) (older : is_second_seen a b ≡ false) (d d_one e e_new : DiskState) (one : Ready a d d_one) (two : Ready b e e_new) where
  not_live : is_second_live d.bytes e.bytes ≡ false
  not_live = ap (λ (l : List ℕ). is_second_live l e.bytes) (sym one.synced.1) ∙ ap (is_second_live d_one.bytes) (sym two.synced.1) ∙ second_is d_one e_new a b one.sees two.sees ∙ older

  first_is : live_file d.bytes e.bytes ≡ d.bytes
  first_is = ap (λ (x : Bool). cond x e.bytes d.bytes) not_live

  making_is : is_making create d (Some e) ≡ is_to_make create d.bytes
  making_is = making_one create (is_made d.bytes) (is_made e.bytes) (both_unmade (is_made e.bytes) (is_made d.bytes) (nat_lt (number (file_generation d.bytes)) (number (file_generation e.bytes))) not_live)

  left_in : (x : Bool) (f g : List ℕ) → MayBeLeft Two x d.bytes f → g ≡ e.bytes → MayBeLeftIn x d (Some e) f (Some g)
  left_in true f g left same = (left, same)
  left_in false f g left same = (left, same)

  same_may : (x : Bool) (f : List ℕ) → is_to_make create d.bytes ≡ x → f ≡ d.bytes → MayBeLeft Two x d.bytes f
  same_may true f is same = (inl (ap is_made same ∙ unmade_of create (is_made d.bytes) is), λ room. omega (arith, ap length same, room))
    where
      unmade_of : (c m : Bool) → (c && not m) ≡ true → m ≡ false
      unmade_of true true is = absurd (let no : false ≡ true = is in cc)
      unmade_of true false is = refl
      unmade_of false m is = absurd (let no : false ≡ true = is in cc)
  same_may false f is same = same

  first_keeps : (d_new : DiskState) → KeepsFile Two create d_one d_new → KeepsFiles create (pair d e) (pair d_new e_new)
  first_keeps d_new keeps =
      let x = is_to_make create d.bytes in
      let A : List ℕ → Type 0 = MayBeLeft Two x d.bytes in
      let front = later_weaker (IsSame d.bytes) A d d_one (λ f same. same_may x f refl same) one.synced.0 in
      let rest = subst (λ (b : List ℕ). Later (MayBeLeft Two (is_to_make create b) b) d_one d_new) one.synced.1 keeps in
      subst (λ (y : Bool). Later (λ f. Later (λ g. MayBeLeftIn y d (Some e) f (Some g)) e e_new) d d_new) (sym making_is)
      (later_weaker A (λ f. Later (λ g. MayBeLeftIn x d (Some e) f (Some g)) e e_new) d d_new
      (λ f left. later_weaker (IsSame e.bytes) (λ g. MayBeLeftIn x d (Some e) f (Some g)) e e_new (λ g same. left_in x f g left same) two.synced.0)
      (later_then A d d_one d_new front rest))

  first_refuses : (x : JournalError) → Refuses Two create x d_one → RefusesFiles create x (pair d e)
  first_refuses DiskFault refuses = tt
  first_refuses (Damaged offset) refuses =
      (making_is ∙ ap (is_to_make create) (sym one.synced.1) ∙ refuses.0, damaged Two (live_file d.bytes e.bytes) offset (ap (file_payloads Two) (first_is ∙ sym one.synced.1) ∙ refuses.1))
  first_refuses (TooLong n) refuses = refuses
  first_refuses (Full len) refuses = (refuses.0 ∙ ap length (one.synced.1 ∙ sym first_is), refuses.1)
  first_refuses Reopen refuses = refuses
  first_refuses NotStarted refuses = refuses
  first_refuses OneDisk refuses = refuses
  first_refuses (Spent count) refuses = refuses
  first_refuses OutOfMemory refuses = tt

  finds_in : (found : ℕ × Format) (d_new : DiskState) (opens : Opens Two create found d_one d_new) (x : Bool) → is_to_make create d_one.bytes ≡ x → OpensAs Two x d_one.bytes opens.1 → FindsIn x (pair d e) (image found.1 opens.1)
  finds_in found d_new opens true is as_ = as_
  finds_in found d_new opens false is as_ = ap (file_image Two) (first_is ∙ sym one.synced.1) ∙ opened_stands Two create found d_one d_new opens is

  first_opens : (found : ℕ × Format) (d_new : DiskState) → Opens Two create found d_one d_new → OpensFiles create (pair d e) (pair d_new e_new)
  unfolding seen_live
  first_opens found d_new opens = (
    image found.1 opens.1,
    subst (λ (x : Bool). FindsIn x (pair d e) (image found.1 opens.1)) (ap (is_to_make create) one.synced.1 ∙ sym making_is) (finds_in found d_new opens (is_to_make create d_one.bytes) refl opens.2),
    holds_two found.1 a.generation found.0 at_first d_new false (is_closed_seen b) None e_new (seen_live a create found d_one d_new one.sees opens) (first_waits a b e_new older two.sees two.durable),
    omega (arith, opens.5, ap length first_is, ap length one.synced.1),
  )

-- the same for disks that may or may not report their states
module _ (a b : Seen) (create : Bool) (t t_new u u_new : Option DiskState) where
  pub told_second_keeps : is_second_seen a b ≡ true → Tells (Ready a) t t_new → Tells (Then (Ready b) (KeepsFile Two create)) u u_new → Tells (KeepsFiles create) (tell_both t u) (tell_both t_new u_new)
  told_second_keeps newer one two = both_tell false (KeepsFiles create) (Ready a) (Then (Ready b) (KeepsFile Two create)) t t_new u u_new one two
      (λ d d_new e e_new is1 is2 x y. second_keeps a b create newer d d_new e y.0 x y.1 e_new y.2)

  pub told_second_opens : (found : ℕ × Format) → is_second_seen a b ≡ true → Tells (Ready a) t t_new → Tells (Then (Ready b) (Opens Two create found)) u u_new → Tells (OpensFiles create) (tell_both t u) (tell_both t_new u_new)
  told_second_opens found newer one two = both_tell false (OpensFiles create) (Ready a) (Then (Ready b) (Opens Two create found)) t t_new u u_new one two
      (λ d d_new e e_new is1 is2 x y. second_opens a b create newer found d d_new e y.0 e_new x y.1 y.2)

  pub told_first_keeps : is_second_seen a b ≡ false → Tells (Then (Ready a) (KeepsFile Two create)) t t_new → Tells (Ready b) u u_new → Tells (KeepsFiles create) (tell_both t u) (tell_both t_new u_new)
  told_first_keeps older one two = both_tell false (KeepsFiles create) (Then (Ready a) (KeepsFile Two create)) (Ready b) t t_new u u_new one two
      (λ d d_new e e_new is1 is2 x y. first_keeps a b create older d x.0 e e_new x.1 y d_new x.2)

  pub told_first_opens : (found : ℕ × Format) → is_second_seen a b ≡ false → Tells (Then (Ready a) (Opens Two create found)) t t_new → Tells (Ready b) u u_new → Tells (OpensFiles create) (tell_both t u) (tell_both t_new u_new)
  told_first_opens found older one two = both_tell false (OpensFiles create) (Then (Ready a) (Opens Two create found)) (Ready b) t t_new u u_new one two
      (λ d d_new e e_new is1 is2 x y. first_opens a b create older d x.0 e e_new x.1 y found d_new x.2)

  pub told_second_refuses : (x : JournalError) → is_second_seen a b ≡ true → Tells (Ready a) t t_new → Tells (Ready b) u u_new → ((d : DiskState) → u_new ≡ Some d → Refuses Two create x d) → (files : Files) → tell_both t u ≡ Some files → RefusesFiles create x files
  told_second_refuses x newer one two refuses files is =
      let both = both_of t u files is in
      let first = tells_on (Ready a) t t_new both.0 one both.2 in
      let second = tells_on (Ready b) u u_new both.1 two both.3 in
      subst (RefusesFiles create x) (sym both.4) (second_refuses a b create newer both.0 first.0 both.1 second.0 first.2 second.2 x (refuses second.0 second.1))

  pub told_first_refuses : (x : JournalError) → is_second_seen a b ≡ false → Tells (Ready a) t t_new → Tells (Ready b) u u_new → ((d : DiskState) → t_new ≡ Some d → Refuses Two create x d) → (files : Files) → tell_both t u ≡ Some files → RefusesFiles create x files
  told_first_refuses x older one two refuses files is =
      let both = both_of t u files is in
      let first = tells_on (Ready a) t t_new both.0 one both.2 in
      let second = tells_on (Ready b) u u_new both.1 two both.3 in
      subst (RefusesFiles create x) (sym both.4) (first_refuses a b create older both.0 first.0 both.1 second.0 first.2 second.2 x (refuses first.0 first.1))

-- what was made has the second format
module _ (a b : Seen) (create : Bool) (format : Format) (t t_new u u_new : Option DiskState) where
  pub told_second_made : is_second_seen a b ≡ true → Tells (Ready a) t t_new → Tells (Ready b) u u_new → (files : Files) → tell_both t u ≡ Some files → is_making create files.first files.second ≡ true → format ≡ Two
  told_second_made newer one two files is making =
      let both = both_of t u files is in
      let first = tells_on (Ready a) t t_new both.0 one both.2 in
      let second = tells_on (Ready b) u u_new both.1 two both.3 in
      let not_making = making_made create (is_made both.0.bytes) (is_made both.1.bytes) (made_first a b create newer both.0 first.0 both.1 second.0 first.2 second.2) in
      absurd (let e : true ≡ false = sym making ∙ ap (λ (f : Files). is_making create f.first f.second) both.4 ∙ not_making in cc)

  pub told_first_made : is_second_seen a b ≡ false → Tells (Ready a) t t_new → Tells (Ready b) u u_new → ((d : DiskState) → t_new ≡ Some d → is_to_make create d.bytes ≡ true → format ≡ Two) → (files : Files) → tell_both t u ≡ Some files → is_making create files.first files.second ≡ true → format ≡ Two
  told_first_made older one two made files is making =
      let both = both_of t u files is in
      let first = tells_on (Ready a) t t_new both.0 one both.2 in
      let second = tells_on (Ready b) u u_new both.1 two both.3 in
      made first.0 first.1
      (ap (is_to_make create) first.2.synced.1 ∙ sym (making_is a b create older both.0 first.0 both.1 second.0 first.2 second.2) ∙ ap (λ (f : Files). is_making create f.first f.second) (sym both.4) ∙ making)

pub readies : (seen : Seen) (t t_new : Option DiskState) → Tells Synced t t_new → Tells IsSynced t t_new → ((e : DiskState) → t_new ≡ Some e → Sees e seen) → Tells (Ready seen) t t_new
readies seen t t_new synced durable sees =
    tells_map (λ d e. Both Synced IsSynced d e × Sees e seen) (Ready seen) t t_new (λ d e x. record { synced = x.0.0; durable = x.0.1; sees = x.1 })
    (tells_with (Both Synced IsSynced) (λ e. Sees e seen) t t_new (tells_both Synced IsSynced t t_new synced durable) sees)

-- what a ready disk is after the sync and the look
pub ready_after : (seen : Seen) (t t_new : Option DiskState) (e : DiskState) → Tells (Ready seen) t t_new → t_new ≡ Some e → Sees e seen × IsDurable e
ready_after seen t t_new e tells is = let before = told_before (Ready seen) t t_new e tells is in (before.2.sees, before.2.durable)

pub opened_live : (seen : Seen) (create : Bool) (found : ℕ × Format) (t t_one t_new : Option DiskState) (e : DiskState) → Tells (Ready seen) t t_one → Tells (Opens Two create found) t_one t_new → t_new ≡ Some e → IsLive Two found.1 seen.generation found.0 at_first e
opened_live seen create found t t_one t_new e ready opens is =
    let before = told_before (Opens Two create found) t_one t_new e opens is in
    seen_live seen create found before.0 e (ready_after seen t t_one before.0 ready before.1).0 before.2
