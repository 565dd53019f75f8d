-- From what happens to each disk to what a crash leaves of both.
use Rattle.std.proofs.Common.{◌≡◌, inl, inr, ℕ, ◌≤◌, Bool, true, false, List, length, Option, Some, None, refl, sym, ◌∙◌, ap, subst, arith}
use Rattle.std.specs.Prelude.{not}
use Rattle.disk_model.specs.Disk.{DiskState, Tells}
use Rattle.disk_model.specs.Crash.{LeavesOnly, Since}
use Rattle.disk_model.proofs.Moments.{Facts, later_here, leaves_durable, since_weaker}
use Rattle.tx_journal.specs.declared.format.Format.{Format}
use Rattle.tx_journal.specs.declared.format.Format.TheVariants.{One, Two}
use Rattle.tx_journal.specs.declared.find.Cursor.{Cursor}
use Rattle.tx_journal.specs.File.{most_bytes, is_made, Image, image, file_image}
use Rattle.tx_journal.specs.Pair.{Files, Claim, first_generation, file_generation, number, live_file, live_bytes, read_files, ReadsAs, LeavesOpened, SinceOpened, Holds, IsJust}
use Rattle.tx_journal.specs.Journal.{IsSpelled}
use Rattle.tx_journal.specs.Calls.{Side, first_of, second_of, tell_one, tell_both, tell_sides}
use Rattle.tx_journal.specs.Sound.{Yields, Waits, IsLive}
use Rattle.tx_journal.proofs.Making.{unmade}
use Rattle.tx_journal.proofs.Rests.{rest_stands, spelled_stands, same_image}
use Rattle.tx_journal.proofs.Chosen.{rest_generation, rest_made, live_in, picks}
use Rattle.tx_journal.proofs.Fronts.{leaves_unmade}

-- the disks in their order
abbrev pub files_in : Bool → DiskState → Option DiskState → Files
files_in true live None = record { first = live; second = None }
files_in true live (Some other) = record { first = other; second = Some live }
files_in false live other = record { first = live; second = other }

-- what happens to the disk that isn't live, if there is one
abbrev pub OtherTells : (DiskState → DiskState → Type 0) → Option Side → Option Side → Type 0
OtherTells Q None new = new ≡ None
OtherTells Q (Some old) new = (side : Side) × (new ≡ Some side) × Tells Q old.told side.told

abbrev pub Steps : Type 1
Steps = DiskState → DiskState → Type 0

-- what both report, in their order
abbrev pub tell_in : Bool → Option DiskState → Option DiskState → Option Files
tell_in true live other = tell_both other live
tell_in false live other = tell_both live other

pub both_tell : (s : Bool) (step : Files → Files → Type 0) (R Q : Steps) (a a_new b b_new : Option DiskState) → Tells R a a_new → Tells Q b b_new
    → ((d d_new e e_new : DiskState) → a ≡ Some d → b ≡ Some e → R d d_new → Q e e_new → step (files_in s d (Some e)) (files_in s d_new (Some e_new)))
    → Tells step (tell_in s a b) (tell_in s a_new b_new)
both_tell false step R Q None a_new b b_new r q f = ap (λ t. tell_both t b_new) r
both_tell false step R Q (Some d) a_new None b_new r q f = ap (λ t. tell_both t b_new) r.1 ∙ ap (λ t. tell_both (Some r.0) t) q
both_tell false step R Q (Some d) a_new (Some e) b_new r q f =
    (files_in false r.0 (Some q.0), ap (λ t. tell_both t b_new) r.1 ∙ ap (λ t. tell_both (Some r.0) t) q.1, f d r.0 e q.0 refl refl r.2 q.2)
both_tell true step R Q a a_new None b_new r q f = ap (λ t. tell_both t a_new) q
both_tell true step R Q None a_new (Some e) b_new r q f = ap (λ t. tell_both t a_new) q.1 ∙ ap (λ t. tell_both (Some q.0) t) r
both_tell true step R Q (Some d) a_new (Some e) b_new r q f =
    (files_in true r.0 (Some q.0), ap (λ t. tell_both t a_new) q.1 ∙ ap (λ t. tell_both (Some q.0) t) r.1, f d r.0 e q.0 refl refl r.2 q.2)

sides_in : (s : Bool) (live other : Side) → tell_in s live.told other.told ≡ tell_sides (first_of s live (Some other)) (second_of s live (Some other))
sides_in true live other = refl
sides_in false live other = refl

one_tells : (step : Files → Files → Type 0) (R : Steps) (a a_new : Option DiskState) → Tells R a a_new → ((d d_new : DiskState) → a ≡ Some d → R d d_new → step (record { first = d; second = None }) (record { first = d_new; second = None })) → Tells step (tell_one a) (tell_one a_new)
one_tells step R None a_new r f = ap tell_one r
one_tells step R (Some d) a_new r f = (record { first = r.0; second = None }, ap tell_one r.1, f d r.0 refl r.2)

first_one : (s : Bool) (live : Side) → tell_one live.told ≡ tell_sides (first_of s live None) (second_of s live None)
first_one true live = refl
first_one false live = refl

tells_as : (step : Files → Files → Type 0) (a b c d : Option Files) → a ≡ b → c ≡ d → Tells step a c → Tells step b d
tells_as step a b c d first second tells = subst (λ t. Tells step t d) first (subst (λ t. Tells step a t) second tells)

-- one step of a journal's disks
pub lift : (s : Bool) (step : Files → Files → Type 0) (R Q : Steps) (live live_new : Side) (other other_new : Option Side) → Tells R live.told live_new.told → OtherTells Q other other_new
    → (other ≡ None → (d d_new : DiskState) → live.told ≡ Some d → R d d_new → step (record { first = d; second = None }) (record { first = d_new; second = None }))
    → ((side : Side) → other ≡ Some side → (d d_new e e_new : DiskState) → live.told ≡ Some d → side.told ≡ Some e → R d d_new → Q e e_new → step (files_in s d (Some e)) (files_in s d_new (Some e_new)))
    → Tells step (tell_sides (first_of s live other) (second_of s live other)) (tell_sides (first_of s live_new other_new) (second_of s live_new other_new))
lift s step R Q live live_new None other_new r q one two =
    tells_as step _ _ _ _ (first_one s live) (first_one s live_new ∙ ap (λ o. tell_sides (first_of s live_new o) (second_of s live_new o)) (sym q))
    (one_tells step R live.told live_new.told r (λ d d_new is r. one refl d d_new is r))
lift s step R Q live live_new (Some other) other_new r q one two =
    tells_as step _ _ _ _ (sides_in s live other) (sides_in s live_new q.0 ∙ ap (λ o. tell_sides (first_of s live_new o) (second_of s live_new o)) (sym q.1))
    (both_tell s step R Q live.told live_new.told other.told q.0.told r q.2 (λ d d_new e e_new is1 is2 r q. two other refl d d_new e e_new is1 is2 r q))

-- the other disk is as it was
pub other_same : (other other_new : Option Side) → other_new ≡ other → OtherTells (λ d e. e ≡ d) other other_new
other_same None other_new same = same
other_same (Some side) other_new same = (side, same, told_same side.told)
  where
    told_same : (t : Option DiskState) → Tells (λ d e. e ≡ d) t t
    told_same None = refl
    told_same (Some d) = (d, refl, refl)

-- what a crash leaves of both, from what it leaves of each
pub opens_both : (s : Bool) (P : Claim) (A B : Facts) (d d_new e e_new : DiskState) → Since A d d_new → Since B e e_new → ((f g : List ℕ) → A f → B g → ReadsAs P Two (live_in s f g)) → SinceOpened P (files_in s d (Some e)) (files_in s d_new (Some e_new))
opens_both false P A B d d_new e e_new a b f =
    since_weaker A (λ x. Since (λ y. ReadsAs P Two (live_file x y)) e e_new) d d_new (λ x ax. since_weaker B (λ y. ReadsAs P Two (live_file x y)) e e_new (λ y bx. f x y ax bx) b) a
opens_both true P A B d d_new e e_new a b f =
    since_weaker B (λ y. Since (λ x. ReadsAs P Two (live_file y x)) d d_new) e e_new (λ y bx. since_weaker A (λ x. ReadsAs P Two (live_file y x)) d d_new (λ x ax. f x y ax bx) a) b

pub leaves_both : (s : Bool) (P : Claim) (A B : Facts) (d e : DiskState) → LeavesOnly A d.instant → LeavesOnly B e.instant → ((f g : List ℕ) → A f → B g → ReadsAs P Two (live_in s f g)) → LeavesOpened P (files_in s d (Some e))
leaves_both false P A B d e a b f = λ x image y other. f x y (a x image) (b y other)
leaves_both true P A B d e a b f = λ y other x image. f x y (a x image) (b y other)

read_in : (s : Bool) (d e : DiskState) → read_files (files_in s d (Some e)) ≡ file_image Two (live_in s d.bytes e.bytes)
read_in false d e = refl
read_in true d e = refl

bytes_in : (s : Bool) (d e : DiskState) → live_bytes (files_in s d (Some e)).first (files_in s d (Some e)).second ≡ live_in s d.bytes e.bytes
bytes_in false d e = refl
bytes_in true d e = refl

-- whatever a crash leaves of the other file yields to the live one
pub waits_leaves : (s : Bool) (generation : Option ℕ) (is_shut : Bool) (staged : Option ℕ) (d : DiskState) → Waits s generation is_shut staged d → LeavesOnly (Yields s (number generation)) d.instant
waits_leaves s generation true staged d waits = λ file image. inl (leaves_unmade d waits.0 file image)
waits_leaves s generation false staged d waits = leaves_durable (Yields s (number generation)) d waits.0 waits.1

pub waits_reads : (s : Bool) (generation : Option ℕ) (is_shut : Bool) (staged : Option ℕ) (d : DiskState) → Waits s generation is_shut staged d → Yields s (number generation) d.bytes
waits_reads s generation true staged d waits = inl (ap is_made waits.0.reads.1 ∙ unmade waits.0.gate waits.0.reads.0 waits.0.shut)
waits_reads s generation false staged d waits = waits.1

pub same_since : (P : Facts) (d e : DiskState) → e ≡ d → LeavesOnly P d.instant → Since P d e
same_since P d e same leaves = subst (Since P d) (sym same) (record { start = leaves; later = later_here P d })

-- whatever a crash leaves of the live file is live beside one that yields to it
pub live_counts : (s : Bool) (format : Format) (payloads : List (List ℕ)) (n : ℕ) (f g : List ℕ) → IsSpelled Two format payloads f → n ≤ number (first_generation payloads) → Yields s n g → ReadsAs (IsJust (image format payloads)) Two (live_in s f g)
live_counts s format payloads n f g spells less yields =
    let is = picks s f g (rest_made payloads spells.0 f spells.1) (yields_again (number (file_generation f)) (ap number (rest_generation payloads spells.0 f spells.1)) yields) in
    subst (ReadsAs (IsJust (image format payloads)) Two) (sym is) (spelled_stands payloads f spells, spells.1.small)
  where
    yields_again : (m : ℕ) → m ≡ number (first_generation payloads) → Yields s n g → Yields s m g
    yields_again m is (inl not_made) = inl not_made
    yields_again m is (inr below) = inr (omega (arith, below, less, is))

module _ (format : Format) (generation : Option ℕ) (end : ℕ) (cursor : Cursor) (d : DiskState) where
  -- a journal of one disk holds its payloads
  pub holds_one : (is : IsLive One format generation end cursor d) → Holds (image format is.payloads) (record { first = d; second = None })
  holds_one is =
      let stands = rest_stands is.payloads end d.bytes is.settled.file in
      record { reads = stands; small = is.settled.file.small; leaves = leaves_durable (ReadsAs (IsJust (image format is.payloads)) One) d is.settled.durable (stands, is.settled.file.small) }

  -- and so does one of two
  pub holds_two : (s is_shut : Bool) (staged : Option ℕ) (e : DiskState) (is : IsLive Two format generation end cursor d) → Waits s generation is_shut staged e → Holds (image format is.payloads) (files_in s d (Some e))
  holds_two s is_shut staged e is waits =
      let numbered : number generation ≤ number (first_generation is.payloads) = omega (arith, ap number (is.numbered refl)) in
      let counts = live_counts s format is.payloads (number generation) d.bytes e.bytes (end, is.settled.file) numbered (waits_reads s generation is_shut staged e waits) in
      record {
        reads = read_in s d e ∙ counts.0;
        small = subst (λ (l : List ℕ). length l ≤ most_bytes) (sym (bytes_in s d e)) counts.1;
        leaves = leaves_both s (IsJust (image format is.payloads)) (IsSpelled Two format is.payloads) (Yields s (number generation)) d e
            (leaves_durable (IsSpelled Two format is.payloads) d is.settled.durable (end, is.settled.file))
            (waits_leaves s generation is_shut staged e waits)
            (λ f g spells yields. live_counts s format is.payloads (number generation) f g spells numbered yields);
      }

-- files stand for one thing only
pub holds_once : (held other : Image) (files : Files) → Holds held files → Holds other files → held ≡ other
holds_once held other files one two = same_image held other (sym one.reads ∙ two.reads)

-- the sides after a turn are those before it
pub turned : (s : Bool) (live other : Side) → tell_sides (first_of (not s) other (Some live)) (second_of (not s) other (Some live)) ≡ tell_sides (first_of s live (Some other)) (second_of s live (Some other))
turned true live other = refl
turned false live other = refl

pub files_turned : (s : Bool) (d e : DiskState) → files_in (not s) e (Some d) ≡ files_in s d (Some e)
files_turned true d e = refl
files_turned false d e = refl
