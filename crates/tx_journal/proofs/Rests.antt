-- What a file at rest stands for.
use Rattle.std.proofs.lemmas.List.{take-append-le}
use Rattle.std.proofs.Common.{◌≡◌, ℕ, ◌+◌, List, ◌++◌, length, take, drop, Result, Ok, Err, refl, sym, ◌∙◌, ap, arith, length-append}
use Rattle.tx_journal.specs.declared.format.Format.{Format}
use Rattle.tx_journal.specs.declared.format.Format.TheVariants.{One, Two}
use Rattle.tx_journal.specs.File.{Image, image, name, records, file_payloads, format_of, in_format, file_image}
use Rattle.tx_journal.specs.Journal.{IsAtRest, IsSpelled, IsGateOf}
use Rattle.tx_journal.proofs.Files.{image_closed}

pub rest_image : {newest format : Format} (payloads : List (List ℕ)) (end : ℕ) (bytes : List ℕ) → IsAtRest newest format payloads end bytes → file_payloads newest bytes ≡ Ok payloads
rest_image {newest} {format} payloads end bytes at_rest = ap (file_payloads newest) at_rest.file ∙ image_closed newest format payloads at_rest.gate at_rest.rest at_rest.known at_rest.short at_rest.shut

abbrev read_as : List (List ℕ) → Result (List (List ℕ)) ℕ
read_as payloads = Ok payloads

pub same_payloads : (xs ys : List (List ℕ)) → read_as xs ≡ read_as ys → xs ≡ ys
same_payloads xs ys same = cc

pub spelled_image : {newest format : Format} (payloads : List (List ℕ)) (file : List ℕ) → IsSpelled newest format payloads file → file_payloads newest file ≡ Ok payloads
spelled_image payloads file spells = rest_image payloads spells.0 file spells.1

-- so it stands for its format too
rest_name : {newest format : Format} (payloads : List (List ℕ)) (end : ℕ) (bytes : List ℕ) → IsAtRest newest format payloads end bytes → take 7 (drop 1 bytes) ≡ name format
rest_name payloads end bytes at_rest = ap (λ (l : List ℕ). take 7 (drop 1 l)) at_rest.file

named : (format : Format) → format_of (name format) ≡ format
named One = refl
named Two = refl

pub rest_stands : {newest format : Format} (payloads : List (List ℕ)) (end : ℕ) (bytes : List ℕ) → IsAtRest newest format payloads end bytes → file_image newest bytes ≡ Ok (image format payloads)
rest_stands {newest} {format} payloads end bytes at_rest =
    ap (λ (t : List ℕ). in_format (format_of t) (file_payloads newest bytes)) (rest_name payloads end bytes at_rest)
    ∙ ap (λ (f : Format). in_format f (file_payloads newest bytes)) (named format) ∙ ap (in_format format) (rest_image payloads end bytes at_rest)

-- a damaged file stands for nothing
pub damaged : (newest : Format) (file : List ℕ) (offset : ℕ) → file_payloads newest file ≡ Err offset → file_image newest file ≡ Err offset
damaged newest file offset is = ap (in_format (format_of (take 7 (drop 1 file)))) is

abbrev stands_for : Image → Result Image ℕ
stands_for held = Ok held

pub same_image : (x y : Image) → stands_for x ≡ stands_for y → x ≡ y
same_image x y same = cc

pub spelled_stands : {newest format : Format} (payloads : List (List ℕ)) (file : List ℕ) → IsSpelled newest format payloads file → file_image newest file ≡ Ok (image format payloads)
spelled_stands payloads file spells = rest_stands payloads spells.0 file spells.1

-- the gate of an index stays its gate when payloads are appended
pub gate_append : (payloads batch : List (List ℕ)) (index gate : ℕ) → IsGateOf payloads index gate → IsGateOf (payloads ++ batch) index gate
gate_append payloads batch index gate is = record {
  within = omega (arith, is.within, length-append payloads batch);
  place = is.place ∙ ap (λ (l : List (List ℕ)). 8 + length (records l)) (sym (take-append-le index payloads batch is.within));
}
