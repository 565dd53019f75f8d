-- A text of an address is read as the address of its numbers, and no other text is read.
use Rattle.std.proofs.Common.{◌≡◌, ℕ, ◌+◌, ◌*◌, ◌^◌, ◌<◌, ◌≤◌, false, List, [], ◌∷◌, ◌++◌, length, take, drop, arith, lit<, append-nil, take-append-drop, Option, Some, None, Result, Ok, Err, inl, inr, refl, ap, sym, ◌∙◌, eq-eqb}
use Rattle.std.specs.Prelude.{decimal}
use Rattle.std.proofs.lemmas.List.{drop-drop}
use Rattle.std.proofs.lemmas.Bool.Decides.{eqb_tells}
use Rattle.lists_and_limits.specs.Decimals.{is_digit, number_of}
use Rattle.lists_and_limits.proofs.DecimalTexts.{decimal-number_of, number_of-decimal}
use Rattle.actor_names.specs.declared.error.NameError.{NameError}
use Rattle.actor_names.specs.declared.error.NameError.TheVariants.{BadByte}
use Rattle.actor_names.specs.declared.address.Address.{Address}
use Rattle.actor_names.specs.declared.address.Part.{Part}
use Rattle.actor_names.specs.Numerals.{numeral_of}
use Rattle.actor_names.specs.Addresses.{then_read, joined, part_reading, ended, port_reading, address_reading}
use Rattle.actor_names.specs.Forms.{AddressText}
use Rattle.actor_names.proofs.Numerals.{take-numeral_of}
use Rattle.actor_names.proofs.DecimalPieces.{numeral_of-append, number_parts, drop_front}

-- ---- the reading, cut behind each number

abbrev answer_of : ℕ → ℕ → Result Address NameError
answer_of ip port = Ok (record { ip = ip; port = port })

abbrev behind_d : List ℕ → Part → Part → Part → Part → Result Address NameError
behind_d text a b c d = then_read (port_reading d.next (drop d.next text)) (answer_of (((a.number * 256 + b.number) * 256 + c.number) * 256 + d.number))

abbrev behind_c : List ℕ → Part → Part → Part → Result Address NameError
behind_c text a b c = then_read (part_reading 58 c.next (drop c.next text)) (behind_d text a b c)

abbrev behind_b : List ℕ → Part → Part → Result Address NameError
behind_b text a b = then_read (part_reading 46 b.next (drop b.next text)) (behind_c text a b)

abbrev behind_a : List ℕ → Part → Result Address NameError
behind_a text a = then_read (part_reading 46 a.next (drop a.next text)) (behind_b text a)

then_ok : {A B : Type 0} (r : Result A NameError) (x : A) (next : A → Result B NameError) (y : Result B NameError) → r ≡ Ok x → next x ≡ y → then_read r next ≡ y
then_ok r x next y is rest = rw is rest

then_some : {A B : Type 0} (r : Result A NameError) (next : A → Result B NameError) (y : B) → then_read r next ≡ Ok y → (x : A) × (r ≡ Ok x) × (next x ≡ Ok y)
then_some (Ok x) next y is = (x, refl, is)
then_some (Err fault) next y is = cc

-- ---- a text of the form is read

abbrev part_of : ℕ → ℕ → List ℕ → Part
part_of start n digits = record { number = n; next = start + length digits + 1 }

part_read : (joint start n : ℕ) (digits rest : List ℕ) → number_of 255 digits ≡ Some n → is_digit joint ≡ false → part_reading joint start (digits ++ (joint ∷ rest)) ≡ Ok (part_of start n digits)
unfolding part_reading
part_read joint start n digits rest read ends =
    rw (numeral_of-append digits (joint ∷ rest) (number_parts 255 n digits read).0 ends, drop_front digits (joint ∷ rest), read, eq-eqb joint joint refl) refl

port_read : (start n : ℕ) (digits : List ℕ) → number_of 65535 digits ≡ Some n → port_reading start digits ≡ Ok n
unfolding port_reading
port_read start n digits read =
    let numeral : numeral_of digits ≡ digits = ap numeral_of (sym (append-nil digits)) ∙ numeral_of-append digits [] (number_parts 65535 n digits read).0 refl in
    let nothing : drop (length digits) digits ≡ [] = ap (drop (length digits)) (sym (append-nil digits)) ∙ drop_front digits [] in
    rw (numeral, nothing, read) refl

-- a number is read at its place in a text, and the rest stands behind it
step : (joint start n : ℕ) (text digits rest : List ℕ) → drop start text ≡ digits ++ (joint ∷ rest) → number_of 255 digits ≡ Some n → is_digit joint ≡ false → (part_reading joint start (drop start text) ≡ Ok (part_of start n digits)) × (drop (start + length digits + 1) text ≡ rest)
step joint start n text digits rest there read ends =
    let at_joint : drop (start + length digits) text ≡ joint ∷ rest = sym (drop-drop (length digits) start text) ∙ ap (λ (t : List ℕ). drop (length digits) t) there ∙ drop_front digits (joint ∷ rest) in (
      ap (part_reading joint start) there ∙ part_read joint start n digits rest read ends,
      sym (drop-drop 1 (start + length digits) text) ∙ ap (λ (t : List ℕ). drop 1 t) at_joint,
    )

address_read : (a b c d port : ℕ) (text_a text_b text_c text_d text_port text : List ℕ) → number_of 255 text_a ≡ Some a → number_of 255 text_b ≡ Some b → number_of 255 text_c ≡ Some c → number_of 255 text_d ≡ Some d → number_of 65535 text_port ≡ Some port → text ≡ text_a ++ (46 ∷ (text_b ++ (46 ∷ (text_c ++ (46 ∷ (text_d ++ (58 ∷ text_port))))))) → address_reading text ≡ Ok (record { ip = ((a * 256 + b) * 256 + c) * 256 + d; port = port })
address_read a b c d port text_a text_b text_c text_d text_port text is_a is_b is_c is_d is_port is =
    let part_a : Part = part_of 0 a text_a in
    let part_b : Part = part_of part_a.next b text_b in
    let part_c : Part = part_of part_b.next c text_c in
    let part_d : Part = part_of part_c.next d text_d in
    let answer : Address = record { ip = ((a * 256 + b) * 256 + c) * 256 + d; port = port } in
    let first = step 46 0 a text text_a (text_b ++ (46 ∷ (text_c ++ (46 ∷ (text_d ++ (58 ∷ text_port)))))) is is_a refl in
    let second = step 46 part_a.next b text text_b (text_c ++ (46 ∷ (text_d ++ (58 ∷ text_port)))) first.1 is_b refl in
    let third = step 46 part_b.next c text text_c (text_d ++ (58 ∷ text_port)) second.1 is_c refl in
    let fourth = step 58 part_c.next d text text_d text_port third.1 is_d refl in
    let fifth : port_reading part_d.next (drop part_d.next text) ≡ Ok port = ap (port_reading part_d.next) fourth.1 ∙ port_read part_d.next port text_port is_port in
    let last : behind_d text part_a part_b part_c part_d ≡ Ok answer = rw fifth refl in
    then_ok (part_reading 46 0 text) part_a (behind_a text) (Ok answer) first.0 (
    then_ok (part_reading 46 part_a.next (drop part_a.next text)) part_b (behind_b text part_a) (Ok answer) second.0 (
    then_ok (part_reading 46 part_b.next (drop part_b.next text)) part_c (behind_c text part_a part_b) (Ok answer) third.0 (
    then_ok (part_reading 58 part_c.next (drop part_c.next text)) part_d (behind_d text part_a part_b part_c) (Ok answer) fourth.0 last)))

printed : (most n : ℕ) → n ≤ most → most < 2 ^ 64 → number_of most (decimal n) ≡ Some n
printed most n low high = number_of-decimal most n low (omega arith)

pub address-form : (x : Address) (text : List ℕ) → AddressText x text → address_reading text ≡ Ok x
address-form x text form =
    let read = address_read form.a form.b form.c form.d x.port (decimal form.a) (decimal form.b) (decimal form.c) (decimal form.d) (decimal x.port) text (printed 255 form.a form.a_fits (lit< tt)) (printed 255 form.b form.b_fits (lit< tt)) (printed 255 form.c form.c_fits (lit< tt)) (printed 255 form.d form.d_fits (lit< tt)) (printed 65535 x.port form.port_fits (lit< tt)) form.text_is in
    let with_ip : ℕ → Result Address NameError = λ ip. Ok (record { ip = ip; port = x.port }) in
    read ∙ ap with_ip (sym form.ip_is)

-- ---- what is read has the form

joined_sound : (joint start end : ℕ) (rest : List ℕ) (found : Option ℕ) (part : Part) → joined joint start end rest found ≡ Ok part → (found ≡ Some part.number) × (part.next ≡ end + 1) × (rest ≡ joint ∷ drop 1 rest)
joined_sound joint start end rest None part is = cc
joined_sound joint start end [] (Some n) part is = cc
joined_sound joint start end (b ∷ bs) (Some n) part is = elim (eqb_tells b joint) [
  | inl same ↦
      let read : Part = record { number = n; next = end + 1 } in
      let ok : Ok read ≡ Ok part = (rw same.0 at is) in
      let parts : read ≡ part = cc in
      (ap (λ (p : Part). Some p.number) parts, sym (ap (λ (p : Part). p.next) parts), ap (λ (k : ℕ). k ∷ bs) same.1)
  | inr other ↦ let fault : Err (BadByte end) ≡ Ok part = (rw other.0 at is) in cc
]

ended_sound : (start end : ℕ) (rest : List ℕ) (found : Option ℕ) (n : ℕ) → ended start end rest found ≡ Ok n → (found ≡ Some n) × (rest ≡ [])
ended_sound start end rest None n is = cc
ended_sound start end [] (Some m) n is = let same : m ≡ n = cc in (ap Some same, refl)
ended_sound start end (b ∷ bs) (Some m) n is = cc

-- what a number that was read says about the text from its place on
record PartAt (joint start : ℕ) (text : List ℕ) (part : Part) : Type 0 where
  fits : part.number ≤ 255
  text_is : drop start text ≡ decimal part.number ++ (joint ∷ drop part.next text)

part_sound : (joint start : ℕ) (text : List ℕ) (part : Part) → part_reading joint start (drop start text) ≡ Ok part → PartAt joint start text part
unfolding part_reading
part_sound joint start text part is =
    let rest : List ℕ = drop start text in
    let k : ℕ = length (numeral_of rest) in
    let parts = joined_sound joint start (start + k) (drop k rest) (number_of 255 (numeral_of rest)) part is in
    let front : take k rest ≡ decimal part.number = take-numeral_of rest ∙ decimal-number_of 255 part.number (numeral_of rest) (lit< tt) parts.0 in
    let place : start + (k + 1) ≡ part.next = let next = parts.1 in omega arith in
    let behind : drop 1 (drop k rest) ≡ drop part.next text = drop-drop 1 k rest ∙ drop-drop (k + 1) start text ∙ ap (λ (n : ℕ). drop n text) place in
    record {
      fits = (number_parts 255 part.number (numeral_of rest) parts.0).1;
      text_is = sym (take-append-drop k rest) ∙ ap (λ (t : List ℕ). t ++ drop k rest) front ∙ ap (λ (t : List ℕ). decimal part.number ++ t) (parts.2 ∙ ap (λ (t : List ℕ). joint ∷ t) behind);
    }

port_sound : (start port : ℕ) (rest : List ℕ) → port_reading start rest ≡ Ok port → (port ≤ 65535) × (rest ≡ decimal port)
unfolding port_reading
port_sound start port rest is =
    let k : ℕ = length (numeral_of rest) in
    let parts = ended_sound start (start + k) (drop k rest) (number_of 65535 (numeral_of rest)) port is in
    let front : take k rest ≡ decimal port = take-numeral_of rest ∙ decimal-number_of 65535 port (numeral_of rest) (lit< tt) parts.0 in (
      (number_parts 65535 port (numeral_of rest) parts.0).1,
      sym (take-append-drop k rest) ∙ ap (λ (t : List ℕ). take k rest ++ t) parts.1 ∙ append-nil (take k rest) ∙ front,
    )

answer_parts : (ip port : ℕ) (x : Address) → answer_of ip port ≡ Ok x → (x.ip ≡ ip) × (port ≡ x.port)
answer_parts ip port x is =
    let made : Address = record { ip = ip; port = port } in
    let ok : Ok made ≡ Ok x = is in
    let same : made ≡ x = cc in
    (sym (ap (λ (y : Address). y.ip) same), ap (λ (y : Address). y.port) same)

-- the pieces of a text, each behind the one before it
chained : (text rest_a rest_b rest_c rest_d a b c d : List ℕ) (read port : ℕ) → text ≡ a ++ (46 ∷ rest_a) → rest_a ≡ b ++ (46 ∷ rest_b) → rest_b ≡ c ++ (46 ∷ rest_c) → rest_c ≡ d ++ (58 ∷ rest_d) → rest_d ≡ decimal read → read ≡ port → text ≡ a ++ (46 ∷ (b ++ (46 ∷ (c ++ (46 ∷ (d ++ (58 ∷ decimal port)))))))
chained text rest_a rest_b rest_c rest_d a b c d read port at_a at_b at_c at_d at_port same =
    at_a
    ∙ ap (λ (t : List ℕ). a ++ (46 ∷ t)) (at_b
    ∙ ap (λ (t : List ℕ). b ++ (46 ∷ t)) (at_c
    ∙ ap (λ (t : List ℕ). c ++ (46 ∷ t)) (at_d
    ∙ ap (λ (t : List ℕ). d ++ (58 ∷ t)) (at_port ∙ ap decimal same))))

pub address-only : (x : Address) (text : List ℕ) → address_reading text ≡ Ok x → AddressText x text
address-only x text is =
    let a = then_some (part_reading 46 0 text) (behind_a text) x is in
    let b = then_some (part_reading 46 a.0.next (drop a.0.next text)) (behind_b text a.0) x a.2 in
    let c = then_some (part_reading 46 b.0.next (drop b.0.next text)) (behind_c text a.0 b.0) x b.2 in
    let d = then_some (part_reading 58 c.0.next (drop c.0.next text)) (behind_d text a.0 b.0 c.0) x c.2 in
    let ip : ℕ = ((a.0.number * 256 + b.0.number) * 256 + c.0.number) * 256 + d.0.number in
    let p = then_some (port_reading d.0.next (drop d.0.next text)) (answer_of ip) x d.2 in
    let answer = answer_parts ip p.0 x p.2 in
    let port_is = answer.1 in
    let at_a = part_sound 46 0 text a.0 a.1 in
    let at_b = part_sound 46 a.0.next text b.0 b.1 in
    let at_c = part_sound 46 b.0.next text c.0 c.1 in
    let at_d = part_sound 58 c.0.next text d.0 d.1 in
    let at_port = port_sound d.0.next p.0 (drop d.0.next text) p.1 in
    let fits = at_port.0 in
    record {
      a = a.0.number;
      b = b.0.number;
      c = c.0.number;
      d = d.0.number;
      a_fits = at_a.fits;
      b_fits = at_b.fits;
      c_fits = at_c.fits;
      d_fits = at_d.fits;
      port_fits = omega arith;
      ip_is = answer.0;
      text_is = chained text (drop a.0.next text) (drop b.0.next text) (drop c.0.next text) (drop d.0.next text) (decimal a.0.number) (decimal b.0.number) (decimal c.0.number) (decimal d.0.number) p.0 x.port at_a.text_is at_b.text_is at_c.text_is at_d.text_is at_port.1 port_is;
    }
