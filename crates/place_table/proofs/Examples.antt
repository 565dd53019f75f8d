-- Worked examples.
use Rattle.std.specs.Prelude.{◌≡◌, ◌%◌, List, [], ◌∷◌, Some, None, codes, take}
use Rattle.std.proofs.Common.{refl, ap}
use Rattle.std.specs.Int.{w64, from_be_bytes}
use Rattle.sha2.proofs.Facts256.{digest_of_abc_256}
use Rattle.place_table.specs.declared.point.Point.{Point}
use Rattle.place_table.specs.Hash.{place_of, number_text, point_text}
use Rattle.place_table.specs.Ring.{owner_point}
use Rattle.place_table.specs.Hosts.{key_place}

-- the place of `abc` is the first 8 bytes of its digest
abc_place : key_place (codes "abc") ≡ 0xBA7816BF8F01CFEA
unfolding place_of
abc_place = ap (λ d. from_be_bytes w64 (take 8 d)) digest_of_abc_256

abc_part : key_place (codes "abc") % 4 ≡ 2
abc_part = ap (λ n. n % 4) abc_place

first_number : number_text 7 ≡ codes "7"
first_number = refl

last_number : point_text (codes "a") 99 ≡ codes "a#99"
last_number = refl

abbrev b_at_10 : Point
b_at_10 = record { place = 10; node = codes "b" }

abbrev a_at_10 : Point
a_at_10 = record { place = 10; node = codes "a" }

abbrev c_at_90 : Point
c_at_90 = record { place = 90; node = codes "c" }

abbrev three_points : List Point
three_points = b_at_10 ∷ a_at_10 ∷ c_at_90 ∷ []

-- at one place the lesser node is first
at_the_place : owner_point three_points 10 ≡ Some a_at_10
at_the_place = refl

after_the_place : owner_point three_points 11 ≡ Some c_at_90
after_the_place = refl

-- past the last point the ring begins again
past_the_last : owner_point three_points 91 ≡ Some a_at_10
past_the_last = refl

no_points : owner_point [] 10 ≡ None
no_points = refl
