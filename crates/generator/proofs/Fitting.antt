-- The parts of generated labels are those of paths, and the texts of generated documents fit.
use Rattle.std.proofs.Common.{◌≡◌, ℕ, ◌+◌, ◌%◌, ◌^◌, ◌<◌, ◌++◌, Bool, true, false, length, refl, arith}
use Rattle.std.specs.Prelude.{◌==◌, if◌then◌else◌, codes, nat_lt, None}
use Rattle.std.specs.Fmt.{decimal}
use Rattle.std.proofs.lemmas.Bool.Decides.{nat_tests}
use Rattle.facet_names.specs.Faults.{IsPath}
use Rattle.facet_names.proofs.Parts.{digits, number, numbered, three_parts, two_parts}
use Rattle.facet_model.specs.Shapes.{doc_fault}
use Rattle.generator.specs.Generated.{date_of, first_tag_of, generated_labels, generated_text, second_tag_of, shelf_of}

pub shelf_fits : (n : ℕ) → IsPath (shelf_of n)
shelf_fits n = two_parts (codes "Shelf") (codes "s" ++ decimal (n % 10)) (record { some = omega arith; short = omega arith }) (numbered 115 (n % 10) (omega arith))

pub date_fits : (n : ℕ) → IsPath (date_of n)
date_fits n = three_parts (codes "Date") (decimal (2000 + n % 4)) (decimal (1 + n % 3)) (record { some = omega arith; short = omega arith }) (number (2000 + n % 4) (omega arith)) (number (1 + n % 3) (omega arith))

pub first_tag_fits : (n : ℕ) → IsPath (first_tag_of n)
first_tag_fits n = two_parts (codes "Tag") (codes "t" ++ decimal (n % 2)) (record { some = omega arith; short = omega arith }) (numbered 116 (n % 2) (omega arith))

pub second_tag_fits : (n : ℕ) → IsPath (second_tag_of n)
second_tag_fits n = two_parts (codes "Tag") (codes "u" ++ decimal (n % 5)) (record { some = omega arith; short = omega arith }) (numbered 117 (n % 5) (omega arith))

text_fits : (b : Bool) → nat_lt 65536 (length (if b then codes "item even" else codes "item odd")) ≡ false
text_fits true = refl
text_fits false = refl

pub doc_fits : (n : ℕ) → n < 2 ^ 32 → doc_fault (codes "g" ++ decimal n) (generated_text n) (generated_labels n) ≡ None
unfolding generated_labels
doc_fits n few =
    let id = numbered 103 n few in
    let both = digits n few in
    let some : (length (codes "g" ++ decimal n) == 0) ≡ false = grind (arith, nat_tests, id.some) in
    let short : nat_lt 256 (length (codes "g" ++ decimal n)) ≡ false = grind (arith, nat_tests, both.1) in
    rw (some, short, text_fits (n % 2 == 0)) refl
