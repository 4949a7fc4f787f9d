-- Texts that are numbers, and texts that are none.
use Rattle.std.proofs.Common.{◌≡◌, ℕ, ℤ, pos, negsuc, List, [], ◌∷◌, Option, Some, None, refl, codes, neg_ℤ}
use Rattle.number_facets.specs.Numbers.{number_of, small_number_of}

zero_is : number_of (codes "0") ≡ Some (pos 0)
zero_is = refl

one_less : number_of (codes "-1") ≡ Some (negsuc 0)
one_less = refl

greatest : number_of (codes "9223372036854775807") ≡ Some (pos 9223372036854775807)
greatest = refl

least : number_of (codes "-9223372036854775808") ≡ Some (neg_ℤ (pos 9223372036854775808))
least = refl

too_great : number_of (codes "9223372036854775808") ≡ None
too_great = refl

too_small : number_of (codes "-9223372036854775809") ≡ None
too_small = refl

minus_zero : number_of (codes "-0") ≡ None
minus_zero = refl

leading : number_of (codes "07") ≡ None
leading = refl

plus : number_of (codes "+7") ≡ None
plus = refl

nothing : number_of (codes "") ≡ None
nothing = refl

minus : number_of (codes "-") ≡ None
minus = refl

point : number_of (codes "1.0") ≡ None
point = refl

blank : number_of (codes " 1") ≡ None
blank = refl

small : small_number_of (codes "-2147483648") ≡ Some (neg_ℤ (pos 2147483648))
small = refl

not_small : small_number_of (codes "2147483648") ≡ None
not_small = refl

least_small : small_number_of (codes "-2147483649") ≡ None
least_small = refl
