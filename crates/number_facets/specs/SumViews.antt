-- The plain data of sums.
use Rattle.number_facets.specs.Values.{PartSum}
use Rattle.number_facets.specs.declared.results.Sum.{Sum}

-- a component and its sum as such a pair
abbrev pub sum_view : Sum → PartSum
sum_view s = (s.part, s.value)
