use Rattle.store_opening.proofs.numbers.next_number.Goals as goal

pub returns-in_default-clause-below : goal.returns-in_default-clause-below
returns-in_default-clause-below c = λ n has. absurd (c.greatest_of.ensures.none c.in_default.is n has)
