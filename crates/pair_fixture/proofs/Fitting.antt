-- The labels are paths.
use Rattle.std.proofs.Common.{ℕ, ◌^◌, ◌<◌, ◌++◌, arith}
use Rattle.std.specs.Prelude.{codes}
use Rattle.std.specs.Fmt.{decimal}
use Rattle.std.proofs.lemmas.List.{length-append}
use Rattle.facet_names.specs.Faults.{IsPath}
use Rattle.facet_names.proofs.Parts.{IsSized, digits, two_parts}
use Rattle.pair_fixture.specs.Names.{label_of, name_of}

pub label_fits : (session number : ℕ) → session < 2 ^ 32 → number < 2 ^ 32 → IsPath (label_of session number)
label_fits session number of_session of_number =
    let size = length-append (decimal session) (codes " " ++ decimal number) in
    let name : IsSized (name_of session number) = record { some = omega (arith, size); short = omega (arith, size, (digits session of_session).1, (digits number of_number).1) } in
    two_parts (codes "Name") (name_of session number) (record { some = omega arith; short = omega arith }) name
