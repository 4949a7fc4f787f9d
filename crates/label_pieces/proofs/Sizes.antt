-- The sizes of pieces, and of what comes.
use Rattle.std.proofs.Common.{◌≡◌, ℕ, ◌+◌, List, [], ◌∷◌, ◌++◌, length, map, ap, ◌∙◌, arith}
use Rattle.std.specs.Prelude.{sum}
use Rattle.std.proofs.lemmas.List.{length-append}
use Rattle.std.proofs.lemmas.List.Sums.{sum_by-cons}
use Rattle.label_pieces.specs.Pieces.{joined}

pub sum_sizes : {X : Type 0} (pieces : List (List X)) (n : ℕ) → sum (map length pieces ++ n ∷ []) ≡ length (joined pieces) + n
sum_sizes [] n = sum_by-cons (λ x. x) n [] ∙ omega arith
sum_sizes (p ∷ ps) n = sum_by-cons (λ x. x) (length p) (map length ps ++ n ∷ []) ∙ ap (λ m. length p + m) (sum_sizes ps n) ∙ omega (arith, length-append p (joined ps))
