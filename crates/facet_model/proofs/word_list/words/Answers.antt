use Rattle.std.proofs.Common.{Bor, List, ℕ, subst, sym}
use Rattle.std.specs.List.{AllByRecursion}
use Rattle.std.specs.Str.{IsUtf8}
use Rattle.facet_model.proofs.Cut.{pieces_utf8, unmapped}
use Rattle.facet_model.proofs.word_list.words.Goals as goal
use Rattle.std.proofs.lemmas.List.Elements.{All-from_recursion}

pub copied-requires : goal.copied-requires
copied-requires c =
    let all = unmapped IsUtf8 (λ (x : Bor (List ℕ)). x.now) c.in_ok-pieces.pieces.items (subst (AllByRecursion IsUtf8) (sym c.in_ok-pieces.ensures) (pieces_utf8 c.as_str.result.now c.as_str.utf8)) in
    All-from_recursion (λ (x : Bor (List ℕ)). IsUtf8 x.now) c.deref-piece-items.result.now (subst (λ (v : List (Bor (List ℕ))). AllByRecursion (λ x. IsUtf8 x.now) v) (sym c.deref-piece-items.ensures.value) all) c.loop-piece.piece-index _ c.loop-piece-test.true
