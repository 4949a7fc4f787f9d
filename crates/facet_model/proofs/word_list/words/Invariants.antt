use Rattle.std.proofs.Common.{◌≡◌, map, filter, take, length, nat_lt, string_bytes}
use Rattle.facet_model.proofs.word_list.words.Given as goal

abbrev pub invariant-loop-piece : goal.invariant-loop-piece
invariant-loop-piece l = map string_bytes l.words.items ≡ filter (λ w. nat_lt 0 (length w)) (map (λ x. x.now) (take l.piece-index l.piece-items))
