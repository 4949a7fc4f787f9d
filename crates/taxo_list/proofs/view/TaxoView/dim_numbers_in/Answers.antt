use Rattle.std.proofs.Common.{◌<◌, ◌+◌, ◌*◌, ℕ, List, [], ◌∷◌, length, get_or, take, drop, ap, subst, ◌∙◌}
use Rattle.taxo_list.specs.DimLists.{dims_of, IsDimNumber}
use Rattle.taxo_list.proofs.Pieces.{same_length, piece_numbers}
use Rattle.taxo_list.proofs.view.TaxoView.dim_numbers_in.Goals as goal

pub returns-clause-len : goal.returns-clause-len
returns-clause-len c =
    ap length c.numbers_in.ensures
    ∙ same_length c.self.inside.dims.numbers ([] ∷ c.self.inside.labels) (c.args.piece * 1024) c.self.invariant.each_dim.as_many
    ∙ ap (λ labels. length (take 1024 (drop (c.args.piece * 1024) labels))) c.self.view_is

pub returns-clause-each : goal.returns-clause-each
returns-clause-each c =
    subst (λ (labels : List (List (List ℕ))). (n : ℕ) → n < length c.numbers_in.result.now → 0 < c.args.piece * 1024 + n → IsDimNumber labels (dims_of labels) (c.args.piece * 1024 + n) (get_or c.numbers_in.result.now n 0)) c.self.view_is
    (piece_numbers ([] ∷ c.self.inside.labels) c.self.inside.dims c.self.invariant.each_dim (c.args.piece * 1024) c.numbers_in.result.now c.numbers_in.ensures)
