use Rattle.std.proofs.Common.{rules, ◌≡◌, ◌++◌, ◌∷◌, [], None, ap, ◌∙◌, string_bytes}
use Rattle.facet_names.specs.Faults.{IsPath, path_fault}
use Rattle.facet_names.specs.Blocks.{IsPathBlock, parts_of}
use Rattle.facet_names.proofs.Blocks.{last_is_short, longer_path}
use Rattle.facet_names.proofs.path.Path.child.Goals as goal

pub block_with-requires-clause-short : goal.block_with-requires-clause-short
block_with-requires-clause-short c =
    let fits : path_fault (c.args.self.now ++ c.args.part.now ∷ []) ≡ None = search rules in
    let path : IsPath c.args.self.now = search rules in
    last_is_short c.args.self.now c.args.part.now path fits

pub invariant_of-result : goal.invariant_of-result
invariant_of-result c =
    let text = c.deref.result.now in
    let whole : IsPathBlock text = search rules in
    let view : parts_of text ≡ c.args.self.now = search rules in
    let child : path_fault (c.args.self.now ++ c.args.part.now ∷ []) ≡ None = search rules in
    let fits : path_fault (parts_of text ++ c.args.part.now ∷ []) ≡ None = ap (λ ps. path_fault (ps ++ c.args.part.now ∷ [])) view ∙ child in
    (longer_path text (string_bytes c.in_ok-text.text) c.args.part.now whole fits c.in_ok-text.ensures).0

pub returns-clause-ok : goal.returns-clause-ok
returns-clause-ok c =
    let text = c.deref.result.now in
    let whole : IsPathBlock text = search rules in
    let view : parts_of text ≡ c.args.self.now = search rules in
    let child : path_fault (c.args.self.now ++ c.args.part.now ∷ []) ≡ None = search rules in
    let fits : path_fault (parts_of text ++ c.args.part.now ∷ []) ≡ None = ap (λ ps. path_fault (ps ++ c.args.part.now ∷ [])) view ∙ child in
    (longer_path text (string_bytes c.in_ok-text.text) c.args.part.now whole fits c.in_ok-text.ensures).1 ∙ ap (λ ps. ps ++ c.args.part.now ∷ []) view
