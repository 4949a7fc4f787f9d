use Rattle.std.proofs.Common.{◌≡◌, List, ℕ, subst, ◌∙◌}
use Rattle.std.specs.List.{slice_split}
use Rattle.std.specs.Str.{str_to_ascii_lowercase}
use Rattle.std.proofs.lemmas.Result.{on_ok_weaker}
use Rattle.facet_model.specs.Words.{is_blank}
use Rattle.seg_terms.specs.Noting.{Table, piece_terms}
use Rattle.seg_decoding.specs.Pairs.{Passes}
use Rattle.seg_decoding.proofs.walk.Walk.pass_text.Goals as goal

pub returns : goal.returns
returns c =
    let terms : Table = c.args.segment.now.terms in
    let old : List ℕ = c.args.self.now.next.items in
    let new : List ℕ = c.pass_words.new.self.next.items in
    let text : c.as_str.result.now ≡ str_to_ascii_lowercase c.args.text.now = c.as_str.ensures.value ∙ c.in_ok-lowered.ensures.ok in
    on_ok_weaker c.pass_words.result (λ words. subst (λ t. Passes terms c.args.doc (piece_terms (slice_split is_blank t)) old new) text words) c.pass_words.ensures
