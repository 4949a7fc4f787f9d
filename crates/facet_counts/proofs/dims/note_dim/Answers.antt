use Rattle.std.proofs.Common.{ap, sym, subst, ◌≡◌, ◌||◌, ◌∙◌, ◌++◌, ◌∷◌, [], Some, map}
use Rattle.std.specs.Prelude.{option_map}
use Rattle.std.specs.Str.{bytes_eq}
use Rattle.std.proofs.lemmas.List.{map-append}
use Rattle.facet_model.specs.ResultViews.{result_view}
use Rattle.facet_model.specs.Results.{IsTop}
use Rattle.facet_counts.specs.Dims.{AreDims}
use Rattle.facet_counts.proofs.Results.{noted_some, noted_none}
use Rattle.facet_counts.proofs.dims.note_dim.Goals as goal

pub returns-in_ok-push-clause-noted : goal.returns-in_ok-push-clause-noted
returns-in_ok-push-clause-noted c = λ among config docs_of n dim new top dims.
    let here : IsTop config (docs_of dim) (dim ∷ []) n (Some (result_view c.in-Some.top)) = subst (λ o. IsTop config (docs_of dim) (dim ∷ []) n (option_map result_view o)) c.in-Some.is top in
    let items : map result_view c.push.new.self.items ≡ map result_view c.args.results.now.items ++ result_view c.in-Some.top ∷ [] = ap (map result_view) c.in_ok-push.ensures.items ∙ map-append result_view c.args.results.now.items (c.in-Some.top ∷ []) in
    subst (AreDims (λ d. bytes_eq d dim || among d) config docs_of n) (sym items) (noted_some among config docs_of n dim new (map result_view c.args.results.now.items) dims (result_view c.in-Some.top) here)

pub returns-in_default-clause-noted : goal.returns-in_default-clause-noted
returns-in_default-clause-noted c = λ among config docs_of n dim new top dims.
    noted_none among config docs_of n dim new (map result_view c.args.results.now.items) dims (subst (λ o. IsTop config (docs_of dim) (dim ∷ []) n (option_map result_view o)) c.in_default.is top)
