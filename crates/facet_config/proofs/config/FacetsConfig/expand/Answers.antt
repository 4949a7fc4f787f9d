use Rattle.std.proofs.Common.{◌≡◌, ◌+◌, ◌<◌, ◌≤◌, ◌++◌, ℕ, List, [], arith, length, get_or, drop, ap, sym, subst, ◌∙◌, below_more}
use Rattle.std.specs.Prelude.{flat_map, nat_eq}
use Rattle.std.specs.List.{zip, list_any}
use Rattle.std.proofs.lemmas.List.{get_or_default, drop_all, append-nil}
use Rattle.std.proofs.lemmas.Slice.Zip.{length-zip}
use Rattle.facet_model.specs.CountedPaths.{ordinals_of_label, ordinals_of_labels}
use Rattle.facet_config.proofs.Expanded.{as_long, label_more, label_ordinals, each_some, expanded_are_counted}
use Rattle.facet_config.proofs.config.FacetsConfig.expand.Goals as goal

pub bounds-resolved-at : goal.bounds-resolved-at
bounds-resolved-at c =
    let long = as_long c.args.doc.now.labels c.args.resolved.now c.requires in
    let size : length c.facets-facets.result.now ≡ length c.args.doc.now.labels = ap length c.facets-facets.ensures.labels in
    omega (arith, long.0, c.loop-at-test.true)

pub expand_label-requires : goal.expand_label-requires
expand_label-requires c =
    let long = as_long c.args.doc.now.labels c.args.resolved.now c.requires in
    let size : length c.facets-facets.result.now ≡ length c.args.doc.now.labels = ap length c.facets-facets.ensures.labels in
    let low : c.loop-at.at < length c.args.doc.now.labels = omega (arith, c.loop-at-test.true) in
    let label : c.index-facets-at.result ≡ get_or c.args.doc.now.labels c.loop-at.at [] = c.index-facets-at.is ∙ get_or_default c.facets-facets.result.now c.loop-at.at c.index-facets-at.result [] c.loop-at-test.true ∙ ap (λ (ls : List (List (List ℕ))). get_or ls c.loop-at.at []) c.facets-facets.ensures.labels in
    let ords : c.index-resolved-at.result ≡ get_or c.args.resolved.now c.loop-at.at [] = c.index-resolved-at.is ∙ get_or_default c.args.resolved.now c.loop-at.at c.index-resolved-at.result [] (omega (arith, long.0)) in
    ap length ords ∙ long.1 c.loop-at.at low ∙ sym (ap length label)

pub loop-at-preserved : goal.loop-at-preserved
loop-at-preserved c =
    let long = as_long c.args.doc.now.labels c.args.resolved.now c.requires in
    let size : length c.facets-facets.result.now ≡ length c.args.doc.now.labels = ap length c.facets-facets.ensures.labels in
    let high : c.loop-at.at < length c.args.resolved.now = omega (arith, long.0, c.loop-at-test.true) in
    let label : c.index-facets-at.result ≡ get_or c.facets-facets.result.now c.loop-at.at [] = c.index-facets-at.is ∙ get_or_default c.facets-facets.result.now c.loop-at.at c.index-facets-at.result [] c.loop-at-test.true in
    let ords : c.index-resolved-at.result ≡ get_or c.args.resolved.now c.loop-at.at [] = c.index-resolved-at.is ∙ get_or_default c.args.resolved.now c.loop-at.at c.index-resolved-at.result [] high in
    let more : ordinals_of_label c.args.self.now c.index-facets-at.result c.index-resolved-at.result ≡ ordinals_of_label c.args.self.now (get_or c.facets-facets.result.now c.loop-at.at []) (get_or c.args.resolved.now c.loop-at.at []) = λ i. ordinals_of_label c.args.self.now (label i) (ords i) in
    let made : c.expand_label.new.ords.items ≡ c.loop-at.ords.items ++ ordinals_of_label c.args.self.now c.index-facets-at.result c.index-resolved-at.result = c.in_ok-expand_label.ensures.ords in (
      ap (λ ys. ys ++ flat_map (label_ordinals c.args.self.now) (drop (c.loop-at.at + 1) (zip c.facets-facets.result.now c.args.resolved.now))) made
          ∙ label_more c.args.self.now c.facets-facets.result.now c.args.resolved.now c.loop-at.at c.loop-at.ords.items (ordinals_of_label c.args.self.now c.index-facets-at.result c.index-resolved-at.result)
          (flat_map (label_ordinals c.args.self.now) (zip c.facets-facets.result.now c.args.resolved.now)) c.loop-at-test.true high more c.loop-at.invariant.0,
      below_more (λ k. 0 < length (get_or c.facets-facets.result.now k [])) c.loop-at.at c.loop-at.invariant.1 (subst (λ (l : List (List ℕ)). 0 < length l) label c.expand_label.ensures.some),
    )

pub returns : goal.returns
returns c =
    let labels : List (List (List ℕ)) = c.args.doc.now.labels in
    let resolved : List (List ℕ) = c.args.resolved.now in
    let long = as_long labels resolved c.requires in
    let is : c.facets-facets.result.now ≡ labels = c.facets-facets.ensures.labels in
    let size : length c.facets-facets.result.now ≡ length labels = ap length is in
    let past : length (zip c.facets-facets.result.now resolved) ≤ c.loop-at.at = omega (arith, length-zip c.facets-facets.result.now resolved, c.loop-at-test.false) in
    let none : flat_map (label_ordinals c.args.self.now) (drop c.loop-at.at (zip c.facets-facets.result.now resolved)) ≡ [] = ap (flat_map (label_ordinals c.args.self.now)) (drop_all c.loop-at.at (zip c.facets-facets.result.now resolved) past) in
    let all : c.loop-at.ords.items ≡ ordinals_of_labels c.args.self.now labels resolved = sym (append-nil c.loop-at.ords.items) ∙ sym (ap (λ ys. c.loop-at.ords.items ++ ys) none) ∙ c.loop-at.invariant.0 ∙ ap (λ (ls : List (List (List ℕ))). ordinals_of_labels c.args.self.now ls resolved) is in
    let members = λ (o : ℕ). c.once.ensures.members o ∙ ap (list_any (nat_eq o)) all in
    let some = each_some labels (λ k lt. subst (λ (ls : List (List (List ℕ))). 0 < length (get_or ls k [])) is (c.loop-at.invariant.1 k (omega (arith, c.loop-at-test.false)))) in
    record {
      members = members;
      paths = λ known list at. expanded_are_counted known list c.args.self.now labels resolved c.once.result at some c.once.ensures.rising members;
    }
