use Rattle.std.proofs.Common.{arith, rules, ap, sym, subst, ◌≡◌, ◌<◌, ◌∙◌, ◌++◌, ◌∷◌, [], List, ℕ, Some, None, length, map, get_or, slice_get, w64, to_z, of_z}
use Rattle.std.specs.List.{AllZip}
use Rattle.std.proofs.lemmas.Option.{slice_get_within}
use Rattle.std.proofs.lemmas.List.{get_or_default}
use Rattle.facet_names.specs.Labels.{place}
use Rattle.facet_model.specs.Documents.{Doc, dim_of, count}
use Rattle.facet_model.specs.Flags.{flags}
use Rattle.facet_model.specs.Listing.{PartCount, IsListing, counted_child}
use Rattle.facet_model.specs.Results.{IsTop, value_of}
use Rattle.facet_model.proofs.Tops.{none_is, some_is}
use Rattle.facet_counts.specs.Lists.{IsListOf}
use Rattle.facet_counts.specs.Tallies.{Totals, AreCounts}
use Rattle.facet_counts.specs.Kept.{IsTotals}
use Rattle.facet_counts.specs.Children.{children_at}
use Rattle.facet_counts.specs.Firsts.{AreFirst}
use Rattle.taxo_list.proofs.Labels.{label_at}
use Rattle.facet_counts.proofs.Listed.{count_at, listing_from}
use Rattle.facet_counts.proofs.Below.{listing_of_docs, value_is}
use Rattle.facet_counts.proofs.counts.Counts.top_at.Goals as goal

pub returns-then-number-eq0 : goal.returns-then-number-eq0
returns-then-number-eq0 c =
    let counts : Totals = record { labels = c.self.inside.view.now; config = c.self.inside.config.now; totals = c.self.inside.totals.items } in
    let kept : IsTotals counts = c.self.invariant in
    let path : List (List ℕ) = c.args.path.now in
    let here : slice_get counts.labels c.args.ord ≡ Some path = label_at counts.labels c.args.ord path (ap (λ (t : Totals). place t.labels path) c.self.view_is ∙ c.requires.place) in
    let shown : List PartCount = map counted_child c.in_ok-children.field-0.children.items in
    let first : AreFirst c.args.n (children_at counts.labels counts.totals c.args.ord) shown c.in_ok-children.field-0.sum c.in_ok-children.field-0.number =
    subst (λ (l : List ℕ). AreFirst c.args.n (children_at counts.labels l c.args.ord) shown c.in_ok-children.field-0.sum c.in_ok-children.field-0.number) c.deref.ensures.value c.in_ok-children.ensures.first in
    let listing : IsListing (λ part. count_at counts.labels counts.totals (path ++ part ∷ [])) first.ordered = listing_from counts.labels kept.list counts.totals c.args.ord path here first.ordered first.moved first.sorted in
    let none : length first.ordered ≡ 0 = sym first.as_many ∙ omega arith in
    let Answers : Totals → Type 0 = λ t. (docs : List Doc) (lists : List (List ℕ)) → AreCounts t lists → AllZip (IsListOf t.config t.labels) lists docs → IsTop t.config docs c.args.path.now c.args.n None in
    subst Answers c.self.view_is (λ docs lists are all. (first.ordered, listing_of_docs counts kept path c.requires.some docs lists are all first.ordered listing, none_is counts.config docs path c.args.n first.ordered none))

pub returns : goal.returns
returns c =
    let counts : Totals = record { labels = c.self.inside.view.now; config = c.self.inside.config.now; totals = c.self.inside.totals.items } in
    let kept : IsTotals counts = c.self.invariant in
    let path : List (List ℕ) = c.args.path.now in
    let here : slice_get counts.labels c.args.ord ≡ Some path = label_at counts.labels c.args.ord path (ap (λ (t : Totals). place t.labels path) c.self.view_is ∙ c.requires.place) in
    let shown : List PartCount = map counted_child c.in_ok-children.field-0.children.items in
    let first : AreFirst c.args.n (children_at counts.labels counts.totals c.args.ord) shown c.in_ok-children.field-0.sum c.in_ok-children.field-0.number =
    subst (λ (l : List ℕ). AreFirst c.args.n (children_at counts.labels l c.args.ord) shown c.in_ok-children.field-0.sum c.in_ok-children.field-0.number) c.deref.ensures.value c.in_ok-children.ensures.first in
    let listing : IsListing (λ part. count_at counts.labels counts.totals (path ++ part ∷ [])) first.ordered = listing_from counts.labels kept.list counts.totals c.args.ord path here first.ordered first.moved first.sorted in
    let some : 0 < length first.ordered = omega (arith, first.as_many) in
    let back : to_z w64 (of_z w64 c.value_for-value.result) ≡ c.value_for-value.result = search rules in
    let Answers : Totals → Type 0 = λ t. (docs : List Doc) (lists : List (List ℕ)) → AreCounts t lists → AllZip (IsListOf t.config t.labels) lists docs → IsTop t.config docs c.args.path.now c.args.n (Some (record { path = c.in_ok-path.path; value = to_z w64 (of_z w64 c.value_for-value.result); children = shown; child_count = c.in_ok-children.field-0.number })) in
    subst Answers c.self.view_is (λ docs lists are all.
    let own : c.index-own.result.now ≡ get_or c.self.inside.totals.items c.args.ord 0 = c.index-own.ensures ∙ get_or_default c.self.inside.totals.items c.args.ord c.index-own.result.now 0 (omega (arith, kept.sized, slice_get_within c.self.inside.view.now c.args.ord path here)) in
    let given : c.args.dim_flags ≡ flags c.self.inside.config.now (dim_of c.args.path.now) = c.requires.flags ∙ ap (λ (t : Totals). flags t.config (dim_of path)) (sym c.self.view_is) in
    let value : c.value_for-value.result ≡ value_of (flags c.self.inside.config.now (dim_of c.args.path.now)) (count docs c.args.path.now) first.ordered =
    c.value_for-value.ensures
    ∙ value_is counts kept path c.requires.some docs lists are all c.args.ord (ap (λ (t : Totals). place t.labels path) c.self.view_is ∙ c.requires.place) c.args.dim_flags given c.index-own.result.now c.in_ok-children.field-0.sum own first.ordered first.total in (
      first.ordered,
      listing_of_docs counts kept path c.requires.some docs lists are all first.ordered listing,
      some_is counts.config docs path c.in_ok-path.path c.args.n first.ordered shown (to_z w64 (of_z w64 c.value_for-value.result)) c.in_ok-children.field-0.number some c.in_ok-path.ensures (back ∙ value) first.first first.as_many,
    ))
