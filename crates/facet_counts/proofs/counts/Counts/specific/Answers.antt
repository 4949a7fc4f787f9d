use Rattle.std.proofs.Common.{arith, rules, ap, sym, subst, ◌≡◌, ◌<◌, ◌∙◌, List, ℕ, Some, None, length, get_or, pos, w64, to_z, of_z}
use Rattle.std.specs.Prelude.{nat_lt}
use Rattle.std.specs.List.{AllZip}
use Rattle.std.specs.Option.{option_map_or}
use Rattle.std.proofs.lemmas.List.{get_or_default}
use Rattle.std.proofs.lemmas.Option.{slice_get_within}
use Rattle.facet_names.specs.Labels.{place}
use Rattle.facet_model.specs.Asks.{one_value, ask_fault}
use Rattle.facet_model.specs.Documents.{Doc, count}
use Rattle.facet_model.specs.Results.{specific}
use Rattle.taxo_list.proofs.Labels.{label_at}
use Rattle.facet_counts.specs.Lists.{IsListOf}
use Rattle.facet_counts.specs.Tallies.{Totals, AreCounts}
use Rattle.facet_counts.specs.Kept.{IsTotals}
use Rattle.facet_counts.proofs.Below.{specific_is, kept_from_ask}
use Rattle.facet_counts.proofs.counts.Counts.specific.Goals as goal

pub returns-in-Some : goal.returns-in-Some
returns-in-Some c =
    let counts : Totals = record { labels = c.self.inside.view.now; config = c.self.inside.config.now; totals = c.self.inside.totals.items } in
    let kept : IsTotals counts = c.self.invariant in
    let some : 0 < length c.args.path.now = c.ordinal_of.ensures.some in
    let at : place c.self.inside.view.now c.args.path.now ≡ Some c.in-Some.ord = sym c.ordinal_of.ensures.ordinal ∙ c.in-Some.is in
    let within : c.in-Some.ord < length c.self.inside.view.now = slice_get_within c.self.inside.view.now c.in-Some.ord c.args.path.now (label_at c.self.inside.view.now c.in-Some.ord c.args.path.now at) in
    let number : c.index.result.now ≡ option_map_or (λ k. get_or c.self.inside.totals.items k 0) (place c.self.inside.view.now c.args.path.now) 0 =
    c.index.ensures ∙ get_or_default c.self.inside.totals.items c.in-Some.ord c.index.result.now 0 (omega (arith, kept.sized, within)) ∙ sym (ap (λ o. option_map_or (λ k. get_or c.self.inside.totals.items k 0) o 0) at) in
    let back : to_z w64 (of_z w64 c.from.result) ≡ c.from.result = search rules in
    let Answers : Totals → Type 0 = λ t. ask_fault t.config (one_value c.args.path.now) ≡ None → (docs snapshot : List Doc) (lists : List (List ℕ)) → AreCounts t lists → AllZip (IsListOf t.config t.labels) lists docs → c.args.exists ≡ nat_lt 0 (count snapshot c.args.path.now) → to_z w64 (of_z w64 c.from.result) ≡ specific snapshot docs c.args.path.now in
    subst Answers c.self.view_is (λ fits docs snapshot lists are all exists.
    back ∙ c.from.ensures ∙ specific_is counts kept c.args.path.now some docs lists are all (kept_from_ask counts.config c.args.path.now fits) snapshot (sym c.if-not-exists.false ∙ exists) c.index.result.now number) c.requires.kept

pub returns-in-None : goal.returns-in-None
returns-in-None c =
    let counts : Totals = record { labels = c.self.inside.view.now; config = c.self.inside.config.now; totals = c.self.inside.totals.items } in
    let kept : IsTotals counts = c.self.invariant in
    let some : 0 < length c.args.path.now = c.ordinal_of.ensures.some in
    let absent : place c.self.inside.view.now c.args.path.now ≡ None = sym c.ordinal_of.ensures.ordinal ∙ c.in-None.is in
    let number : 0 ≡ option_map_or (λ k. get_or c.self.inside.totals.items k 0) (place c.self.inside.view.now c.args.path.now) 0 = sym (ap (λ o. option_map_or (λ k. get_or c.self.inside.totals.items k 0) o 0) absent) in
    let Answers : Totals → Type 0 = λ t. ask_fault t.config (one_value c.args.path.now) ≡ None → (docs snapshot : List Doc) (lists : List (List ℕ)) → AreCounts t lists → AllZip (IsListOf t.config t.labels) lists docs → c.args.exists ≡ nat_lt 0 (count snapshot c.args.path.now) → pos 0 ≡ specific snapshot docs c.args.path.now in
    subst Answers c.self.view_is (λ fits docs snapshot lists are all exists.
    specific_is counts kept c.args.path.now some docs lists are all (kept_from_ask counts.config c.args.path.now fits) snapshot (sym c.if-not-exists.false ∙ exists) 0 number) c.requires.kept
