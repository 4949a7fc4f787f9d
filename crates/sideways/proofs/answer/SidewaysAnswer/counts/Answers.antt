use Rattle.std.proofs.Common.{◌≡◌, ◌∙◌, ◌||◌, List, Some, false, ap, sym, subst, arith}
use Rattle.std.specs.List.{AllByRecursion, list_any}
use Rattle.std.specs.Str.{bytes_eq}
use Rattle.std.proofs.lemmas.List.{take_all}
use Rattle.std.proofs.lemmas.List.Folds.{list_any_more}
use Rattle.facet_counts.specs.Tallies.{AreCounts}
use Rattle.facet_model.specs.Documents.{Doc}
use Rattle.facet_names.specs.Labels.{IsLabelList}
use Rattle.sideways.specs.Kept.{AreCountsOf}
use Rattle.sideways.specs.Questions.{HasDocs, counted_of, docs_of}
use Rattle.sideways.specs.Searches.{Search, question, question_of}
use Rattle.sideways.specs.declared.pass.LiftedCounts.{LiftedCounts}
use Rattle.sideways.proofs.Answered.{hit_counts, is_for, lifted_counts, lifted_same}
use Rattle.sideways.proofs.answer.SidewaysAnswer.counts.Goals as goal

pub returns-then-eq-clause-counts : goal.returns-then-eq-clause-counts
returns-then-eq-clause-counts c =
    let q = question_of c.self.inside.view.now c.self.inside.config.now c.self.inside.segments.now c.self.inside.ask.now in
    let all = c.deref-one-items.result.now in
    let items = c.deref-one-items.ensures.value in
    subst (λ (s : Search). (docs : List Doc) → HasDocs (question s) docs → AreCounts c.one-item.result.counts (counted_of (question s) (docs_of (question s) docs c.args.dim.now))) c.self.view_is
    (lifted_counts q c.args.dim.now all (λ d. ap (list_any (λ (x : LiftedCounts). bytes_eq x.dim.now d)) items ∙ c.self.invariant.covers d) c.loop-one.one-index c.one-item.result (subst (AllByRecursion (λ (x : LiftedCounts). AreCountsOf q (Some x.dim.now) x.counts)) (sym items) c.self.invariant.each) (omega arith) c.one-item.is (sym c.if-eq.ensures))

pub returns-then-eq-clause-labels : goal.returns-then-eq-clause-labels
returns-then-eq-clause-labels c =
    let q = question_of c.self.inside.view.now c.self.inside.config.now c.self.inside.segments.now c.self.inside.ask.now in
    let items = c.deref-one-items.ensures.value in
    (lifted_same q c.args.dim.now c.deref-one-items.result.now (λ d. ap (list_any (λ (x : LiftedCounts). bytes_eq x.dim.now d)) items ∙ c.self.invariant.covers d) c.loop-one.one-index c.one-item.result (subst (AllByRecursion (λ (x : LiftedCounts). AreCountsOf q (Some x.dim.now) x.counts)) (sym items) c.self.invariant.each) (omega arith) c.one-item.is).0
    ∙ ap (λ (s : Search). s.labels) c.self.view_is

pub returns-then-eq-clause-config : goal.returns-then-eq-clause-config
returns-then-eq-clause-config c =
    let q = question_of c.self.inside.view.now c.self.inside.config.now c.self.inside.segments.now c.self.inside.ask.now in
    let items = c.deref-one-items.ensures.value in
    (lifted_same q c.args.dim.now c.deref-one-items.result.now (λ d. ap (list_any (λ (x : LiftedCounts). bytes_eq x.dim.now d)) items ∙ c.self.invariant.covers d) c.loop-one.one-index c.one-item.result (subst (AllByRecursion (λ (x : LiftedCounts). AreCountsOf q (Some x.dim.now) x.counts)) (sym items) c.self.invariant.each) (omega arith) c.one-item.is).1
    ∙ ap (λ (s : Search). s.config) c.self.view_is

pub loop-one-preserved : goal.loop-one-preserved
loop-one-preserved c =
    list_any_more (is_for c.args.dim.now) c.deref-one-items.result.now c.loop-one.one-index c.one-item.result (omega arith)
    ∙ (λ i. c.loop-one.invariant i || (ap (is_for c.args.dim.now) (sym c.one-item.is) ∙ sym c.if-eq.ensures) i)

pub returns-clause-counts : goal.returns-clause-counts
returns-clause-counts c =
    let q = question_of c.self.inside.view.now c.self.inside.config.now c.self.inside.segments.now c.self.inside.ask.now in
    let all = c.deref-one-items.result.now in
    let items = c.deref-one-items.ensures.value in
    let none : list_any (is_for c.args.dim.now) all ≡ false = ap (list_any (is_for c.args.dim.now)) (sym (take_all c.loop-one.one-index all (omega arith))) ∙ c.loop-one.invariant in
    subst (λ (s : Search). (docs : List Doc) → HasDocs (question s) docs → AreCounts c.self.inside.found.counts (counted_of (question s) (docs_of (question s) docs c.args.dim.now))) c.self.view_is
    (hit_counts q c.args.dim.now all (λ d. ap (list_any (λ (x : LiftedCounts). bytes_eq x.dim.now d)) items ∙ c.self.invariant.covers d) c.self.inside.found.counts c.self.invariant.counts none)

pub returns-then-eq-clause-list : goal.returns-then-eq-clause-list
returns-then-eq-clause-list c = subst (λ (s : Search). IsLabelList s.labels) c.self.view_is c.self.invariant.list

pub returns-clause-list : goal.returns-clause-list
returns-clause-list c = subst (λ (s : Search). IsLabelList s.labels) c.self.view_is c.self.invariant.list
