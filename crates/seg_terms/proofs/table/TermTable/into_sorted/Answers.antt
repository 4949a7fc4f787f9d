use Rattle.std.proofs.Common.{◌≡◌, ap, sym, ◌∙◌, ◌++◌, map, subst}
use Rattle.std.proofs.lemmas.List.{append-nil}
use Rattle.std.specs.List.Sorted.{IsStrictlySortedBy}
use Rattle.std.specs.Map.{keys_of}
use Rattle.facet_model.specs.Words.{word_cmp}
use Rattle.seg_terms.specs.Noting.{Table, table_of, found}
use Rattle.seg_terms.specs.Places.{term_view}
use Rattle.seg_terms.proofs.Tables.{rising_table, found_reordered, one_more_term}
use Rattle.seg_terms.proofs.table.TermTable.into_sorted.Goals as goal

pub loop-term-preserved : goal.loop-term-preserved
loop-term-preserved c =
    let rest = c.next.new.self in
    ap (λ xs. map term_view xs ++ table_of rest) c.in_ok-push.ensures.items
    ∙ one_more_term c.loop-term.sorted.items (record { term = c.in-Some.term; places = c.in-Some.places }) rest
    ∙ ap (λ es. map term_view c.loop-term.sorted.items ++ table_of es) (sym c.in-Some.ensures.steps)
    ∙ c.loop-term.invariant

pub returns-clause-rising : goal.returns-clause-rising
returns-clause-rising c =
    let n = c.sort_keys.new.self in
    let all : map term_view c.loop-term.sorted.items ≡ table_of n.entries =
    sym (append-nil (map term_view c.loop-term.sorted.items)) ∙ ap (λ es. map term_view c.loop-term.sorted.items ++ table_of es) (sym c.in-None.ensures.steps.0) ∙ c.loop-term.invariant ∙ ap table_of c.into_iter-term-iterator.ensures.into_iter_gives.0 in
    subst (λ (es : Table). IsStrictlySortedBy word_cmp (keys_of es)) (sym all) (rising_table n.entries c.in_ok-sort_keys.ensures.sorted c.sort_keys.ensures.unique)

pub returns-clause-same : goal.returns-clause-same
returns-clause-same c t =
    let n = c.sort_keys.new.self in
    let all : map term_view c.loop-term.sorted.items ≡ table_of n.entries =
    sym (append-nil (map term_view c.loop-term.sorted.items)) ∙ ap (λ es. map term_view c.loop-term.sorted.items ++ table_of es) (sym c.in-None.ensures.steps.0) ∙ c.loop-term.invariant ∙ ap table_of c.into_iter-term-iterator.ensures.into_iter_gives.0 in
    ap (λ es. found es t) all ∙ found_reordered c.self.inside.terms.entries n.entries c.sort_keys.ensures.reordered.0 c.sort_keys.ensures.unique t ∙ ap (λ es. found es t) c.self.view_is
