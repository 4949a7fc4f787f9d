use Rattle.std.proofs.Common.{rules, ◌≡◌, ◌<◌, ◌+◌, ℕ, List, ◌∷◌, [], ◌++◌, subst, sym, ap, ◌∙◌, map, take, length, arith}
use Rattle.std.proofs.lemmas.List.{take_more, take_all, map-append, length-map, length-take-le}
use Rattle.std.specs.List.{AllByRecursion}
use Rattle.facet_model.specs.Documents.{Doc}
use Rattle.facet_model.specs.Terms.{doc_terms, terms_of}
use Rattle.seg_terms.specs.declared.entry.Entry.{Entry}
use Rattle.seg_terms.specs.Noting.{Table, AreNoted, found}
use Rattle.seg_terms.specs.Laws.{term_places}
use Rattle.seg_terms.specs.Places.{IsShortTerm, term_view}
use Rattle.seg_terms.proofs.DocPlaces.{one_document_more}
use Rattle.seg_terms.proofs.Shorts.{IsShortDoc, terms_short}
use Rattle.seg_terms.proofs.TermLists.{both_clauses, table_is}
use Rattle.seg_terms.proofs.term_places.terms_of.Goals as goal
use Rattle.facet_model.proofs.Each.{each_append}

pub loop-place-preserved : goal.loop-place-preserved
loop-place-preserved c =
    let doc_of : Entry → Doc = λ e. e.doc in
    let entries = c.args.entries.now in
    let at = c.loop-place.place in
    let entry = c.index-entries-place.result in
    let docs : List Doc = map doc_of (take at entries) in
    let within : at < length entries = search rules in
    let longer : map doc_of (take (at + 1) entries) ≡ docs ++ entry.doc ∷ [] = ap (map doc_of) (take_more entries at entry within ∙ ap (λ e. take at entries ++ e ∷ []) (sym c.index-entries-place.is)) ∙ map-append doc_of (take at entries) (entry ∷ []) in
    let size : at ≡ length docs = sym (length-map (take at entries) doc_of ∙ length-take-le at entries (omega arith)) in
    let before : Table = c.loop-place.collector.table in
    let after : Table = c.note_document.new.self.table in
    let noted : AreNoted (length docs) (doc_terms entry.doc) before after = subst (λ n. AreNoted n (doc_terms entry.doc) before after) size c.in_ok-note_document.ensures.noted in
    record {
      terms = subst (λ ds. (t : List ℕ) → found after t ≡ term_places ds t) (sym longer) (one_document_more docs entry.doc before after c.loop-place.invariant.terms noted);
      short = subst (AllByRecursion IsShortDoc) (sym longer) (each_append IsShortDoc docs (entry.doc ∷ []) c.loop-place.invariant.short (c.in_ok-note_document.ensures.short, tt));
    }

pub returns-clause-terms : goal.returns-clause-terms
returns-clause-terms c =
    let doc_of : Entry → Doc = λ e. e.doc in
    let entries = c.args.entries.now in
    let docs : List Doc = map doc_of entries in
    let all : take c.loop-place.place entries ≡ entries = take_all c.loop-place.place entries c.loop-place-test.false in
    both_clauses c.into_sorted.result _ _ (λ v. map term_view v.items ≡ terms_of docs) (λ v up same. table_is docs (map term_view v.items) up (λ t. same t ∙ c.loop-place.invariant.terms t ∙ ap (λ es. term_places (map doc_of es) t) all)) c.into_sorted.ensures.rising c.into_sorted.ensures.same

pub returns-clause-short : goal.returns-clause-short
returns-clause-short c =
    let doc_of : Entry → Doc = λ e. e.doc in
    let entries = c.args.entries.now in
    let docs : List Doc = map doc_of entries in
    let all : take c.loop-place.place entries ≡ entries = take_all c.loop-place.place entries c.loop-place-test.false in
    let short = terms_short docs (subst (λ es. AllByRecursion IsShortDoc (map doc_of es)) all c.loop-place.invariant.short) in
    both_clauses c.into_sorted.result _ _ (λ v. AllByRecursion (λ t. IsShortTerm t.0) (map term_view v.items))
    (λ v up same. subst (AllByRecursion (λ t. IsShortTerm t.0)) (sym (table_is docs (map term_view v.items) up (λ t. same t ∙ c.loop-place.invariant.terms t ∙ ap (λ es. term_places (map doc_of es) t) all))) short) c.into_sorted.ensures.rising c.into_sorted.ensures.same
