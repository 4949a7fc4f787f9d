use Rattle.std.proofs.Common.{Bool, ◌≡◌, ◌∙◌, ◌+◌, ◌/◌, ◌&&◌, ◌∷◌, ◌++◌, ◌<◌, [], List, ℕ, None, map, length, refl, sym, ap, subst, arith}
use Rattle.std.specs.List.{AllByRecursion, AllZip, list_any}
use Rattle.std.specs.Str.{bytes_eq}
use Rattle.std.proofs.lemmas.List.{length-map}
use Rattle.std.proofs.lemmas.Result.{on_ok_weaker}
use Rattle.std.proofs.lemmas.Slice.Zip.{AllZip-long}
use Rattle.facet_model.specs.CountedPaths.{places}
use Rattle.facet_model.specs.Documents.{Doc}
use Rattle.facet_model.specs.Queries.{QueryTree, matches}
use Rattle.facet_model.specs.QueryViews.{query_view}
use Rattle.facet_model.specs.Stored.{Records}
use Rattle.place_bits.specs.Misses.{HaveWords}
use Rattle.query_eval.proofs.Marks.{same_places}
use Rattle.query_eval.proofs.Words.{some_left}
use Rattle.facet_codec.specs.Laws.{IsBelow}
use Rattle.seg_postings.specs.Rising.{IsRising}
use Rattle.seg_postings.specs.Sets.{without}
use Rattle.seg_drill.specs.Passing.{AreAllOf, passes_all}
use Rattle.sideways.specs.Counted.{fails_alone, is_drilled}
use Rattle.sideways.specs.declared.pass.LiftedPass.{LiftedPass}
use Rattle.sideways.proofs.Misses.{covers_all, hit_test, test_of}
use Rattle.seg_drill.proofs.Narrowed.{same_all}
use Rattle.sideways.proofs.Passed.{append_all, within_docs}
use Rattle.sideways.proofs.Sets.{each_in, each_within, given_all}
use Rattle.sideways.proofs.near.add_segment.Goals as goal
use Rattle.query_eval.specs.Segments.{passes_tests}

pub near_sets-requires : goal.near_sets-requires
near_sets-requires c =
    let docs : List Doc = c.requires.has.0 in
    let query : QueryTree = query_view c.args.query.now in
    let lent : c.deref.result.now ≡ c.args.lifted.now.items = c.deref.ensures.value in
    record {
      within = (docs, matches query, map (test_of query c.args.drill.now) c.deref.result.now, c.in_ok-base.ensures docs c.requires.has.1, c.in_ok-dims.ensures docs c.requires.has.1, c.docs-then-are_near_many.ensures.number ∙ c.requires.has.1.records);
      rise = subst IsRising (sym c.dead.ensures.dead) c.dead.ensures.rise;
      below = subst (λ n. AllByRecursion (IsBelow n) c.dead.result.now) (sym c.docs-then-are_near_many.ensures.number) (subst (AllByRecursion (IsBelow (length c.args.segment.now.records))) (sym c.dead.ensures.dead) c.dead.ensures.within);
    }

pub marked-requires : goal.marked-requires
marked-requires c =
    let docs : List Doc = c.requires.has.0 in
    let query : QueryTree = query_view c.args.query.now in
    let tests = map (test_of query c.args.drill.now) c.deref.result.now in
    let long : c.docs-then-are_near_many.result ≡ length docs = c.docs-then-are_near_many.ensures.number ∙ c.requires.has.1.records in
    record {
      words = c.in_ok-sets.ensures.hits_words ∙ ap (λ n. (n + 63) / 64) c.docs-then-are_near_many.ensures.number;
      within = within_docs c.args.segment.now docs (λ doc. matches query doc && passes_tests tests doc) c.dead.result.now c.in_ok-sets.sets.hits.places c.requires.has.1.records
          (c.in_ok-sets.ensures.hits docs (matches query) tests long (c.in_ok-base.ensures docs c.requires.has.1) (c.in_ok-dims.ensures docs c.requires.has.1));
    }

pub add_sets-requires-clause-within : goal.add_sets-requires-clause-within
add_sets-requires-clause-within c =
    let docs : List Doc = c.requires.has.0 in
    let query : QueryTree = query_view c.args.query.now in
    let tests = map (test_of query c.args.drill.now) c.deref.result.now in
    let long : c.docs-then-are_near_many.result ≡ length docs = c.docs-then-are_near_many.ensures.number ∙ c.requires.has.1.records in
    each_within c.args.segment.now docs c.dead.result.now (λ t doc. matches query doc && fails_alone tests t doc) tests c.in_ok-sets.sets.near.items c.requires.has.1.records
    (subst (λ n. HaveWords ((n + 63) / 64) c.in_ok-sets.sets.near.items) c.docs-then-are_near_many.ensures.number c.in_ok-sets.ensures.near_words)
    (c.in_ok-sets.ensures.near docs (matches query) tests long (c.in_ok-base.ensures docs c.requires.has.1) (c.in_ok-dims.ensures docs c.requires.has.1))

pub add_sets-requires-clause-same : goal.add_sets-requires-clause-same
add_sets-requires-clause-same c =
    let docs : List Doc = c.requires.has.0 in
    let query : QueryTree = query_view c.args.query.now in
    let tests = map (test_of query c.args.drill.now) c.deref.result.now in
    let long : c.docs-then-are_near_many.result ≡ length docs = c.docs-then-are_near_many.ensures.number ∙ c.requires.has.1.records in
    AllZip-long _ tests c.in_ok-sets.sets.near.items (c.in_ok-sets.ensures.near docs (matches query) tests long (c.in_ok-base.ensures docs c.requires.has.1) (c.in_ok-dims.ensures docs c.requires.has.1))
    ∙ length-map c.deref.result.now (test_of query c.args.drill.now) ∙ ap length c.deref.ensures.value

pub returns-then-are_near_many-clause-hits : goal.returns-then-are_near_many-clause-hits
returns-then-are_near_many-clause-hits c =
    let query : QueryTree = query_view c.args.query.now in
    let drill : List (List (List ℕ)) = c.args.drill.now in
    let all : List LiftedPass = c.args.lifted.now.items in
    let tests = map (test_of query drill) c.deref.result.now in
    let some : 0 < length all = omega (arith, some_left c.args.lifted.now.len (sym (sym c.is_empty.ensures ∙ c.if-is_empty.false)), c.args.lifted.now.ok.0) in
    let covers : (dim : List ℕ) → list_any (λ l. bytes_eq l.dim.now dim) all ≡ is_drilled drill dim = covers_all c.requires.covers.0 drill all some c.requires.covers.1 in
    on_ok_weaker c.add_sets.result (λ given. record {
      part = record { segment = c.args.segment.now; left = c.in_ok-sets.sets.hits.places };
      is = record {
        same = refl;
        left = λ docs are.
            let long : c.docs-then-are_near_many.result ≡ length docs = c.docs-then-are_near_many.ensures.number ∙ are.records in
            c.in_ok-sets.ensures.hits docs (matches query) tests long (c.in_ok-base.ensures docs are) (c.in_ok-dims.ensures docs are)
            ∙ (λ i. without (same_places (λ doc. matches query doc && passes_tests tests doc) (passes_all query drill None) docs
            (λ doc. ap (λ (ls : List LiftedPass). matches query doc && passes_tests (map (test_of query drill) ls) doc) c.deref.ensures.value ∙ hit_test query drill all covers doc) i) (c.dead.ensures.dead i));
      };
      parts = c.in_ok-add-2.ensures.parts ∙ (λ i. c.args.hits.now.parts.items ++ record { segment = c.marked.ensures.segment i; left = c.marked.ensures.left i } ∷ []);
      counter = c.in_ok-add-2.ensures.counter;
    }) c.add_sets.ensures

pub returns-then-are_near_many-clause-lifted : goal.returns-then-are_near_many-clause-lifted
returns-then-are_near_many-clause-lifted c =
    let query : QueryTree = query_view c.args.query.now in
    let drill : List (List (List ℕ)) = c.args.drill.now in
    let segment : Records = c.args.segment.now in
    let all : List LiftedPass = c.args.lifted.now.items in
    let some : 0 < length all = omega (arith, some_left c.args.lifted.now.len (sym (sym c.is_empty.ensures ∙ c.if-is_empty.false)), c.args.lifted.now.ok.0) in
    let covers : (dim : List ℕ) → list_any (λ l. bytes_eq l.dim.now dim) all ≡ is_drilled drill dim = covers_all c.requires.covers.0 drill all some c.requires.covers.1 in
    let tests = map (test_of query drill) c.deref.result.now in
    let records : c.docs-then-are_near_many.result ≡ length c.requires.has.0 = c.docs-then-are_near_many.ensures.number ∙ c.requires.has.1.records in
    let len : length c.in_ok-sets.sets.near.items ≡ length all =
    AllZip-long _ tests c.in_ok-sets.sets.near.items (c.in_ok-sets.ensures.near c.requires.has.0 (matches query) tests records (c.in_ok-base.ensures c.requires.has.0 c.requires.has.1) (c.in_ok-dims.ensures c.requires.has.0 c.requires.has.1))
    ∙ length-map c.deref.result.now (test_of query drill) ∙ ap length c.deref.ensures.value in
    on_ok_weaker c.add_sets.result (λ given. given_all query drill segment all covers c.requires.distinct all c.in_ok-sets.sets.near.items c.add_sets.new.lifted.items
    (λ docs are.
    let same : c.docs-then-are_near_many.result ≡ length docs = c.docs-then-are_near_many.ensures.number ∙ are.records in
    subst (λ ds. AllZip (λ t s. s.places ≡ without (places (λ doc. matches query doc && fails_alone (map (test_of query drill) all) t doc) docs) ds) (map (test_of query drill) all) c.in_ok-sets.sets.near.items) c.dead.ensures.dead
    (subst (λ (ls : List LiftedPass). AllZip (λ t s. s.places ≡ without (places (λ doc. matches query doc && fails_alone (map (test_of query drill) ls) t doc) docs) c.dead.result.now) (map (test_of query drill) ls) c.in_ok-sets.sets.near.items) c.deref.ensures.value
    (c.in_ok-sets.ensures.near docs (matches query) (map (test_of query drill) c.deref.result.now) same (c.in_ok-base.ensures docs are) (c.in_ok-dims.ensures docs are))))
    len given.len (λ j s l lt. given.done j s l (omega (arith, lt)) lt) (each_in all all (λ dim some. some))) c.add_sets.ensures

pub of_nodes-requires : goal.of_nodes-requires
of_nodes-requires c =
    let docs : List Doc = c.requires.has.0 in
    let query : QueryTree = query_view c.args.query.now in
    let tests = map (test_of query c.args.drill.now) c.deref.result.now in
    let hit : Doc → Bool = λ doc. matches query doc && passes_tests tests doc in
    (docs, hit, subst (AreAllOf docs hit) (sym c.in_ok-append.ensures.items) (append_all docs (matches query) tests c.in_ok-base.base.items c.in_ok-dims.dims.items (c.in_ok-base.ensures docs c.requires.has.1) (c.in_ok-dims.ensures docs c.requires.has.1)), c.requires.has.1)

pub returns-clause-hits : goal.returns-clause-hits
returns-clause-hits c =
    let query : QueryTree = query_view c.args.query.now in
    let drill : List (List (List ℕ)) = c.args.drill.now in
    let all : List LiftedPass = c.args.lifted.now.items in
    let tests = map (test_of query drill) c.deref.result.now in
    let hit : Doc → Bool = λ doc. matches query doc && passes_tests tests doc in
    let some : 0 < length all = omega (arith, some_left c.args.lifted.now.len (sym (sym c.is_empty.ensures ∙ c.if-is_empty.false)), c.args.lifted.now.ok.0) in
    let covers : (dim : List ℕ) → list_any (λ l. bytes_eq l.dim.now dim) all ≡ is_drilled drill dim = covers_all c.requires.covers.0 drill all some c.requires.covers.1 in
    on_ok_weaker c.add_walks.result (λ walks. record {
      part = c.in_ok-part-2.part;
      is = c.in_ok-part-2.ensures (passes_all query drill None) (λ docs are.
          subst (AreAllOf docs (passes_all query drill None)) (sym c.in_ok-append.ensures.items)
          (same_all docs hit (passes_all query drill None) (c.in_ok-base.base.items ++ c.in_ok-dims.dims.items)
          (λ doc. ap (λ (ls : List LiftedPass). matches query doc && passes_tests (map (test_of query drill) ls) doc) c.deref.ensures.value ∙ hit_test query drill all covers doc)
          (append_all docs (matches query) tests c.in_ok-base.base.items c.in_ok-dims.dims.items (c.in_ok-base.ensures docs are) (c.in_ok-dims.ensures docs are))));
      parts = c.in_ok-add-3.ensures.parts;
      counter = c.in_ok-add-3.ensures.counter;
    }) c.add_walks.ensures
