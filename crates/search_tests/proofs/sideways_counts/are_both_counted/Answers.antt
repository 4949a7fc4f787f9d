use Rattle.std.proofs.Common.{◌∙◌, ◌≡◌, ◌≤◌, ℕ, List, arith, length, map, subst, sym}
use Rattle.std.specs.Arc.{arc_value}
use Rattle.std.specs.List.{sum_by}
use Rattle.facet_model.specs.Documents.{Doc}
use Rattle.facet_model.specs.Flags.{Config}
use Rattle.facet_model.specs.Stored.{Decodes, Records}
use Rattle.search_tests.proofs.Alike.{few_docs}
use Rattle.search_tests.proofs.sideways_counts.are_both_counted.Goals as goal

-- three records, which a view of the same labels decodes too
three : (known view : List (List (List ℕ))) (config : Config) (ss : List Records) → (docs : List Doc) × Decodes known config ss docs → view ≡ known → 3 ≡ sum_by (λ s. length s.records) ss
    → (docs : List Doc) × Decodes view config ss docs × (length docs ≤ 1000000)
three known view config ss decodes same sum =
    (decodes.0, subst (λ v. Decodes v config ss decodes.0) (sym same) decodes.1, few_docs known config ss decodes.0 1000000 decodes.1 (subst (λ n. n ≤ 1000000) sum (omega arith)))

pub counted-requires : goal.counted-requires
counted-requires c = three c.args.labels.now c.in_ok-view.view c.args.config.now (map arc_value c.args.segments.now) c.requires c.in_ok-view.ensures (sym c.in-Some-eq3.field-0-test ∙ c.in-Some-eq3.ensures)

pub counted-requires-in-Some-eq3 : goal.counted-requires-in-Some-eq3
counted-requires-in-Some-eq3 c = three c.args.labels.now c.in_ok-view.view c.args.config.now (map arc_value c.args.segments.now) c.requires c.in_ok-view.ensures (sym c.in-Some-eq3.field-0-test ∙ c.in-Some-eq3.ensures)
