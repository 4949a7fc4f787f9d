use Rattle.std.proofs.Common.{◌≡◌, ◌∙◌, ◌/◌, ◌+◌, length, ap, sym, subst, arith}
use Rattle.std.proofs.lemmas.List.{length-map}
use Rattle.facet_counts.specs.Lists.{IsCounted}
use Rattle.facet_model.specs.Stored.{Stored}
use Rattle.place_bits.specs.Words.{Marked}
use Rattle.seg_drill.specs.Counting.{IsGrown, IsSetWithin, lists_at}
use Rattle.seg_drill.proofs.Walked.{grown_by_column, list_at}
use Rattle.seg_drill.proofs.count.count_marked.Goals as goal

pub add_column-requires : goal.add_column-requires
add_column-requires c =
    let within : IsSetWithin c.args.segment.now c.into_rest-rest.result = subst (IsSetWithin c.args.segment.now) (sym c.into_rest-rest.ensures.rest) c.requires.within in
    let long : length c.column-column.result.now ≡ length c.args.segment.now.records = ap length c.column-column.ensures ∙ length-map c.args.segment.now.records (λ (r : Stored). r.counted) in
    record {
      words = within.words ∙ ap (λ n. (n + 63) / 64) (sym long);
      below = λ n among. omega (arith, long, within.within.within n among);
      counted = λ n among. subst (IsCounted c.args.counter.now.config c.args.counter.now.labels) (sym (list_at c.args.segment.now c.column-column.result.now n c.column-column.ensures)) (c.requires.countable n (within.within.within n among));
      few = omega (arith, c.requires.room, ap (λ (m : Marked). length m.places) c.into_rest-rest.ensures.rest);
    }

pub returns-then-is_quick_for-clause-grown : goal.returns-then-is_quick_for-clause-grown
returns-then-is_quick_for-clause-grown c =
    subst (λ (m : Marked). IsGrown c.args.counter.now c.add_column.new.self (lists_at c.args.segment.now m.places)) c.into_rest-rest.ensures.rest
    (grown_by_column c.args.segment.now c.column-column.result.now c.into_rest-rest.result.places c.args.counter.now c.add_column.new.self c.column-column.ensures c.add_column.ensures.added c.add_column.ensures.number c.add_column.ensures.labels c.add_column.ensures.config)
