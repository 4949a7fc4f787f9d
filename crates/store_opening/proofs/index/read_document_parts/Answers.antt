use Rattle.std.proofs.Common.{rules, ◌+◌, ◌<◌, ◌∙◌, List, length, map, drop, ap, subst, sym, arith}
use Rattle.std.specs.Arc.{arc_value}
use Rattle.std.proofs.lemmas.List.Elements.{All-from_recursion}
use Rattle.std.proofs.lemmas.Result.{err_from_is_err_and}
use Rattle.facet_disk.specs.declared.name.Dir.TheVariants.{Index}
use Rattle.facet_model.specs.Stored.{Records}
use Rattle.commit_file.specs.Limits.{IsLivePart}
use Rattle.store_opening.specs.Files.{segments_in, segments_of}
use Rattle.store_opening.proofs.Documents.{named_more}
use Rattle.store_opening.proofs.Loops.{behind, segments_more, segments_fail, segments_end}
use Rattle.store_opening.proofs.Quiet.{goes_on}
use Rattle.store_opening.proofs.index.read_document_parts.Goals as goal

pub read_document_part-requires-clause-part : goal.read_document_part-requires-clause-part
read_document_part-requires-clause-part g c κs inside = subst IsLivePart (sym c.part-item.is) (All-from_recursion IsLivePart c.args.parts.now c.requires.parts c.loop-part.part-index c.part-item.result c.loop-part-test.true)

pub returns-in_err-segment-clause-err : goal.returns-in_err-segment-clause-err
returns-in_err-segment-clause-err g c =
    let p = err_from_is_err_and c.from_residual.result c.from_residual.ensures.1 in
    let parts = c.args.parts.now in
    let i = c.loop-part.part-index in
    let lt : i < length parts = search rules in
    let kept = c.loop-part.invariant in
    rw (p.1, p.2) (λ memory device s told listed.
    segments_fail c.args.config.now c.args.labels.now c.args.needs (segments_in Index s.files) parts (map arc_value c.loop-part.segments.items) i c.part-item.result lt c.part-item.is c.in_err-segment.field-0.0 (segments_of c.args.config.now c.args.labels.now c.args.needs (segments_in Index s.files) parts)
    (c.in_err-segment.ensures.err memory device s (kept.quiet.same ∙ told) listed) (kept.read s told listed))

pub loop-part-preserved : goal.loop-part-preserved
loop-part-preserved g c =
    let parts = c.args.parts.now in
    let i = c.loop-part.part-index in
    let lt : i < length parts = search rules in
    let kept = c.loop-part.invariant in
    let config = c.args.config.now in
    let labels = c.args.labels.now in
    let front = map arc_value c.loop-part.segments.items in
    record {
      read = λ s told listed. ap (λ (xs : List Records). behind xs (segments_of config labels c.args.needs (segments_in Index s.files) (drop (i + 1) parts))) c.in_ok-keep.ensures
          ∙ segments_more config labels c.args.needs (segments_in Index s.files) parts front i c.part-item.result lt c.part-item.is c.in_ok-segment.segment (segments_of config labels c.args.needs (segments_in Index s.files) parts) (c.in_ok-segment.ensures.ok s (kept.quiet.same ∙ told) listed) (kept.read s told listed);
      named = named_more config labels parts front _ i c.part-item.result c.in_ok-segment.segment lt c.part-item.is c.in_ok-keep.ensures kept.named c.in_ok-segment.ensures.named;
      still = c.in_ok-segment.ensures.read.still.ok ∙ kept.still;
      unfailed = c.in_ok-segment.ensures.read.unfailed.ok ∙ kept.unfailed;
      quiet = goes_on g.D.Disk _ _ _ kept.quiet c.in_ok-segment.ensures.read.quiet;
    }

pub returns-clause-ok : goal.returns-clause-ok
returns-clause-ok g c = λ s told listed.
    segments_end c.args.config.now c.args.labels.now c.args.needs (segments_in Index s.files) c.args.parts.now (map arc_value c.loop-part.segments.items)
    (segments_of c.args.config.now c.args.labels.now c.args.needs (segments_in Index s.files) c.args.parts.now) c.loop-part.part-index (omega (arith, c.loop-part-test.false)) (c.loop-part.invariant.read s told listed)

pub returns-in_err-keep-clause-read : goal.returns-in_err-keep-clause-read
returns-in_err-keep-clause-read g c =
    let kept = c.loop-part.invariant in
    let read = c.in_ok-segment.ensures.read in
    record {
      quiet = goes_on g.D.Disk _ _ _ kept.quiet read.quiet;
      counted = search rules;
      still = search rules;
      unfailed = search rules;
      sound = search rules;
    }
