use Rattle.std.proofs.Common.{rules, ◌≡◌, ◌+◌, ◌<◌, ◌∙◌, ℕ, [], ◌∷◌, length, drop, get_or, subst, arith}
use Rattle.std.proofs.lemmas.Result.{err_from_is_err_and}
use Rattle.facet_disk.specs.declared.name.Dir.TheVariants.{Taxonomy}
use Rattle.commit_file.specs.declared.taxonomy.LabelPart.{LabelPart}
use Rattle.commit_file.specs.Commits.{AreInOrder, end_of}
use Rattle.store_opening.specs.Files.{labels_of, segments_in}
use Rattle.store_opening.proofs.Loops.{labels_more, labels_fail, labels_end, order_at, order_low}
use Rattle.store_opening.proofs.Quiet.{goes_on}
use Rattle.store_opening.proofs.taxonomy.read_label_parts.Goals as goal

abbrev blank : LabelPart
blank = record { number = 0; first = 0; count = 0; digest = [] }

pub read_label_part-requires-clause-few : goal.read_label_part-requires-clause-few
read_label_part-requires-clause-few g c κs inside =
    let parts = c.args.parts.now in
    let i = c.loop-part.part-index in
    let lt : i < length parts = search rules in
    let order = order_at c.args.total (length c.loop-part.labels) parts i blank lt c.loop-part.invariant.order in
    let low = order_low c.args.total (end_of (get_or parts i blank)) (drop (i + 1) parts) order.1 in
    omega (arith, low, c.requires.few)

pub returns-in_err-read_label_part-clause-err : goal.returns-in_err-read_label_part-clause-err
returns-in_err-read_label_part-clause-err g c =
    let p = err_from_is_err_and c.from_residual-in_err-read_label_part.result c.from_residual-in_err-read_label_part.ensures.1 in
    let parts = c.args.parts.now in
    let i = c.loop-part.part-index in
    let lt : i < length parts = search rules in
    let kept = c.loop-part.invariant in
    rw (p.1, p.2) (λ memory device s told listed. labels_fail (segments_in Taxonomy s.files) c.loop-part.labels parts i blank c.in_err-read_label_part.field-0.0 (labels_of (segments_in Taxonomy s.files) ([] ∷ []) parts) lt
    (c.in_err-read_label_part.ensures.err memory device s (kept.quiet.same ∙ told) listed) (kept.read s told listed))

pub loop-part-preserved : goal.loop-part-preserved
loop-part-preserved g c =
    let parts = c.args.parts.now in
    let i = c.loop-part.part-index in
    let lt : i < length parts = search rules in
    let kept = c.loop-part.invariant in
    let order = order_at c.args.total (length c.loop-part.labels) parts i blank lt kept.order in
    let longer : end_of (get_or parts i blank) ≡ length c.read_label_part.new.labels = omega (arith, c.in_ok-read_label_part.ensures.count, order.0) in
    record {
      read = λ s told listed. labels_more (segments_in Taxonomy s.files) c.loop-part.labels parts i blank c.read_label_part.new.labels (labels_of (segments_in Taxonomy s.files) ([] ∷ []) parts) lt
          (c.in_ok-read_label_part.ensures.ok s (kept.quiet.same ∙ told) listed) (kept.read s told listed);
      list = c.in_ok-read_label_part.ensures.list;
      many = omega (arith, kept.many, c.in_ok-read_label_part.ensures.count, c.in_ok-read_label_part.ensures.some);
      order = subst (λ (n : ℕ). AreInOrder c.args.total n (drop (i + 1) parts)) longer order.1;
      still = c.in_ok-read_label_part.ensures.read.still.ok ∙ kept.still;
      unfailed = c.in_ok-read_label_part.ensures.read.unfailed.ok ∙ kept.unfailed;
      quiet = goes_on g.D.Disk _ _ _ kept.quiet c.in_ok-read_label_part.ensures.read.quiet;
    }

pub returns-clause-ok : goal.returns-clause-ok
returns-clause-ok g c = λ s told listed. labels_end (segments_in Taxonomy s.files) c.loop-part.labels c.args.parts.now c.loop-part.part-index blank (labels_of (segments_in Taxonomy s.files) ([] ∷ []) c.args.parts.now)
    (omega (arith, c.loop-part-test.false)) (c.loop-part.invariant.read s told listed)
