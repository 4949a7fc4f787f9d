use Rattle.std.proofs.Common.{rules, ◌<◌, [], length, take, get_or}
use Rattle.std.proofs.lemmas.List.{take_more}
use Rattle.commit_file.specs.declared.taxonomy.LabelPart.{LabelPart}
use Rattle.commit_file.specs.Limits.{IsLabelPart}
use Rattle.commit_file.specs.Spelling.{label_bytes}
use Rattle.commit_file.proofs.writing.put_labels.Goals as goal
use Rattle.facet_codec.proofs.Lists.{each_push, bytes_push}

pub loop-part-preserved : goal.loop-part-preserved
loop-part-preserved c =
    let parts = c.args.parts.now in
    let i = c.loop-part.part-index in
    let blank : LabelPart = record { number = 0; first = 0; count = 0; digest = [] } in
    let within : i < length parts = search rules in
    rw (take_more parts i blank within) (record {
      bytes = bytes_push label_bytes c.args.out.now.items c.loop-part.out.items c.put_label.new.out.items (take i parts) (get_or parts i blank) c.loop-part.invariant.bytes c.in_ok-put_label.ensures.bytes;
      fit = each_push IsLabelPart (take i parts) (get_or parts i blank) c.loop-part.invariant.fit c.in_ok-put_label.ensures.fits;
    })
