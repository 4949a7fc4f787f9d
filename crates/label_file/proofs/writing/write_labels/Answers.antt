use Rattle.std.proofs.Common.{rules, ◌≡◌, ◌-◌, length, take, ap, ◌∙◌}
use Rattle.label_file.specs.LabelBytes.{labels_bytes}
use Rattle.label_file.specs.LabelReading.{stored_labels}
use Rattle.label_file.proofs.Again.{stored_again}
use Rattle.label_file.proofs.writing.write_labels.Goals as goal

pub returns-clause-again : goal.returns-clause-again
unfolding labels_bytes
returns-clause-again c =
    let is : c.put_labels.new.out.items ≡ labels_bytes c.args.view.now c.args.first = search rules in
    ap (stored_labels (take c.args.first c.args.view.now) c.args.first (length c.args.view.now - c.args.first)) is ∙ stored_again c.args.view.now c.args.first c.size.ensures.list c.size.ensures.few c.requires.some c.requires.within c.in_ok-put_labels.ensures.fit
