use Rattle.std.proofs.Common.{◌≡◌, ◌-◌, ◌+◌, length, Ok}
use Rattle.facet_names.specs.Labels.{GoesOn}
use Rattle.label_file.specs.LabelReading.{labels_at}
use Rattle.label_file.proofs.reading.labels_after.Given as goal

abbrev pub invariant-loop : goal.invariant-loop
invariant-loop l = record {
  read : labels_at (l.count - l.counter) l.labels l.cursor ≡ labels_at l.count l.fn.labels l.fn.cursor;
  size : length l.labels ≡ length l.fn.labels + l.counter;
  front : labels_at l.counter l.fn.labels l.fn.cursor ≡ Ok (l.labels, l.cursor);
  goes_on : GoesOn l.fn.labels l.labels;
}
