use Rattle.std.proofs.Common.{◌∙◌, List, map, sym, ap, subst}
use Rattle.std.specs.Arc.{arc_value}
use Rattle.chronicle.proofs.Prefixes.{prefix_trans}
use Rattle.facet_model.specs.Stored.{Records, Decodes}
use Rattle.facet_names.specs.Labels.{IsLabelList}
use Rattle.taxo_cache.specs.Seen.{labels_of}
use Rattle.commit_turns.specs.Seen.{docs_of}
use Rattle.commit_turns.proofs.Prefixed.{decodes_on}
use Rattle.commit_turns.proofs.committing.take_snapshots.Goals as goal

pub returns-in_err-shared-clause-goes_on : goal.returns-in_err-shared-clause-goes_on
returns-in_err-shared-clause-goes_on g c = (
  rw c.note-noted.ensures.note.2 at c.meet.ensures.told,
  prefix_trans _ _ _ (rw c.note-noted-2.ensures.note.2 at c.meet-2.ensures.told) c.take_index.ensures.more.0,
)

pub returns-in_err-view-clause-goes_on : goal.returns-in_err-view-clause-goes_on
returns-in_err-view-clause-goes_on g c = (
  prefix_trans _ _ _ (rw c.note-noted.ensures.note.2 at c.meet.ensures.told) (prefix_trans _ _ _ c.meet-3.ensures.more.0 c.snapshot.ensures.more.0),
  prefix_trans _ _ _ (rw c.note-noted-2.ensures.note.2 at c.meet-2.ensures.told) c.take_index.ensures.more.0,
)

pub returns-in_err-segments-clause-goes_on : goal.returns-in_err-segments-clause-goes_on
returns-in_err-segments-clause-goes_on g c = (
  prefix_trans _ _ _ (rw c.note-noted.ensures.note.2 at c.meet.ensures.told) (prefix_trans _ _ _ c.meet-3.ensures.more.0 c.snapshot.ensures.more.0),
  prefix_trans _ _ _ (rw c.note-noted-2.ensures.note.2 at c.meet-2.ensures.told) c.take_index.ensures.more.0,
)

pub returns-clause-goes_on : goal.returns-clause-goes_on
returns-clause-goes_on g c = (
  prefix_trans _ _ _ (rw c.note-noted.ensures.note.2 at c.meet.ensures.told) (prefix_trans _ _ _ c.meet-3.ensures.more.0 c.snapshot.ensures.more.0),
  prefix_trans _ _ _ (rw c.note-noted-2.ensures.note.2 at c.meet-2.ensures.told) c.take_index.ensures.more.0,
)

pub returns-clause-decodes : goal.returns-clause-decodes
returns-clause-decodes g c config is =
    decodes_on config c.in_ok-shared.field-0.labels.seen c.snapshot.new.token.seen c.in_ok-view.view (map arc_value c.in_ok-segments.segments.items) (docs_of c.take_index.new.token.seen)
    (prefix_trans _ _ _ c.meet-3.ensures.told c.snapshot.ensures.more.0) c.in_ok-view.ensures.view (subst IsLabelList (sym c.in_ok-view.ensures.view) c.snapshot.ensures.labels)
    (subst (λ (ss : List Records). Decodes (labels_of c.in_ok-shared.field-0.labels.seen) config ss (docs_of c.take_index.new.token.seen)) (sym c.in_ok-segments.ensures)
    (c.in_ok-shared.ensures.decodes config (is ∙ sym (ap (λ f. f.texts) c.meet-2.ensures.same.0.4))))
