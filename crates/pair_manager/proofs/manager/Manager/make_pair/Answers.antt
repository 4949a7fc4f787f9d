use Rattle.std.proofs.Common.{◌≡◌, ◌∙◌, ℕ, true, List, ap, sym, subst}
use Rattle.std.specs.Arc.{arc_value}
use Rattle.std.specs.List.{list_all}
use mathlib.Core.List.{IsPrefix}
use Rattle.facet_names.specs.Labels.{IsLabelList, GoesOn}
use Rattle.facet_names.proofs.LabelLists.{Labels}
use Rattle.facet_model.specs.Flags.{Config}
use Rattle.facet_model.specs.Histories.{Operation, docs, brought, knows}
use Rattle.facet_model.specs.Stored.{Decodes}
use Rattle.seg_documents.proofs.Decoded.{decodes_stay}
use Rattle.chronicle.specs.History.{entries}
use Rattle.chronicle.proofs.Prefixes.{prefix_trans}
use Rattle.taxo_cache.specs.Seen.{labels_of}
use Rattle.taxo_adding.proofs.Growing.{labels_begin, seen_goes_on}
use Rattle.chronicle.specs.Shown.{Shown, IsNoteOf}
use Rattle.index_state.proofs.Standing.{known_on}
use Rattle.pair_manager.specs.Published.{Published}
use Rattle.pair_manager.proofs.Going.{same_self, same_on, sees_self, sees_on, go_as}
use Rattle.pair_manager.proofs.manager.Manager.make_pair.Goals as goal

pub renew-requires-clause-last : goal.renew-requires-clause-last
renew-requires-clause-last g c =
    let last = c.args.last.now in
    let is : arc_value c.shared_view.result.now ≡ labels_of last.labels.seen = c.shared_view.ensures ∙ ap (λ (p : Published). labels_of p.labels.seen) (c.deref.ensures ∙ c.last.view_is) in
    subst (λ (v : Labels). IsPrefix v (labels_of c.meet.new.into.seen)) (sym is)
    (labels_begin last.labels.seen c.meet.new.into.seen (prefix_trans last.labels.seen c.args.labels.now.seen c.meet.new.into.seen c.requires.last c.meet.ensures.more.0))

pub new-requires-clause-decodes : goal.new-requires-clause-decodes
new-requires-clause-decodes g c =
    let config = c.args.last.now.config in
    let index = c.in_ok-segments.field-0 in
    let all = index.segments in
    let history = c.note.result in
    let labels = c.note-2.result in
    let taken = c.renew.new.token in
    let seen : labels.seen ≡ taken.seen = c.note-2.ensures.note.2 in
    let list : IsLabelList (labels_of labels.seen) = subst (λ (l : List (ℕ × List (List ℕ))). IsLabelList (labels_of l)) (sym seen) c.renew.ensures.labels in
    let more : IsPrefix index.labels.seen labels.seen = subst (IsPrefix index.labels.seen) (sym seen) (prefix_trans index.labels.seen c.meet.new.into.seen taken.seen c.meet.ensures.told c.renew.ensures.more.0) in
    let on : GoesOn (labels_of index.labels.seen) (labels_of labels.seen) = seen_goes_on index.labels.seen labels.seen more in
    let same : history.seen ≡ c.take_index.new.token.seen = c.note.ensures.note.2 in
    let decodes : Decodes (labels_of index.labels.seen) config all (docs (entries history.seen)) = subst (λ (l : List (ℕ × Operation)). Decodes (labels_of index.labels.seen) config all (docs (entries l))) (sym same) (c.in_ok-segments.ensures.decodes config c.requires.config) in
    let shared : arc_value c.in_ok-config.config ≡ config = c.in_ok-config.ensures ∙ c.shared_config.ensures ∙ ap (λ (p : Published). p.config) (c.deref-2.ensures ∙ c.last.view_is) in
    subst (λ (x : Config). Decodes (labels_of labels.seen) x all (docs (entries history.seen))) (sym shared)
    (decodes_stay config (labels_of index.labels.seen) (labels_of labels.seen) c.in_ok-segments.ensures.labels list on all (docs (entries history.seen)) decodes)

pub new-requires-clause-covers : goal.new-requires-clause-covers
new-requires-clause-covers g c =
    let index = c.in_ok-segments.field-0 in
    let history = c.note.result in
    let labels = c.note-2.result in
    let more : IsPrefix index.labels.seen labels.seen = subst (IsPrefix index.labels.seen) (sym c.note-2.ensures.note.2) (prefix_trans index.labels.seen c.meet.new.into.seen c.renew.new.token.seen c.meet.ensures.told c.renew.ensures.more.0) in
    known_on index.labels.seen labels.seen more (brought (entries history.seen))
    (subst (λ (l : List (ℕ × Operation)). list_all (knows (labels_of index.labels.seen)) (brought (entries l)) ≡ true) (sym c.note.ensures.note.2) c.in_ok-segments.ensures.covers)

pub returns-in_err-segments-clause-tokens : goal.returns-in_err-segments-clause-tokens
returns-in_err-segments-clause-tokens g c =
    let labels = c.args.labels.now in
    record {
      known = (same_self labels, c.requires.idle.0.1);
      more_labels = sees_self labels;
      history = c.take_index.ensures.token;
      more_operations = c.take_index.ensures.more;
      list = c.requires.list;
    }

pub returns-in_err-view-clause-tokens : goal.returns-in_err-view-clause-tokens
returns-in_err-view-clause-tokens g c =
    let labels = c.args.labels.now in
    record {
      known = (same_on labels c.meet.new.into c.renew.new.token c.meet.ensures.same.0 c.renew.ensures.token.0, c.renew.ensures.token.1);
      more_labels = sees_on labels c.meet.new.into c.renew.new.token c.meet.ensures.more c.renew.ensures.more;
      history = c.take_index.ensures.token;
      more_operations = c.take_index.ensures.more;
      list = c.renew.ensures.labels;
    }

pub returns-in_err-config-clause-tokens : goal.returns-in_err-config-clause-tokens
returns-in_err-config-clause-tokens g c =
    let labels = c.args.labels.now in
    record {
      known = (same_on labels c.meet.new.into c.renew.new.token c.meet.ensures.same.0 c.renew.ensures.token.0, c.renew.ensures.token.1);
      more_labels = sees_on labels c.meet.new.into c.renew.new.token c.meet.ensures.more c.renew.ensures.more;
      history = c.take_index.ensures.token;
      more_operations = c.take_index.ensures.more;
      list = c.renew.ensures.labels;
    }

pub returns-clause-tokens : goal.returns-clause-tokens
returns-clause-tokens g c =
    let labels = c.args.labels.now in
    go_as labels c.renew.new.token c.note-2.new.of c.args.operations.now c.take_index.new.token c.note.new.of c.note-2.ensures.of c.note.ensures.of (record {
      known = (same_on labels c.meet.new.into c.renew.new.token c.meet.ensures.same.0 c.renew.ensures.token.0, c.renew.ensures.token.1);
      more_labels = sees_on labels c.meet.new.into c.renew.new.token c.meet.ensures.more c.renew.ensures.more;
      history = c.take_index.ensures.token;
      more_operations = c.take_index.ensures.more;
      list = c.renew.ensures.labels;
    })

pub returns-clause-next : goal.returns-clause-next
returns-clause-next g c =
    let pair = c.new.ensures.pair in
    let shared : arc_value c.in_ok-config.config ≡ c.args.last.now.config = c.in_ok-config.ensures ∙ c.shared_config.ensures ∙ ap (λ (p : Published). p.config) (c.deref-2.ensures ∙ c.last.view_is) in
    record {
      history = subst (λ (n : Shown Operation). IsNoteOf c.note.new.of n) (sym (ap (λ (p : Published). p.history) pair)) (subst (λ (t : Shown Operation). IsNoteOf t c.note.result) (sym c.note.ensures.of) c.note.ensures.note);
      known = subst (λ (n : Shown (List (List ℕ))). IsNoteOf c.note-2.new.of n) (sym (ap (λ (p : Published). p.labels) pair)) (subst (λ (t : Shown (List (List ℕ))). IsNoteOf t c.note-2.result) (sym c.note-2.ensures.of) c.note-2.ensures.note);
      under = ap (λ (p : Published). p.config) pair ∙ shared;
      is = c.new.ensures.is;
    }
