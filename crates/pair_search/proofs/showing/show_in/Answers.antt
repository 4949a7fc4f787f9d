use Rattle.std.proofs.Common.{◌∙◌, ◌<◌, length, slice_get, sym, ap, subst}
use Rattle.std.specs.Prelude.{All}
use Rattle.chronicle.specs.History.{entries}
use Rattle.facet_model.specs.Histories.{docs}
use Rattle.facet_names.proofs.LabelLists.{Labels}
use Rattle.facet_output.specs.Replies.{shown}
use Rattle.facet_output.specs.Replying.{IsShown}
use Rattle.seg_documents.specs.Decoding.{doc_in, records_in}
use Rattle.seg_grammar.specs.Lookups.{record_of}
use Rattle.taxo_cache.specs.Seen.{labels_of}
use Rattle.pair_search.proofs.Stored.{leaves_at, shown_at, none_at}
use Rattle.pair_search.proofs.showing.show_in.Goals as goal

pub show-requires-clause-leaves : goal.show-requires-clause-leaves
show-requires-clause-leaves c =
    let pair = c.args.pair.now in
    let r = record_of c.in-Some.segment.now c.in-Some.place in
    subst (λ (view : Labels). All (λ ord. (0 < ord) × (ord < length view)) r.leaves) (sym c.view.ensures)
    (leaves_at pair.config (labels_of pair.labels.seen) pair.segments (docs (entries pair.history.seen)) c.requires.is.list c.requires.is.decoded c.args.at r (ap (λ s. slice_get (records_in s) c.args.at) (sym c.requires.segments) ∙ c.in-Some.ensures.1))

pub returns-in-Ok : goal.returns-in-Ok
returns-in-Ok c other labels list on =
    let pair = c.args.pair.now in
    let r = record_of c.in-Some.segment.now c.in-Some.place in
    let all = docs (entries pair.history.seen) in
    let operations = c.in-Ok.ensures.0 ∙ c.operations.ensures in
    let doc = c.in-Ok.ensures.1 ∙ ap (λ view. doc_in view r) c.view.ensures in
    subst (λ reply. IsShown labels (length pair.history.seen) all c.args.at (slice_get all c.args.at) reply) (λ i. shown (record { operations = sym operations i; at = c.args.at; doc = sym doc i; ordinals = sym c.in-Ok.ensures.2 i }))
    (shown_at pair.config (labels_of pair.labels.seen) pair.segments all c.requires.is.list c.requires.is.decoded c.args.at labels (length pair.history.seen) r list on (ap (λ s. slice_get (records_in s) c.args.at) (sym c.requires.segments) ∙ c.in-Some.ensures.1))

pub returns-in-None : goal.returns-in-None
returns-in-None c other labels list on =
    let pair = c.args.pair.now in
    none_at pair.config (labels_of pair.labels.seen) pair.segments (docs (entries pair.history.seen)) c.requires.is.list c.requires.is.decoded c.args.at labels (length pair.history.seen) c.from.result (c.from.ensures ∙ c.documents.ensures)
    (ap (λ s. slice_get (records_in s) c.args.at) (sym c.requires.segments) ∙ c.in-None.ensures)
