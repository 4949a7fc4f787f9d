use Rattle.std.proofs.Common.{ℕ, ◌≡◌, ◌++◌, ◌∙◌, List, map, length, ap, sym, subst}
use Rattle.std.proofs.lemmas.List.{append-nil}
use Rattle.std.specs.Arc.{arc_value}
use mathlib.Core.List.{IsPrefix}
use Rattle.facet_model.specs.Documents.{Doc}
use Rattle.facet_model.specs.Stored.{Records}
use Rattle.seg_terms.specs.declared.entry.Entry.{Entry}
use Rattle.seg_documents.specs.Decoding.{docs_in, flushed}
use Rattle.seg_documents.specs.Entries.{docs_of}
use Rattle.taxo_cache.specs.Seen.{labels_of}
use Rattle.index_state.specs.Index.{Index, IsFlushed}
use Rattle.index_state.specs.Kept.{IsKept}
use Rattle.index_state.proofs.Keeping.{kept_flushed, flushed_docs, flushed_count, flushed_on}
use Rattle.index_state.proofs.state.IndexState.flush.Goals as goal

pub invariant_of-self-2 : goal.invariant_of-self-2
invariant_of-self-2 c =
    let s = c.self.inside in
    let all = map arc_value s.segments.items in
    subst (λ (segments : List Records). IsKept (arc_value s.config) s.labels segments c.flush.new.entries.items s.sessions.items s.max_docs) (sym c.in_ok-docs.ensures.segments)
    (subst (λ (entries : List Entry). IsKept (arc_value s.config) s.labels (flushed all s.waiting.items) entries s.sessions.items s.max_docs) (sym c.in_ok-docs.ensures.entries)
    (kept_flushed (arc_value s.config) s.labels all s.waiting.items s.sessions.items s.max_docs c.self.invariant c.in_ok-docs.ensures.own))

pub returns-clause-flushed : goal.returns-clause-flushed
returns-clause-flushed c =
    let s = c.self.inside in
    let all = map arc_value s.segments.items in
    let known = labels_of s.labels.seen in
    let same : docs_in known (map arc_value c.flush.new.segments.items) ++ docs_of c.flush.new.entries.items ≡ docs_in known all ++ docs_of s.waiting.items =
    (λ i. docs_in known (c.in_ok-docs.ensures.segments i) ++ docs_of (c.in_ok-docs.ensures.entries i)) ∙ append-nil (docs_in known (flushed all s.waiting.items)) ∙ flushed_docs (arc_value s.config) s.labels all s.waiting.items s.sessions.items s.max_docs c.self.invariant in
    let after : List Doc → ℕ → Index = λ docs waiting. record { segments = map arc_value c.flush.new.segments.items; waiting = waiting; docs = docs; sessions = s.sessions.items; config = arc_value s.config; max_docs = s.max_docs; labels = s.labels } in
    subst (λ (old : Index). IsFlushed old (after (docs_in known (map arc_value c.flush.new.segments.items) ++ docs_of c.flush.new.entries.items) (length c.flush.new.entries.items))) c.self.view_is (record {
      rest = λ i. after (same i) (length (c.in_ok-docs.ensures.entries i));
      count = ap length c.in_ok-docs.ensures.segments ∙ flushed_count all s.waiting.items;
      on = subst (IsPrefix all) (sym c.in_ok-docs.ensures.segments) (flushed_on all s.waiting.items);
    })
