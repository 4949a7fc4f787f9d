use Rattle.std.proofs.Common.{◌++◌, ◌∙◌, ℕ, List, map, length, ap, sym, subst, rules}
use Rattle.std.specs.Arc.{arc_value}
use Rattle.facet_names.specs.Labels.{IsLabelList}
use Rattle.seg_documents.specs.Entries.{docs_of}
use Rattle.chronicle.specs.Shown.{SameToken, SeesOn}
use Rattle.taxo_cache.specs.Seen.{labels_of}
use Rattle.taxo_cache.proofs.Seen.{longer_list}
use Rattle.index_state.specs.Index.{Index}
use Rattle.index_state.proofs.Keeping.{kept_noted, noted_docs}
use Rattle.index_state.proofs.state.IndexState.note_labels.Goals as goal

listed : (c : goal.After-self-1) → IsLabelList (labels_of c.meet.new.into.seen)
listed c = subst (λ (l : List (ℕ × List (List ℕ))). IsLabelList (labels_of l)) (sym c.meet.ensures.longer) (longer_list c.self.inside.labels.seen c.args.labels.seen c.self.invariant.list c.requires.list)

pub invariant_of-self : goal.invariant_of-self
invariant_of-self c =
    let s = c.self.inside in
    kept_noted (arc_value s.config) s.labels (map arc_value s.segments.items) s.waiting.items s.sessions.items s.max_docs c.self.invariant c.meet.new.into c.meet.ensures.more.0 (listed c) (search (rules, c.meet.ensures.same, c.self.invariant.note))

pub returns-clause-rest : goal.returns-clause-rest
returns-clause-rest c =
    let s = c.self.inside in
    let all = map arc_value s.segments.items in
    let next = c.meet.new.into in
    let docs = noted_docs (arc_value s.config) s.labels all s.waiting.items s.sessions.items s.max_docs c.self.invariant next c.meet.ensures.more.0 (listed c) in
    (λ i. record { segments = all; waiting = length s.waiting.items; docs = docs i ++ docs_of s.waiting.items; sessions = s.sessions.items; config = arc_value s.config; max_docs = s.max_docs; labels = next })
    ∙ ap (λ (x : Index). record x { labels = next }) c.self.view_is

pub returns-clause-same : goal.returns-clause-same
returns-clause-same c = subst (λ (x : Index). SameToken x.labels c.meet.new.into) c.self.view_is c.meet.ensures.same.0

pub returns-clause-more : goal.returns-clause-more
returns-clause-more c = subst (λ (x : Index). SeesOn x.labels c.meet.new.into) c.self.view_is c.meet.ensures.more

pub returns-clause-list : goal.returns-clause-list
returns-clause-list c = listed c
