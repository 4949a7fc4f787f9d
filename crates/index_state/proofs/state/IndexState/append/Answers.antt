use Rattle.std.proofs.Common.{◌≡◌, ◌+◌, ◌++◌, ◌∙◌, ◌∷◌, ℕ, List, [], map, length, ap, sym, subst, arith, rules}
use Rattle.std.proofs.lemmas.List.{length-append}
use Rattle.std.specs.Arc.{arc_value}
use mathlib.Core.List.{IsPrefix}
use Rattle.facet_names.specs.Labels.{IsLabelList}
use Rattle.seg_terms.specs.declared.entry.Entry.{Entry}
use Rattle.seg_documents.specs.Decoding.{docs_in}
use Rattle.facet_model.specs.Flags.{Config}
use Rattle.seg_documents.specs.Entries.{IsEntry, docs_of}
use Rattle.chronicle.specs.Shown.{SameToken, SeesOn}
use Rattle.taxo_cache.specs.Seen.{labels_of}
use Rattle.taxo_cache.proofs.Seen.{longer_list}
use Rattle.index_state.specs.Index.{Index}
use Rattle.index_state.specs.Kept.{IsKept}
use Rattle.index_state.proofs.Keeping.{kept_appended, appended_docs}
use Rattle.index_state.proofs.Standing.{knows_on, one_more_stands}
use Rattle.index_state.proofs.state.IndexState.append.Goals as goal

listed : (c : goal.After-self-2-1) → IsLabelList (labels_of c.meet.new.into.seen)
listed c = subst (λ (l : List (ℕ × List (List ℕ))). IsLabelList (labels_of l)) (sym c.meet.ensures.longer)
    (longer_list c.self.inside.labels.seen c.note-note.result.seen c.self.invariant.list
    (subst (λ (l : List (ℕ × List (List ℕ))). IsLabelList (labels_of l)) (sym c.note-note.ensures.note.2) c.requires.labels))

-- it has noted what the token has seen
begins : (c : goal.After-self-2-1) → IsPrefix c.args.seen.now.seen c.meet.new.into.seen
begins c = subst (λ (l : List (ℕ × List (List ℕ))). IsPrefix l c.meet.new.into.seen) c.note-note.ensures.note.2 c.meet.ensures.told

pub invariant_of-self-2 : goal.invariant_of-self-2
invariant_of-self-2 c =
    let s = c.self.inside in
    let all = map arc_value s.segments.items in
    let told = c.args.seen.now in
    let next = c.meet.new.into in
    subst (λ (sessions : List ℕ). IsKept (arc_value s.config) next all c.add_waiting.new.waiting.items sessions s.max_docs) (sym c.in_ok-add_waiting.ensures.sessions)
    (subst (λ (entries : List Entry). IsKept (arc_value s.config) next all entries (s.sessions.items ++ c.args.session ∷ []) s.max_docs) (sym c.in_ok-add_waiting.ensures.waiting)
    (kept_appended (arc_value s.config) s.labels all s.waiting.items s.sessions.items s.max_docs c.self.invariant next c.meet.ensures.more.0 (listed c) told c.args.entry c.args.session (search (rules, c.meet.ensures.same, c.self.invariant.note)) c.requires.labels (begins c)
    (subst (λ (config : Config). IsEntry config (labels_of told.seen) c.args.entry) (sym (ap (λ (x : Index). x.config) c.self.view_is)) c.requires.entry)
    (omega (arith, c.if-at-self.false, c.len-at.ensures))))

docs_are : (c : goal.After-self-2-1) → docs_in (labels_of c.meet.new.into.seen) (map arc_value c.self.inside.segments.items) ++ docs_of c.add_waiting.new.waiting.items ≡ c.args.self.now.docs ++ c.args.entry.doc ∷ []
docs_are c =
    let s = c.self.inside in
    let all = map arc_value s.segments.items in
    ap (λ (es : List Entry). docs_in (labels_of c.meet.new.into.seen) all ++ docs_of es) c.in_ok-add_waiting.ensures.waiting
    ∙ appended_docs (arc_value s.config) s.labels all s.waiting.items s.sessions.items s.max_docs c.self.invariant c.meet.new.into c.meet.ensures.more.0 (listed c) c.args.entry
    ∙ ap (λ (x : Index). x.docs ++ c.args.entry.doc ∷ []) c.self.view_is

pub returns-clause-appended : goal.returns-clause-appended
returns-clause-appended c =
    let s = c.self.inside in
    let old = c.args.self.now in
    let all = map arc_value s.segments.items in
    let next = c.meet.new.into in
    let size : length c.add_waiting.new.waiting.items ≡ length s.waiting.items + 1 = ap length c.in_ok-add_waiting.ensures.waiting ∙ length-append s.waiting.items (c.args.entry ∷ []) in
    record {
      rest = (λ i. record { segments = all; waiting = size i; docs = docs_are c i; sessions = c.in_ok-add_waiting.ensures.sessions i; config = arc_value s.config; max_docs = s.max_docs; labels = next })
          ∙ ap (λ (x : Index). record { segments = x.segments; waiting = x.waiting + 1; docs = old.docs ++ c.args.entry.doc ∷ []; sessions = x.sessions ++ c.args.session ∷ []; config = x.config; max_docs = x.max_docs; labels = next }) c.self.view_is;
      same = subst (λ (x : Index). SameToken x.labels next) c.self.view_is c.meet.ensures.same.0;
      more = subst (λ (x : Index). SeesOn x.labels next) c.self.view_is c.meet.ensures.more;
    }

pub returns-clause-stands : goal.returns-clause-stands
returns-clause-stands c = one_more_stands c.args.self.now _ c.args.session c.args.entry.doc (docs_are c) (c.in_ok-add_waiting.ensures.sessions ∙ ap (λ (x : Index). x.sessions ++ c.args.session ∷ []) c.self.view_is)
    (subst (λ (x : Index). IsPrefix x.labels.seen c.meet.new.into.seen) c.self.view_is c.meet.ensures.more.0) (knows_on c.args.seen.now.seen c.meet.new.into.seen (begins c) c.args.entry.doc c.requires.entry.known)
