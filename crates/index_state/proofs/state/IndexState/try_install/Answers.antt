use Rattle.std.proofs.Common.{◌≡◌, ◌∙◌, ◌∷◌, [], ℕ, List, length, ap, sym, subst}
use Rattle.std.specs.Arc.{arc_value}
use mathlib.Core.List.{IsPrefix}
use Rattle.facet_model.specs.Documents.{Doc}
use Rattle.facet_model.specs.Flags.{Config}
use Rattle.facet_model.specs.Stored.{Records}
use Rattle.seg_documents.specs.Decoding.{records_in}
use Rattle.chronicle.specs.Shown.{Shown, SameToken, SeesOn}
use Rattle.index_state.specs.Index.{Index, DecodeUnder, docs_under}
use Rattle.index_state.specs.Merging.{ComeAfter, IsInstalled, HasNoPlace}
use Rattle.index_state.proofs.Standing.{still_stands}
use Rattle.index_state.proofs.Placing.{docs_on, decode_on}
use Rattle.index_state.proofs.state.IndexState.try_install.Goals as goal

pub install_at-requires-clause-decodes : goal.install_at-requires-clause-decodes
install_at-requires-clause-decodes c =
    let n = c.note_labels in
    let m = arc_value c.args.merged ∷ [] in
    subst (λ (config : Config). DecodeUnder n.new.self.labels config m) (sym (ap (λ (x : Index). x.config) n.ensures.rest))
    (decode_on c.args.self.now.config c.args.labels n.new.self.labels c.requires.list n.ensures.list n.ensures.noted m c.requires.decodes)

pub install_at-requires-clause-docs : goal.install_at-requires-clause-docs
install_at-requires-clause-docs c =
    let n = c.note_labels in
    let m = arc_value c.args.merged ∷ [] in
    let same : docs_under n.new.self.labels m ≡ docs_under c.args.labels m = docs_on c.args.self.now.config c.args.labels n.new.self.labels c.requires.list n.ensures.list n.ensures.noted m c.requires.decodes in
    subst (λ (all : List Doc). ComeAfter c.args.before (docs_under n.new.self.labels m) all) (sym (ap (λ (x : Index). x.docs) n.ensures.rest))
    (subst (λ (ds : List Doc). ComeAfter c.args.before ds c.args.self.now.docs) (sym same) c.requires.docs)

labels_are : (c : goal.After-install_at) → c.install_at.new.self.labels ≡ c.note_labels.new.self.labels
labels_are c = ap (λ (x : Index). x.labels) c.install_at.ensures.rest

segments_were : (c : goal.After-install_at) → c.note_labels.new.self.segments ≡ c.args.self.now.segments
segments_were c = ap (λ (x : Index). x.segments) c.note_labels.ensures.rest

pub returns-clause-rest : goal.returns-clause-rest
returns-clause-rest c =
    let now = c.install_at.new.self in
    let old = c.args.self.now in
    c.install_at.ensures.rest ∙ ap (λ (x : Index). record x { segments = now.segments }) c.note_labels.ensures.rest
    ∙ ap (λ (labels : Shown (List (List ℕ))). record old { segments = now.segments; labels = labels }) (sym (labels_are c))

pub returns-clause-same : goal.returns-clause-same
returns-clause-same c = subst (SameToken c.args.self.now.labels) (sym (labels_are c)) c.note_labels.ensures.same

pub returns-clause-more : goal.returns-clause-more
returns-clause-more c = subst (SeesOn c.args.self.now.labels) (sym (labels_are c)) c.note_labels.ensures.more

pub returns-clause-noted : goal.returns-clause-noted
returns-clause-noted c = subst (λ (t : Shown (List (List ℕ))). IsPrefix c.args.labels.seen t.seen) (sym (labels_are c)) c.note_labels.ensures.noted

pub returns-clause-installed : goal.returns-clause-installed
returns-clause-installed c is = subst (λ (ss : List Records). IsInstalled c.args.before (arc_value c.args.merged) ss c.install_at.new.self.segments) (segments_were c) (c.install_at.ensures.installed is)

pub returns-clause-none : goal.returns-clause-none
returns-clause-none c is =
    let none = c.install_at.ensures.none is in
    (none.0 ∙ segments_were c, subst (HasNoPlace c.args.before (length (records_in (arc_value c.args.merged ∷ [])))) (segments_were c) none.1)

pub returns-clause-stands : goal.returns-clause-stands
returns-clause-stands c =
    let rest = returns-clause-rest c in
    still_stands c.args.self.now c.install_at.new.self (ap (λ (x : Index). x.docs) rest) (ap (λ (x : Index). x.sessions) rest) (returns-clause-more c).0
