use Rattle.std.proofs.Common.{◌≡◌, ◌+◌, ◌++◌, ◌∷◌, [], List, length, map, take, drop, sym, ap, subst, ◌∙◌}
use Rattle.std.specs.Arc.{arc_value}
use Rattle.facet_model.specs.Documents.{Doc}
use Rattle.facet_model.specs.Stored.{Records}
use Rattle.seg_documents.specs.Entries.{docs_of}
use Rattle.index_state.specs.Index.{Index, DecodeUnder, docs_under}
use Rattle.index_state.specs.Kept.{IsKept}
use Rattle.index_state.proofs.Standing.{same_stands}
use Rattle.index_state.proofs.Installing.{mapped, in_parts, installed_docs, kept_installed}
use Rattle.index_state.proofs.state.IndexState.install_merged.Goals as goal

pub invariant_of-self : goal.invariant_of-self
invariant_of-self c =
    let s = c.self.inside in
    let all : List Records = map arc_value s.segments.items in
    let first = c.args.first in
    let count = c.args.count in
    let m = arc_value c.args.merged in
    let new = ap (map arc_value) c.put_merged.ensures ∙ mapped arc_value s.segments.items c.args.merged first (first + count) in
    let here = subst (λ (x : Index). DecodeUnder x.labels x.config (m ∷ [])) (sym c.self.view_is) c.requires.decodes in
    let same = subst (λ (x : Index). docs_under x.labels (m ∷ []) ≡ docs_under x.labels (take count (drop first x.segments))) (sym c.self.view_is) c.requires.same in
    let kept = subst (λ (ss : List Records). IsKept (arc_value s.config) s.labels ss s.waiting.items s.sessions.items s.max_docs) (in_parts all first count) c.self.invariant in
    subst (λ (ss : List Records). IsKept (arc_value s.config) s.labels ss s.waiting.items s.sessions.items s.max_docs) (sym new)
    (kept_installed (arc_value s.config) s.labels (take first all) (take count (drop first all)) (drop (first + count) all) m same s.waiting.items s.sessions.items s.max_docs kept here c.requires.own)

pub returns-clause-list : goal.returns-clause-list
returns-clause-list c =
    let first = c.args.first in
    let count = c.args.count in
    ap (map arc_value) c.put_merged.ensures ∙ mapped arc_value c.self.inside.segments.items c.args.merged first (first + count)
    ∙ ap (λ (x : Index). take first x.segments ++ arc_value c.args.merged ∷ drop (first + count) x.segments) c.self.view_is

pub returns-clause-rest : goal.returns-clause-rest
returns-clause-rest c =
    let s = c.self.inside in
    let all : List Records = map arc_value s.segments.items in
    let first = c.args.first in
    let count = c.args.count in
    let m = arc_value c.args.merged in
    let segments : List Records = map arc_value c.put_merged.new.segments.items in
    let new = ap (map arc_value) c.put_merged.ensures ∙ mapped arc_value s.segments.items c.args.merged first (first + count) in
    let same = subst (λ (x : Index). docs_under x.labels (m ∷ []) ≡ docs_under x.labels (take count (drop first x.segments))) (sym c.self.view_is) c.requires.same in
    let docs : docs_under s.labels segments ≡ docs_under s.labels all =
    ap (docs_under s.labels) new ∙ installed_docs (arc_value s.config) s.labels (take first all) (take count (drop first all)) (drop (first + count) all) m same ∙ ap (docs_under s.labels) (sym (in_parts all first count)) in
    let after : List Doc → Index = λ ds. record { segments = segments; waiting = length s.waiting.items; docs = ds; sessions = s.sessions.items; config = arc_value s.config; max_docs = s.max_docs; labels = s.labels } in
    subst (λ (x : Index). after (docs_under s.labels segments ++ docs_of s.waiting.items) ≡ record x { segments = segments }) c.self.view_is (λ i. after (docs i ++ docs_of s.waiting.items))

pub returns-clause-stands : goal.returns-clause-stands
returns-clause-stands c =
    let rest = returns-clause-rest c in
    same_stands c.args.self.now _ (ap (λ (x : Index). x.docs) rest) (ap (λ (x : Index). x.sessions) rest) (ap (λ (x : Index). x.labels) rest)
