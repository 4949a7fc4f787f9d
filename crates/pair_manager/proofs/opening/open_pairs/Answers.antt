use Rattle.std.proofs.Common.{rules, ◌≡◌, ◌∙◌, ◌∷◌, [], ℕ, true, List, ap, sym, subst}
use Rattle.std.proofs.lemmas.Result.{IfOk-weaker}
use Rattle.std.specs.List.{list_all}
use Rattle.facet_model.specs.Histories.{Operation, brought, knows}
use Rattle.chronicle.specs.History.{entries}
use Rattle.taxo_cache.specs.Seen.{labels_of}
use Rattle.pair_manager.specs.declared.publication.Publication.{Publication}
use Rattle.pair_manager.specs.Published.{Published, ArePublications, StandsFor, publication_of}
use Rattle.pair_manager.proofs.Publishing.{stands_first}
use Rattle.pair_manager.proofs.opening.open_pairs.Goals as goal

pub open_chronicle-requires : goal.open_chronicle-requires
open_chronicle-requires g c = subst (λ (p : Published). StandsFor p (publication_of p ∷ [])) (sym c.in_ok-state.ensures) (stands_first _ c.new-pair.ensures.is)

pub new-pair-requires-clause-covers : goal.new-pair-requires-clause-covers
new-pair-requires-clause-covers g c =
    subst (λ (l : List (ℕ × List (List ℕ))). list_all (knows (labels_of l)) (brought (entries c.note.result.seen)) ≡ true) (sym c.note-2.ensures.note.2)
    (subst (λ (l : List (ℕ × Operation)). list_all (knows (labels_of c.args.labels.now.seen)) (brought (entries l)) ≡ true) (sym c.note.ensures.note.2) c.requires.covers)

pub returns-clause-right : goal.returns-clause-right
returns-clause-right g c =
    let p = c.new-pair.result in
    let known : c.note-2.result.seen ≡ c.args.labels.now.seen = search rules in
    let seen : c.note.result.seen ≡ c.args.first.now.seen = search rules in
    let labels : p.labels.seen ≡ c.args.labels.now.seen = ap (λ (q : Published). q.labels.seen) c.new-pair.ensures.pair ∙ known in
    let history : p.history.seen ≡ c.args.first.now.seen = ap (λ (q : Published). q.history.seen) c.new-pair.ensures.pair ∙ seen in
    let right : ArePublications c.args.labels.now.seen c.args.first.now.seen (publication_of p ∷ []) =
    subst (λ (h : List (ℕ × Operation)). ArePublications c.args.labels.now.seen h (publication_of p ∷ [])) history
    (subst (λ (l : List (ℕ × List (List ℕ))). ArePublications l p.history.seen (publication_of p ∷ [])) labels (stands_first p c.new-pair.ensures.is).right) in
    IfOk-weaker c.open_chronicle.result _ _ (λ r opened. subst (λ (l : List Publication). ArePublications c.args.labels.now.seen c.args.first.now.seen l) (sym (opened ∙ ap (λ (q : Published). publication_of q ∷ []) c.in_ok-state.ensures)) right) c.open_chronicle.ensures.entries
