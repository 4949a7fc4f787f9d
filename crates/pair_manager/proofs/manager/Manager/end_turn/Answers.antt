use Rattle.std.proofs.Common.{◌≡◌, ◌∙◌, ◌++◌, ◌∷◌, [], List, Ok, Err, refl, sym, ap, subst}
use Rattle.chronicle.specs.History.{entries}
use Rattle.pair_manager.specs.declared.publication.Publication.{Publication}
use Rattle.pair_manager.specs.Published.{publication_of, frame_of, StandsFor}
use Rattle.pair_manager.specs.Next.{Ends}
use Rattle.pair_manager.proofs.Refreshed.{at_ok}
use Rattle.pair_manager.proofs.manager.Manager.end_turn.Goals as goal

pub give-requires-clause-value : goal.give-requires-clause-value
give-requires-clause-value g c =
    let old = c.args.pairs.now in
    let may = at_ok (λ p. StandsFor p (entries old.seen ++ publication_of p ∷ []) × (frame_of p ≡ old.frame)) c.args.next c.in-Ok.next c.in-Ok.is c.requires.next in
    let entered : entries c.enter.new.token.seen ≡ entries c.args.pairs.now.seen ++ publication_of c.in-Ok.next ∷ [] = c.enter.ensures.entries ∙ ap (λ (p : Publication). entries old.seen ++ p ∷ []) c.publication-publication.ensures in
    (subst (λ (l : List Publication). StandsFor c.in-Ok.next l) (sym entered) may.0, may.1 ∙ sym c.enter.ensures.turn.0.4)

pub returns-in-Ok-clause-ended : goal.returns-in-Ok-clause-ended
returns-in-Ok-clause-ended g c =
    let old = c.args.pairs.now in
    let published = c.publication-publication in
    subst (λ r. Ends r (Ok published.result.operations) old c.give.new.token) (sym c.in-Ok.is)
    (ap (λ (p : Publication). Ok p.operations) published.ensures, c.give.ensures.seen.0 ∙ c.enter.ensures.added ∙ ap (λ (p : Publication). old.seen ++ (old.number, p) ∷ []) published.ensures)

pub returns-in-Err-clause-ended : goal.returns-in-Err-clause-ended
returns-in-Err-clause-ended g c = subst (λ r. Ends r (Err c.in-Err.error) c.args.pairs.now c.give-in-Err.new.token) (sym c.in-Err.is) (refl, c.give-in-Err.ensures.seen.0)
