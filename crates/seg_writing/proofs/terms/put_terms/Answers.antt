use Rattle.std.proofs.Common.{rules, ◌≡◌, ℕ, ◌<◌, ◌+◌, ◌++◌, List, [], ◌∷◌, length, map, take, subst, sym, ap, ◌∙◌}
use Rattle.std.proofs.lemmas.List.{take_more, map-append}
use Rattle.facet_model.proofs.Cut.{unmapped}
use Rattle.seg_terms.specs.Places.{IsShortTerm, term_view}
use Rattle.seg_terms.specs.declared.term_places.TermPlaces.{TermPlaces}
use Rattle.seg_writing.specs.Written.{HasFewPlaces}
use Rattle.seg_writing.proofs.Puts.{terms_more}
use Rattle.seg_writing.proofs.terms.put_terms.Goals as goal
use Rattle.std.proofs.lemmas.List.Elements.{All-from_recursion}

pub put_term-requires-clause-short : goal.put_term-requires-clause-short
put_term-requires-clause-short c =
    let terms = c.args.terms.now in
    let i = c.loop-term.term-index in
    let term = c.term-item.result in
    let within : i < length terms = search rules in
    let all = unmapped (λ (t : List ℕ × List ℕ). IsShortTerm t.0) term_view terms c.requires.short in
    subst (λ (t : TermPlaces). IsShortTerm (term_view t).0) (sym c.term-item.is) (All-from_recursion (λ (t : TermPlaces). IsShortTerm (term_view t).0) terms all i term within)

pub put_term-requires-clause-few : goal.put_term-requires-clause-few
put_term-requires-clause-few c =
    let terms = c.args.terms.now in
    let i = c.loop-term.term-index in
    let term = c.term-item.result in
    let within : i < length terms = search rules in
    subst (λ (t : TermPlaces). HasFewPlaces (term_view t)) (sym c.term-item.is) (All-from_recursion (λ (t : TermPlaces). HasFewPlaces (term_view t)) terms (unmapped HasFewPlaces term_view terms c.requires.few) i term within)

pub loop-term-preserved : goal.loop-term-preserved
loop-term-preserved c =
    let terms = c.args.terms.now in
    let i = c.loop-term.term-index in
    let term = c.term-item.result in
    let within : i < length terms = search rules in
    let longer : map term_view (take (i + 1) terms) ≡ map term_view (take i terms) ++ term_view term ∷ [] = ap (map term_view) (take_more terms i term within ∙ ap (λ e. take i terms ++ e ∷ []) (sym c.term-item.is)) ∙ map-append term_view (take i terms) (term ∷ []) in
    let mid : List ℕ = c.loop-term.out.items in
    let size : c.len.result ≡ length mid = search rules in
    let marks : c.push.new.self.items ≡ c.loop-term.marks.items ++ length mid ∷ [] = c.in_ok-push.ensures.items ∙ ap (λ n. c.loop-term.marks.items ++ n ∷ []) size in
    rw (marks, longer) (terms_more c.args.out.now.items mid c.put_term.new.out.items c.loop-term.marks.items (map term_view (take i terms)) (term_view term) c.loop-term.invariant c.in_ok-put_term.ensures.bytes c.in_ok-put_term.ensures.fits)
