use Rattle.std.proofs.Common.{rules, ◌≡◌, ℕ, ◌<◌, ◌∷◌, [], ◌++◌, ◌+◌, subst, sym, ap, ◌∙◌, length, take, get_or}
use Rattle.std.proofs.lemmas.List.{map_push, take_more}
use Rattle.seg_file.specs.Search.{term_of}
use Rattle.seg_decoding.specs.Facts.{texts_at}
use Rattle.seg_decoding.specs.Pairs.{Passes}
use Rattle.seg_decoding.proofs.Walked.{passes_more, passes_none}
use Rattle.seg_decoding.proofs.walk.Walk.pass_terms.Goals as goal

pub loop-term-init : goal.loop-term-init
loop-term-init c = record { size = c.requires.size; passed = passes_none c.args.segment.now.terms c.args.doc c.args.self.now.next.items }

pub loop-term-preserved : goal.loop-term-preserved
loop-term-preserved c =
    let all = c.args.segment.now.terms in
    let terms = c.args.terms.now in
    let i = c.loop-term.term-index in
    let term : ℕ = get_or c.args.terms.now c.loop-term.term-index 0 in
    let within : i < length terms = search rules in
    let longer : take (i + 1) terms ≡ take i terms ++ term ∷ [] = take_more terms i 0 within in
    let old = c.args.self.now.next.items in
    let new = c.pass.new.next.items in
    record {
      size = c.in_ok-pass.ensures.size ∙ c.loop-term.invariant.size;
      passed = subst (λ ts. Passes all c.args.doc ts old new) (sym (ap (texts_at all) longer ∙ map_push (λ at. (term_of all at).0) (take i terms) term))
          (passes_more all c.args.doc (texts_at all (take i terms)) ((term_of all term).0 ∷ []) old c.loop-term.self.next.items new c.loop-term.invariant.passed c.in_ok-pass.ensures);
    }
