use Rattle.std.proofs.Common.{rules, ◌≡◌, ◌<◌, ◌∷◌, [], ◌++◌, List, length, Some, get_or, ap, ◌∙◌, sym, arith}
use Rattle.std.proofs.lemmas.List.{get_or_push, length-append}
use Rattle.std.proofs.lemmas.Option.{slice_get-get_or}
use Rattle.seg_decoding.specs.declared.facts.LabelFacts.{LabelFacts}
use Rattle.seg_decoding.proofs.met.MetLabels.meet.Goals as goal

pub returns-then-index-ord-clause-has : goal.returns-then-index-ord-clause-has
returns-then-index-ord-clause-has c =
    let facts : List LabelFacts = c.args.self.now.facts.items in
    let lt : c.index-place.result.now < length c.args.self.now.facts.items = search rules in
    (c.index.result.now, slice_get-get_or facts c.index-place.result.now c.index.result.now lt ∙ ap Some (sym c.index.ensures), c.if-index-ord.true)

pub returns-clause-has : goal.returns-clause-has
returns-clause-has c =
    let facts : List LabelFacts = c.args.self.now.facts.items in
    let f : LabelFacts = c.in_ok-facts.facts in
    let at = c.len-place.result in
    let size : length c.args.self.now.facts.items ≡ c.len-place.result = search rules in
    let pushed : c.push.new.self.items ≡ c.args.self.now.facts.items ++ c.in_ok-facts.facts ∷ [] = c.in_ok-push.ensures.items in
    let lt : c.len-place.result < length c.push.new.self.items = omega (arith, size, ap length pushed ∙ length-append facts (f ∷ [])) in
    (f, slice_get-get_or c.push.new.self.items at f lt ∙ ap Some (ap (λ (fs : List LabelFacts). get_or fs at f) pushed ∙ get_or_push facts f f at size), c.in_ok-facts.ensures.ord)
