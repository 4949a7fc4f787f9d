use Rattle.std.proofs.Common.{rules, arith, ◌≡◌, ◌≤◌, ◌++◌, ◌∷◌, [], cond, ap, sym, ◌∙◌, drop, take, length}
use Rattle.std.specs.Prelude.{nat_eq}
use Rattle.std.proofs.lemmas.List.{length-take-le, take_all}
use Rattle.facet_names.specs.Blocks.{parts_of}
use Rattle.facet_names.specs.Terms.{escaped, term_text}
use Rattle.facet_names.proofs.TermTexts.{longer_text}
use Rattle.facet_names.proofs.Blocks.{drop_one, few_in, none_in, take_one}
use Rattle.facet_names.proofs.term.joined.Goals as goal

pub loop-rest-init : goal.loop-rest-init
unfolding term_text
loop-rest-init c = search rules

pub overflow_add-at : goal.overflow_add-at
overflow_add-at c = let few = few_in 32 c.args.block.now in let counted = c.loop-rest.invariant.counted in search rules

pub loop-rest-preserved : goal.loop-rest-preserved
loop-rest-preserved c =
    let parts = parts_of c.args.block.now in
    let at = c.loop-rest.at in
    let part = c.cut.result.0.now in
    let rest = parts_of c.cut.result.1.now in
    let before = take at parts in
    let here : drop at parts ≡ part ∷ rest = sym c.loop-rest.invariant.parts ∙ c.cut.ensures.parts in
    let within : at ≤ length parts = omega (arith, c.loop-rest.invariant.counted) in
    let size : length before ≡ at = length-take-le at parts within in
    record {
      utf8 = search rules;
      is = c.cut.ensures.rest;
      parts = drop_one at parts part rest here;
      counted = omega (arith, c.loop-rest.invariant.counted, ap length c.cut.ensures.parts);
      text = c.in_ok-push_part.ensures.ok
          ∙ ap (λ t. t ++ cond (nat_eq at 0) (escaped part) (31 ∷ escaped part)) c.loop-rest.invariant.text
          ∙ longer_text before part at size
          ∙ ap term_text (sym (take_one at parts part rest here));
    }

pub returns : goal.returns
returns c =
    let parts = parts_of c.args.block.now in
    let empty : length c.loop-rest.rest.now ≡ 0 = search rules in
    let none : parts_of c.loop-rest.rest.now ≡ [] = none_in c.loop-rest.rest.now empty in
    c.loop-rest.invariant.text ∙ ap term_text (take_all c.loop-rest.at parts (omega (arith, c.loop-rest.invariant.counted, ap length none)))
