use Rattle.std.proofs.Common.{◌∙◌, ◌++◌, ◌∷◌, [], ap, sym, subst, arith}
use Rattle.sideways.specs.Counted.{AreLast}
use Rattle.sideways.proofs.LastHits.{last_more, last_moved}
use Rattle.sideways.proofs.newest.push_last.Goals as goal
use Rattle.sideways.proofs.newest.push_last.Goals.{then-len-most, else-len-most}

pub returns-clause-last : goal.returns-clause-last
returns-clause-last c = λ before are.
    let place = c.args.place in
    let most = c.args.most in
    elim c.if-len-most.branch [
      | then-len-most w ↦
          subst (AreLast most (before ++ place ∷ [])) (sym (c.in_ok-push_back.ensures.items ∙ ap (λ q. q.items ++ place ∷ []) w.last-is ∙ ap (λ xs. xs ++ place ∷ []) w.pop_front-first.ensures.rest))
          (last_moved most before c.args.last.now.items place c.requires.some (omega arith) are)
      | else-len-most w ↦
          subst (AreLast most (before ++ place ∷ [])) (sym (c.in_ok-push_back.ensures.items ∙ ap (λ q. q.items ++ place ∷ []) w.last-is))
          (last_more most before c.args.last.now.items place c.requires.some (omega arith) are)
    ]
