use Rattle.std.proofs.Common.{arith, ap, sym, subst, ◌≡◌, ◌+◌, ◌++◌, ◌∷◌, [], List, true, map, get_or, cond, ltb}
use Rattle.std.proofs.lemmas.Bool.{lt-ltb}
use Rattle.facet_model.specs.Listing.{PartCount}
use Rattle.facet_counts.specs.Children.{entry_of}
use Rattle.facet_counts.specs.Firsts.{AreChosen, standing}
use Rattle.facet_counts.proofs.Ordered.{first_more}
use Rattle.facet_counts.proofs.firsts.choose_among.Goals as goal

pub returns-in_ok-choose_child : goal.returns-in_ok-choose_child
returns-in_ok-choose_child c = λ children are.
    let count = get_or c.args.totals.now c.args.child 0 in
    let x : PartCount = entry_of c.args.view.now c.args.totals.now c.args.child in
    let some : ltb 0 count ≡ true = lt-ltb 0 count (omega arith) in
    subst (λ (l : List PartCount). AreChosen c.args.n (children ++ l)
    (record { candidates = c.choose_child.new.candidates; sum = c.args.chosen.now.sum + count; number = c.args.chosen.now.number + 1 })) (ap (λ b. cond b (x ∷ []) []) (sym some))
    (record {
      first = first_more c.args.n children (map standing c.args.chosen.now.candidates.items) (map standing c.choose_child.new.candidates.items) c.args.chosen.now.sum c.args.chosen.now.number x are.first c.in_ok-choose_child.ensures.chosen;
      short = c.in_ok-choose_child.ensures.short;
      small = omega (arith, are.small, c.requires.small);
    })
