use Rattle.std.proofs.Common.{◌≡◌, ◌+◌, ◌<◌, ◌++◌, ◌∷◌, [], ℕ, List, length, take, drop, get_or, ap, sym, subst, ◌∙◌}
use Rattle.std.proofs.lemmas.List.{ext_get_or, same_from_push, take_at}
use Rattle.value_facets.specs.Tallying.{Tallied, rows_to, total_of}
use Rattle.value_facets.proofs.tally.Tally.into_counts.Goals as goal

pub returns : goal.returns
returns c = λ counts valued long each.
    let new : List ℕ = c.add_rows.new.counts in
    let rest : List ℕ = drop (length new) c.self.inside.counts.items in
    let written : take c.self.inside.counts.len (new ++ rest) ≡ new = take_at new rest c.self.inside.counts.len (c.add_rows.ensures.as_many ∙ c.deref_mut.ensures.len) in
    let old : length c.deref_mut.result.now ≡ length c.args.self.counts = ap length c.deref_mut.ensures.value ∙ ap (λ (t : Tallied). length t.counts) c.self.view_is in
    let there : new ≡ counts ++ valued ∷ [] = ext_get_or 0 new (counts ++ valued ∷ []) (c.add_rows.ensures.as_many ∙ old ∙ sym long)
    (λ k lt.
    c.add_rows.ensures.each k (subst (λ n. k < n) c.add_rows.ensures.as_many lt)
    ∙ (λ i. get_or (c.deref_mut.ensures.value i) k 0 + rows_to c.args.marks.now.rows (c.deref.ensures.value i) k (length c.args.marks.now.rows))
    ∙ (λ i. total_of c.args.marks.now (c.self.view_is i) k)
    ∙ each k (subst (λ n. k < n) (c.add_rows.ensures.as_many ∙ old) lt)) in
    let same = same_from_push c.pop.new.self.items counts c.in-Some.valued valued (sym c.in-Some.ensures.items ∙ written ∙ there) in
    c.new.ensures ∙ (λ i. record { counts = same.0 i; valued = same.1 i })
