use Rattle.std.proofs.Common.{rules, ◌≡◌, ◌+◌, ◌<◌, ◌++◌, ◌∷◌, [], ℕ, List, length, take, drop, set, get_or, sym, subst, ◌∙◌}
use Rattle.std.proofs.lemmas.List.{get_or_default, take_at}
use Rattle.value_facets.specs.Tallying.{HasCounted, IsTally, Tallied}
use Rattle.value_facets.proofs.Noted.{counted_after, counted_row}
use Rattle.value_facets.proofs.tally.Tally.count.Goals as goal

pub returns-then-slot-len-clause-counted : goal.returns-then-slot-len-clause-counted
returns-then-slot-len-clause-counted c = λ lists has.
    let old : Tallied = record { counts = c.self.inside.counts.items; rows = c.self.inside.rows.items; hits = c.self.inside.hits } in
    let within : c.in-Some.slot < length c.self.inside.rows.items = search rules in
    let value : c.index_mut.result.now ≡ get_or c.self.inside.rows.items c.in-Some.slot 0 = c.index_mut.ensures.value ∙ get_or_default c.self.inside.rows.items c.in-Some.slot c.index_mut.result.now 0 within in
    subst (λ x. HasCounted c.args.marks.now (lists ++ c.args.leaves.now ∷ []) (record { counts = c.self.inside.counts.items; rows = set c.self.inside.rows.items c.in-Some.slot (x + 1); hits = c.self.inside.hits + 1 })) (sym value)
    (counted_row c.args.marks.now c.args.leaves.now c.in-Some.slot old (c.self.inside.hits + 1) c.in-Some.ensures within lists
    (subst (λ (t : Tallied). HasCounted c.args.marks.now lists t) (sym c.self.view_is) has))

pub returns-clause-counted : goal.returns-clause-counted
returns-clause-counted c = λ lists has.
    let new : List ℕ = c.note_leaves.new.counts in
    let rest : List ℕ = drop (length new) c.self.inside.counts.items in
    let written : take c.self.inside.counts.len (new ++ rest) ≡ new = take_at new rest c.self.inside.counts.len (c.note_leaves.ensures.as_many ∙ c.deref_mut.ensures.len) in
    let tally : IsTally c.deref_mut.result.now c.deref_mut-2.result.now c.self.inside.rows.items c.self.inside.hits = subst (λ ns. IsTally ns c.deref_mut-2.result.now c.self.inside.rows.items c.self.inside.hits) (sym c.deref_mut.ensures.value) (subst (λ ns. IsTally c.self.inside.counts.items ns c.self.inside.rows.items c.self.inside.hits) (sym c.deref_mut-2.ensures.value) c.self.invariant) in
    subst (λ ns. HasCounted c.args.marks.now (lists ++ c.args.leaves.now ∷ []) (record { counts = ns; rows = c.self.inside.rows.items; hits = c.self.inside.hits + 1 })) (sym written)
    (counted_after c.args.marks.now c.args.leaves.now c.self.inside.hits (c.self.inside.hits + 1) c.deref_mut.result.now c.deref_mut-2.result.now c.self.inside.rows.items new c.note_leaves.new.last tally c.note_leaves.ensures lists
    (subst (λ ns. HasCounted c.args.marks.now lists (record { counts = ns; rows = c.self.inside.rows.items; hits = c.self.inside.hits })) (sym c.deref_mut.ensures.value) (subst (λ (t : Tallied). HasCounted c.args.marks.now lists t) (sym c.self.view_is) has)))
