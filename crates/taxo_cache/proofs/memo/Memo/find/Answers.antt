use Rattle.std.proofs.Common.{◌≡◌, ◌∙◌, ℕ, List, Some, ap, sym, subst}
use Rattle.facet_names.specs.Paths.{path_eq}
use Rattle.taxo_cache.specs.Seen.{labels_of}
use Rattle.taxo_cache.specs.Memos.{HasOrdinals}
use Rattle.taxo_cache.proofs.Remembered.{found_for, still_memo}
use Rattle.taxo_cache.proofs.memo.Memo.find.Goals as goal

pub invariant_of-self : goal.invariant_of-self
invariant_of-self g c =
    rw c.get.follows.holds-at-none (still_memo g.N.Name.labels c.self.inside.note c.self.inside.cache.entries (path_eq c.args.path.now) c.self.invariant)

pub invariant_of-self-in_err-copy : goal.invariant_of-self-in_err-copy
invariant_of-self-in_err-copy g c =
    rw c.get.follows.holds-at-none (still_memo g.N.Name.labels c.self.inside.note c.self.inside.cache.entries (path_eq c.args.path.now) c.self.invariant)

pub invariant_of-self-2 : goal.invariant_of-self-2
invariant_of-self-2 g c =
    rw c.get.follows.holds-at-none (still_memo g.N.Name.labels c.self.inside.note c.self.inside.cache.entries (path_eq c.args.path.now) c.self.invariant)

pub returns-clause-there : goal.returns-clause-there
returns-clause-there g c =
    let seen = c.self.inside.note.seen in
    let path = c.args.path.now in
    let there = found_for (labels_of seen) c.self.inside.cache.entries path c.self.invariant.have (Some c.in-Some.ords.now) (sym c.in-Some.ensures.value) in
    let same : c.in_ok-copy.copy.items ≡ c.in-Some.ords.now = c.in_ok-copy.ensures ∙ c.prefixes.ensures in
    subst (λ (l : List (ℕ × List (List ℕ))). HasOrdinals (labels_of l) path c.in_ok-copy.copy.items) (ap (λ m. m.seen) c.self.view_is)
    (subst (HasOrdinals (labels_of seen) path) (sym same) there)
