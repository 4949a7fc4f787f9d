use Rattle.std.proofs.Common.{rules, ℕ, List, ◌≡◌, ap, sym, ◌∙◌, [], ◌∷◌, Some, None, string_bytes, subst, cond}
use Rattle.std.specs.Str.{bytes_eq}
use Rattle.seg_terms.specs.Noting.{table_of, found, with_place}
use Rattle.seg_terms.proofs.Tables.{noted_one, updated}
use Rattle.seg_terms.proofs.table.TermTable.add.Goals as goal

pub returns : goal.returns
returns c =
    let m = c.self.inside.terms in
    let n = c.insert.new.self in
    let v = c.push.new.self in
    let bs = c.args.term.now in
    let key : string_bytes c.in_ok-from_str.field-0 ≡ bs = c.in_ok-from_str.ensures.ok in
    let items : v.items ≡ c.args.place ∷ [] = search rules in
    let none : found (table_of m.entries) bs ≡ None = ap (λ t. found t bs) c.self.view_is ∙ c.requires in
    let after : (t : List ℕ) → found (table_of n.entries) t ≡ cond (bytes_eq (string_bytes c.in_ok-from_str.field-0) t) (Some v.items) (found (table_of m.entries) t) = updated m n (string_bytes c.in_ok-from_str.field-0) v c.in_ok-insert.ensures.updates in
    rw (← c.self.view_is) (noted_one (table_of m.entries) (table_of n.entries) bs c.args.place v.items (λ t. subst (λ k. found (table_of n.entries) t ≡ cond (bytes_eq k t) (Some v.items) (found (table_of m.entries) t)) key (after t)) (ap (λ o. with_place o c.args.place) none ∙ ap Some (sym items)))
