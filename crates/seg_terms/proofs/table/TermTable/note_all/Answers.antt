use Rattle.std.proofs.Common.{rules, ◌≡◌, ◌++◌, [], ℕ, List, ap, sym, ◌∙◌, Some, None, string_bytes, cond, length, arith}
use Rattle.std.proofs.lemmas.Bool.{eqb-true, eqb-false}
use Rattle.std.proofs.lemmas.List.{nil_from_length}
use Rattle.std.specs.Option.{option_copied_mut}
use Rattle.std.specs.Map.{lookup}
use Rattle.std.specs.Str.{bytes_eq}
use Rattle.std.proofs.lemmas.Result.{on_ok_weaker}
use Rattle.facet_names.proofs.Keys.{is_key}
use Rattle.seg_terms.specs.Noting.{table_of, found, behind}
use Rattle.seg_terms.proofs.Tables.{found_is, items_of, updated}
use Rattle.seg_terms.proofs.Behind.{behind_some, behind_fresh, noted_behind, noted_nothing}
use Rattle.seg_terms.proofs.table.TermTable.note_all.Goals as goal

pub returns-then-is_empty : goal.returns-then-is_empty
returns-then-is_empty c = noted_nothing c.args.self.now c.args.term.now c.args.places.now (nil_from_length c.args.places.now (eqb-true _ _ (sym c.if-is_empty.ensures)))

pub returns-in-Some : goal.returns-in-Some
returns-in-Some c =
    let m = c.self.inside.terms in
    let v = c.put_all.new.noted in
    let n = c.get_mut.follows.lender v in
    let term = c.args.term.now in
    let ps = c.args.places.now in
    let there : lookup (is_key term) m.entries ≡ Some c.in-Some.noted.now = sym c.get_mut.ensures.value ∙ ap option_copied_mut c.in-Some.is in
    let was : found (table_of m.entries) term ≡ Some c.in-Some.noted.now.items = found_is term m.entries ∙ ap items_of there in
    rw (← c.self.view_is) (
    on_ok_weaker c.put_all.result (λ put. noted_behind (table_of m.entries) (table_of n.entries) term ps v.items (updated m n term v ((c.get_mut.follows.holds v).3 (search rules))) (ap (λ o. behind o ps) was ∙ behind_some c.in-Some.noted.now.items ps ∙ ap Some (sym put))) c.put_all.ensures
    )

pub returns : goal.returns
returns c =
    let m = c.self.inside.terms in
    let before = c.get_mut.follows.lender-at-none in
    let n = c.insert.new.self in
    let v = c.put_all-2.new.noted in
    let term = c.args.term.now in
    let ps = c.args.places.now in
    let same : before ≡ m = search rules in
    let key : string_bytes c.in_ok-from_str.field-0 ≡ term = c.in_ok-from_str.ensures.ok in
    let items : v.items ≡ ps = c.in_ok-put_all.ensures ∙ ap (λ l. l ++ ps) c.new-noted.ensures.items in
    let filled : ps ≡ [] → ⊥ = λ none. absurd (omega (arith, ap length none, eqb-false _ _ (sym c.if-is_empty.ensures))) in
    let there : lookup (is_key term) m.entries ≡ None = sym c.get_mut.ensures.value ∙ ap option_copied_mut c.in_default.is in
    let none : found (table_of m.entries) term ≡ None = found_is term m.entries ∙ ap items_of there in
    let after : (t : List ℕ) → found (table_of n.entries) t ≡ cond (bytes_eq (string_bytes c.in_ok-from_str.field-0) t) (Some v.items) (found (table_of before.entries) t) = updated before n (string_bytes c.in_ok-from_str.field-0) v c.in_ok-insert.ensures.updates in
    let all : (t : List ℕ) → found (table_of n.entries) t ≡ cond (bytes_eq term t) (Some v.items) (found (table_of m.entries) t) =
    λ t. after t ∙ (λ i. cond (bytes_eq (key i) t) (Some v.items) (found (table_of (same i).entries) t)) in
    rw (← c.self.view_is) (noted_behind (table_of m.entries) (table_of n.entries) term ps v.items all (ap (λ o. behind o ps) none ∙ behind_fresh ps filled ∙ ap Some (sym items)))
