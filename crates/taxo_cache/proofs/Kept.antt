-- The entries of a stripe, found and kept.
use Rattle.std.proofs.Common.{◌≡◌, ◌∙◌, ⊎_elim, ℕ, zero, suc, ◌<◌, ◌≤◌, ◌+◌, ◌-◌, Bool, true, false, List, [], ◌∷◌, length, take, cond, Option, Some, None, refl, ap, sym, subst, arith}
use Rattle.std.specs.Prelude.{IfSome}
use Rattle.std.specs.Option.{option_map_or}
use Rattle.std.specs.Map.{lookup, lookup_entry, remove_entry}
use Rattle.std.proofs.lemmas.List.{take_all, length-take}
use mathlib.Core.List.{IsPrefix}
use Rattle.atomic_table.specs.Seated.{TableId}
use Rattle.chronicle.specs.History.{longer}
use Rattle.chronicle.specs.Shown.{Shown, SameToken}
use Rattle.lru.specs.LruCache.{LruCache, promoted, put_entries}
use Rattle.lru.proofs.CallerLemmas.{Contains-put_entries, Contains-lookup, Contains-lookup_entry, IsPut}
use Rattle.facet_names.specs.Labels.{IsLabelList, place}
use Rattle.facet_names.specs.Paths.{path_eq}
use Rattle.facet_names.proofs.LabelLists.{same_path}
use Rattle.taxo_cache.specs.Seen.{labels_of, SeesLabels}
use Rattle.taxo_cache.specs.Stripes.{AreAt, IsStripe}
use Rattle.taxo_cache.proofs.Seen.{place_seen, longer_list}

-- entries stay right while more labels are seen
pub at_seen : (old new : List (ℕ × List (List ℕ))) (es : List (List (List ℕ) × ℕ)) → IsPrefix old new → AreAt (labels_of old) es → AreAt (labels_of new) es
at_seen old new es more at e there = place_seen old new e.0 e.1 more (at e there)

-- what was found for a path is its ordinal
pub found_at : (labels : List (List (List ℕ))) (es : List (List (List ℕ) × ℕ)) (path : List (List ℕ)) → AreAt labels es → (o : Option ℕ) → lookup (path_eq path) es ≡ o → IfSome o (λ ord. place labels path ≡ Some ord)
found_at labels es path at None e = tt
found_at labels es path at (Some ord) e =
    let found = Contains-lookup (path_eq path) es ord e in
    subst (λ (p : List (List ℕ)). place labels p ≡ Some ord) (sym (same_path path found.0 found.2)) (at (found.0, ord) found.1)

module _ (c : LruCache (List (List ℕ)) ℕ) (path : List (List ℕ)) (ord : ℕ) where
  -- with one more entry they are right
  pub at_put : (labels : List (List (List ℕ))) → AreAt labels c.entries → place labels path ≡ Some ord → AreAt labels (put_entries path_eq c path ord)
  at_put labels at here e there = ⊎_elim (at e) (λ (put : IsPut path_eq c path ord e).
      let key : path ≡ e.0 = ⊎_elim (λ (same : e.0 ≡ path). sym same) (λ old. same_path path e.0 old.2) put.1 in
      subst (λ (x : List (List ℕ) × ℕ). place labels x.0 ≡ Some x.1) (λ i. (key i, sym put.0 i)) here) (Contains-put_entries path_eq c path ord e there)

removed_none : (test : List (List ℕ) → Bool) (es : List (List (List ℕ) × ℕ)) → lookup_entry test es ≡ None → remove_entry test es ≡ es
removed_none test [] e = refl
removed_none test (x ∷ es) e = by (test x.0) e (removed_none test es)
  where
    by : (b : Bool) → cond b (Some x) (lookup_entry test es) ≡ None → (lookup_entry test es ≡ None → remove_entry test es ≡ es) → cond b es (x ∷ remove_entry test es) ≡ x ∷ es
    by true e rest = absurd cc
    by false e rest = ap (λ l. x ∷ l) (rest e)

removed_one : (test : List (List ℕ) → Bool) (es : List (List (List ℕ) × ℕ)) (f : List (List ℕ) × ℕ) → lookup_entry test es ≡ Some f → length (remove_entry test es) + 1 ≡ length es
removed_one test [] f e = absurd cc
removed_one test (x ∷ es) f e = by (test x.0) e (removed_one test es f)
  where
    by : (b : Bool) → cond b (Some x) (lookup_entry test es) ≡ Some f → (lookup_entry test es ≡ Some f → length (remove_entry test es) + 1 ≡ length es) → length (cond b es (x ∷ remove_entry test es)) + 1 ≡ length (x ∷ es)
    by true e rest = omega arith
    by false e rest = let less = rest e in omega arith

take_first : {X : Type 0} (n : ℕ) (x : X) (xs : List X) → 0 < n → x ∷ take (n - 1) xs ≡ take n (x ∷ xs)
take_first zero x xs some = absurd (omega arith)
take_first (suc n) x xs some = ap (λ k. x ∷ take k xs) (let e : suc n - 1 ≡ n = omega arith in e)

module _ (c : LruCache (List (List ℕ)) ℕ) (path : List (List ℕ)) (ord : ℕ) (some : 0 < c.cap) (few : length c.entries ≤ c.cap) where
  -- the entry goes first, and the last goes where there would be too many
  pub put_first : put_entries path_eq c path ord ≡ take c.cap ((path, ord) ∷ remove_entry (path_eq path) c.entries)
  put_first = by (lookup_entry (path_eq path) c.entries) refl
    where
      by : (o : Option (List (List ℕ) × ℕ)) → lookup_entry (path_eq path) c.entries ≡ o
          → option_map_or (λ e. (e.0, ord) ∷ remove_entry (path_eq path) c.entries) o ((path, ord) ∷ take (c.cap - 1) c.entries) ≡ take c.cap ((path, ord) ∷ remove_entry (path_eq path) c.entries)
      by None e = take_first c.cap (path, ord) c.entries some ∙ ap (λ l. take c.cap ((path, ord) ∷ l)) (sym (removed_none (path_eq path) c.entries e))
      by (Some f) e =
          let found = Contains-lookup_entry (path_eq path) c.entries f e in
          let less = removed_one (path_eq path) c.entries f e in
          ap (λ k. (k, ord) ∷ remove_entry (path_eq path) c.entries) (sym (same_path path f.0 found.1))
          ∙ sym (take_all c.cap ((path, ord) ∷ remove_entry (path_eq path) c.entries) (omega (arith, few)))

  -- so they are no more than there is room for
  few_put : length (put_entries path_eq c path ord) ≤ c.cap
  few_put = omega (arith, ap length put_first, length-take c.cap ((path, ord) ∷ remove_entry (path_eq path) c.entries))

-- to use an entry makes none more
pub as_many_promoted : (test : List (List ℕ) → Bool) (es : List (List (List ℕ) × ℕ)) → length (promoted test es) ≡ length es
as_many_promoted test es = by (lookup_entry test es) refl
  where
    by : (o : Option (List (List ℕ) × ℕ)) → lookup_entry test es ≡ o → length (option_map_or (λ e. e ∷ remove_entry test es) o es) ≡ length es
    by None e = refl
    by (Some f) e = let less = removed_one test es f e in omega (arith, less)

-- a stripe that keeps one entry more, and has met a note in which the entry's path stands
pub one_kept : (named : TableId) (old note new : Shown (List (List ℕ))) (c : LruCache (List (List ℕ)) ℕ) (path : List (List ℕ)) (ord : ℕ)
    → IsStripe named old c.entries c.cap → SameToken old new → new.holds_turn ≡ false → new.seen ≡ longer old.seen note.seen → IsPrefix old.seen new.seen → IsPrefix note.seen new.seen
    → SeesLabels note → place (labels_of note.seen) path ≡ Some ord → IsStripe named new (put_entries path_eq c path ord) c.cap
one_kept named old note new c path ord kept same idle met more told list there = record {
  named = same.3 ∙ kept.named;
  is_note = same.2 ∙ kept.is_note;
  idle = idle;
  list = subst (λ (l : List (ℕ × List (List ℕ))). IsLabelList (labels_of l)) (sym met) (longer_list old.seen note.seen kept.list list);
  at = at_put c path ord (labels_of new.seen) (at_seen old.seen new.seen c.entries more kept.at) (place_seen note.seen new.seen path ord told there);
  some = kept.some;
  few = few_put c path ord kept.some kept.few;
}
