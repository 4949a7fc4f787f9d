-- How children and siblings are entered, and that the arrays by the parents are those of the labels.
use Rattle.std.proofs.Common.{◌≡◌, ℕ, ◌⊎◌, zero, suc, ◌+◌, ◌<◌, ◌≤◌, ℤ, pos, negsuc, Bool, true, false, cond, List, [], length, take, get_or, set, replicate, ◌-◌, ◌++◌, Option, Some, None, refl, sym, ap, subst, ◌∙◌, arith, rules, inl, inr, nat_eq}
use Rattle.std.specs.Prelude.{option_and_then, IfSome}
use Rattle.std.specs.Bool.{MatchBool}
use lib.Signed.{le_z}
use lib.IntN.{nat_abs}
use mir.Val.{SFits}
use mir.Syntax.{w32}
use Rattle.std.specs.Option.{option_map_or}
use Rattle.std.proofs.lemmas.Bool.{MatchBool-at_true, le-leb, cases_eq, cases_lt, eq-eqb, ne_eqb, cond-true, cond-false}
use Rattle.std.proofs.lemmas.List.{length-append, length-replicate, get_or-replicate, get_or-append_right, get_or_append_left, get_or-take, length-set, get_or-set_same, get_or-set_other, length-take-le}
use Rattle.std.proofs.lemmas.List.FromFn.{length-map-range_with_len, get_or-map-range_with_len, take-map-range_with_len, fill_by_all}
use Rattle.std.proofs.lemmas.Option.{slice_get-get_or, IfSome_then}
use Rattle.facet_names.specs.Labels.{IsLabelList}
use Rattle.facet_names.specs.Arrays.{or_none, greatest, parent_at, child_at, sibling_at, is_child}
use Rattle.facet_names.proofs.Greatest.{greatest_passes}
use Rattle.taxo_list.specs.ArrayLists.{ArrayLists, by_ordinal, arrays_of}
use Rattle.taxo_list.specs.Links.{ordinal, parent_in, last_child, last_sibling, arrays_by, AreParents, AreLinked}
use Rattle.taxo_list.proofs.Labels.{parent_before, parent_at_front}

-- ---- one step

-- the greatest below the next number
greatest_pass : (passes : ℕ → Bool) (n : ℕ) → passes n ≡ true → greatest passes (n + 1) ≡ Some n
unfolding greatest
greatest_pass passes n passed = ap (greatest passes) next ∙ cond-true (passes n) (Some n) (greatest passes n) passed
  where
    next : n + 1 ≡ suc n
    next = omega arith

greatest_fail : (passes : ℕ → Bool) (n : ℕ) → passes n ≡ false → greatest passes (n + 1) ≡ greatest passes n
unfolding greatest
greatest_fail passes n failed = ap (greatest passes) next ∙ cond-false (passes n) (Some n) (greatest passes n) failed
  where
    next : n + 1 ≡ suc n
    next = omega arith

greatest_below : (passes : ℕ → Bool) (n : ℕ) → IfSome (greatest passes n) (λ j. j < n)
greatest_below passes n = IfSome_then (greatest passes n) (greatest_passes passes n) (λ j at. at.0)

none_or_below : (o : Option ℕ) (n : ℕ) → IfSome o (λ j. j < n) → n ≤ 1000000 → SFits w32 (or_none o)
none_or_below None n below few = record { sfits = omega arith }
none_or_below (Some j) n below few = record { sfits = omega arith }

-- a child that has been entered fits 32 bits
pub child_fits : (parents children siblings : List ℤ) (k : ℕ) → AreLinked parents k children siblings → k ≤ 1000000 → (i : ℕ) → i < length children → SFits w32 (get_or children i (negsuc 0))
child_fits parents children siblings k so_far few i lt = subst (SFits w32) (sym (so_far.child i (omega (arith, so_far.as_many_children)))) (none_or_below (last_child parents k i) k (greatest_below (λ j. option_map_or (nat_eq i) (parent_in parents j) false) k) few)

module _ (parents children siblings : List ℤ) (k : ℕ) (within : k < length parents) (so_far : AreLinked parents k children siblings) where
  -- an ordinal with no parent changes nothing
  pub linked_root : parent_in parents k ≡ None → AreLinked parents (k + 1) children siblings
  linked_root none = record {
    as_many_children = so_far.as_many_children;
    as_many_siblings = so_far.as_many_siblings;
    child = λ i lt. so_far.child i lt ∙ ap or_none (sym (greatest_fail (λ j. option_map_or (nat_eq i) (parent_in parents j) false) k (ap (λ o. option_map_or (nat_eq i) o false) none)));
    sibling = λ i low lt. by i lt (cases_lt i k) low;
    unset = λ i high lt. so_far.unset i (omega arith) lt;
  }
    where
      by : (i : ℕ) → i < length parents → (i < k) ⊎ (k ≤ i) → i < k + 1 → get_or siblings i (negsuc 0) ≡ or_none (last_sibling parents i)
      by i lt (inl low) _ = so_far.sibling i low lt
      by i lt (inr high) low =
          let here : i ≡ k = omega arith in
          so_far.unset i high lt ∙ sym (ap (λ o. or_none (option_and_then (last_child parents i) o)) (ap (parent_in parents) here ∙ none))

  -- an ordinal with a parent becomes its child, and the child before it becomes the sibling
  pub linked_child : (p : ℕ) → parent_in parents k ≡ Some p → p < k → AreLinked parents (k + 1) (set children p (pos k)) (set siblings k (get_or children p (negsuc 0)))
  linked_child p is smaller = record {
    as_many_children = length-set children p (pos k) ∙ so_far.as_many_children;
    as_many_siblings = length-set siblings k (get_or children p (negsuc 0)) ∙ so_far.as_many_siblings;
    child = λ i lt. child_by i lt (cases_eq i p);
    sibling = λ i low lt. sibling_by i lt (cases_lt i k) low;
    unset = λ i high lt. get_or-set_other siblings k i (get_or children p (negsuc 0)) (negsuc 0) (λ e. absurd (omega arith)) ∙ so_far.unset i (omega arith) lt;
  }
    where
      child_by : (i : ℕ) → i < length parents → (i ≡ p) ⊎ (i ≡ p → ⊥) → get_or (set children p (pos k)) i (negsuc 0) ≡ or_none (last_child parents (k + 1) i)
      child_by i lt (inl e) =
          let here : p < length children = omega (arith, so_far.as_many_children) in
          ap (λ n. get_or (set children p (pos k)) n (negsuc 0)) e ∙ get_or-set_same children p (pos k) (negsuc 0) here
          ∙ ap or_none (sym (greatest_pass (λ j. option_map_or (nat_eq i) (parent_in parents j) false) k (ap (λ o. option_map_or (nat_eq i) o false) is ∙ eq-eqb i p e)))
      child_by i lt (inr ne) =
          get_or-set_other children p i (pos k) (negsuc 0) ne ∙ so_far.child i lt
          ∙ ap or_none (sym (greatest_fail (λ j. option_map_or (nat_eq i) (parent_in parents j) false) k (ap (λ o. option_map_or (nat_eq i) o false) is ∙ ne_eqb i p ne)))

      sibling_by : (i : ℕ) → i < length parents → (i < k) ⊎ (k ≤ i) → i < k + 1 → get_or (set siblings k (get_or children p (negsuc 0))) i (negsuc 0) ≡ or_none (last_sibling parents i)
      sibling_by i lt (inl low) _ = get_or-set_other siblings k i (get_or children p (negsuc 0)) (negsuc 0) (λ e. absurd (omega arith)) ∙ so_far.sibling i low lt
      sibling_by i lt (inr high) low =
          let here : i ≡ k = omega arith in
          let room : k < length siblings = omega (arith, so_far.as_many_siblings) in
          ap (λ n. get_or (set siblings k (get_or children p (negsuc 0))) n (negsuc 0)) here ∙ get_or-set_same siblings k (get_or children p (negsuc 0)) (negsuc 0) room
          ∙ so_far.child p (omega arith) ∙ ap or_none (sym (ap (option_and_then (last_child parents k)) is)) ∙ ap (λ n. or_none (last_sibling parents n)) (sym here)

  -- the two cases, by what the code reads: the parent, and the child that the parent has so far
  pub linked_step : (parent kid : ℤ) → parent ≡ get_or parents k (negsuc 0) → (nat_abs parent < length children → kid ≡ get_or children (nat_abs parent) (negsuc 0)) → IfSome (parent_in parents k) (λ p. p < k) → (kids sibs : List ℤ)
      → MatchBool (le_z (pos 0) parent) ((kids ≡ set children (nat_abs parent) (pos k)) × (sibs ≡ set siblings k kid)) ((kids ≡ children) × (sibs ≡ siblings))
      → AreLinked parents (k + 1) kids sibs
  linked_step (pos p) kid is kid_is small kids sibs made =
      let parent : parent_in parents k ≡ Some p = ap ordinal (sym is) in
      let smaller : p < k = subst (λ o. IfSome o (λ q. q < k)) parent small in
      let here : le_z (pos 0) (pos p) ≡ true = le-leb 0 p (omega arith) in
      let both = MatchBool-at_true ((kids ≡ set children p (pos k)) × (sibs ≡ set siblings k kid)) ((kids ≡ children) × (sibs ≡ siblings)) here made in
      let sib : sibs ≡ set siblings k (get_or children p (negsuc 0)) = both.1 ∙ ap (set siblings k) (kid_is (omega (arith, so_far.as_many_children))) in
      subst (λ l. AreLinked parents (k + 1) l sibs) (sym both.0) (subst (λ l. AreLinked parents (k + 1) (set children p (pos k)) l) (sym sib) (linked_child p parent smaller))
  linked_step (negsuc n) kid is kid_is small kids sibs made =
      subst (λ l. AreLinked parents (k + 1) l sibs) (sym made.0) (subst (λ l. AreLinked parents (k + 1) children l) (sym made.1) (linked_root (ap ordinal (sym is))))

-- ---- the whole

-- what has been entered whole is the arrays by the parents
pub linked_whole : (parents children siblings : List ℤ) → AreLinked parents (length parents) children siblings → ◌≡◌ {A = ArrayLists} (record { parents = parents; children = children; siblings = siblings }) (arrays_by parents)
linked_whole parents children siblings all =
    let c : children ≡ by_ordinal (length parents) (last_child parents (length parents)) = fill_by_all (λ i. or_none (last_child parents (length parents) i)) children (length parents) (negsuc 0) all.as_many_children all.child in
    let s : siblings ≡ by_ordinal (length parents) (last_sibling parents) = fill_by_all (λ i. or_none (last_sibling parents i)) siblings (length parents) (negsuc 0) all.as_many_siblings (λ k lt. all.sibling k lt lt) in
    λ j. record { parents = parents; children = c j; siblings = s j }

-- an entry by its ordinal
pub entry : (f : ℕ → Option ℕ) (n i : ℕ) (d : ℤ) → i < n → get_or (by_ordinal n f) i d ≡ or_none (f i)
entry f n i d lt = get_or-map-range_with_len (λ k. or_none (f k)) 0 n i i d lt (zero_more i)
  where
    zero_more : (i : ℕ) → 0 + i ≡ i
    zero_more i = omega arith

pub entries_alike : (f g : ℕ → Option ℕ) (n : ℕ) → ((i : ℕ) → i < n → f i ≡ g i) → by_ordinal n f ≡ by_ordinal n g
entries_alike f g n alike = fill_by_all (λ i. or_none (g i)) (by_ordinal n f) n (negsuc 0) (length-map-range_with_len (λ i. or_none (f i)) 0 n) (λ k lt. entry f n k (negsuc 0) lt ∙ ap or_none (alike k lt))

pub greatest_alike : (p q : ℕ → Bool) (n : ℕ) → ((i : ℕ) → i < n → p i ≡ q i) → greatest p n ≡ greatest q n
unfolding greatest
greatest_alike p q zero alike = refl
greatest_alike p q (suc n) alike = λ j. cond (alike n (omega arith) j) (Some n) (greatest_alike p q n (λ i lt. alike i (omega arith)) j)

pub ordinal_or_none : (o : Option ℕ) → ordinal (or_none o) ≡ o
ordinal_or_none None = refl
ordinal_or_none (Some n) = refl

and_then_alike : (f g : ℕ → Option ℕ) (o : Option ℕ) → ((p : ℕ) → f p ≡ g p) → option_and_then f o ≡ option_and_then g o
and_then_alike f g None alike = refl
and_then_alike f g (Some p) alike = alike p

-- ---- the parents of a list of labels

abbrev pub parents_of : List (List (List ℕ)) → List ℤ
parents_of labels = by_ordinal (length labels) (parent_at labels)

module _ (labels : List (List (List ℕ))) where
  pub length-parents_of : length (parents_of labels) ≡ length labels
  length-parents_of = length-map-range_with_len (λ i. or_none (parent_at labels i)) 0 (length labels)

  pub parent_in_labels : (i : ℕ) → i < length labels → parent_in (parents_of labels) i ≡ parent_at labels i
  parent_in_labels i lt = ap ordinal (entry (parent_at labels) (length labels) i (negsuc 0) lt) ∙ ordinal_or_none (parent_at labels i)

  last_child_labels : (n i : ℕ) → n ≤ length labels → last_child (parents_of labels) n i ≡ greatest (is_child labels i) n
  last_child_labels n i within = greatest_alike (λ k. option_map_or (nat_eq i) (parent_in (parents_of labels) k) false) (is_child labels i) n (λ k lt. ap (λ o. option_map_or (nat_eq i) o false) (parent_in_labels k (omega arith)))

  -- the arrays by the parents of the labels are those of the labels
  pub arrays_by_parents : arrays_by (parents_of labels) ≡ arrays_of labels
  arrays_by_parents =
      let all : ℕ = length labels in
      let children : by_ordinal (length (parents_of labels)) (last_child (parents_of labels) (length (parents_of labels))) ≡ by_ordinal all (child_at labels) =
      ap (λ n. by_ordinal n (last_child (parents_of labels) n)) length-parents_of ∙ entries_alike (last_child (parents_of labels) all) (child_at labels) all (λ i lt. last_child_labels all i (omega arith)) in
      let siblings : by_ordinal (length (parents_of labels)) (last_sibling (parents_of labels)) ≡ by_ordinal all (sibling_at labels) =
      ap (λ n. by_ordinal n (last_sibling (parents_of labels))) length-parents_of ∙ entries_alike (last_sibling (parents_of labels)) (sibling_at labels) all same_sibling in
      λ j. record { parents = parents_of labels; children = children j; siblings = siblings j }
    where
      same_sibling : (i : ℕ) → i < length labels → last_sibling (parents_of labels) i ≡ sibling_at labels i
      same_sibling i lt = ap (option_and_then (last_child (parents_of labels) i)) (parent_in_labels i lt) ∙ and_then_alike (last_child (parents_of labels) i) (λ p. greatest (is_child labels p) i) (parent_at labels i) (λ p. last_child_labels i p (omega arith))

  pub are_parents : IsLabelList labels → AreParents (parents_of labels)
  are_parents is i lt = subst (λ o. IfSome o (λ p. p < i)) (sym (parent_in_labels i (omega (arith, length-parents_of)))) (by i (omega (arith, length-parents_of)))
    where
      by : (i : ℕ) → i < length labels → IfSome (parent_at labels i) (λ p. p < i)
      by zero lt = search rules
      by (suc i) lt =
          let parent = parent_before labels is i (get_or labels (suc i) []) (slice_get-get_or labels (suc i) [] lt) in
          subst (λ o. IfSome o (λ p. p < suc i)) (sym parent.3) parent.1

  -- the first parents are those of the first labels
  pub front_parents : IsLabelList labels → (n : ℕ) → n ≤ length labels → take n (parents_of labels) ≡ parents_of (take n labels)
  front_parents is n within =
      take-map-range_with_len (λ i. or_none (parent_at labels i)) 0 (length labels) n within
      ∙ entries_alike (parent_at labels) (parent_at (take n labels)) n (λ i low. sym (parent_at_front labels is n i within low))
      ∙ ap (λ m. by_ordinal m (parent_at (take n labels))) (sym (length-take-le n labels within))

-- ---- room for more

module _ (parents : List ℤ) (n : ℕ) (within : n ≤ length parents) (smaller : AreParents parents) where
  size : length (take n parents) ≡ n
  size = length-take-le n parents within

  parent_in_front : (k : ℕ) → k < n → parent_in (take n parents) k ≡ parent_in parents k
  parent_in_front k lt = ap ordinal (get_or-take n parents k (negsuc 0) lt)

  last_child_front : (m i : ℕ) → m ≤ n → last_child (take n parents) m i ≡ last_child parents m i
  last_child_front m i low = greatest_alike (λ k. option_map_or (nat_eq i) (parent_in (take n parents) k) false) (λ k. option_map_or (nat_eq i) (parent_in parents k) false) m (λ k lt. ap (λ o. option_map_or (nat_eq i) o false) (parent_in_front k (omega arith)))

  -- none of the first is a child of a later one
  no_child : (i : ℕ) → n ≤ i → (m : ℕ) → m ≤ n → last_child parents m i ≡ None
  unfolding greatest
  no_child i high zero low = refl
  no_child i high (suc m) low = λ j. cond (other (parent_in parents m) (smaller m (omega arith)) j) (Some m) (no_child i high m (omega arith) j)
    where
      other : (o : Option ℕ) → IfSome o (λ p. p < m) → option_map_or (nat_eq i) o false ≡ false
      other None below = refl
      other (Some p) below = ne_eqb i p (λ e. absurd (omega arith))

  same_sibling : (i : ℕ) → i < n → last_sibling (take n parents) i ≡ last_sibling parents i
  same_sibling i low = ap (option_and_then (last_child (take n parents) i)) (parent_in_front i low) ∙ and_then_alike (last_child (take n parents) i) (last_child parents i) (parent_in parents i) (λ p. last_child_front i p (omega arith))

  -- an entry of the first, and one behind them
  module _ (f : ℕ → Option ℕ) where
    entries_size : length (by_ordinal (length (take n parents)) f) ≡ n
    entries_size = length-map-range_with_len (λ i. or_none (f i)) 0 (length (take n parents)) ∙ size

    more_size : length (by_ordinal (length (take n parents)) f ++ replicate (length parents - n) (negsuc 0)) ≡ length parents
    more_size = omega (arith, length-append (by_ordinal (length (take n parents)) f) (replicate (length parents - n) (negsuc 0)), entries_size, length-replicate (length parents - n) (negsuc 0))

    front_entry : (i : ℕ) → i < n → get_or (by_ordinal (length (take n parents)) f ++ replicate (length parents - n) (negsuc 0)) i (negsuc 0) ≡ or_none (f i)
    front_entry i low = get_or_append_left (by_ordinal (length (take n parents)) f) (replicate (length parents - n) (negsuc 0)) (negsuc 0) i (omega (arith, entries_size)) ∙ entry f (length (take n parents)) i (negsuc 0) (omega (arith, size))

    behind : (i : ℕ) → n ≤ i → i < length parents → get_or (by_ordinal (length (take n parents)) f ++ replicate (length parents - n) (negsuc 0)) i (negsuc 0) ≡ negsuc 0
    behind i high lt = get_or-append_right (by_ordinal (length (take n parents)) f) (replicate (length parents - n) (negsuc 0)) n i (negsuc 0) entries_size high ∙ get_or-replicate (length parents - n) (i - n) (negsuc 0) (negsuc 0) (omega arith)

  -- Arrays of the first, with none behind them, have the first entered.
  pub linked_front : (old : ArrayLists) → old ≡ arrays_by (take n parents) → AreLinked parents n (old.children ++ replicate (length parents - n) (negsuc 0)) (old.siblings ++ replicate (length parents - n) (negsuc 0))
  linked_front old is = subst (λ (a : ArrayLists). AreLinked parents n (a.children ++ replicate (length parents - n) (negsuc 0)) (a.siblings ++ replicate (length parents - n) (negsuc 0))) (sym is) (record {
    as_many_children = more_size (last_child (take n parents) (length (take n parents)));
    as_many_siblings = more_size (last_sibling (take n parents));
    child = λ i lt. child_by i lt (cases_lt i n);
    sibling = λ i low lt. front_entry (last_sibling (take n parents)) i low ∙ ap or_none (same_sibling i low);
    unset = λ i high lt. behind (last_sibling (take n parents)) i high lt;
  })
    where
      child_by : (i : ℕ) → i < length parents → (i < n) ⊎ (n ≤ i) → get_or (by_ordinal (length (take n parents)) (λ k. last_child (take n parents) (length (take n parents)) k) ++ replicate (length parents - n) (negsuc 0)) i (negsuc 0) ≡ or_none (last_child parents n i)
      child_by i lt (inl low) = front_entry (λ k. last_child (take n parents) (length (take n parents)) k) i low ∙ ap (λ m. or_none (last_child (take n parents) m i)) size ∙ ap or_none (last_child_front n i (omega arith))
      child_by i lt (inr high) = behind (λ k. last_child (take n parents) (length (take n parents)) k) i high lt ∙ ap or_none (sym (no_child i high n (omega arith)))

-- each label has a parent in the arrays
pub as_many_parents : (labels : List (List (List ℕ))) (arrays : ArrayLists) → arrays ≡ arrays_of labels → length arrays.parents ≡ length labels
as_many_parents labels arrays are = ap (λ (a : ArrayLists). length a.parents) are ∙ length-map-range_with_len (λ k. or_none (parent_at labels k)) 0 (length labels)
