-- Names in order, each once.
use Rattle.std.proofs.Common.{◌≡◌, ◌≢◌, ◌<◌, refl, sym, ap, subst, ◌∙◌, arith, ℕ, Bool, true, false, ◌&&◌, ◌==◌, not, List, [], ◌∷◌, ◌+◌, length, take, get_or, Ordering, Less, Equal, Greater, is_eq, Contains}
use Rattle.std.specs.Prelude.{fold}
use Rattle.std.specs.List.{All, AllPairs, AllByRecursion, filter, list_any}
use Rattle.std.specs.List.Sorted.{IsStrictlySortedBy}
use Rattle.std.specs.Ordering.{nat_cmp, ordering_then, ordering_reverse, match_ordering}
use Rattle.std.specs.Cmp.{IsTotalOrder, nat_cmp_total, on_total, then_total}
use Rattle.std.specs.BTreeSet.{insert_key}
use Rattle.std.proofs.lemmas.Bool.Decides.{nat_tests}
use Rattle.std.proofs.lemmas.List.Elements.{All-nil, All-cons, All-weaker, All-contains, All-tail, All-contains_itself, Contains-append_right}
use Rattle.std.proofs.lemmas.List.Sums.{fold_more}
use Rattle.std.proofs.lemmas.List.Folds.{list_any-from_Any}
use Rattle.std.proofs.lemmas.Map.Keys.{Less-from_sorted}
use Rattle.std.proofs.lemmas.Map.Views.{All-insert_key, Contains-from_any}
use Rattle.facet_disk.specs.declared.name.Dir.{Dir}
use Rattle.facet_disk.specs.declared.name.Dir.TheVariants.{Taxonomy, Index}
use Rattle.facet_disk.specs.declared.name.Kind.{Kind}
use Rattle.facet_disk.specs.declared.name.Kind.TheVariants.{Segment, Pending, Commit}
use Rattle.facet_disk.specs.declared.name.FileName.{FileName}
use Rattle.facet_disk.specs.contracts.name.DirOrd.TheImpl as dir_ord
use Rattle.facet_disk.specs.contracts.name.KindOrd.TheImpl as kind_ord
use Rattle.facet_disk.specs.contracts.name.FileNameOrd.TheImpl as name_ord
use Rattle.facet_disk.specs.FileNames.{same_dir, same_kind, same_name}
use Rattle.facet_disk.specs.SameNames.{name_from, name_again}
use Rattle.commit_plan.specs.Strays.{dir_place, kind_place, name_cmp, in_order, is_among}
use Rattle.std.proofs.lemmas.Bool.{true≢false}

-- ---- the derived order

dir_order : (a b : Dir) → (dir_ord.ghosts).cmp a b ≡ nat_cmp (dir_place a) (dir_place b)
dir_order Taxonomy Taxonomy = refl
dir_order Taxonomy Index = refl
dir_order Index Taxonomy = refl
dir_order Index Index = refl

kind_order : (a b : Kind) → (kind_ord.ghosts).cmp a b ≡ nat_cmp (kind_place a) (kind_place b)
kind_order Segment Segment = refl
kind_order Segment Pending = refl
kind_order Segment Commit = refl
kind_order Pending Segment = refl
kind_order Pending Pending = refl
kind_order Pending Commit = refl
kind_order Commit Segment = refl
kind_order Commit Pending = refl
kind_order Commit Commit = refl

same_order : (name_ord.ghosts).cmp ≡ name_cmp
same_order = λ i a b. ordering_then (dir_order a.dir b.dir i) (ordering_then (kind_order a.kind b.kind i) (nat_cmp a.number b.number))

name_total : IsTotalOrder name_cmp
name_total = then_total (on_total (λ (n : FileName). dir_place n.dir) nat_cmp_total) (then_total (on_total (λ (n : FileName). kind_place n.kind) nat_cmp_total) (on_total (λ (n : FileName). n.number) nat_cmp_total))

-- ---- equal names

eq_then : (x y : Ordering) → is_eq (ordering_then x y) ≡ (is_eq x && is_eq y)
eq_then Less y = refl
eq_then Equal y = refl
eq_then Greater y = refl

same_dirs : (a b : Dir) → is_eq (nat_cmp (dir_place a) (dir_place b)) ≡ same_dir a b
same_dirs Taxonomy Taxonomy = refl
same_dirs Taxonomy Index = refl
same_dirs Index Taxonomy = refl
same_dirs Index Index = refl

same_kinds : (a b : Kind) → is_eq (nat_cmp (kind_place a) (kind_place b)) ≡ same_kind a b
same_kinds Segment Segment = refl
same_kinds Segment Pending = refl
same_kinds Segment Commit = refl
same_kinds Pending Segment = refl
same_kinds Pending Pending = refl
same_kinds Pending Commit = refl
same_kinds Commit Segment = refl
same_kinds Commit Pending = refl
same_kinds Commit Commit = refl

same_numbers : (a b : ℕ) → is_eq (nat_cmp a b) ≡ (a == b)
same_numbers a b = grind (arith, nat_tests)

regroup : (x y z : Bool) → (x && (y && z)) ≡ (x && y && z)
regroup true y z = refl
regroup false y z = refl

same_ties : (a b : FileName) → is_eq (name_cmp a b) ≡ same_name a b
unfolding same_name
same_ties a b =
    eq_then (nat_cmp (dir_place a.dir) (dir_place b.dir)) (ordering_then (nat_cmp (kind_place a.kind) (kind_place b.kind)) (nat_cmp a.number b.number))
    ∙ (λ i. same_dirs a.dir b.dir i && eq_then (nat_cmp (kind_place a.kind) (kind_place b.kind)) (nat_cmp a.number b.number) i)
    ∙ (λ i. same_dir a.dir b.dir && (same_kinds a.kind b.kind i && same_numbers a.number b.number i))
    ∙ regroup (same_dir a.dir b.dir) (same_kind a.kind b.kind) (a.number == b.number)

same_from : (a b : FileName) → name_cmp a b ≡ Equal → a ≡ b
same_from a b e = name_from a b (sym (same_ties a b) ∙ ap is_eq e)

not_less : (a : FileName) → name_cmp a a ≡ Less → ⊥
not_less a e = true≢false (sym (name_again a) ∙ sym (same_ties a a) ∙ ap is_eq e)

-- ---- one name more

below_put : (x k : FileName) (ks : List FileName) → name_cmp x k ≡ Less → AllByRecursion (λ y. name_cmp x y ≡ Less) ks → AllByRecursion (λ y. name_cmp x y ≡ Less) (insert_key name_cmp ks k)
below_put x k [] less all = (less, tt)
below_put x k (y ∷ ks) less all = by (name_cmp k y) (below_put x k ks less all.1)
  where
    by : (o : Ordering) → AllByRecursion (λ y. name_cmp x y ≡ Less) (insert_key name_cmp ks k) → AllByRecursion (λ y. name_cmp x y ≡ Less) (match_ordering o (k ∷ y ∷ ks) (y ∷ ks) (y ∷ insert_key name_cmp ks k))
    by Less rest = (less, all)
    by Equal rest = all
    by Greater rest = (all.0, rest)

above_all : (k x : FileName) (ks : List FileName) → name_cmp k x ≡ Less → AllByRecursion (λ y. name_cmp x y ≡ Less) ks → AllByRecursion (λ y. name_cmp k y ≡ Less) ks
above_all k x [] less all = tt
above_all k x (y ∷ ks) less all = (name_total.trans k x y less all.0, above_all k x ks less all.1)

put_sorted : (k : FileName) (ks : List FileName) → IsStrictlySortedBy name_cmp ks → IsStrictlySortedBy name_cmp (insert_key name_cmp ks k)
unfolding IsStrictlySortedBy
put_sorted k [] up = (tt, tt)
put_sorted k (x ∷ ks) up = by (name_cmp k x) refl (put_sorted k ks up.1)
  where
    by : (o : Ordering) → name_cmp k x ≡ o → IsStrictlySortedBy name_cmp (insert_key name_cmp ks k) → IsStrictlySortedBy name_cmp (match_ordering o (k ∷ x ∷ ks) (x ∷ ks) (x ∷ insert_key name_cmp ks k))
    by Less h rest = ((h, above_all k x ks h up.0), up)
    by Equal h rest = up
    by Greater h rest = (below_put x k ks (name_total.antisymm x k ∙ ap ordering_reverse h) up.0, rest)

-- it has the new name
put_new : (k : FileName) (ks : List FileName) → Contains (insert_key name_cmp ks k) k
put_new k [] = (0, omega arith, refl)
put_new k (x ∷ ks) = by (name_cmp k x) refl (put_new k ks)
  where
    by : (o : Ordering) → name_cmp k x ≡ o → Contains (insert_key name_cmp ks k) k → Contains (match_ordering o (k ∷ x ∷ ks) (x ∷ ks) (x ∷ insert_key name_cmp ks k)) k
    by Less h rest = (0, omega arith, refl)
    by Equal h rest = (0, omega arith, sym (same_from k x h))
    by Greater h rest = Contains-append_right (x ∷ []) (insert_key name_cmp ks k) k rest

-- and the others
put_old : (k : FileName) (ks : List FileName) → All (Contains (insert_key name_cmp ks k)) ks
put_old k [] = All-nil (Contains (k ∷ []))
put_old k (x ∷ ks) = by (name_cmp k x) (put_old k ks)
  where
    by : (o : Ordering) → All (Contains (insert_key name_cmp ks k)) ks → All (Contains (match_ordering o (k ∷ x ∷ ks) (x ∷ ks) (x ∷ insert_key name_cmp ks k))) (x ∷ ks)
    by Less rest = All-weaker (Contains (x ∷ ks)) (Contains (k ∷ x ∷ ks)) (λ n has. Contains-append_right (k ∷ []) (x ∷ ks) n has) (x ∷ ks) (All-contains_itself (x ∷ ks))
    by Equal rest = All-contains_itself (x ∷ ks)
    by Greater rest = All-cons (Contains (x ∷ insert_key name_cmp ks k)) x ks (0, omega arith, refl)
        (All-weaker (Contains (insert_key name_cmp ks k)) (Contains (x ∷ insert_key name_cmp ks k)) (λ n has. Contains-append_right (x ∷ []) (insert_key name_cmp ks k) n has) ks rest)

-- ---- all names

-- put behind others
module _ (P : FileName → Type 0) where
  all_put : (ks names : List FileName) → All P ks → All P names → All P (fold (insert_key name_cmp) ks names)
  all_put ks [] all more = all
  all_put ks (n ∷ names) all more = all_put (insert_key name_cmp ks n) names (All-insert_key name_cmp n P ks all (more 0 n (omega arith))) (All-tail P n names more)

sorted_by : (ks names : List FileName) → IsStrictlySortedBy name_cmp ks → IsStrictlySortedBy name_cmp (fold (insert_key name_cmp) ks names)
sorted_by ks [] up = up
sorted_by ks (n ∷ names) up = sorted_by (insert_key name_cmp ks n) names (put_sorted n ks up)

all_there : (ks names : List FileName) (n : FileName) → Contains ks n → Contains (fold (insert_key name_cmp) ks names) n
all_there ks [] n has = has
all_there ks (m ∷ names) n has = all_there (insert_key name_cmp ks m) names n (All-contains (Contains (insert_key name_cmp ks m)) ks n (put_old m ks) has)

each_there : (ks names : List FileName) → All (Contains (fold (insert_key name_cmp) ks names)) names
each_there ks [] = All-nil (Contains ks)
each_there ks (n ∷ names) = All-cons (Contains (fold (insert_key name_cmp) (insert_key name_cmp ks n) names)) n names (all_there (insert_key name_cmp ks n) names n (put_new n ks)) (each_there (insert_key name_cmp ks n) names)

pub in_order_has : (names : List FileName) (n : FileName) → Contains names n → Contains (in_order names) n
in_order_has names n has = All-contains (Contains (in_order names)) names n (each_there [] names) has

pub in_order_only : (names : List FileName) (n : FileName) → Contains (in_order names) n → Contains names n
in_order_only names n has = All-contains (Contains names) (in_order names) n (all_put (Contains names) [] names (All-nil (Contains names)) (All-contains_itself names)) has

pub in_order_once : (names : List FileName) → AllPairs (λ a b. a ≢ b) (in_order names)
unfolding IsStrictlySortedBy
in_order_once names i j d before within same = not_less (get_or (in_order names) i d) (subst (λ (b : FileName). name_cmp (get_or (in_order names) i d) b ≡ Less) (sym same) (Less-from_sorted name_cmp (in_order names) i j d (sorted_by [] names up) before within))
  where
    up : IsStrictlySortedBy name_cmp []
    up = tt

-- ---- a test of a name

pub is_at_same : (k : FileName) → (λ (x : FileName). is_eq ((name_ord.ghosts).cmp k x)) ≡ same_name k
is_at_same k = λ i x. (ap (λ (r : Ordering). is_eq r) (λ i. same_order i k x) ∙ same_ties k x) i

pub differ_same : (ks xs : List FileName) → filter (λ k. not (list_any (λ x. is_eq ((name_ord.ghosts).cmp k x)) ks)) xs ≡ filter (λ name. not (is_among ks name)) xs
differ_same ks xs = λ i. filter (λ k. not (list_any (is_at_same k i) ks)) xs

pub put_same : (names : List FileName) (at : ℕ) (d : FileName) (ks : List FileName) → at < length names → ks ≡ in_order (take at names) → insert_key (name_ord.ghosts).cmp ks (get_or names at d) ≡ in_order (take (at + 1) names)
put_same names at d ks within is = (λ i. insert_key (same_order i) (is i) (get_or names at d)) ∙ sym (fold_more (insert_key name_cmp) [] names at d within)

-- ---- one that is not among others

pub among_has : (names : List FileName) (n : FileName) → is_among names n ≡ true → Contains names n
among_has names n is = Contains-from_any name_from n names is

pub has_among : (names : List FileName) (n : FileName) → Contains names n → is_among names n ≡ true
has_among names n has = list_any-from_Any (same_name n) names (has.0, n, has.1, has.2, name_again n)
