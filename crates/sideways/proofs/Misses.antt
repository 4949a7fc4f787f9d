-- Documents that one dimension of a drill alone leaves out, and the hits.
use Rattle.std.proofs.Common.{◌≡◌, ℕ, zero, suc, ◌+◌, ◌<◌, ◌≤◌, Bool, true, false, List, [], ◌∷◌, length, map, Some, None, refl, sym, ap, subst, ◌∙◌, arith}
use Rattle.std.specs.Prelude.{◌||◌, ◌&&◌, not, cond, filter, sum_by, nat_le, nat_eq}
use Rattle.std.specs.List.{list_all, list_any, AllByRecursion}
use Rattle.std.specs.Str.{bytes_eq}
use Rattle.std.specs.Cmp.Lexicographic.{bytes_decides}
use Rattle.std.proofs.Math.Bool.{or-true, and_assoc}
use Rattle.std.proofs.lemmas.Bool.{lt-leb, ne_eqb, true≢false}
use Rattle.std.proofs.lemmas.List.Sums.{sum_by-cons}
use Rattle.facet_model.specs.Documents.{Doc, dim_of}
use Rattle.facet_model.specs.Hits.{passes}
use Rattle.facet_model.specs.Queries.{QueryTree, matches}
use Rattle.seg_drill.specs.Passing.{passes_all}
use Rattle.sideways.specs.Counted.{fails_alone, is_drilled, is_near}
use Rattle.sideways.specs.Kept.{AreDistinct, dim_in}
use Rattle.sideways.specs.declared.pass.LiftedPass.{LiftedPass}
use Rattle.std.specs.Cmp.{both_ways}
use Rattle.query_eval.specs.Segments.{passes_tests}

-- ---- sums over two kinds of documents

one_sum : (w : List ℕ → ℕ) (x : List ℕ) (ps rs ss : List (List ℕ)) (p r s : Bool) → (p || r) ≡ s → (p && r) ≡ false → sum_by w ps + sum_by w rs ≡ sum_by w ss
    → sum_by w (cond p (x ∷ ps) ps) + sum_by w (cond r (x ∷ rs) rs) ≡ sum_by w (cond s (x ∷ ss) ss)
one_sum w x ps rs ss true true s e f h = absurd cc
one_sum w x ps rs ss true false true e f h = omega (arith, h, sum_by-cons w x ps, sum_by-cons w x ss)
one_sum w x ps rs ss true false false e f h = absurd cc
one_sum w x ps rs ss false true true e f h = omega (arith, h, sum_by-cons w x rs, sum_by-cons w x ss)
one_sum w x ps rs ss false true false e f h = absurd cc
one_sum w x ps rs ss false false true e f h = absurd cc
one_sum w x ps rs ss false false false e f h = h

pub sums_joined : (w : List ℕ → ℕ) (f : Doc → List ℕ) (p r s : Doc → Bool) (docs : List Doc) → ((d : Doc) → (p d || r d) ≡ s d) → ((d : Doc) → (p d && r d) ≡ false)
    → sum_by w (map f (filter p docs)) + sum_by w (map f (filter r docs)) ≡ sum_by w (map f (filter s docs))
sums_joined w f p r s [] e none = refl
sums_joined w f p r s (d ∷ ds) e none =
    (λ i. sum_by w (chosen (p d) (filter p ds) i) + sum_by w (chosen (r d) (filter r ds) i))
    ∙ one_sum w (f d) (map f (filter p ds)) (map f (filter r ds)) (map f (filter s ds)) (p d) (r d) (s d) (e d) (none d) (sums_joined w f p r s ds e none)
    ∙ ap (sum_by w) (sym (chosen (s d) (filter s ds)))
  where
    chosen : (b : Bool) (xs : List Doc) → map f (cond b (d ∷ xs) xs) ≡ cond b (f d ∷ map f xs) (map f xs)
    chosen true xs = refl
    chosen false xs = refl

pub one_each : (xs : List (List ℕ)) → length xs ≡ sum_by (λ x. 1) xs
one_each [] = refl
one_each (x ∷ xs) = omega (arith, sum_by-cons (λ y. 1) x xs, one_each xs)

pub short_filter : (p : Doc → Bool) (docs : List Doc) → length (filter p docs) ≤ length docs
short_filter p [] = omega arith
short_filter p (d ∷ ds) = by (p d) (short_filter p ds)
  where
    by : (b : Bool) → length (filter p ds) ≤ length ds → length (cond b (d ∷ filter p ds) (filter p ds)) ≤ length (d ∷ ds)
    by true h = omega (arith, h)
    by false h = omega (arith, h)

-- ---- hits and near misses

module _ (P : List ℕ → Bool) where
  -- all pass, by those of other dimensions and by this one where it is there
  pub all_and_one : (dim : List ℕ) (paths : List (List (List ℕ))) → list_all (λ path. P (dim_of path)) paths ≡ (list_all (λ path. bytes_eq (dim_of path) dim || P (dim_of path)) paths && (not (is_drilled paths dim) || P dim))
  all_and_one dim [] = refl
  all_and_one dim (p ∷ ps) = by (bytes_eq (dim_of p) dim) refl (all_and_one dim ps)
    where
      own : (h l a c : Bool) → h ≡ (l && (not a || c)) → (c && h) ≡ ((true && l) && (false || c))
      own h true true true e = e
      own h true true false e = refl
      own h true false true e = e
      own h true false false e = refl
      own h false a true e = e
      own h false a false e = refl

      other : (x h l a c : Bool) → h ≡ (l && (not a || c)) → (x && h) ≡ ((x && l) && (not a || c))
      other true h l a c e = e
      other false h l a c e = refl

      by : (b : Bool) → bytes_eq (dim_of p) dim ≡ b → list_all (λ path. P (dim_of path)) ps ≡ (list_all (λ path. bytes_eq (dim_of path) dim || P (dim_of path)) ps && (not (is_drilled ps dim) || P dim))
          → (P (dim_of p) && list_all (λ path. P (dim_of path)) ps)
          ≡ (((b || P (dim_of p)) && list_all (λ path. bytes_eq (dim_of path) dim || P (dim_of path)) ps) && (not (b || is_drilled ps dim) || P dim))
      by true e h = ap (λ d. P d && list_all (λ path. P (dim_of path)) ps) ((bytes_decides (dim_of p) dim).0 e) ∙ own _ _ (is_drilled ps dim) (P dim) h
      by false e h = other (P (dim_of p)) _ _ (is_drilled ps dim) (P dim) h

module _ (query : QueryTree) (drill : List (List (List ℕ))) (dim : List ℕ) (doc : Doc) (drilled : is_drilled drill dim ≡ true) where
  hit_is : passes_all query drill None doc ≡ (passes_all query drill (Some dim) doc && passes doc drill dim)
  hit_is =
      ap (λ b. matches query doc && b) (all_and_one (λ d. passes doc drill d) dim drill ∙ ap (λ b. others && (not b || passes doc drill dim)) drilled) ∙ sym (and_assoc (matches query doc) others (passes doc drill dim))
    where
      others : Bool
      others = list_all (λ path. bytes_eq (dim_of path) dim || passes doc drill (dim_of path)) drill

  pub near_or_hit : (is_near query drill dim doc || passes_all query drill None doc) ≡ passes_all query drill (Some dim) doc
  near_or_hit = ap (λ b. is_near query drill dim doc || b) hit_is ∙ by (passes_all query drill (Some dim) doc) (passes doc drill dim)
    where
      by : (l c : Bool) → ((l && not c) || (l && c)) ≡ l
      by true true = refl
      by true false = refl
      by false c = refl

  pub near_not_hit : (is_near query drill dim doc && passes_all query drill None doc) ≡ false
  near_not_hit = ap (λ b. is_near query drill dim doc && b) hit_is ∙ by (passes_all query drill (Some dim) doc) (passes doc drill dim)
    where
      by : (l c : Bool) → ((l && not c) && (l && c)) ≡ false
      by true true = refl
      by true false = refl
      by false c = refl

-- ---- the dimensions of the passes are those of the drill

all_of : {A : Type 0} (P : List ℕ → Bool) (f : A → List ℕ) (xs : List A) → list_all (λ x. P (f x)) xs ≡ true → (dim : List ℕ) → list_any (λ x. bytes_eq (f x) dim) xs ≡ true → P dim ≡ true
all_of P f [] all dim some = absurd cc
all_of P f (x ∷ xs) all dim some = by (bytes_eq (f x) dim) (P (f x)) refl refl some all (all_of P f xs)
  where
    by : (b c : Bool) → bytes_eq (f x) dim ≡ b → P (f x) ≡ c → (b || list_any (λ y. bytes_eq (f y) dim) xs) ≡ true → (c && list_all (λ y. P (f y)) xs) ≡ true
        → (list_all (λ y. P (f y)) xs ≡ true → (d : List ℕ) → list_any (λ y. bytes_eq (f y) d) xs ≡ true → P d ≡ true) → P dim ≡ true
    by true true e g s a rest = ap P (sym ((bytes_decides (f x) dim).0 e)) ∙ g
    by false true e g s a rest = rest a dim s
    by b false e g s a rest = absurd cc

all_from : {A : Type 0} (P : List ℕ → Bool) (f : A → List ℕ) (xs : List A) → ((dim : List ℕ) → list_any (λ x. bytes_eq (f x) dim) xs ≡ true → P dim ≡ true) → list_all (λ x. P (f x)) xs ≡ true
all_from P f [] each = refl
all_from P f (x ∷ xs) each =
    (λ i. each (f x) (ap (λ b. b || list_any (λ y. bytes_eq (f y) (f x)) xs) ((bytes_decides (f x) (f x)).1 refl)) i
    && all_from P f xs (λ dim some. each dim (ap (λ b. bytes_eq (f x) dim || b) some ∙ or-true (bytes_eq (f x) dim))) i)

-- as many dimensions, whichever list they are taken from
pub same_dims : (P : List ℕ → Bool) (drill : List (List (List ℕ))) (lifted : List LiftedPass) → ((dim : List ℕ) → list_any (λ l. bytes_eq l.dim.now dim) lifted ≡ is_drilled drill dim) → list_all (λ l. P l.dim.now) lifted ≡ list_all (λ path. P (dim_of path)) drill
same_dims P drill lifted covers = both_ways (list_all (λ l. P l.dim.now) lifted) (list_all (λ path. P (dim_of path)) drill)
    (λ all. all_from P dim_of drill (λ dim some. all_of P dim_in lifted all dim (covers dim ∙ some)))
    (λ all. all_from P dim_in lifted (λ dim some. all_of P dim_of drill all dim (sym (covers dim) ∙ some)))

-- how many of the dimensions fail
abbrev failed : (List ℕ → Bool) → List LiftedPass → ℕ
failed P lifted = length (filter (λ l. not (P l.dim.now)) lifted)

none_fail : (P : List ℕ → Bool) (ls : List LiftedPass) → nat_eq (failed P ls) 0 ≡ list_all (λ l. P l.dim.now) ls
none_fail P [] = refl
none_fail P (l ∷ ls) = by (P l.dim.now) (none_fail P ls)
  where
    by : (b : Bool) → nat_eq (failed P ls) 0 ≡ list_all (λ l. P l.dim.now) ls → nat_eq (length (cond (not b) (l ∷ filter (λ x. not (P x.dim.now)) ls) (filter (λ x. not (P x.dim.now)) ls))) 0 ≡ (b && list_all (λ l. P l.dim.now) ls)
    by true h = h
    by false h = ne_eqb (suc (failed P ls)) 0 (λ e. omega arith)

some_fail : (n : ℕ) → nat_le (suc n) 1 ≡ nat_eq n 0
some_fail zero = refl
some_fail (suc n) = rw (lt-leb (suc (suc n)) 1 (omega arith), ne_eqb (suc n) 0 (λ e. omega arith)) refl

-- where none of the dimensions is this one
others_same : (P : List ℕ → Bool) (d : List ℕ) (ls : List LiftedPass) → AllByRecursion (λ e. e ≡ d → ⊥) (map dim_in ls) → list_all (λ l. P l.dim.now) ls ≡ list_all (λ l. bytes_eq l.dim.now d || P l.dim.now) ls
others_same P d [] apart = refl
others_same P d (l ∷ ls) apart = by (bytes_eq l.dim.now d) refl (others_same P d ls apart.1)
  where
    by : (b : Bool) → bytes_eq l.dim.now d ≡ b → list_all (λ x. P x.dim.now) ls ≡ list_all (λ x. bytes_eq x.dim.now d || P x.dim.now) ls
        → (P l.dim.now && list_all (λ x. P x.dim.now) ls) ≡ ((b || P l.dim.now) && list_all (λ x. bytes_eq x.dim.now d || P x.dim.now) ls)
    by true e h = absurd (apart.0 ((bytes_decides l.dim.now d).0 e))
    by false e h = ap (λ b. P l.dim.now && b) h

-- Of distinct dimensions one fails. No other does exactly where all others pass.
alone : (P : List ℕ → Bool) (d : List ℕ) → P d ≡ false → (ls : List LiftedPass) → AreDistinct (map dim_in ls) → list_any (λ l. bytes_eq l.dim.now d) ls ≡ true
    → nat_le (failed P ls) 1 ≡ list_all (λ l. bytes_eq l.dim.now d || P l.dim.now) ls
alone P d fails [] distinct some = absurd cc
alone P d fails (l ∷ ls) distinct some = by (bytes_eq l.dim.now d) (P l.dim.now) refl refl some (alone P d fails ls distinct.1)
  where
    others : List LiftedPass
    others = filter (λ x. not (P x.dim.now)) ls

    rest : Bool
    rest = list_all (λ x. bytes_eq x.dim.now d || P x.dim.now) ls

    not_all : list_any (λ x. bytes_eq x.dim.now d) ls ≡ true → (b : Bool) → list_all (λ x. P x.dim.now) ls ≡ b → b ≡ false
    not_all here true all = sym (all_of P dim_in ls all d here) ∙ fails
    not_all here false all = refl

    by : (b c : Bool) → bytes_eq l.dim.now d ≡ b → P l.dim.now ≡ c → (b || list_any (λ x. bytes_eq x.dim.now d) ls) ≡ true → (list_any (λ x. bytes_eq x.dim.now d) ls ≡ true → nat_le (failed P ls) 1 ≡ rest)
        → nat_le (length (cond (not c) (l ∷ others) others)) 1 ≡ ((b || c) && rest)
    by true true e g s h = absurd (true≢false (sym g ∙ ap P ((bytes_decides l.dim.now d).0 e) ∙ fails))
    by true false e g s h =
        some_fail (failed P ls) ∙ none_fail P ls
        ∙ others_same P d ls (subst (λ x. AllByRecursion (λ y. y ≡ x → ⊥) (map dim_in ls)) ((bytes_decides l.dim.now d).0 e) distinct.0)
    by false true e g s h = h s
    by false false e g s h = some_fail (failed P ls) ∙ none_fail P ls ∙ not_all s (list_all (λ x. P x.dim.now) ls) refl

-- ---- tests of documents, one for each pass

module _ (query : QueryTree) (drill : List (List (List ℕ))) where
  -- it passes the dimension of the pass
  abbrev pub test_of : LiftedPass → Doc → Bool
  test_of l doc = passes doc drill l.dim.now

  tests_all : (doc : Doc) (ls : List LiftedPass) → passes_tests (map test_of ls) doc ≡ list_all (λ l. passes doc drill l.dim.now) ls
  tests_all doc [] = refl
  tests_all doc (l ∷ ls) = ap (λ b. passes doc drill l.dim.now && b) (tests_all doc ls)

  tests_failed : (doc : Doc) (ls : List LiftedPass) → length (filter (λ (t : Doc → Bool). not (t doc)) (map test_of ls)) ≡ failed (λ d. passes doc drill d) ls
  tests_failed doc [] = refl
  tests_failed doc (l ∷ ls) = by (passes doc drill l.dim.now) (tests_failed doc ls)
    where
      by : (b : Bool) → length (filter (λ (t : Doc → Bool). not (t doc)) (map test_of ls)) ≡ failed (λ d. passes doc drill d) ls
          → length (cond (not b) (test_of l ∷ filter (λ (t : Doc → Bool). not (t doc)) (map test_of ls)) (filter (λ (t : Doc → Bool). not (t doc)) (map test_of ls)))
          ≡ length (cond (not b) (l ∷ filter (λ x. not (passes doc drill x.dim.now)) ls) (filter (λ x. not (passes doc drill x.dim.now)) ls))
      by true h = h
      by false h = omega (arith, h)

  module _ (all : List LiftedPass) (covers : (dim : List ℕ) → list_any (λ l. bytes_eq l.dim.now dim) all ≡ is_drilled drill dim) where
    pub hit_test : (doc : Doc) → (matches query doc && passes_tests (map test_of all) doc) ≡ passes_all query drill None doc
    hit_test doc = ap (λ b. matches query doc && b) (tests_all doc all ∙ same_dims (λ d. passes doc drill d) drill all covers)

    pub near_test : AreDistinct (map dim_in all) → (l : LiftedPass) → list_any (λ x. bytes_eq x.dim.now l.dim.now) all ≡ true → (doc : Doc)
        → (matches query doc && fails_alone (map test_of all) (test_of l) doc) ≡ is_near query drill l.dim.now doc
    near_test distinct l here doc = by (passes doc drill l.dim.now) refl
      where
        others : Bool
        others = list_all (λ path. bytes_eq (dim_of path) l.dim.now || passes doc drill (dim_of path)) drill

        none : (m o : Bool) → (m && false) ≡ ((m && o) && false)
        none true true = refl
        none true false = refl
        none false o = refl

        some : (m o : Bool) → (m && o) ≡ ((m && o) && true)
        some true true = refl
        some true false = refl
        some false o = refl

        by : (b : Bool) → passes doc drill l.dim.now ≡ b → (matches query doc && (not b && nat_le (length (filter (λ (t : Doc → Bool). not (t doc)) (map test_of all))) 1)) ≡ ((matches query doc && others) && not b)
        by true e = none (matches query doc) others
        by false e =
            ap (λ c. matches query doc && c) (ap (λ n. nat_le n 1) (tests_failed doc all) ∙ alone (λ d. passes doc drill d) l.dim.now e all distinct here
            ∙ same_dims (λ d. bytes_eq d l.dim.now || passes doc drill d) drill all covers)
            ∙ some (matches query doc) others

-- with some pass there is sideways counting, so the passes are for all dimensions of the drill
pub covers_all : (b : Bool) (drill : List (List (List ℕ))) (lifted : List LiftedPass) → 0 < length lifted → ((dim : List ℕ) → list_any (λ l. bytes_eq l.dim.now dim) lifted ≡ (b && is_drilled drill dim))
    → (dim : List ℕ) → list_any (λ l. bytes_eq l.dim.now dim) lifted ≡ is_drilled drill dim
covers_all b drill [] some covers = absurd (omega arith)
covers_all true drill (l ∷ ls) some covers = covers
covers_all false drill (l ∷ ls) some covers =
    absurd (true≢false (sym (ap (λ b. b || list_any (λ x. bytes_eq x.dim.now l.dim.now) ls) ((bytes_decides l.dim.now l.dim.now).1 refl)) ∙ covers l.dim.now))
