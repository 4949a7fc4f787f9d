-- Paths as terms: a document has the term of a path exactly where it has the path.
use Rattle.std.proofs.Common.{◌≡◌, ℕ, zero, suc, ◌+◌, ◌<◌, Bool, true, false, List, [], ◌∷◌, ◌++◌, length, take, get_or, map, refl, sym, ap, ◌∙◌, arith, add-one}
use Rattle.std.specs.Prelude.{◌||◌, ◌&&◌, cond, codes, flat_map, filter, slice_get, unwrap_or, Some}
use Rattle.std.specs.List.{list_any, range_with_len}
use Rattle.std.specs.Str.{bytes_eq}
use Rattle.std.proofs.lemmas.List.Folds.{list_any-append}
use Rattle.std.proofs.lemmas.List.{append-nil, map_push, take_more}
use Rattle.std.proofs.lemmas.List.Elements.{filter-append}
use Rattle.std.specs.Cmp.Lexicographic.{bytes_decides, pointwise_decides}
use Rattle.facet_names.specs.Paths.{path_eq, is_under}
use Rattle.facet_names.specs.Labels.{prefixes}
use Rattle.facet_names.specs.Terms.{term_text}
use Rattle.facet_names.proofs.TermTexts.{joined_once}
use Rattle.facet_model.specs.Documents.{Doc, has, dim_of}
use Rattle.facet_model.specs.Words.{words}
use Rattle.facet_model.specs.Hits.{passes}
use Rattle.facet_model.specs.CountedPaths.{places}
use Rattle.seg_terms.specs.Laws.{has_term}
use Rattle.query_eval.proofs.Marks.{same_places}
use Rattle.query_eval.proofs.Chosen.{some_of}

-- ---- one text is of one path

same_text : (p q : List (List ℕ)) → 0 < length p → 0 < length q → bytes_eq (term_text p) (term_text q) ≡ path_eq p q
same_text p q some other = by (bytes_eq (term_text p) (term_text q)) (path_eq p q) refl refl
  where
    by : (a b : Bool) → bytes_eq (term_text p) (term_text q) ≡ a → path_eq p q ≡ b → a ≡ b
    by true true h k = refl
    by false false h k = refl
    by true false h k = sym ((pointwise_decides bytes_decides p q).1 (joined_once p q some other ((bytes_decides (term_text p) (term_text q)).0 h))) ∙ k
    by false true h k = sym h ∙ (bytes_decides (term_text p) (term_text q)).1 (ap term_text ((pointwise_decides bytes_decides p q).0 k))

-- ---- the prefixes of a label

shift : (f : ℕ → Bool) (a n : ℕ) → list_any f (range_with_len (a + 1) n) ≡ list_any (λ m. f (m + 1)) (range_with_len a n)
shift f a zero = refl
shift f a (suc n) = ap (λ b. f (a + 1) || b) (shift f (a + 1) n)

any_and : (b : Bool) (g : ℕ → Bool) (xs : List ℕ) → list_any (λ m. b && g m) xs ≡ (b && list_any g xs)
any_and true g xs = refl
any_and false g [] = refl
any_and false g (x ∷ xs) = any_and false g xs

same_any : {A : Type 0} (f g : A → Bool) (xs : List A) → ((x : A) → f x ≡ g x) → list_any f xs ≡ list_any g xs
same_any f g [] same = refl
same_any f g (x ∷ xs) same = λ i. same x i || same_any f g xs same i

-- a front of the label is the path, exactly where the label is under it
front_of : (path label : List (List ℕ)) → list_any (λ n. path_eq path (take n label)) (range_with_len 0 (suc (length label))) ≡ is_under label path
front_of [] label = refl
front_of (c ∷ cs) [] = refl
front_of (c ∷ cs) (l ∷ ls) = from_one cs ls c l (front_of cs ls)
  where
    front : (ds : List (List ℕ)) (ks : List (List ℕ)) (d k : List ℕ) (m : ℕ) → path_eq (d ∷ ds) (take (m + 1) (k ∷ ks)) ≡ (bytes_eq d k && path_eq ds (take m ks))
    front ds ks d k m = let e : m + 1 ≡ suc m = add-one m in rw e refl

    from_one : (ds : List (List ℕ)) (ks : List (List ℕ)) (d k : List ℕ) → list_any (λ n. path_eq ds (take n ks)) (range_with_len 0 (suc (length ks))) ≡ is_under ks ds → list_any (λ n. path_eq (d ∷ ds) (take n (k ∷ ks))) (range_with_len 0 (suc (suc (length ks)))) ≡ is_under (k ∷ ks) (d ∷ ds)
    from_one ds ks d k rest =
        shift (λ n. path_eq (d ∷ ds) (take n (k ∷ ks))) 0 (suc (length ks))
        ∙ same_any (λ m. path_eq (d ∷ ds) (take (m + 1) (k ∷ ks))) (λ m. bytes_eq d k && path_eq ds (take m ks)) (range_with_len 0 (suc (length ks))) (front ds ks d k)
        ∙ any_and (bytes_eq d k) (λ m. path_eq ds (take m ks)) (range_with_len 0 (suc (length ks)))
        ∙ ap (λ b. bytes_eq d k && b) rest

any_map : {A B : Type 0} (p : B → Bool) (h : A → B) (xs : List A) → list_any p (map h xs) ≡ list_any (λ x. p (h x)) xs
any_map p h [] = refl
any_map p h (x ∷ xs) = ap (λ b. p (h x) || b) (any_map p h xs)

same_from : (f g : ℕ → Bool) (a n : ℕ) → 0 < a → ((x : ℕ) → 0 < x → f x ≡ g x) → list_any f (range_with_len a n) ≡ list_any g (range_with_len a n)
same_from f g a zero some same = refl
same_from f g a (suc n) some same = λ i. same a some i || same_from f g (a + 1) n (omega arith) same i

front_some : (n : ℕ) (l : List ℕ) (ls : List (List ℕ)) → 0 < n → 0 < length (take n (l ∷ ls))
front_some zero l ls some = absurd (omega arith)
front_some (suc n) l ls some = omega arith

-- a prefix of the label has the path's text, exactly where the label is under the path
prefix_is : (c : List ℕ) (cs label : List (List ℕ)) → list_any (λ p. bytes_eq (term_text (c ∷ cs)) (term_text p)) (prefixes label) ≡ is_under label (c ∷ cs)
prefix_is c cs [] = refl
prefix_is c cs (l ∷ ls) =
    any_map (λ p. bytes_eq (term_text (c ∷ cs)) (term_text p)) (λ n. take n (l ∷ ls)) (range_with_len 1 (suc (length ls)))
    ∙ same_from (λ n. bytes_eq (term_text (c ∷ cs)) (term_text (take n (l ∷ ls)))) (λ n. path_eq (c ∷ cs) (take n (l ∷ ls))) 1 (suc (length ls)) (omega arith) (λ n some. same_text (c ∷ cs) (take n (l ∷ ls)) (omega arith) (front_some n l ls some))
    ∙ front_of (c ∷ cs) (l ∷ ls)

no_word : (t : List ℕ) (ws : List (List ℕ)) → list_any (bytes_eq (codes "f" ++ t)) (map (λ w. codes "w" ++ w) ws) ≡ false
no_word t [] = refl
no_word t (w ∷ ws) = no_word t ws

labels_are : (c : List ℕ) (cs : List (List ℕ)) (labels : List (List (List ℕ))) → list_any (λ p. bytes_eq (term_text (c ∷ cs)) (term_text p)) (flat_map prefixes labels) ≡ list_any (λ label. is_under label (c ∷ cs)) labels
labels_are c cs [] = refl
labels_are c cs (l ∷ ls) = list_any-append (λ p. bytes_eq (term_text (c ∷ cs)) (term_text p)) (prefixes l) (flat_map prefixes ls) ∙ (λ i. prefix_is c cs l i || labels_are c cs ls i)

pub path_is : (path : List (List ℕ)) (doc : Doc) → 0 < length path → has_term (codes "f" ++ term_text path) doc ≡ has doc path
path_is [] doc some = absurd (omega arith)
path_is (c ∷ cs) doc some =
    list_any-append (bytes_eq (codes "f" ++ term_text (c ∷ cs))) (map (λ w. codes "w" ++ w) (words doc.text)) (map (λ p. codes "f" ++ term_text p) (flat_map prefixes doc.labels))
    ∙ (λ i. no_word (term_text (c ∷ cs)) (words doc.text) i || any_map (bytes_eq (codes "f" ++ term_text (c ∷ cs))) (λ p. codes "f" ++ term_text p) (flat_map prefixes doc.labels) i)
    ∙ labels_are c cs doc.labels

-- ---- the drill paths of a dimension

-- the test of each path
abbrev pub has_tests : List (List (List ℕ)) → List (Doc → Bool)
has_tests paths = map (λ path doc. has doc path) paths

abbrev pub is_of : List ℕ → List (List ℕ) → Bool
is_of dim path = bytes_eq (dim_of path) dim

pub passes_is : (drill : List (List (List ℕ))) (dim : List ℕ) (doc : Doc) → some_of (has_tests (filter (is_of dim) drill)) doc ≡ passes doc drill dim
passes_is [] dim doc = refl
passes_is (p ∷ ps) dim doc = by (is_of dim p) (passes_is ps dim doc)
  where
    by : (b : Bool) → some_of (has_tests (filter (is_of dim) ps)) doc ≡ passes doc ps dim → some_of (has_tests (cond b (p ∷ filter (is_of dim) ps) (filter (is_of dim) ps))) doc ≡ ((b && has doc p) || passes doc ps dim)
    by true rest = ap (λ r. has doc p || r) rest
    by false rest = rest

pub paths_more : (drill : List (List (List ℕ))) (dim : List ℕ) (i : ℕ) (path : List (List ℕ)) → i < length drill → get_or drill i path ≡ path → is_of dim path ≡ true
    → has_tests (filter (is_of dim) (take (i + 1) drill)) ≡ has_tests (filter (is_of dim) (take i drill)) ++ (λ doc. has doc path) ∷ []
paths_more drill dim i path lt here passes =
    ap (λ ps. has_tests (filter (is_of dim) ps)) (take_more drill i path lt ∙ ap (λ p. take i drill ++ p ∷ []) here)
    ∙ ap has_tests (filter-append (is_of dim) (take i drill) (path ∷ []) ∙ ap (λ b. filter (is_of dim) (take i drill) ++ cond b (path ∷ []) []) passes)
    ∙ map_push (λ p doc. has doc p) (filter (is_of dim) (take i drill)) path

pub paths_same : (drill : List (List (List ℕ))) (dim : List ℕ) (i : ℕ) (path : List (List ℕ)) → i < length drill → get_or drill i path ≡ path → is_of dim path ≡ false
    → has_tests (filter (is_of dim) (take (i + 1) drill)) ≡ has_tests (filter (is_of dim) (take i drill))
paths_same drill dim i path lt here fails =
    ap (λ ps. has_tests (filter (is_of dim) ps)) (take_more drill i path lt ∙ ap (λ p. take i drill ++ p ∷ []) here)
    ∙ ap has_tests (filter-append (is_of dim) (take i drill) (path ∷ []) ∙ ap (λ b. filter (is_of dim) (take i drill) ++ cond b (path ∷ []) []) fails ∙ append-nil (filter (is_of dim) (take i drill)))

-- the places of a path's term are those of the documents that have the path
pub has_places : (path : List (List ℕ)) (docs : List Doc) → 0 < length path → (t : List ℕ) → t ≡ codes "f" ++ term_text path → places (has_term t) docs ≡ places (λ doc. has doc path) docs
has_places path docs some t is = ap (λ u. places (has_term u) docs) is ∙ same_places (has_term (codes "f" ++ term_text path)) (λ doc. has doc path) docs (λ doc. path_is path doc some)

pub passes_places : (drill : List (List (List ℕ))) (dim : List ℕ) (docs : List Doc) → places (some_of (has_tests (filter (is_of dim) drill))) docs ≡ places (λ doc. passes doc drill dim) docs
passes_places drill dim docs = same_places (some_of (has_tests (filter (is_of dim) drill))) (λ doc. passes doc drill dim) docs (passes_is drill dim)

pub dim_is : (path : List (List ℕ)) (dim : List ℕ) → slice_get path 0 ≡ Some dim → dim_of path ≡ dim
dim_is path dim at = ap (λ o. unwrap_or o []) at
