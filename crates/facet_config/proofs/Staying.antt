-- The ordinals that are counted for labels stay, where a label list goes on.
use Rattle.std.proofs.Common.{◌≡◌, ℕ, zero, suc, ◌+◌, ◌-◌, ◌<◌, ◌≤◌, Bool, true, false, List, [], ◌∷◌, ◌++◌, length, take, drop, map, get_or, refl, sym, ap, subst, ◌∙◌, arith}
use Rattle.std.specs.Prelude.{filter, ◌||◌, ◌&&◌, cond, nat_lt}
use Rattle.std.specs.List.{list_all, enumerate_from}
use Rattle.std.proofs.lemmas.Bool.{true≢false, and_parts, and_from, false_from_ne_true}
use Rattle.std.proofs.lemmas.List.{append-nil, get_or-append-add, length-append, take-append-drop, take-take, length-take-le}
use Rattle.std.proofs.lemmas.List.Elements.{filter-append}
use Rattle.std.proofs.lemmas.List.Folds.{list_any-append}
use Rattle.std.proofs.lemmas.List.FromFn.{get_or-map-range_with_len, length-map-range_with_len}
use Rattle.facet_names.specs.Paths.{path_eq, is_under}
use Rattle.facet_names.specs.Labels.{IsLabelList, GoesOn, prefixes, stands}
use Rattle.facet_names.proofs.LabelLists.{Labels, same_path, fresh, root_stands}
use Rattle.facet_model.specs.declared.flags.DimFlags.{DimFlags}
use Rattle.facet_model.specs.Flags.{Config, flags}
use Rattle.facet_model.specs.Documents.{dim_of}
use Rattle.facet_model.specs.CountedPaths.{is_counted_for, is_counted, places, counted_ordinals}
use Rattle.facet_config.proofs.Expanded.{counted_is_prefix}

-- a longer list is the shorter one and the rest
pub goes_on_by : (a b : Labels) → GoesOn a b → b ≡ a ++ drop (length a) b
goes_on_by a b on = sym (take-append-drop (length a) b) ∙ ap (λ (l : Labels). l ++ drop (length a) b) on.1

-- what stands in the shorter list stands in the longer one
pub stands_on : (a b : Labels) (p : List (List ℕ)) → GoesOn a b → stands a p ≡ true → stands b p ≡ true
stands_on a b p on here = ap (λ (l : Labels). stands l p) (goes_on_by a b on) ∙ list_any-append (path_eq p) a (drop (length a) b) ∙ ap (λ t. t || stands (drop (length a) b) p) here

at_each : {X : Type 0} (test : X → Bool) (xs : List X) (i : ℕ) (d : X) → i < length xs → list_all test xs ≡ true → test (get_or xs i d) ≡ true
at_each test [] i d lt all = absurd (omega arith)
at_each test (x ∷ xs) zero d lt all = (and_parts (test x) (list_all test xs) all).0
at_each test (x ∷ xs) (suc i) d lt all = at_each test xs i d (omega arith) (and_parts (test x) (list_all test xs) all).1

-- each prefix of each of these labels stands in the list
abbrev pub AreKnown : Labels → Labels → Type 0
AreKnown known labels = list_all (λ label. list_all (stands known) (prefixes label)) labels ≡ true

module _ (a b : Labels) (list_a : IsLabelList a) (list_b : IsLabelList b) (on : GoesOn a b) (config : Config) where
  -- a path that is counted for a known label is known
  one_known : (label path : List (List ℕ)) → list_all (stands a) (prefixes label) ≡ true → is_counted_for (flags config (dim_of label)) label path ≡ true → stands a path ≡ true
  one_known [] path known e = by (path_eq [] path) refl e
    where
      f : DimFlags
      f = flags config (dim_of [])

      root : path ≡ [] → stands a path ≡ true
      root h = subst (λ q. stands a q ≡ true) (sym h) (root_stands a list_a)

      none : (n : ℕ) → ◌≡◌ {A = List (List ℕ)} (take n []) []
      none zero = refl
      none (suc n) = refl

      above : (is_under [] path && nat_lt 0 (length path) && f.multi_valued && (f.hierarchical || f.require_dim_count) && (nat_lt 1 (length path) || f.require_dim_count)) ≡ true → is_under [] path ≡ true
      above h =
          let four = and_parts (is_under [] path && nat_lt 0 (length path) && f.multi_valued && (f.hierarchical || f.require_dim_count)) (nat_lt 1 (length path) || f.require_dim_count) h in
          let three = and_parts (is_under [] path && nat_lt 0 (length path) && f.multi_valued) (f.hierarchical || f.require_dim_count) four.0 in
          let two = and_parts (is_under [] path && nat_lt 0 (length path)) f.multi_valued three.0 in
          (and_parts (is_under [] path) (nat_lt 0 (length path)) two.0).0

      by : (x : Bool) → path_eq [] path ≡ x → (x || (is_under [] path && nat_lt 0 (length path) && f.multi_valued && (f.hierarchical || f.require_dim_count) && (nat_lt 1 (length path) || f.require_dim_count))) ≡ true → stands a path ≡ true
      by true h e = root (sym (same_path [] path h))
      by false h e = root (same_path path (take (length path) []) (above e) ∙ none (length path))
  one_known (part ∷ parts) path known e =
      let label : List (List ℕ) = part ∷ parts in
      let front = counted_is_prefix (flags config (dim_of label)) label path (omega arith) e in
      let k : ℕ = length path - 1 in
      let low : k < length label = omega (arith, front.0, front.1) in
      let next : 1 + k ≡ length path = omega (arith, front.0) in
      let size : length (prefixes label) ≡ length label = length-map-range_with_len (λ n. take n label) 1 (length label) in
      let at : get_or (prefixes label) k [] ≡ take (length path) label = get_or-map-range_with_len (λ n. take n label) 1 (length label) k (length path) [] low next in
      ap (stands a) (front.2 ∙ sym at) ∙ at_each (stands a) (prefixes label) k [] (omega (arith, size)) known

  known_path : (labels : Labels) (path : List (List ℕ)) → AreKnown a labels → is_counted config labels path ≡ true → stands a path ≡ true
  known_path [] path known e = absurd cc
  known_path (label ∷ labels) path known e = by (is_counted_for (flags config (dim_of label)) label path) refl e (λ h. known_path labels path (and_parts (list_all (stands a) (prefixes label)) (list_all (λ l. list_all (stands a) (prefixes l)) labels) known).1 h)
    where
      by : (x : Bool) → is_counted_for (flags config (dim_of label)) label path ≡ x → (x || is_counted config labels path) ≡ true → (is_counted config labels path ≡ true → stands a path ≡ true) → stands a path ≡ true
      by true h e rest = one_known label path (and_parts (list_all (stands a) (prefixes label)) (list_all (λ l. list_all (stands a) (prefixes l)) labels) known).0 h
      by false h e rest = rest e

  -- no path behind the known ones is counted
  none_behind : (labels : Labels) → AreKnown a labels → (j : ℕ) → j < length (drop (length a) b) → is_counted config labels (get_or (drop (length a) b) j []) ≡ false
  none_behind labels known j lt = false_from_ne_true (is_counted config labels q) (λ e. true≢false (sym (stands_on a (take k b) q (within, front) (known_path labels q known e)) ∙ ap (λ p. stands (take k b) p) (sym at) ∙ fresh b list_b k [] low))
    where
      q : List (List ℕ)
      q = get_or (drop (length a) b) j []

      k : ℕ
      k = length a + j

      size : length b ≡ length a + length (drop (length a) b)
      size = ap length (goes_on_by a b on) ∙ length-append a (drop (length a) b)

      low : k < length b
      low = omega (arith, size, lt)

      at : get_or b k [] ≡ q
      at = ap (λ (l : Labels). get_or l k []) (goes_on_by a b on) ∙ get_or-append-add a (drop (length a) b) j []

      within : length a ≤ length (take k b)
      within = omega (arith, length-take-le k b (omega (arith, low)))

      front : take (length a) (take k b) ≡ a
      front = take-take (length a) k b (omega arith) ∙ on.1

enumerate-append : {X : Type 0} (n : ℕ) (xs ys : List X) → enumerate_from n (xs ++ ys) ≡ enumerate_from n xs ++ enumerate_from (n + length xs) ys
enumerate-append n [] ys = let same : n ≡ n + 0 = omega arith in ap (λ m. enumerate_from m ys) same
enumerate-append n (x ∷ xs) ys =
    let same : n + 1 + length xs ≡ n + length (x ∷ xs) = omega arith in
    ap (λ es. (n, x) ∷ es) (enumerate-append (n + 1) xs ys ∙ ap (λ m. enumerate_from (n + 1) xs ++ enumerate_from m ys) same)

none_pass : {X : Type 0} (passes : X → Bool) (n : ℕ) (xs : List X) (d : X) → ((j : ℕ) → j < length xs → passes (get_or xs j d) ≡ false) → filter (λ e. passes e.1) (enumerate_from n xs) ≡ []
none_pass passes n [] d none = refl
none_pass passes n (x ∷ xs) d none =
    ap (λ t. cond t ((n, x) ∷ filter (λ e. passes e.1) (enumerate_from (n + 1) xs)) (filter (λ e. passes e.1) (enumerate_from (n + 1) xs))) (none 0 (omega arith))
    ∙ none_pass passes (n + 1) xs d (λ j lt. none (suc j) (omega arith))

-- the ordinals stay
pub counted_stay : (a b : Labels) → IsLabelList a → IsLabelList b → GoesOn a b → (config : Config) (labels : Labels) → AreKnown a labels → counted_ordinals b config labels ≡ counted_ordinals a config labels
counted_stay a b list_a list_b on config labels known =
    let passes : List (List ℕ) → Bool = is_counted config labels in
    let rest : Labels = drop (length a) b in
    let none : filter (λ e. passes e.1) (enumerate_from (0 + length a) rest) ≡ [] = none_pass passes (0 + length a) rest [] (none_behind a b list_a list_b on config labels known) in
    ap (places passes) (goes_on_by a b on)
    ∙ ap (λ es. map (λ (e : ℕ × List (List ℕ)). e.0) (filter (λ e. passes e.1) es)) (enumerate-append 0 a rest)
    ∙ ap (map (λ (e : ℕ × List (List ℕ)). e.0)) (filter-append (λ (e : ℕ × List (List ℕ)). passes e.1) (enumerate_from 0 a) (enumerate_from (0 + length a) rest) ∙ ap (λ es. filter (λ e. passes e.1) (enumerate_from 0 a) ++ es) none ∙ append-nil (filter (λ e. passes e.1) (enumerate_from 0 a)))

-- what is known of the shorter list is known of the longer one
pub known_stay : (a b : Labels) → GoesOn a b → (labels : Labels) → AreKnown a labels → AreKnown b labels
known_stay a b on [] known = refl
known_stay a b on (label ∷ labels) known =
    let parts = and_parts (list_all (stands a) (prefixes label)) (list_all (λ l. list_all (stands a) (prefixes l)) labels) known in
    and_from (list_all (stands b) (prefixes label)) (list_all (λ l. list_all (stands b) (prefixes l)) labels) (each (prefixes label) parts.0) (known_stay a b on labels parts.1)
  where
    one : (p : List (List ℕ)) (ps : Labels) → list_all (stands a) (p ∷ ps) ≡ true → (list_all (stands a) ps ≡ true → list_all (stands b) ps ≡ true) → list_all (stands b) (p ∷ ps) ≡ true
    one p ps all rest = let parts = and_parts (stands a p) (list_all (stands a) ps) all in and_from (stands b p) (list_all (stands b) ps) (stands_on a b p on parts.0) (rest parts.1)

    each : (ps : Labels) → list_all (stands a) ps ≡ true → list_all (stands b) ps ≡ true
    each [] all = refl
    each (p ∷ ps) all = one p ps all (λ h. each ps h)
