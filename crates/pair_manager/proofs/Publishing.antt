-- Publications, where labels and operations go on, and one more is published.
use Rattle.std.proofs.Common.{◌≡◌, ℕ, ◌≤◌, true, List, [], ◌∷◌, ◌++◌, length, take, map, get_or, refl, sym, ap, subst, ◌∙◌, arith}
use Rattle.std.specs.Prelude.{◌&&◌, nat_le}
use Rattle.std.specs.List.{list_all}
use Rattle.std.proofs.lemmas.Bool.{and_parts, and_from, leb-true, le-leb}
use Rattle.std.proofs.lemmas.List.{length-append, length-map, get_or-map, map-append, take-take, take_all, take-append-le}
use Rattle.std.proofs.lemmas.List.Folds.{list_all-append}
use Rattle.std.proofs.lemmas.List.Sums.{AllPass-from_list_all}
use mathlib.Core.List.{IsPrefix}
use Rattle.facet_names.specs.Labels.{GoesOn}
use Rattle.facet_names.proofs.LabelLists.{Labels}
use Rattle.facet_model.specs.Histories.{Operation, brought, knows, covers, never_falls, is_pair, are_publications}
use Rattle.facet_model.proofs.Fronts.{weaker}
use Rattle.chronicle.specs.History.{entries}
use Rattle.chronicle.proofs.Entries.{entries-prefix}
use Rattle.taxo_cache.specs.Seen.{labels_of}
use Rattle.taxo_adding.proofs.Growing.{seen_goes_on}
use Rattle.pair_manager.specs.declared.publication.Publication.{Publication}
use Rattle.pair_manager.specs.Published.{Published, publication_of, numbers, ArePublications, IsNewest, StandsFor}
use Rattle.pair_manager.specs.Kept.{IsPair}
use Rattle.facet_model.proofs.Histories.{never_falls_push}

-- ---- the parts of publications

module _ (labels : Labels) (history : List Operation) where
  each_pair : (ps : List (ℕ × ℕ)) → are_publications labels history ps ≡ true → list_all (is_pair labels history) ps ≡ true
  each_pair ps h = (and_parts (never_falls (map (λ p. p.0) ps) && never_falls (map (λ p. p.1) ps)) (list_all (is_pair labels history) ps) h).1

  pair_bounds : (p : ℕ × ℕ) → is_pair labels history p ≡ true → (p.0 ≤ length history) × (p.1 ≤ length labels)
  pair_bounds p h =
      let both = and_parts (nat_le p.0 (length history) && nat_le p.1 (length labels)) (covers labels p.1 history p.0) h in
      let two = and_parts (nat_le p.0 (length history)) (nat_le p.1 (length labels)) both.0 in
      (leb-true p.0 (length history) two.0, leb-true p.1 (length labels) two.1)

  all_below : (ps : List (ℕ × ℕ)) (n m : ℕ) → length history ≤ n → length labels ≤ m → list_all (is_pair labels history) ps ≡ true → (list_all (λ k. nat_le k n) (map (λ p. p.0) ps) ≡ true) × (list_all (λ k. nat_le k m) (map (λ p. p.1) ps) ≡ true)
  all_below [] n m low few h = (refl, refl)
  all_below (p ∷ ps) n m low few h =
      let both = and_parts (is_pair labels history p) (list_all (is_pair labels history) ps) h in
      let bounds = pair_bounds p both.0 in
      let rest = all_below ps n m low few both.1 in
      (and_from (nat_le p.0 n) (list_all (λ k. nat_le k n) (map (λ q. q.0) ps)) (le-leb p.0 n (omega (arith, bounds.0, low))) rest.0, and_from (nat_le p.1 m) (list_all (λ k. nat_le k m) (map (λ q. q.1) ps)) (le-leb p.1 m (omega (arith, bounds.1, few))) rest.1)

-- ---- labels and operations go on

module _ (a b : Labels) (h k : List Operation) (on : GoesOn a b) (more : IsPrefix h k) where
  longer_history : length h ≤ length k
  longer_history = omega (arith, ap length (sym more.1) ∙ length-append h more.0)

  still_pair : (p : ℕ × ℕ) → is_pair a h p ≡ true → is_pair b k p ≡ true
  still_pair p is =
      let bounds = pair_bounds a h p is in
      let cover : covers a p.1 h p.0 ≡ true = (and_parts (nat_le p.0 (length h) && nat_le p.1 (length a)) (covers a p.1 h p.0) is).1 in
      let front : take p.1 b ≡ take p.1 a = sym (take-take p.1 (length a) b bounds.1) ∙ ap (take p.1) on.1 in
      let same : take p.0 k ≡ take p.0 h = ap (take p.0) (sym more.1) ∙ take-append-le p.0 h more.0 bounds.0 in
      and_from (nat_le p.0 (length k) && nat_le p.1 (length b)) (covers b p.1 k p.0)
      (and_from (nat_le p.0 (length k)) (nat_le p.1 (length b)) (le-leb p.0 (length k) (omega (arith, bounds.0, longer_history))) (le-leb p.1 (length b) (omega (arith, bounds.1, on.0))))
      ((λ i. list_all (knows (front i)) (brought (same i))) ∙ cover)

  pub still_publications : (ps : List (ℕ × ℕ)) → are_publications a h ps ≡ true → are_publications b k ps ≡ true
  still_publications ps is =
      let both = and_parts (never_falls (map (λ p. p.0) ps) && never_falls (map (λ p. p.1) ps)) (list_all (is_pair a h) ps) is in
      and_from (never_falls (map (λ p. p.0) ps) && never_falls (map (λ p. p.1) ps)) (list_all (is_pair b k) ps) both.0 (weaker (is_pair a h) (is_pair b k) still_pair ps both.1)

-- ---- one more

module _ (b : Labels) (k : List Operation) (known : list_all (knows b) (brought k) ≡ true) where
  whole_pair : is_pair b k (length k, length b) ≡ true
  whole_pair =
      and_from (nat_le (length k) (length k) && nat_le (length b) (length b)) (covers b (length b) k (length k))
      (and_from (nat_le (length k) (length k)) (nat_le (length b) (length b)) (le-leb (length k) (length k) (omega arith)) (le-leb (length b) (length b) (omega arith)))
      ((λ i. list_all (knows (take_all (length b) b (let same : length b ≤ length b = omega arith in same) i)) (brought (take_all (length k) k (let same : length k ≤ length k = omega arith in same) i))) ∙ known)

  pub published_first : are_publications b k ((length k, length b) ∷ []) ≡ true
  published_first = and_from true (is_pair b k (length k, length b) && true) refl (and_from (is_pair b k (length k, length b)) true whole_pair refl)

  pub published_next : (ps : List (ℕ × ℕ)) → are_publications b k ps ≡ true → are_publications b k (ps ++ (length k, length b) ∷ []) ≡ true
  published_next ps is =
      let both = and_parts (never_falls (map (λ p. p.0) ps) && never_falls (map (λ p. p.1) ps)) (list_all (is_pair b k) ps) is in
      let falls = and_parts (never_falls (map (λ p. p.0) ps)) (never_falls (map (λ p. p.1) ps)) both.0 in
      let below = all_below b k ps (length k) (length b) (let same : length k ≤ length k = omega arith in same) (let same : length b ≤ length b = omega arith in same) both.1 in
      let next : List (ℕ × ℕ) = (length k, length b) ∷ [] in
      and_from (never_falls (map (λ p. p.0) (ps ++ next)) && never_falls (map (λ p. p.1) (ps ++ next))) (list_all (is_pair b k) (ps ++ next))
      (and_from (never_falls (map (λ p. p.0) (ps ++ next))) (never_falls (map (λ p. p.1) (ps ++ next)))
      (ap never_falls (map-append (λ (p : ℕ × ℕ). p.0) ps next) ∙ never_falls_push (map (λ p. p.0) ps) (length k) falls.0 below.0)
      (ap never_falls (map-append (λ (p : ℕ × ℕ). p.1) ps next) ∙ never_falls_push (map (λ p. p.1) ps) (length b) falls.1 below.1))
      (list_all-append (is_pair b k) ps next ∙ and_from (list_all (is_pair b k) ps) (is_pair b k (length k, length b) && true) both.1 (and_from (is_pair b k (length k, length b)) true whole_pair refl))

-- ---- as tokens have seen them

module _ (labels labels_now : List (ℕ × List (List ℕ))) (history history_now : List (ℕ × Operation)) (on : IsPrefix labels labels_now) (more : IsPrefix history history_now) (publications : List Publication) (right : ArePublications labels history publications) where
  pub still_right : ArePublications labels_now history_now publications
  still_right = still_publications (labels_of labels) (labels_of labels_now) (entries history) (entries history_now) (seen_goes_on labels labels_now on) (entries-prefix history history_now more) (map numbers publications) right

pub right_next : (labels : List (ℕ × List (List ℕ))) (history : List (ℕ × Operation)) (publications : List Publication) → list_all (knows (labels_of labels)) (brought (entries history)) ≡ true → ArePublications labels history publications
    → ArePublications labels history (publications ++ record { operations = length history; labels = length (labels_of labels) } ∷ [])
right_next labels history publications known right =
    let next : Publication = record { operations = length history; labels = length (labels_of labels) } in
    let size : length (entries history) ≡ length history = length-map history (λ (x : ℕ × Operation). x.1) in
    ap (are_publications (labels_of labels) (entries history)) (map-append numbers publications (next ∷ []) ∙ ap (λ (n : ℕ). map numbers publications ++ (n, length (labels_of labels)) ∷ []) (sym size))
    ∙ published_next (labels_of labels) (entries history) known (map numbers publications) right

pub right_first : (labels : List (ℕ × List (List ℕ))) (history : List (ℕ × Operation)) → list_all (knows (labels_of labels)) (brought (entries history)) ≡ true → ArePublications labels history (record { operations = length history; labels = length (labels_of labels) } ∷ [])
right_first labels history known = right_next labels history [] known refl

-- no publication has more than all
pub right_newest : (labels : List (ℕ × List (List ℕ))) (history : List (ℕ × Operation)) (publications : List Publication) → ArePublications labels history publications → IsNewest (record { operations = length history; labels = length (labels_of labels) }) publications
right_newest labels history publications right k d lt =
    let each = each_pair (labels_of labels) (entries history) (map numbers publications) right in
    let one = AllPass-from_list_all (is_pair (labels_of labels) (entries history)) (map numbers publications) each k (numbers d) (omega (arith, lt, length-map publications numbers)) in
    let bounds = pair_bounds (labels_of labels) (entries history) (numbers (get_or publications k d)) (ap (is_pair (labels_of labels) (entries history)) (sym (get_or-map numbers publications k d (numbers d) lt)) ∙ one) in
    (omega (arith, bounds.0, length-map history (λ (x : ℕ × Operation). x.1)), bounds.1)

-- ---- the pair that is published next

pub stands_next : (last next : Published) (before now : List Publication) → StandsFor last before → IsPair next → IsPrefix last.labels.seen next.labels.seen → IsPrefix last.history.seen next.history.seen → now ≡ before ++ publication_of next ∷ [] → StandsFor next now
stands_next last next before now stands is on more entered = record {
  right = subst (ArePublications next.labels.seen next.history.seen) (sym entered) (right_next next.labels.seen next.history.seen before is.known (still_right last.labels.seen next.labels.seen last.history.seen next.history.seen on more before stands.right));
  last = (before, entered);
}

pub stands_first : (p : Published) → IsPair p → StandsFor p (publication_of p ∷ [])
stands_first p is = record { right = right_first p.labels.seen p.history.seen is.known; last = ([], refl) }
