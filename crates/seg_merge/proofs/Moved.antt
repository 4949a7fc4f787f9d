-- Places that move to another segment.
use Rattle.std.proofs.Common.{◌≡◌, ℕ, zero, suc, ◌+◌, ◌<◌, ◌≤◌, Bool, true, false, not, cond, ◌||◌, List, [], ◌∷◌, ◌++◌, map, length, take, drop, get_or, Option, Some, None, refl, sym, ap, ◌∙◌, arith, append_assoc}
use Rattle.std.specs.Prelude.{filter}
use Rattle.std.specs.List.{list_any}
use Rattle.std.specs.Str.{bytes_eq}
use Rattle.std.proofs.lemmas.List.{append-nil, length-append, take_more, map-append, take-append-drop}
use Rattle.std.proofs.lemmas.List.Concat.{flat_map-append}
use Rattle.facet_names.proofs.Places.{places_from, with_place}
use Rattle.facet_model.specs.Stored.{Records, is_dead, live_before, alive}
use Rattle.seg_postings.specs.Rising.{is_in}
use Rattle.seg_postings.specs.Sets.{picked, without}
use Rattle.live_records.proofs.Alive.{is_in-is_dead, live_places, length_alive}
use Rattle.seg_terms.specs.Noting.{Table, behind}
use Rattle.seg_terms.proofs.Behind.{behind_behind}
use Rattle.seg_documents.specs.Decoding.{records_in}
use Rattle.seg_documents.proofs.Joined.{records_append}
use Rattle.seg_merge.specs.Moved.{moved, all_places, places_in}

-- ---- one list of places

pub moved_append : (base : ℕ) (dead ps qs : List ℕ) → moved base dead (ps ++ qs) ≡ moved base dead ps ++ moved base dead qs
moved_append base dead [] qs = refl
moved_append base dead (p ∷ ps) qs = by (is_dead dead p) (moved_append base dead ps qs)
  where
    by : (b : Bool) → moved base dead (ps ++ qs) ≡ moved base dead ps ++ moved base dead qs
        → cond b (moved base dead (ps ++ qs)) ((base + live_before dead p) ∷ moved base dead (ps ++ qs)) ≡ cond b (moved base dead ps) ((base + live_before dead p) ∷ moved base dead ps) ++ moved base dead qs
    by true rest = rest
    by false rest = ap (λ l. (base + live_before dead p) ∷ l) rest

-- they are the ranks of the live ones, from the base on
pub moved_is : (base : ℕ) (dead ps : List ℕ) → moved base dead ps ≡ map (λ n. base + n) (map (live_before dead) (without ps dead))
unfolding without picked
moved_is base dead [] = refl
moved_is base dead (p ∷ ps) = by (is_dead dead p) (is_in p dead) (is_in-is_dead p dead) (moved_is base dead ps)
  where
    left : List ℕ
    left = filter (λ x. not (is_in x dead)) ps

    by : (b c : Bool) → c ≡ b → moved base dead ps ≡ map (λ n. base + n) (map (live_before dead) left)
        → cond b (moved base dead ps) ((base + live_before dead p) ∷ moved base dead ps) ≡ map (λ n. base + n) (map (live_before dead) (cond (not c) (p ∷ left) left))
    by true true e rest = rest
    by true false e rest = absurd cc
    by false true e rest = absurd cc
    by false false e rest = ap (λ l. (base + live_before dead p) ∷ l) rest

-- one place more
module _ (base : ℕ) (dead ps : List ℕ) (k x : ℕ) (lt : k < length ps) (here : x ≡ get_or ps k 0) where
  one_more : moved base dead (take (k + 1) ps) ≡ moved base dead (take k ps) ++ moved base dead (x ∷ [])
  one_more = ap (moved base dead) (take_more ps k 0 lt ∙ ap (λ y. take k ps ++ y ∷ []) (sym here)) ∙ moved_append base dead (take k ps) (x ∷ [])

  pub moved_on : is_dead dead x ≡ false → (old mid new : List ℕ) → mid ≡ old ++ moved base dead (take k ps) → new ≡ mid ++ (base + live_before dead x) ∷ [] → new ≡ old ++ moved base dead (take (k + 1) ps)
  moved_on live old mid new before then =
      let one : moved base dead (x ∷ []) ≡ (base + live_before dead x) ∷ [] = ap (λ b. cond b [] ((base + live_before dead x) ∷ [])) live in
      then ∙ ap (λ l. l ++ (base + live_before dead x) ∷ []) before ∙ append_assoc old (moved base dead (take k ps)) ((base + live_before dead x) ∷ [])
      ∙ ap (λ l. old ++ l) (ap (λ l. moved base dead (take k ps) ++ l) (sym one) ∙ sym one_more)

  pub moved_past : is_dead dead x ≡ true → (old mid : List ℕ) → mid ≡ old ++ moved base dead (take k ps) → mid ≡ old ++ moved base dead (take (k + 1) ps)
  moved_past gone old mid before =
      let none : moved base dead (x ∷ []) ≡ [] = ap (λ b. cond b [] ((base + live_before dead x) ∷ [])) gone in
      before ∙ ap (λ l. old ++ l) (sym (append-nil (moved base dead (take k ps))) ∙ ap (λ l. moved base dead (take k ps) ++ l) (sym none) ∙ sym one_more)

-- a rank is at most the place
pub rank_below : (dead : List ℕ) (n : ℕ) → live_before dead n ≤ n
rank_below dead zero = omega arith
rank_below dead (suc n) = by (is_dead dead n) (rank_below dead n)
  where
    by : (b : Bool) → live_before dead n ≤ n → cond b (live_before dead n) (live_before dead n + 1) ≤ suc n
    by true low = omega (arith, low)
    by false low = omega (arith, low)

-- ---- the places of a list, from a number on

module _ {A : Type 0} (passes : A → Bool) where
  pub shifted : (base k : ℕ) (xs : List A) → map (λ n. base + n) (places_from passes k xs) ≡ places_from passes (base + k) xs
  shifted base k [] = refl
  shifted base k (x ∷ xs) = by (passes x) (shifted base (k + 1) xs ∙ ap (λ n. places_from passes n xs) (sym plus))
    where
      plus : (base + k) + 1 ≡ base + (k + 1)
      plus = omega arith

      by : (b : Bool) → map (λ n. base + n) (places_from passes (k + 1) xs) ≡ places_from passes ((base + k) + 1) xs → map (λ n. base + n) (with_place passes b k x xs) ≡ with_place passes b (base + k) x xs
      by true rest = ap (λ l. (base + k) ∷ l) rest
      by false rest = rest

  pub places_append : (k : ℕ) (xs ys : List A) → places_from passes k (xs ++ ys) ≡ places_from passes k xs ++ places_from passes (k + length xs) ys
  places_append k [] ys = let e : k + 0 ≡ k = omega arith in ap (λ n. places_from passes n ys) (sym e)
  places_append k (x ∷ xs) ys = by (passes x) (places_append (k + 1) xs ys ∙ ap (λ n. places_from passes (k + 1) xs ++ places_from passes n ys) plus)
    where
      plus : (k + 1) + length xs ≡ k + suc (length xs)
      plus = omega arith

      by : (b : Bool) → places_from passes (k + 1) (xs ++ ys) ≡ places_from passes (k + 1) xs ++ places_from passes (k + suc (length xs)) ys → with_place passes b k x (xs ++ ys) ≡ with_place passes b k x xs ++ places_from passes (k + suc (length xs)) ys
      by true rest = ap (λ l. k ∷ l) rest
      by false rest = rest

  -- where there are some they are behind none
  pub some_of_places : (xs : List A) (n : ℕ) → behind None (places_from passes n xs) ≡ cond (list_any passes xs) (Some (places_from passes n xs)) None
  some_of_places [] n = refl
  some_of_places (x ∷ xs) n = by (passes x) (some_of_places xs (n + 1))
    where
      by : (b : Bool) → behind None (places_from passes (n + 1) xs) ≡ cond (list_any passes xs) (Some (places_from passes (n + 1) xs)) None → behind None (with_place passes b n x xs) ≡ cond (b || list_any passes xs) (Some (with_place passes b n x xs)) None
      by true rest = refl
      by false rest = rest

  -- the places of the live ones of a list, moved, are those of what is left of it
  pub moved_places : (base : ℕ) (dead : List ℕ) (xs : List A) → moved base dead (places_from passes 0 xs) ≡ places_from passes base (alive dead xs)
  moved_places base dead xs =
      let e : base + 0 ≡ base = omega arith in
      moved_is base dead (places_from passes 0 xs) ∙ ap (map (λ n. base + n)) (live_places dead passes 0 xs) ∙ shifted base 0 (alive dead xs) ∙ ap (λ n. places_from passes n (alive dead xs)) e

-- ---- segments

-- one segment more
pub places_more : (base : ℕ) (ss : List Records) (s : Records) (q : List ℕ) → places_in base (ss ++ s ∷ []) q ≡ places_in base ss q ++ moved (base + length (records_in ss)) s.dead (all_places s.terms q)
places_more base [] s q =
    let e : base + 0 ≡ base = omega arith in
    append-nil (moved base s.dead (all_places s.terms q)) ∙ ap (λ n. moved n s.dead (all_places s.terms q)) (sym e)
places_more base (r ∷ rs) s q =
    let live : ℕ = length (alive r.dead r.records) in
    let e : (base + live) + length (records_in rs) ≡ base + length (records_in (r ∷ rs)) = omega (arith, length-append (alive r.dead r.records) (records_in rs)) in
    ap (λ l. moved base r.dead (all_places r.terms q) ++ l) (places_more (base + live) rs s q ∙ ap (λ n. places_in (base + live) rs q ++ moved n s.dead (all_places s.terms q)) e)
    ∙ sym (append_assoc (moved base r.dead (all_places r.terms q)) (places_in (base + live) rs q) (moved (base + length (records_in (r ∷ rs))) s.dead (all_places s.terms q)))

pub all_append : (ts us : Table) (q : List ℕ) → all_places (ts ++ us) q ≡ all_places ts q ++ all_places us q
all_append ts us q = flat_map-append (λ t. cond (bytes_eq q t.0) t.1 []) ts us

-- one term more
pub term_more : (base : ℕ) (dead : List ℕ) (terms : Table) (k : ℕ) (q name ps : List ℕ) → k < length terms → name ≡ (get_or terms k ([], [])).0 → ps ≡ (get_or terms k ([], [])).1
    → (start mid new : Option (List ℕ)) → mid ≡ behind start (moved base dead (all_places (take k terms) q)) → new ≡ cond (bytes_eq q name) (behind mid (moved base dead ps)) mid
    → new ≡ behind start (moved base dead (all_places (take (k + 1) terms) q))
term_more base dead terms k q name ps lt named placed start mid new before then = then ∙ by (bytes_eq q name) refl
  where
    t : List ℕ × List ℕ
    t = get_or terms k ([], [])

    so_far : List ℕ
    so_far = moved base dead (all_places (take k terms) q)

    all : moved base dead (all_places (take (k + 1) terms) q) ≡ so_far ++ moved base dead (cond (bytes_eq q t.0) t.1 [])
    all = ap (λ ts. moved base dead (all_places ts q)) (take_more terms k ([], []) lt) ∙ ap (moved base dead) (all_append (take k terms) (t ∷ []) q ∙ ap (λ l. all_places (take k terms) q ++ l) (append-nil (cond (bytes_eq q t.0) t.1 [])))
        ∙ moved_append base dead (all_places (take k terms) q) (cond (bytes_eq q t.0) t.1 [])

    by : (b : Bool) → bytes_eq q name ≡ b → cond b (behind mid (moved base dead ps)) mid ≡ behind start (moved base dead (all_places (take (k + 1) terms) q))
    by true e =
        let here : cond (bytes_eq q t.0) t.1 [] ≡ ps = ap (λ b. cond b t.1 []) (ap (bytes_eq q) (sym named) ∙ e) ∙ sym placed in
        ap (λ o. behind o (moved base dead ps)) before ∙ behind_behind start so_far (moved base dead ps) ∙ ap (behind start) (ap (λ l. so_far ++ moved base dead l) (sym here) ∙ sym all)
    by false e =
        let here : cond (bytes_eq q t.0) t.1 [] ≡ [] = ap (λ b. cond b t.1 []) (ap (bytes_eq q) (sym named) ∙ e) in
        before ∙ ap (behind start) (sym (append-nil so_far) ∙ ap (λ l. so_far ++ moved base dead l) (sym here) ∙ sym all)

-- one segment more, behind none
pub segment_more : (ss : List Records) (s : Records) (q : List ℕ) (base : ℕ) (mid new : Option (List ℕ)) → base ≡ length (records_in ss) → mid ≡ behind None (places_in 0 ss q)
    → new ≡ behind mid (moved base s.dead (all_places s.terms q)) → new ≡ behind None (places_in 0 (ss ++ s ∷ []) q)
segment_more ss s q base mid new is before then =
    let e : 0 + length (records_in ss) ≡ base = omega (arith, is) in
    then ∙ ap (λ o. behind o (moved base s.dead (all_places s.terms q))) before ∙ behind_behind None (places_in 0 ss q) (moved base s.dead (all_places s.terms q))
    ∙ ap (behind None) (ap (λ n. places_in 0 ss q ++ moved n s.dead (all_places s.terms q)) (sym e) ∙ sym (places_more 0 ss s q))

-- ---- segments behind others

module _ {A : Type 0} (value : A → Records) (xs : List A) (i : ℕ) (x : A) (lt : i < length xs) (here : get_or xs i x ≡ x) where
  pub taken_more : map value (take (i + 1) xs) ≡ map value (take i xs) ++ value x ∷ []
  taken_more = ap (map value) (take_more xs i x lt ∙ ap (λ y. take i xs ++ y ∷ []) here) ∙ map-append value (take i xs) (x ∷ [])

  pub live_more : length (records_in (map value (take (i + 1) xs))) ≡ length (records_in (map value (take i xs))) + live_before (value x).dead (length (value x).records)
  live_more =
      ap (λ ss. length (records_in ss)) taken_more ∙ ap length (records_append (map value (take i xs)) (value x ∷ []))
      ∙ length-append (records_in (map value (take i xs))) (records_in (value x ∷ [])) ∙ ap (λ n. length (records_in (map value (take i xs))) + n) (ap length (append-nil (alive (value x).dead (value x).records)) ∙ length_alive (value x).dead (value x).records)

-- those of the first are at most those of all
pub live_upto : {A : Type 0} (value : A → Records) (xs : List A) (i : ℕ) → length (records_in (map value (take i xs))) ≤ length (records_in (map value xs))
live_upto value xs i =
    let parts : records_in (map value xs) ≡ records_in (map value (take i xs)) ++ records_in (map value (drop i xs)) =
    ap (λ ys. records_in (map value ys)) (sym (take-append-drop i xs)) ∙ ap records_in (map-append value (take i xs) (drop i xs)) ∙ records_append (map value (take i xs)) (map value (drop i xs)) in
    omega (arith, ap length parts, length-append (records_in (map value (take i xs))) (records_in (map value (drop i xs))))
