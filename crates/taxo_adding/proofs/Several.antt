-- Several paths, one after the other.
use Rattle.std.proofs.Common.{Contains, ◌≡◌, ◌∙◌, ℕ, zero, suc, ◌<◌, ◌≤◌, ◌+◌, Bool, true, false, not, cond, eqb, List, [], ◌∷◌, ◌++◌, ◌||◌, ◌&&◌, length, take, drop, map, get_or, slice_get, Some, None, option_map, Option, refl, ap, sym, subst, arith, append-nil, append_assoc}
use Rattle.std.specs.Prelude.{◌≢◌, flat_map, Result, IfErr}
use Rattle.std.specs.Option.{option_map_or}
use Rattle.std.specs.List.{AllZip, list_all, position_or_len}
use Rattle.std.proofs.Math.Bool.{or-true}
use Rattle.std.proofs.lemmas.Grind.{flat_map-append}
use Rattle.std.proofs.lemmas.List.{length-append, length-map, nil_from_length, take_all, take_more, take-append-drop, take-append-le}
use Rattle.std.proofs.lemmas.List.Elements.{Contains-get_or, filter-append}
use Rattle.std.proofs.lemmas.List.Folds.{list_any-append}
use Rattle.std.proofs.lemmas.Option.{slice_get_within, slice_get-get_or, slice_get-map}
use Rattle.std.proofs.Math.Seq.{take-append-add}
use native.Mathlib.Decide.{dec_lt}
use mathlib.Core.Logic.{dite}
use mathlib.Core.List.{IsPrefix}
use Rattle.chronicle.specs.History.{numbered, entered_by, own_of}
use Rattle.chronicle.specs.Shown.{Shown, SeesOn, mine}
use Rattle.chronicle.proofs.Entries.{entries-prefix}
use Rattle.chronicle.proofs.Prefixes.{prefix_append, prefix_get}
use Rattle.facet_names.specs.Paths.{path_eq, path_eq_equiv}
use Rattle.facet_names.specs.Labels.{place, prefixes, stands, skips_none}
use Rattle.facet_names.proofs.LabelLists.{label_at, still_stands}
use Rattle.facet_model.specs.CountedPaths.{AreResolved}
use Rattle.taxo_cache.specs.Seen.{labels_of}
use Rattle.taxo_list.specs.declared.fault.TaxoFault.{TaxoFault}
use Rattle.taxo_list.specs.declared.fault.TaxoFault.TheVariants.{NoMemory as Memory}
use Rattle.taxo_adding.specs.Adding.{lacking, HaveOrdinals, Adds}
use Rattle.taxo_adding.specs.Several.{EachNew, IsInTurn, EachHaveOrdinals, EachHaveFirst, IsFullForOne}
use Rattle.taxo_adding.proofs.Ordinals.{ordinals_seen, none_missing, labels_entered}
use Rattle.taxo_adding.proofs.Entering.{adds_none}
use Rattle.std.proofs.lemmas.Slice.Zip.{all_zipped_more}
use Rattle.facet_names.proofs.Fronts.{as_many_prefixes}

-- ---- entries of a number

not_below : (i n : ℕ) → (i < n → ⊥) → n ≤ i
not_below i n none = dite (dec_lt i n) (λ lt. absurd (none lt)) (λ more. omega (arith, more))

same_number : (n m : ℕ) → m ≡ n → eqb m n ≡ true
same_number n m e = grind arith

-- what stands behind a beginning
right_of : {A : Type 0} (xs ys : List A) (i : ℕ) → length xs ≤ i → (k : ℕ) × (i ≡ length xs + k) × (slice_get (xs ++ ys) i ≡ slice_get ys k)
right_of [] ys i low = (i, omega arith, refl)
right_of (x ∷ xs) ys zero low = absurd (omega arith)
right_of (x ∷ xs) ys (suc i) low = let r = right_of xs ys i (omega arith) in let e = r.1 in (r.0, omega arith, r.2)

module _ {A : Type 0} (n : ℕ) where
  none_under : (xs : List (ℕ × A)) (i : ℕ) (x : A) → entered_by n xs ≡ [] → slice_get xs i ≡ Some (n, x) → ⊥
  none_under [] i x none at = absurd cc
  none_under (e ∷ es) zero x none at =
      let is : eqb e.0 n ≡ true = same_number n e.0 (ap (λ o. option_map_or (λ p. p.0) o e.0) at) in
      absurd (let found : e ∷ entered_by n es ≡ [] = ap (λ b. cond b (e ∷ entered_by n es) (entered_by n es)) (sym is) ∙ none in cc)
  none_under (e ∷ es) (suc i) x none at = by (eqb e.0 n) none (λ rest. none_under es i x rest at)
    where
      by : (b : Bool) → cond b (e ∷ entered_by n es) (entered_by n es) ≡ [] → (entered_by n es ≡ [] → ⊥) → ⊥
      by true none later = absurd cc
      by false none later = later none

  -- where a list goes on by none of the number, none is behind its beginning
  none_behind : (xs ys : List (ℕ × A)) (i : ℕ) (x : A) → IsPrefix xs ys → entered_by n ys ≡ entered_by n xs → length xs ≤ i → slice_get ys i ≡ Some (n, x) → ⊥
  none_behind xs ys i x begins same low at =
      let right = right_of xs begins.0 i low in
      none_under begins.0 right.0 x (nothing (entered_by n xs) (entered_by n begins.0) (sym (filter-append (λ e. eqb e.0 n) xs begins.0) ∙ ap (entered_by n) begins.1 ∙ same))
      (sym right.2 ∙ ap (λ l. slice_get l i) begins.1 ∙ at)
    where
      nothing : (ls rs : List (ℕ × A)) → ls ++ rs ≡ ls → rs ≡ []
      nothing [] rs e = e
      nothing (l ∷ ls) rs e = nothing ls rs cc

  entered_numbered : (es : List A) → entered_by n (numbered n es) ≡ numbered n es
  entered_numbered [] = refl
  entered_numbered (e ∷ es) = ap (λ b. cond b ((n, e) ∷ entered_by n (numbered n es)) (entered_by n (numbered n es))) (same_number n n refl) ∙ ap (λ l. (n, e) ∷ l) (entered_numbered es)

-- a token that entered these in one turn has entered nothing else
none_before : (old new : Shown (List (List ℕ))) (before : List (ℕ × List (List ℕ))) (added : List (List (List ℕ)))
    → old.is_note ≡ false → new.is_note ≡ false → new.number ≡ old.number → IsPrefix old.seen before → new.seen ≡ before ++ numbered new.number added → mine new ≡ mine old ++ numbered new.number added
    → entered_by old.number before ≡ entered_by old.number old.seen
none_before old new before added is_old is_new same begins seen own =
    let n = old.number in
    let mine_old : mine old ≡ entered_by n old.seen = ap (λ b. own_of b n old.seen) is_old in
    let mine_new : mine new ≡ entered_by n new.seen = (λ i. own_of (is_new i) (same i) new.seen) in
    let whole : entered_by n new.seen ≡ entered_by n before ++ numbered n added =
    ap (entered_by n) (seen ∙ ap (λ k. before ++ numbered k added) same) ∙ filter-append (λ e. eqb e.0 n) before (numbered n added) ∙ ap (λ l. entered_by n before ++ l) (entered_numbered n added) in
    let parts : entered_by n before ++ numbered n added ≡ entered_by n old.seen ++ numbered n added = sym whole ∙ sym mine_new ∙ own ∙ (λ i. mine_old i ++ numbered (same i) added) in
    let more : entered_by n before ≡ entered_by n old.seen ++ entered_by n begins.0 = ap (entered_by n) (sym begins.1) ∙ filter-append (λ e. eqb e.0 n) old.seen begins.0 in
    let left = ap length parts in
    let a = length-append (entered_by n before) (numbered n added) in
    let b = length-append (entered_by n old.seen) (numbered n added) in
    let m = ap length more ∙ length-append (entered_by n old.seen) (entered_by n begins.0) in
    let nothing : entered_by n begins.0 ≡ [] = nil_from_length (entered_by n begins.0) (omega arith) in
    more ∙ ap (λ l. entered_by n old.seen ++ l) nothing ∙ append-nil (entered_by n old.seen)

-- ---- labels that are entered in turn

first_skipped : (S : List (List ℕ) → Bool) (p q : List (List ℕ)) (qs : List (List (List ℕ))) → (path_eq p q ≡ false → S q ≡ true) → list_all S (take (position_or_len (path_eq p) qs) qs) ≡ true
    → list_all S (take (position_or_len (path_eq p) (q ∷ qs)) (q ∷ qs)) ≡ true
first_skipped S p q qs here rest = by (path_eq p q) here
  where
    by : (b : Bool) → (b ≡ false → S q ≡ true) → list_all S (take (cond (not b) (1 + position_or_len (path_eq p) qs) 0) (q ∷ qs)) ≡ true
    by true here = refl
    by false here =
        let n = position_or_len (path_eq p) qs in
        let size : 1 + n ≡ suc n = omega arith in
        ap (λ k. list_all S (take k (q ∷ qs))) size ∙ ap (λ b. b && list_all S (take n qs)) (here refl) ∙ rest

module _ (known : List (List (List ℕ))) (p : List (List ℕ)) where
  -- what was missing is one of the paths
  missing_among : (ps : List (List (List ℕ))) (k : ℕ) → slice_get (lacking known ps) k ≡ Some p → stands ps p ≡ true
  missing_among [] k at = absurd cc
  missing_among (q ∷ qs) k at = by (stands known q) k at (λ j there. ap (λ b. path_eq p q || b) (missing_among qs j there) ∙ or-true (path_eq p q))
    where
      by : (b : Bool) (k : ℕ) → slice_get (cond (not b) (q ∷ lacking known qs) (lacking known qs)) k ≡ Some p → ((j : ℕ) → slice_get (lacking known qs) j ≡ Some p → stands (q ∷ qs) p ≡ true)
          → stands (q ∷ qs) p ≡ true
      by true k at later = later k at
      by false zero at later = let same : q ≡ p = cc in ap (λ b. b || stands qs p) (subst (λ (x : List (List ℕ)). path_eq p x ≡ true) (sym same) (path_eq_equiv.refl p))
      by false (suc k) at later = later k at

  -- and each path before it is known, or was missing too
  missing_skips : (S : List (List ℕ) → Bool) → ((x : List (List ℕ)) → stands known x ≡ true → S x ≡ true) → (ps : List (List (List ℕ))) (k : ℕ)
      → ((x : List (List ℕ)) → stands (take k (lacking known ps)) x ≡ true → S x ≡ true) → slice_get (lacking known ps) k ≡ Some p → list_all S (take (position_or_len (path_eq p) ps) ps) ≡ true
  missing_skips S all [] k some at = absurd cc
  missing_skips S all (q ∷ qs) k some at = by (stands known q) refl (missing_skips S all qs) k some at
    where
      by : (b : Bool) → stands known q ≡ b
          → ((j : ℕ) → ((x : List (List ℕ)) → stands (take j (lacking known qs)) x ≡ true → S x ≡ true) → slice_get (lacking known qs) j ≡ Some p → list_all S (take (position_or_len (path_eq p) qs) qs) ≡ true)
          → (k : ℕ) → ((x : List (List ℕ)) → stands (take k (cond (not b) (q ∷ lacking known qs) (lacking known qs))) x ≡ true → S x ≡ true)
          → slice_get (cond (not b) (q ∷ lacking known qs) (lacking known qs)) k ≡ Some p → list_all S (take (position_or_len (path_eq p) (q ∷ qs)) (q ∷ qs)) ≡ true
      by true is later k some at = first_skipped S p q qs (λ other. all q is) (later k some at)
      by false is later zero some at =
          let same : q ≡ p = cc in
          let here : path_eq p q ≡ true = subst (λ (x : List (List ℕ)). path_eq p x ≡ true) (sym same) (path_eq_equiv.refl p) in
          ap (λ b. list_all S (take (cond (not b) (1 + position_or_len (path_eq p) qs) 0) (q ∷ qs))) here
      by false is later (suc k) some at =
          let first : stands (q ∷ take k (lacking known qs)) q ≡ true = ap (λ b. b || stands (take k (lacking known qs)) q) (path_eq_equiv.refl q) in
          first_skipped S p q qs (λ other. some q first)
          (later k (λ x there. some x (ap (λ b. path_eq x q || b) there ∙ or-true (path_eq x q))) at)

stands_last : (xs ys : List (List (List ℕ))) (x : List (List ℕ)) → stands ys x ≡ true → stands (xs ++ ys) x ≡ true
stands_last xs ys x there = list_any-append (path_eq x) xs ys ∙ ap (λ b. stands xs x || b) there ∙ or-true (stands xs x)

-- the first of what was missing is entered in turn
one_in_turn : (limit : ℕ) (known added paths : List (List (List ℕ))) (i k : ℕ) (p : List (List ℕ))
    → IsPrefix added (lacking known paths) → length (known ++ added) ≤ limit → i + 1 ≡ length known + k → slice_get added k ≡ Some p → IsInTurn limit (known ++ added) paths i p
one_in_turn limit known added paths i k p first few at here =
    let there : slice_get (lacking known paths) k ≡ Some p = prefix_get added (lacking known paths) k p first here in
    let low = slice_get_within added k p here in
    let begun : take k (lacking known paths) ≡ take k added = ap (take k) (sym first.1) ∙ take-append-le k added first.0 (omega arith) in
    let cut : known ++ take k added ≡ take (i + 1) (known ++ added) = sym (take-append-add known added k) ∙ ap (λ n. take n (known ++ added)) (sym at) in (
      missing_among known p paths k there,
      (let size = length-append known added in omega arith),
      missing_skips known p (stands (take (i + 1) (known ++ added)))
          (λ x is. subst (λ (l : List (List (List ℕ))). stands l x ≡ true) cut (still_stands known (take k added) x is)) paths k
          (λ x is. subst (λ (l : List (List (List ℕ))). stands l x ≡ true) cut (stands_last known (take k added) x (subst (λ (l : List (List (List ℕ))). stands l x ≡ true) begun is))) there,
    )

-- a label that was entered in turn stays so while more labels are seen
turn_stays : (limit : ℕ) (old new : List (ℕ × List (List ℕ))) (paths : List (List (List ℕ))) (i : ℕ) (p : List (List ℕ)) → IsPrefix old new → i < length old → IsInTurn limit (labels_of old) paths i p → IsInTurn limit (labels_of new) paths i p
turn_stays limit old new paths i p more lt is =
    let size = length-map old (λ e. e.1) in
    let same : take (i + 1) (labels_of new) ≡ take (i + 1) (labels_of old) =
    let grown = entries-prefix old new more in ap (λ (es : List (List (List ℕ))). take (i + 1) ([] ∷ es)) (sym grown.1) ∙ take-append-le (i + 1) (labels_of old) grown.0 (omega arith) in
    (is.0, is.1, ap (λ l. skips_none l paths p) same ∙ is.2)

-- the first of the missing ones of these paths are those of all, where none is missing before them
first_of_all : (known before here after paths added : List (List (List ℕ))) → paths ≡ before ++ (here ++ after) → lacking known before ≡ [] → IsPrefix added (lacking known here) → IsPrefix added (lacking known paths)
first_of_all known before here after paths added is none first =
    let keeps : List (List ℕ) → Bool = λ q. not (stands known q) in
    let all : lacking known (before ++ (here ++ after)) ≡ lacking known here ++ lacking known after =
    filter-append keeps before (here ++ after) ∙ ap (λ l. l ++ lacking known (here ++ after)) none ∙ filter-append keeps here after in
    (first.0 ++ lacking known after, sym (append_assoc added first.0 (lacking known after)) ∙ ap (λ l. l ++ lacking known after) first.1 ∙ sym all ∙ ap (lacking known) (sym is))

-- ---- what a token enters

-- nothing yet
pub each_none : {A : Type 0} (n : ℕ) (P : ℕ → A → Type 0) (old : List (ℕ × A)) → EachNew n P old old
each_none n P old i x low at = absurd (let lt = slice_get_within old i (n, x) at in omega arith)

module _ (limit : ℕ) (paths : List (List (List ℕ))) where
  -- by one resolving, of paths behind those that are labels already
  pub each_one : (path : List (List ℕ)) (before after : List (List (List ℕ))) (old new : Shown (List (List ℕ)))
      → paths ≡ before ++ (prefixes path ++ after) → ((seen : List (ℕ × List (List ℕ))) → IsPrefix old.seen seen → lacking (labels_of seen) before ≡ [])
      → old.is_note ≡ false → new.is_note ≡ false → new.number ≡ old.number → Adds path limit old new → EachNew old.number (IsInTurn limit (labels_of new.seen) paths) old.seen new.seen
  each_one path before after old new is none is_old is_new same adds i p low at =
      let n = old.number in
      let known = labels_of adds.before in
      let labels : labels_of new.seen ≡ known ++ adds.added = ap labels_of adds.seen ∙ labels_entered adds.before new.number adds.added in
      let first : IsPrefix adds.added (lacking known paths) = first_of_all known before (prefixes path) after paths adds.added is (none adds.before adds.since) adds.first in
      let there : slice_get (adds.before ++ numbered n adds.added) i ≡ Some (n, p) = ap (λ l. slice_get l i) (ap (λ m. adds.before ++ numbered m adds.added) (sym same) ∙ sym adds.seen) ∙ at in
      let behind : length adds.before ≤ i = not_below i (length adds.before) (λ lt.
      let held = slice_get-get_or adds.before i (n, p) lt in
      let whole = prefix_get adds.before (adds.before ++ numbered n adds.added) i (get_or adds.before i (n, p)) (prefix_append adds.before (numbered n adds.added)) held in
      none_behind n old.seen adds.before i p adds.since (none_before old new adds.before adds.added is_old is_new same adds.since adds.seen adds.own) low (held ∙ sym whole ∙ there)) in
      let right = right_of adds.before (numbered n adds.added) i behind in
      let here : slice_get adds.added right.0 ≡ Some p = second (slice_get adds.added right.0) (sym (slice_get-map (λ e. (n, e)) adds.added right.0) ∙ sym right.2 ∙ there) in
      let few : length (known ++ adds.added) ≤ limit = subst (λ (l : List (List (List ℕ))). length l ≤ limit) labels (adds.below (λ nil. absurd (let lt = slice_get_within adds.added right.0 p here in omega (arith, ap length nil)))) in
      let place_is = right.1 in
      let size = length-map adds.before (λ e. e.1) in
      subst (λ (l : List (List (List ℕ))). IsInTurn limit l paths i p) (sym labels) (one_in_turn limit known adds.added paths i right.0 p first few (omega arith) here)
    where
      second : (o : Option (List (List ℕ))) → option_map {U = ℕ × List (List ℕ)} (λ e. (old.number, e)) o ≡ Some (old.number, p) → o ≡ Some p
      second None e = absurd cc
      second (Some x) e = ap (λ (o : Option (ℕ × List (List ℕ))). option_map {U = List (List ℕ)} (λ q. q.1) o) e

  -- by one after the other
  pub each_more : (n : ℕ) (old now new : List (ℕ × List (List ℕ))) → IsPrefix now new → EachNew n (IsInTurn limit (labels_of now) paths) old now → EachNew n (IsInTurn limit (labels_of new) paths) now new → EachNew n (IsInTurn limit (labels_of new) paths) old new
  each_more n old now new more first second i p low at = dite (dec_lt i (length now))
      (λ lt.
      let held = slice_get-get_or now i (n, p) lt in
      let here : slice_get now i ≡ Some (n, p) = held ∙ sym (prefix_get now new i (get_or now i (n, p)) more held) ∙ at in
      turn_stays limit now new paths i p more lt (first i p low here))
      (λ behind. second i p (omega (arith, behind)) at)

  -- by none, where it only saw more
  pub none_new : (old new : Shown (List (List ℕ))) → old.is_note ≡ false → new.is_note ≡ false → new.number ≡ old.number → SeesOn old new → EachNew old.number (IsInTurn limit (labels_of new.seen) paths) old.seen new.seen
  none_new old new is_old is_new same on = each_one [] [] paths old new refl (λ seen more. refl) is_old is_new same (adds_none [] limit old new on)

  -- the same as since a later moment, where it only saw more till then, and as till an earlier one, where it saw no more from then on
  pub new_since : (inside : ℕ) (old mid now new : Shown (List (List ℕ))) → inside ≡ limit → old.is_note ≡ false → mid.is_note ≡ false → mid.number ≡ old.number → SeesOn old mid → IsPrefix mid.seen now.seen → new.seen ≡ now.seen
      → EachNew mid.number (IsInTurn inside (labels_of now.seen) paths) mid.seen now.seen → EachNew old.number (IsInTurn limit (labels_of new.seen) paths) old.seen new.seen
  new_since inside old mid now new is is_old is_mid same on more seen adds =
      let turned : EachNew old.number (IsInTurn inside (labels_of now.seen) paths) mid.seen now.seen = subst (λ (m : ℕ). EachNew m (IsInTurn inside (labels_of now.seen) paths) mid.seen now.seen) same adds in
      let limited : EachNew old.number (IsInTurn limit (labels_of now.seen) paths) mid.seen now.seen = subst (λ (k : ℕ). EachNew old.number (IsInTurn k (labels_of now.seen) paths) mid.seen now.seen) is turned in
      subst (λ (l : List (ℕ × List (List ℕ))). EachNew old.number (IsInTurn limit (labels_of l) paths) old.seen l) (sym seen)
      (each_more old.number old.seen mid.seen now.seen more (none_new old mid is_old is_mid same on) limited)

-- the turn was given back
pub full_given_each : {A : Type 0} (r : Result A TaxoFault) (paths : List (List (List ℕ))) (inside limit : ℕ) (now new : Shown (List (List ℕ))) → inside ≡ limit → now.seen ≡ new.seen
    → IfErr r (λ e. e ≢ Memory → IsFullForOne e inside (labels_of now.seen) paths) → IfErr r (λ e. e ≢ Memory → IsFullForOne e limit (labels_of new.seen) paths)
full_given_each r paths inside limit now new same seen full = subst (λ (l : List (ℕ × List (List ℕ))). IfErr r (λ e. e ≢ Memory → IsFullForOne e limit (labels_of l) paths)) seen
    (subst (λ (k : ℕ). IfErr r (λ e. e ≢ Memory → IsFullForOne e k (labels_of now.seen) paths)) same full)

-- ---- lists side by side

module _ {A B : Type 0} where
  zip_kept : (R S : A → B → Type 0) → ((a : A) (b : B) → R a b → S a b) → (xs : List A) (ys : List B) → AllZip R xs ys → AllZip S xs ys
  zip_kept R S keeps [] [] all = tt
  zip_kept R S keeps [] (y ∷ ys) all = absurd all
  zip_kept R S keeps (x ∷ xs) [] all = absurd all
  zip_kept R S keeps (x ∷ xs) (y ∷ ys) all = (keeps x y all.0, zip_kept R S keeps xs ys all.1)

  zip_many : (R : A → B → Type 0) (xs : List A) (ys : List B) → AllZip R xs ys → length xs ≡ length ys
  zip_many R [] [] all = refl
  zip_many R [] (y ∷ ys) all = absurd all
  zip_many R (x ∷ xs) [] all = absurd all
  zip_many R (x ∷ xs) (y ∷ ys) all = ap suc (zip_many R xs ys all.1)

  zip_at : (R : A → B → Type 0) (xs : List A) (ys : List B) → AllZip R xs ys → (i : ℕ) (a : A) (b : B) → i < length xs → R (get_or xs i a) (get_or ys i b)
  zip_at R [] ys all i a b lt = absurd (omega arith)
  zip_at R (x ∷ xs) [] all i a b lt = absurd all
  zip_at R (x ∷ xs) (y ∷ ys) all zero a b lt = all.0
  zip_at R (x ∷ xs) (y ∷ ys) all (suc i) a b lt = zip_at R xs ys all.1 i a b (omega arith)

-- ---- the ordinals of each

abbrev IsWhole : List (List (List ℕ)) → List (List ℕ) → List ℕ → Type 0
IsWhole labels path ords = HaveOrdinals labels (prefixes path) ords

abbrev IsFirst : List (List (List ℕ)) → List (List ℕ) → List ℕ → Type 0
IsFirst labels path ords = HaveOrdinals labels (take (length ords) (prefixes path)) ords

pub each_seen : (old new : List (ℕ × List (List ℕ))) → IsPrefix old new → (paths : List (List (List ℕ))) (resolved : List (List ℕ)) → EachHaveOrdinals (labels_of old) paths resolved → EachHaveOrdinals (labels_of new) paths resolved
each_seen old new more paths resolved all = zip_kept (IsWhole (labels_of old)) (IsWhole (labels_of new)) (λ path ords at. ordinals_seen old new more (prefixes path) ords at) paths resolved all

pub first_seen : (old new : List (ℕ × List (List ℕ))) → IsPrefix old new → (paths : List (List (List ℕ))) (found : List (List ℕ)) → EachHaveFirst (labels_of old) paths found → EachHaveFirst (labels_of new) paths found
first_seen old new more paths found all = zip_kept (IsFirst (labels_of old)) (IsFirst (labels_of new)) (λ path ords at. ordinals_seen old new more (take (length ords) (prefixes path)) ords at) paths found all

pub as_many_found : (labels paths : List (List (List ℕ))) (found : List (List ℕ)) → EachHaveFirst labels paths found → length paths ≡ length found
as_many_found labels paths found all = zip_many (IsFirst labels) paths found all

pub as_many_resolved : (labels paths : List (List (List ℕ))) (resolved : List (List ℕ)) → EachHaveOrdinals labels paths resolved → length paths ≡ length resolved
as_many_resolved labels paths resolved all = zip_many (IsWhole labels) paths resolved all

-- as many ordinals as there are prefixes are those of all
pub all_found : (labels : List (List (List ℕ))) (path : List (List ℕ)) (ords : List ℕ) → length ords ≡ length path → HaveOrdinals labels (take (length ords) (prefixes path)) ords → HaveOrdinals labels (prefixes path) ords
all_found labels path ords size at = subst (λ (ps : List (List (List ℕ))). HaveOrdinals labels ps ords) (take_all (length ords) (prefixes path) (omega (arith, size, as_many_prefixes path))) at

-- the labels at the ordinals are the paths
pub at_ordinals : (labels paths : List (List (List ℕ))) (ords : List ℕ) → HaveOrdinals labels paths ords → map (slice_get labels) ords ≡ map Some paths
at_ordinals labels [] [] at = refl
at_ordinals labels [] (o ∷ os) at = absurd cc
at_ordinals labels (p ∷ ps) [] at = absurd cc
at_ordinals labels (p ∷ ps) (o ∷ os) at =
    let head : place labels p ≡ Some o = cc in
    let tail : map (place labels) ps ≡ map Some os = cc in
    let here = label_at labels o p head in
    let rest = at_ordinals labels ps os tail in
    λ i. here i ∷ rest i

pub are_resolved : (labels paths : List (List (List ℕ))) (resolved : List (List ℕ)) → EachHaveOrdinals labels paths resolved → AreResolved labels paths resolved
are_resolved labels [] [] all = tt
are_resolved labels [] (r ∷ rs) all = absurd all
are_resolved labels (p ∷ ps) [] all = absurd all
are_resolved labels (p ∷ ps) (r ∷ rs) all = (at_ordinals labels (prefixes p) r all.0, are_resolved labels ps rs all.1)

-- ---- path by path

abbrev pub prefixes_of : List (List (List ℕ)) → List (List (List ℕ))
prefixes_of paths = flat_map prefixes paths

-- none of the prefixes of these paths is missing
pub none_lacking : (labels paths : List (List (List ℕ))) (resolved : List (List ℕ)) → EachHaveOrdinals labels paths resolved → lacking labels (prefixes_of paths) ≡ []
none_lacking labels [] rs all = refl
none_lacking labels (p ∷ ps) [] all = absurd all
none_lacking labels (p ∷ ps) (r ∷ rs) all =
    filter-append (λ q. not (stands labels q)) (prefixes p) (prefixes_of ps) ∙ ap (λ l. l ++ lacking labels (prefixes_of ps)) (none_missing labels (prefixes p) r all.0) ∙ none_lacking labels ps rs all.1

module _ (paths : List (List (List ℕ))) (i : ℕ) (p : List (List ℕ)) (lt : i < length paths) (at : get_or paths i p ≡ p) where
  pub next_path : take (i + 1) paths ≡ take i paths ++ p ∷ []
  next_path = take_more paths i p lt ∙ ap (λ q. take i paths ++ q ∷ []) at

  next_prefixes : prefixes_of (take (i + 1) paths) ≡ prefixes_of (take i paths) ++ prefixes p
  next_prefixes = ap prefixes_of next_path ∙ flat_map-append prefixes (take i paths) (p ∷ []) ∙ ap (λ ps. prefixes_of (take i paths) ++ ps) (append-nil (prefixes p))

  -- all prefixes are those of the paths before, those of this one, and the rest
  pub parted : prefixes_of paths ≡ prefixes_of (take i paths) ++ (prefixes p ++ prefixes_of (drop (i + 1) paths))
  parted =
      ap prefixes_of (sym (take-append-drop (i + 1) paths)) ∙ flat_map-append prefixes (take (i + 1) paths) (drop (i + 1) paths) ∙ ap (λ l. l ++ prefixes_of (drop (i + 1) paths)) next_prefixes
      ∙ append_assoc (prefixes_of (take i paths)) (prefixes p) (prefixes_of (drop (i + 1) paths))

  -- what is entered for this one is in turn too
  pub next_new : (limit n : ℕ) (old now new : Shown (List (List ℕ))) (resolved : List (List ℕ)) → EachHaveOrdinals (labels_of now.seen) (take i paths) resolved
      → now.number ≡ n → new.number ≡ now.number → now.is_note ≡ false → new.is_note ≡ false → Adds p limit now new → IsPrefix now.seen new.seen
      → EachNew n (IsInTurn limit (labels_of now.seen) (prefixes_of paths)) old.seen now.seen → EachNew n (IsInTurn limit (labels_of new.seen) (prefixes_of paths)) old.seen new.seen
  next_new limit n old now new resolved each number same is_now is_new adds more before =
      let none : (seen : List (ℕ × List (List ℕ))) → IsPrefix now.seen seen → lacking (labels_of seen) (prefixes_of (take i paths)) ≡ [] =
      λ seen on. none_lacking (labels_of seen) (take i paths) resolved (each_seen now.seen seen on (take i paths) resolved each) in
      let one = each_one limit (prefixes_of paths) p (prefixes_of (take i paths)) (prefixes_of (drop (i + 1) paths)) now new parted none is_now is_new same adds in
      each_more limit (prefixes_of paths) n old.seen now.seen new.seen more before
      (subst (λ (m : ℕ). EachNew m (IsInTurn limit (labels_of new.seen) (prefixes_of paths)) now.seen new.seen) number one)

  pub each_next : (seen later : List (ℕ × List (List ℕ))) → IsPrefix seen later → (resolved now : List (List ℕ)) (r : List ℕ) → EachHaveOrdinals (labels_of seen) (take i paths) resolved → HaveOrdinals (labels_of later) (prefixes p) r → now ≡ resolved ++ r ∷ [] → EachHaveOrdinals (labels_of later) (take (i + 1) paths) now
  each_next seen later more resolved now r before here pushed =
      subst (λ (rs : List (List ℕ)). EachHaveOrdinals (labels_of later) (take (i + 1) paths) rs) (sym pushed)
      (subst (λ (ps : List (List (List ℕ))). EachHaveOrdinals (labels_of later) ps (resolved ++ r ∷ [])) (sym next_path) (all_zipped_more (IsWhole (labels_of later)) (take i paths) resolved p r (each_seen seen later more (take i paths) resolved before) here))

  pub first_next : (seen later : List (ℕ × List (List ℕ))) → IsPrefix seen later → (found now : List (List ℕ)) (r : List ℕ) → EachHaveFirst (labels_of seen) (take i paths) found → HaveOrdinals (labels_of later) (take (length r) (prefixes p)) r → now ≡ found ++ r ∷ [] → EachHaveFirst (labels_of later) (take (i + 1) paths) now
  first_next seen later more found now r before here pushed =
      subst (λ (rs : List (List ℕ)). EachHaveFirst (labels_of later) (take (i + 1) paths) rs) (sym pushed)
      (subst (λ (ps : List (List (List ℕ))). EachHaveFirst (labels_of later) ps (found ++ r ∷ [])) (sym next_path) (all_zipped_more (IsFirst (labels_of later)) (take i paths) found p r (first_seen seen later more (take i paths) found before) here))

  -- what was found for this one
  pub first_at : (labels : List (List (List ℕ))) (found : List (List ℕ)) (r : List ℕ) → get_or found i r ≡ r → EachHaveFirst labels paths found → HaveOrdinals labels (take (length r) (prefixes p)) r
  first_at labels found r is all = subst (IsFirst labels p) is (subst (λ (q : List (List ℕ)). IsFirst labels q (get_or found i r)) at (zip_at (IsFirst labels) paths found all i p r lt))

  pub each_at : (labels : List (List (List ℕ))) (resolved : List (List ℕ)) (r : List ℕ) → get_or resolved i r ≡ r → EachHaveOrdinals labels paths resolved → HaveOrdinals labels (prefixes p) r
  each_at labels resolved r is all = subst (IsWhole labels p) is (subst (λ (q : List (List ℕ)). IsWhole labels q (get_or resolved i r)) at (zip_at (IsWhole labels) paths resolved all i p r lt))

  pub contained : Contains paths p
  contained = subst (Contains paths) at (Contains-get_or paths i p lt)
