-- Lists that rise, and lists of such.
use Rattle.std.proofs.Common.{◌≡◌, ◌∙◌, ℕ, suc, ◌<◌, Bool, true, false, eqb, ◌||◌, List, [], ◌∷◌, length, get_or, refl, sym, ap, arith}
use Rattle.std.specs.List.{AllByRecursion}
use Rattle.std.proofs.lemmas.Bool.{eqb-true}
use Rattle.std.proofs.lemmas.List.Elements.{All-from_recursion}
use Rattle.seg_postings.specs.Rising.{IsBelowAll, IsRising, is_in}
use Rattle.seg_postings.specs.Sets.{either}
use Rattle.seg_postings.proofs.Members.{is_in-either}
use Rattle.place_bits.specs.Words.{Marked, with_places}
use Rattle.facet_model.specs.Flags.{Config}
use Rattle.facet_counts.specs.Lists.{IsCounted}
use Rattle.label_tests.specs.Columns.{MayBeListed}

below_all : (x : ℕ) (xs : List ℕ) → ((j : ℕ) → j < length xs → x < get_or xs j 0) → IsBelowAll x xs
below_all x [] h = tt
below_all x (y ∷ ys) h = (h 0 (omega arith), below_all x ys (λ j l. h (suc j) (omega arith)))

pub rises : (xs : List ℕ) → ((i j : ℕ) → i < j → j < length xs → get_or xs i 0 < get_or xs j 0) → IsRising xs
rises [] h = tt
rises (x ∷ xs) h = (below_all x xs (λ j l. h 0 (suc j) (omega arith) (omega arith)), rises xs (λ i j l k. h (suc i) (suc j) (omega arith) (omega arith)))

pub all_weaker : (P Q : List ℕ → Type 0) (xs : List (List ℕ)) → ((x : List ℕ) → P x → Q x) → AllByRecursion P xs → AllByRecursion Q xs
all_weaker P Q [] f h = tt
all_weaker P Q (x ∷ xs) f h = (f x h.0, all_weaker P Q xs f h.1)

-- ---- a set of some of 130 documents

abbrev pub IsChosen : Marked → Type 0
IsChosen set = (set.words ≡ 3) × ((n : ℕ) → is_in n set.places ≡ true → n < 130)

either_below : (n doc : ℕ) (b : Bool) → doc < 130 → (b ≡ true → n < 130) → ((eqb n doc || false) || b) ≡ true → n < 130
either_below n doc b l h i = by (eqb n doc) refl i
  where
    by : (e : Bool) → eqb n doc ≡ e → ((e || false) || b) ≡ true → n < 130
    by true e i = omega (arith, l, eqb-true n doc e)
    by false e i = h i

pub one_chosen : (doc : ℕ) (old new : Marked) → new ≡ with_places (either (doc ∷ []) old.places) old → doc < 130 → IsChosen old → IsChosen new
one_chosen doc old new is l h = (
  ap (λ (m : Marked). m.words) is ∙ h.0,
  λ n i. either_below n doc (is_in n old.places) l (h.1 n) (sym (is_in-either n (doc ∷ []) old.places) ∙ sym (ap (λ (m : Marked). is_in n m.places) is) ∙ i),
)

-- ---- lists that may be counted

pub list_counted : (config : Config) (labels : List (List (List ℕ))) (lists : List (List ℕ)) → AllByRecursion (MayBeListed config labels) lists → (n : ℕ) → n < length lists → IsCounted config labels (get_or lists n [])
list_counted config labels lists all n l = (All-from_recursion (MayBeListed config labels) lists all n [] l).counted

pub lists_rise : (config : Config) (labels : List (List (List ℕ))) (lists : List (List ℕ)) → AllByRecursion (MayBeListed config labels) lists → AllByRecursion IsRising lists
lists_rise config labels lists all = all_weaker (MayBeListed config labels) IsRising lists (λ x h. h.rising) all
