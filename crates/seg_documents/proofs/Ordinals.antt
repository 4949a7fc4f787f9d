-- Ordinals that were given stay, where a list of labels goes on.
use Rattle.std.proofs.Common.{◌≡◌, ℕ, ◌+◌, ◌<◌, true, List, [], ◌∷◌, ◌++◌, length, take, map, get_or, slice_get, Some, refl, sym, ap, subst, ◌∙◌, arith}
use Rattle.std.specs.List.{list_all, AllZip}
use Rattle.std.proofs.lemmas.Bool.{and_from}
use Rattle.std.proofs.lemmas.List.{map_push, take_more, length-map, get_or-take}
use Rattle.std.proofs.lemmas.List.Folds.{list_any_at}
use Rattle.std.proofs.lemmas.List.FromFn.{length-map-range_with_len}
use Rattle.std.proofs.lemmas.Option.{slice_get-get_or, get_or_from_slice_get, slice_get_within}
use Rattle.facet_names.specs.Paths.{path_eq, path_eq_equiv}
use Rattle.facet_names.specs.Labels.{GoesOn, prefixes, stands}
use Rattle.facet_names.proofs.LabelLists.{Labels}
use Rattle.facet_model.specs.CountedPaths.{AreResolved}
use Rattle.facet_config.specs.Expanding.{AreAsLong}
use Rattle.std.proofs.lemmas.Slice.Zip.{all_zipped_more}

-- the ordinals are those of these paths
abbrev pub AreAt : Labels → List ℕ → Labels → Type 0
AreAt labels ords paths = map (slice_get labels) ords ≡ map Some paths

one_stays : (a b : Labels) → GoesOn a b → (o : ℕ) (p : List (List ℕ)) → slice_get a o ≡ Some p → slice_get b o ≡ Some p
one_stays a b on o p at =
    let lt : o < length a = slice_get_within a o p at in
    slice_get-get_or b o p (omega (arith, on.0)) ∙ ap Some (sym (get_or-take (length a) b o p lt) ∙ ap (λ (l : Labels). get_or l o p) on.1 ∙ get_or_from_slice_get a o p p at)

pub all_stay : (a b : Labels) → GoesOn a b → (ords : List ℕ) (paths : Labels) → AreAt a ords paths → AreAt b ords paths
all_stay a b on [] [] at = refl
all_stay a b on [] (p ∷ ps) at = absurd cc
all_stay a b on (o ∷ os) [] at = absurd cc
all_stay a b on (o ∷ os) (p ∷ ps) at =
    let head : slice_get a o ≡ Some p = cc in
    let tail : map (slice_get a) os ≡ map Some ps = cc in
    let here : slice_get b o ≡ Some p = one_stays a b on o p head in
    let rest : map (slice_get b) os ≡ map Some ps = all_stay a b on os ps tail in
    λ i. here i ∷ rest i

-- one ordinal more
pub one_ordinal_more : (labels : Labels) (ords now : List ℕ) (paths : Labels) (n o : ℕ) (p : List (List ℕ)) → n < length paths → get_or paths n p ≡ p → AreAt labels ords (take n paths) → slice_get labels o ≡ Some p → now ≡ ords ++ o ∷ [] → AreAt labels now (take (n + 1) paths)
one_ordinal_more labels ords now paths n o p lt here before at pushed =
    ap (map (slice_get labels)) pushed ∙ map_push (slice_get labels) ords o ∙ (λ i. before i ++ at i ∷ []) ∙ sym (map_push Some (take n paths) p) ∙ ap (map Some) (ap (λ q. take n paths ++ q ∷ []) (sym here) ∙ sym (take_more paths n p lt))

-- ---- path by path

pub resolved_stay : (a b : Labels) → GoesOn a b → (paths : Labels) (resolved : List (List ℕ)) → AreResolved a paths resolved → AreResolved b paths resolved
resolved_stay a b on [] [] at = tt
resolved_stay a b on [] (r ∷ rs) at = absurd at
resolved_stay a b on (p ∷ ps) [] at = absurd at
resolved_stay a b on (p ∷ ps) (r ∷ rs) at = (all_stay a b on r (prefixes p) at.0, resolved_stay a b on ps rs at.1)

pub one_path_resolved : (a b : Labels) → GoesOn a b → (paths : Labels) (resolved now : List (List ℕ)) (i : ℕ) (p : List (List ℕ)) (r : List ℕ) → i < length paths → get_or paths i p ≡ p → AreResolved a (take i paths) resolved → AreAt b r (prefixes p) → now ≡ resolved ++ r ∷ []
    → AreResolved b (take (i + 1) paths) now
one_path_resolved a b on paths resolved now i p r lt here before at pushed =
    let R : List (List ℕ) → List ℕ → Type 0 = λ label ords. AreAt b ords (prefixes label) in
    let taken : take (i + 1) paths ≡ take i paths ++ p ∷ [] = take_more paths i p lt ∙ ap (λ q. take i paths ++ q ∷ []) here in
    subst (λ (rs : List (List ℕ)). AllZip R (take (i + 1) paths) rs) (sym pushed) (subst (λ (ps : Labels). AllZip R ps (resolved ++ r ∷ [])) (sym taken) (all_zipped_more R (take i paths) resolved p r (resolved_stay a b on (take i paths) resolved before) at))

-- there are as many ordinals as components
pub resolved_as_long : (labels paths : Labels) (resolved : List (List ℕ)) → AreResolved labels paths resolved → AreAsLong paths resolved
resolved_as_long labels [] [] at = tt
resolved_as_long labels [] (r ∷ rs) at = absurd at
resolved_as_long labels (p ∷ ps) [] at = absurd at
resolved_as_long labels (p ∷ ps) (r ∷ rs) at = (sym (length-map r (slice_get labels)) ∙ ap length at.0 ∙ length-map (prefixes p) Some ∙ length-map-range_with_len (λ n. take n p) 1 (length p), resolved_as_long labels ps rs at.1)

-- paths that have ordinals stand in the list
pub known_at : (labels : Labels) (ords : List ℕ) (paths : Labels) → AreAt labels ords paths → list_all (stands labels) paths ≡ true
known_at labels [] [] at = refl
known_at labels [] (p ∷ ps) at = absurd cc
known_at labels (o ∷ os) [] at = absurd cc
known_at labels (o ∷ os) (p ∷ ps) at =
    let head : slice_get labels o ≡ Some p = cc in
    let tail : map (slice_get labels) os ≡ map Some ps = cc in
    let here : stands labels p ≡ true = list_any_at (path_eq p) labels o p (slice_get_within labels o p head) (ap (path_eq p) (get_or_from_slice_get labels o p p head) ∙ path_eq_equiv.refl p) in
    and_from (stands labels p) (list_all (stands labels) ps) here (known_at labels os ps tail)

pub resolved_known : (labels paths : Labels) (resolved : List (List ℕ)) → AreResolved labels paths resolved → list_all (λ path. list_all (stands labels) (prefixes path)) paths ≡ true
resolved_known labels [] [] at = refl
resolved_known labels [] (r ∷ rs) at = absurd at
resolved_known labels (p ∷ ps) [] at = absurd at
resolved_known labels (p ∷ ps) (r ∷ rs) at = and_from (list_all (stands labels) (prefixes p)) (list_all (λ path. list_all (stands labels) (prefixes path)) ps) (known_at labels r (prefixes p) at.0) (resolved_known labels ps rs at.1)
