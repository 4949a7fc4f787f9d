-- Lists that are made number by number, and labels that are the same after sixty documents.
use Rattle.std.proofs.Common.{◌≡◌, ◌∙◌, ℕ, ◌+◌, ◌%◌, ◌++◌, List, [], ◌∷◌, map, length, get_or, refl, sym, ap, ap₂, arith}
use Rattle.std.specs.List.{range_with_len}
use Rattle.std.proofs.lemmas.List.{get_or-map, length-map, map_push}
use Rattle.std.proofs.lemmas.List.FromFn.{get_or-map-range_with_len, length-map-range_with_len, map-range_with_len_more}
use Rattle.generator.specs.Generated.{generated_labels}

pub pushed : {X Y : Type 0} (view : X → Y) (f : ℕ → Y) (xs ys : List X) (x : X) (n : ℕ) → ys ≡ xs ++ x ∷ []
    → map view xs ≡ map f (range_with_len 0 n) → view x ≡ f n → map view ys ≡ map f (range_with_len 0 (n + 1))
pushed view f xs ys x n is before last =
    ap (map view) is ∙ map_push view xs x ∙ ap₂ (λ l y. l ++ y ∷ []) before last ∙ sym (map-range_with_len_more f 0 n n (omega arith))

periodic : (i : ℕ) → generated_labels (i % 60) ≡ generated_labels i
unfolding generated_labels
periodic i =
    let tens : i % 60 % 10 ≡ i % 10 = omega arith in
    let fours : i % 60 % 4 ≡ i % 4 = omega arith in
    let threes : i % 60 % 3 ≡ i % 3 = omega arith in
    let twos : i % 60 % 2 ≡ i % 2 = omega arith in
    let fives : i % 60 % 5 ≡ i % 5 = omega arith in
    rw (tens, fours, threes, twos, fives) refl

pub within : {X Y : Type 0} (view : X → Y) (f : ℕ → Y) (xs : List X) (n : ℕ) → map view xs ≡ map f (range_with_len 0 n) → length xs ≡ n
within view f xs n are = sym (length-map xs view) ∙ ap length are ∙ length-map-range_with_len f 0 n

pub copied_labels : {X : Type 0} (view : X → List (List (List ℕ))) (xs : List X) (x : X) (i : ℕ) → map view xs ≡ map generated_labels (range_with_len 0 60)
    → x ≡ get_or xs (i % 60) x → view x ≡ generated_labels i
copied_labels view xs x i are at =
    let few : length xs ≡ 60 = within view generated_labels xs 60 are in
    ap view at ∙ sym (get_or-map view xs (i % 60) x (view x) (omega (arith, few)))
    ∙ ap (λ l. get_or l (i % 60) (view x)) are
    ∙ get_or-map-range_with_len generated_labels 0 60 (i % 60) (i % 60) (view x) (omega arith) (omega arith)
    ∙ periodic i
