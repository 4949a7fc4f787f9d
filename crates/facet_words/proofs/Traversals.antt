-- Lists of options, gone over one by one.
use Rattle.std.proofs.Common.{◌≡◌, ℕ, suc, ◌+◌, ◌<◌, ◌≤◌, List, [], ◌∷◌, ◌++◌, length, map, drop, get_or, Option, Some, None, option_map, refl, sym, ap, ◌∙◌, arith, append_assoc}
use Rattle.serde_json.specs.View.{items_view, view}
use Rattle.serde_json.specs.Data.{Data}
use Rattle.serde_json.specs.declared.value.Value.{Value}
use Rattle.std.proofs.lemmas.Bool.{le-leb}
use Rattle.std.proofs.lemmas.List.{append-nil, drop_all, length-append, drop_more, map_push}
use Rattle.serde_json.specs.Find.{as_array}
use Rattle.facet_words.specs.Shapes.{all_some, items_list, list_of, list_within}

-- a shape of the items of an array, and of the values that they are
pub items_map : {A : Type 0} (f : Data → A) (vs : List Value) → map f (items_list (items_view vs)) ≡ map (λ v. f (view v)) vs
items_map f [] = refl
items_map f (v ∷ vs) = ap (λ (xs : List _). f (view v) ∷ xs) (items_map f vs)

pub items_length : (vs : List Value) → length (items_list (items_view vs)) ≡ length vs
items_length [] = refl
items_length (v ∷ vs) = ap (λ (n : ℕ). suc n) (items_length vs)

-- `done` is what the options before `rest` hold
pub record IsPart {A : Type 0} (done : List A) (rest all : List (Option A)) : Type 0 where
  pub is : option_map (λ xs. done ++ xs) (all_some rest) ≡ all_some all

longer : {A : Type 0} (done : List A) (x : A) (r : Option (List A)) → option_map (λ xs. (done ++ x ∷ []) ++ xs) r ≡ option_map (λ xs. done ++ xs) (option_map (λ xs. x ∷ xs) r)
longer done x None = refl
longer done x (Some xs) = ap (λ (ys : List _). Some ys) (append_assoc done (x ∷ []) xs)

-- one more value has the shape
pub read_more : {A B : Type 0} (plain : B → A) (shape : Value → Option A) (list : List Value) (i : ℕ) (d : Value) (out new : List B) (x : B) → IsPart (map plain out) (map shape (drop i list)) (map shape list) → i < length list
    → shape (get_or list i d) ≡ Some (plain x) → new ≡ out ++ x ∷ [] → IsPart (map plain new) (map shape (drop (i + 1) list)) (map shape list)
read_more plain shape list i d out new x part lt e is =
    let rest = map shape (drop (i + 1) list) in
    let here : map shape (drop i list) ≡ Some (plain x) ∷ rest = ap (map shape) (drop_more list i d lt) ∙ ap (λ (o : Option _). o ∷ rest) e in
    let now : map plain new ≡ map plain out ++ plain x ∷ [] = ap (map plain) is ∙ map_push plain out x in
    record { is = ap (λ (ys : List _). option_map (λ xs. ys ++ xs) (all_some rest)) now ∙ longer (map plain out) (plain x) (all_some rest) ∙ ap (λ (os : List (Option _)). option_map (λ xs. map plain out ++ xs) (all_some os)) (sym here) ∙ part.is }

pub one_longer : {A : Type 0} (out new : List A) (x : A) (i : ℕ) → new ≡ out ++ x ∷ [] → length out ≡ i → length new ≡ i + 1
one_longer out new x i is long = omega (arith, ap length is, length-append out (x ∷ []), long)

-- all values have it
pub read_all : {A B : Type 0} (plain : B → A) (shape : Value → Option A) (list : List Value) (i : ℕ) (out : List B) → IsPart (map plain out) (map shape (drop i list)) (map shape list) → length list ≤ i
    → Some (map plain out) ≡ all_some (map shape list)
read_all plain shape list i out part le =
    ap (λ (ys : List _). Some ys) (sym (append-nil (map plain out))) ∙ ap (λ (vs : List Value). option_map (λ xs. map plain out ++ xs) (all_some (map shape vs))) (sym (drop_all i list le)) ∙ part.is

-- an array of a length within the limits, read in a shape
pub list_read : {A : Type 0} (shape : Data → Option A) (vs : List Value) (d : Data) (low high : ℕ) → Some (items_view vs) ≡ as_array d → low ≤ length vs → length vs ≤ high
    → all_some (map (λ v. shape (view v)) vs) ≡ list_within low high shape d
list_read shape vs d low high is above below =
    rw (← is, items_length vs, le-leb low (length vs) above, le-leb (length vs) high below, items_map shape vs) refl

-- an array of any length, read in a shape
pub any_list_read : {A : Type 0} (shape : Data → Option A) (vs : List Value) (d : Data) → Some (items_view vs) ≡ as_array d → all_some (map (λ v. shape (view v)) vs) ≡ list_of shape d
any_list_read shape vs d is = rw (← is, items_map shape vs) refl
