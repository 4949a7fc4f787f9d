-- A piece of a list: at most 1,024 entries from a place on.
use Rattle.std.proofs.Common.{◌≡◌, ℕ, ◌+◌, ◌*◌, ◌-◌, ◌<◌, ◌≤◌, List, length, min, take, drop, get_or, sym, ap, subst, ◌∙◌, arith}
use Rattle.std.proofs.lemmas.List.{length-take, length-drop, get_or-take, get_or-drop}
use Rattle.std.proofs.Math.Nat.{min-le_left, min-le_right}
use Rattle.taxo_list.specs.DimLists.{dims_of, IsDimNumber, DimLists, AreDimLists}

module _ {A : Type 0} (xs : List A) (start : ℕ) where
  pub piece_length : length (take 1024 (drop start xs)) ≡ min 1024 (length xs - start)
  piece_length = length-take 1024 (drop start xs) ∙ ap (min 1024) (length-drop start xs)

  pub piece_entry : (n : ℕ) (d : A) → n < length (take 1024 (drop start xs)) → get_or (take 1024 (drop start xs)) n d ≡ get_or xs (start + n) d
  piece_entry n d lt = get_or-take 1024 (drop start xs) n d (omega (arith, lt, piece_length, min-le_left 1024 (length xs - start))) ∙ get_or-drop start xs n d

-- as long a piece as that of another list of the same length
pub same_length : {A B : Type 0} (xs : List A) (ys : List B) (start : ℕ) → length xs ≡ length ys → length (take 1024 (drop start xs)) ≡ length (take 1024 (drop start ys))
same_length xs ys start same = piece_length xs start ∙ ap (λ n. min 1024 (n - start)) same ∙ sym (piece_length ys start)

-- the places of the dimensions of a piece of labels
pub piece_numbers : (labels : List (List (List ℕ))) (lists : DimLists) → AreDimLists labels (length labels) lists → (start : ℕ) (part : List ℕ) → part ≡ take 1024 (drop start lists.numbers)
    → (n : ℕ) → n < length part → 0 < start + n → IsDimNumber labels (dims_of labels) (start + n) (get_or part n 0)
piece_numbers labels lists are start part is n lt some =
    let within : n < length (take 1024 (drop start lists.numbers)) = omega (arith, lt, ap length is) in
    let below : start + n < length labels = omega (arith, within, piece_length lists.numbers start, min-le_right 1024 (length lists.numbers - start), are.as_many) in
    let entry : get_or part n 0 ≡ get_or lists.numbers (start + n) 0 = ap (λ l. get_or l n 0) is ∙ piece_entry lists.numbers start n 0 within in
    subst (IsDimNumber labels (dims_of labels) (start + n)) (sym entry) (subst (λ dims. IsDimNumber labels dims (start + n) (get_or lists.numbers (start + n) 0)) are.dims (are.each (start + n) some below))
