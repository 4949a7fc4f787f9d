-- Loops that read one segment after the other.
use Rattle.std.proofs.Common.{◌≡◌, ℕ, zero, suc, ◌+◌, ◌≤◌, ◌<◌, List, [], ◌∷◌, ◌++◌, length, drop, get_or, Result, Ok, Err, refl, sym, ap, subst, ◌∙◌, arith, append_assoc}
use Rattle.std.proofs.lemmas.List.{drop_all, append-nil}
use Rattle.facet_codec.specs.Reading.{◌>>=◌}
use Rattle.facet_model.specs.Flags.{Config}
use Rattle.facet_model.specs.Stored.{Records}
use Rattle.commit_file.specs.declared.taxonomy.LabelPart.{LabelPart}
use Rattle.commit_file.specs.LiveParts.{LivePart}
use Rattle.commit_file.specs.Commits.{AreInOrder, end_of}
use Rattle.store_opening.specs.declared.fault.OpenFault.{OpenFault}
use Rattle.store_opening.specs.Files.{Segments, labels_behind, labels_of, segment_of, segments_of}

-- the next element and those behind it
pub drop_at : {A : Type 0} (xs : List A) (i : ℕ) (d : A) → i < length xs → drop i xs ≡ get_or xs i d ∷ drop (i + 1) xs
drop_at [] i d lt = absurd (omega (arith, lt))
drop_at (x ∷ xs) zero d lt = refl
drop_at (x ∷ xs) (suc i) d lt =
    let n : suc i + 1 ≡ suc (i + 1) = omega arith in
    rw n (drop_at xs i d (omega (arith, lt)))

-- the same, given that element
item_at : {A : Type 0} (xs : List A) (i : ℕ) (x : A) → i < length xs → x ≡ get_or xs i x → drop i xs ≡ x ∷ drop (i + 1) xs
item_at xs i x lt is = drop_at xs i x lt ∙ ap (λ y. y ∷ drop (i + 1) xs) (sym is)

-- ---- labels

module _ (segments : Segments) (known : List (List (List ℕ))) (parts : List LabelPart) (i : ℕ) (d : LabelPart) where
  pub labels_more : (longer : List (List (List ℕ))) (whole : Result (List (List (List ℕ))) OpenFault) → i < length parts → labels_behind segments known (get_or parts i d) ≡ Ok longer → labels_of segments known (drop i parts) ≡ whole → labels_of segments longer (drop (i + 1) parts) ≡ whole
  unfolding labels_of
  labels_more longer whole lt e read = sym (ap (labels_of segments known) (drop_at parts i d lt) ∙ ap (λ (r : Result (List (List (List ℕ))) OpenFault). r >>= λ l. labels_of segments l (drop (i + 1) parts)) e) ∙ read

  pub labels_fail : (fault : OpenFault) (whole : Result (List (List (List ℕ))) OpenFault) → i < length parts → labels_behind segments known (get_or parts i d) ≡ Err fault → labels_of segments known (drop i parts) ≡ whole → whole ≡ Err fault
  unfolding labels_of
  labels_fail fault whole lt e read = sym read ∙ ap (labels_of segments known) (drop_at parts i d lt) ∙ ap (λ (r : Result (List (List (List ℕ))) OpenFault). r >>= λ l. labels_of segments l (drop (i + 1) parts)) e

  pub labels_end : (whole : Result (List (List (List ℕ))) OpenFault) → length parts ≤ i → labels_of segments known (drop i parts) ≡ whole → whole ≡ Ok known
  unfolding labels_of
  labels_end whole le read = sym read ∙ ap (labels_of segments known) (drop_all i parts le)

pub order_at : (total start : ℕ) (parts : List LabelPart) (i : ℕ) (d : LabelPart) → i < length parts → AreInOrder total start (drop i parts) → ((get_or parts i d).first ≡ start) × AreInOrder total (end_of (get_or parts i d)) (drop (i + 1) parts)
order_at total start parts i d lt order = subst (AreInOrder total start) (drop_at parts i d lt) order

pub order_low : (total start : ℕ) (parts : List LabelPart) → AreInOrder total start parts → start ≤ total
order_low total start [] order = omega (arith, order)
order_low total start (part ∷ parts) order = let low = order_low total (end_of part) parts order.1 in omega (arith, low, order.0)

-- ---- segments of documents

-- what is still to be read, behind what was read
abbrev pub behind : List Records → Result (List Records) OpenFault → Result (List Records) OpenFault
behind front r = r >>= λ xs. Ok (front ++ xs)

module _ (config : Config) (labels : List (List (List ℕ))) (needs : ℕ) (segments : Segments) (parts : List LivePart) (front : List Records) where
  regroup : (x : Records) (r : Result (List Records) OpenFault) → behind (front ++ x ∷ []) r ≡ behind front (r >>= λ others. Ok (x ∷ others))
  regroup x (Ok ys) = ap (λ (xs : List Records). Ok xs) (append_assoc front (x ∷ []) ys)
  regroup x (Err e) = refl

  pub segments_end : (whole : Result (List Records) OpenFault) (i : ℕ) → length parts ≤ i → behind front (segments_of config labels needs segments (drop i parts)) ≡ whole → whole ≡ Ok front
  unfolding segments_of
  segments_end whole i le read = sym read ∙ ap (λ (xs : List LivePart). behind front (segments_of config labels needs segments xs)) (drop_all i parts le) ∙ ap (λ (xs : List Records). Ok xs) (append-nil front)

  module _ (i : ℕ) (p : LivePart) (lt : i < length parts) (is : p ≡ get_or parts i p) where
    pub segments_more : (x : Records) (whole : Result (List Records) OpenFault) → segment_of config labels needs segments p ≡ Ok x
        → behind front (segments_of config labels needs segments (drop i parts)) ≡ whole → behind (front ++ x ∷ []) (segments_of config labels needs segments (drop (i + 1) parts)) ≡ whole
    unfolding segments_of
    segments_more x whole e read = regroup x (segments_of config labels needs segments (drop (i + 1) parts))
        ∙ ap (behind front) (sym (ap (segments_of config labels needs segments) (item_at parts i p lt is) ∙ ap (λ (r : Result Records OpenFault). r >>= λ y. segments_of config labels needs segments (drop (i + 1) parts) >>= λ others. Ok (y ∷ others)) e))
        ∙ read

    pub segments_fail : (fault : OpenFault) (whole : Result (List Records) OpenFault) → segment_of config labels needs segments p ≡ Err fault
        → behind front (segments_of config labels needs segments (drop i parts)) ≡ whole → whole ≡ Err fault
    unfolding segments_of
    segments_fail fault whole e read = sym read ∙ ap (behind front) (ap (segments_of config labels needs segments) (item_at parts i p lt is) ∙ ap (λ (r : Result Records OpenFault). r >>= λ y. segments_of config labels needs segments (drop (i + 1) parts) >>= λ others. Ok (y ∷ others)) e)
