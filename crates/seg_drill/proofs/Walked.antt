-- Counting records one after the other.
use Rattle.std.proofs.Common.{◌≡◌, ℕ, zero, suc, ◌+◌, ◌<◌, List, [], ◌∷◌, ◌++◌, get_or, length, map, refl, sym, ap, subst, ◌∙◌, arith, append_assoc}
use Rattle.std.proofs.lemmas.List.{length-append, length-map, map_push}
use Rattle.facet_model.specs.Stored.{Records, Stored}
use Rattle.facet_counts.specs.Lists.{IsCounted}
use Rattle.facet_counts.specs.Tallies.{Tally, HasAdded}
use Rattle.seg_grammar.specs.Lookups.{record_of}
use Rattle.seg_drill.specs.Counting.{AreCountable, AreWithin, IsGrown, lists_at}
use Rattle.seg_postings.proofs.Members.{here_in, later_in}

-- the first place has a record, and the others are still within
pub within_first : (segment : Records) (x : ℕ) (xs : List ℕ) → AreWithin segment (x ∷ xs) → x < length segment.records
within_first segment x xs within = within.within x (here_in x xs)

pub within_rest : (segment : Records) (x : ℕ) (xs : List ℕ) → AreWithin segment (x ∷ xs) → AreWithin segment xs
within_rest segment x xs within = record { rising = within.rising.1; within = λ n among. within.within n (later_in n x xs among) }

pub grown_more : (a b c : Tally) (xs ys : List (List ℕ)) → IsGrown a b xs → IsGrown b c ys → IsGrown a c (xs ++ ys)
grown_more a b c xs ys first second = record {
  added = λ before has. subst (HasAdded c) (append_assoc before xs ys) (second.added (before ++ xs) (first.added before has));
  number = second.number ∙ omega (arith, first.number, length-append xs ys);
  labels = second.labels ∙ first.labels;
  config = second.config ∙ first.config;
}

pub grown_one : (a b : Tally) (list : List ℕ) → ((before : List (List ℕ)) → HasAdded a before → HasAdded b (before ++ list ∷ [])) → b.added ≡ a.added + 1 → b.labels ≡ a.labels → b.config ≡ a.config → IsGrown a b (list ∷ [])
grown_one a b list added number labels config = record { added = added; number = number ∙ omega arith; labels = labels; config = config }

-- a record may be counted, also when others were
pub countable_later : (segment : Records) (before now : Tally) (lists : List (List ℕ)) (doc : ℕ) → AreCountable before.config before.labels segment → IsGrown before now lists → doc < length segment.records → IsCounted now.config now.labels (record_of segment doc).counted
countable_later segment before now lists doc countable grown lt =
    subst (λ c. IsCounted c now.labels (record_of segment doc).counted) (sym grown.config) (subst (λ l. IsCounted before.config l (record_of segment doc).counted) (sym grown.labels) (countable doc lt))

-- Of all places these are left, and the others were counted.
pub record IsWalked (segment : Records) (all left : List ℕ) (before now : Tally) (number : ℕ) : Type 0 where
  pub done : List ℕ
  pub split : all ≡ done ++ left
  pub grown : IsGrown before now (lists_at segment done)
  pub as_many : number ≡ length done
  pub within : AreWithin segment left

pub walked_more : (segment : Records) (all left rest : List ℕ) (before now next : Tally) (number place : ℕ) → IsWalked segment all left before now number → left ≡ place ∷ rest
    → IsGrown now next ((record_of segment place).counted ∷ []) → IsWalked segment all rest before next (number + 1)
walked_more segment all left rest before now next number place walked is grown = record {
  done = walked.done ++ place ∷ [];
  split = walked.split ∙ ap (λ xs. walked.done ++ xs) is ∙ sym (append_assoc walked.done (place ∷ []) rest);
  grown = subst (IsGrown before next) (sym (map_push (λ p. (record_of segment p).counted) walked.done place)) (grown_more before now next (lists_at segment walked.done) ((record_of segment place).counted ∷ []) walked.grown grown);
  as_many = omega (arith, walked.as_many, length-append walked.done (place ∷ []));
  within = within_rest segment place rest (subst (AreWithin segment) is walked.within);
}

-- the next place of a walk has a record that may be counted, and there is room
pub walked_record : (segment : Records) (all left rest : List ℕ) (before now : Tally) (number place : ℕ) → IsWalked segment all left before now number → left ≡ place ∷ rest → place < length segment.records
walked_record segment all left rest before now number place walked is = within_first segment place rest (subst (AreWithin segment) is walked.within)

-- ---- by the column

-- the list of a place is that of its record
pub list_at : (segment : Records) (column : List (List ℕ)) (n : ℕ) → column ≡ map (λ r. r.counted) segment.records → get_or column n [] ≡ (record_of segment n).counted
list_at segment column n is = ap (λ (lists : List (List ℕ)). get_or lists n []) is ∙ counted_at segment.records n
  where
    counted_at : (rs : List Stored) (n : ℕ) → get_or (map (λ (r : Stored). r.counted) rs) n [] ≡ (get_or rs n (record { id = []; text = []; leaves = []; counted = [] })).counted
    counted_at [] n = refl
    counted_at (r ∷ rs) zero = refl
    counted_at (r ∷ rs) (suc n) = counted_at rs n

pub lists_in : (segment : Records) (column : List (List ℕ)) (places : List ℕ) → column ≡ map (λ r. r.counted) segment.records → map (λ n. get_or column n []) places ≡ lists_at segment places
lists_in segment column places is i = map (λ n. list_at segment column n is i) places

pub grown_by_column : (segment : Records) (column : List (List ℕ)) (places : List ℕ) (a b : Tally) → column ≡ map (λ r. r.counted) segment.records
    → ((lists : List (List ℕ)) → HasAdded a lists → HasAdded b (lists ++ map (λ n. get_or column n []) places)) → b.added ≡ a.added + length places → b.labels ≡ a.labels → b.config ≡ a.config → IsGrown a b (lists_at segment places)
grown_by_column segment column places a b is added number labels config = record {
  added = λ before has. subst (λ (lists : List (List ℕ)). HasAdded b (before ++ lists)) (lists_in segment column places is) (added before has);
  number = number ∙ omega (arith, length-map places (λ place. (record_of segment place).counted));
  labels = labels;
  config = config;
}
