-- The definitions, computed on the labels of five books and on some term texts.
use Rattle.std.proofs.Common.{arith}
use Rattle.std.specs.Prelude.{◌≡◌, ℕ, pos, negsuc, List, [], ◌∷◌, codes, map, refl, None}
use Rattle.std.specs.List.{range_with_len}
use Rattle.facet_names.specs.Paths.{parent_of}
use Rattle.facet_names.specs.Labels.{IsLabelList, above}
use Rattle.facet_names.specs.Terms.{escaped, term_text, IsTermText}
use Rattle.facet_names.specs.declared.fault.PathFault.TheVariants.{EmptyPart}
use Rattle.facet_names.proofs.TermTexts.{read, joined_of_no_path, joined_of_nothing}
use Rattle.facet_names.specs.Arrays.{parent_at, child_at, sibling_at, or_none}

-- the labels of the five books, in the order in which they were added
abbrev books : List (List (List ℕ))
books = [] ∷ (codes "Author" ∷ []) ∷ (codes "Author" ∷ codes "Bob" ∷ []) ∷ (codes "Publish Date" ∷ []) ∷ (codes "Publish Date" ∷ codes "2010" ∷ []) ∷ (codes "Publish Date" ∷ codes "2010" ∷ codes "10" ∷ [])
    ∷ (codes "Publish Date" ∷ codes "2010" ∷ codes "10" ∷ codes "15" ∷ []) ∷ (codes "Author" ∷ codes "Lisa" ∷ []) ∷ (codes "Publish Date" ∷ codes "2010" ∷ codes "10" ∷ codes "20" ∷ []) ∷ (codes "Publish Date" ∷ codes "2012" ∷ [])
    ∷ (codes "Publish Date" ∷ codes "2012" ∷ codes "1" ∷ []) ∷ (codes "Publish Date" ∷ codes "2012" ∷ codes "1" ∷ codes "1" ∷ []) ∷ (codes "Author" ∷ codes "Susan" ∷ []) ∷ (codes "Publish Date" ∷ codes "2012" ∷ codes "1" ∷ codes "7" ∷ [])
    ∷ (codes "Author" ∷ codes "Frank" ∷ []) ∷ (codes "Publish Date" ∷ codes "1999" ∷ []) ∷ (codes "Publish Date" ∷ codes "1999" ∷ codes "5" ∷ []) ∷ (codes "Publish Date" ∷ codes "1999" ∷ codes "5" ∷ codes "5" ∷ []) ∷ []

books_are_labels : IsLabelList books
books_are_labels = refl

parents : map (λ i. or_none (parent_at books i)) (range_with_len 0 18) ≡ negsuc 0 ∷ pos 0 ∷ pos 1 ∷ pos 0 ∷ pos 3 ∷ pos 4 ∷ pos 5 ∷ pos 1 ∷ pos 5 ∷ pos 3 ∷ pos 9 ∷ pos 10 ∷ pos 1 ∷ pos 10 ∷ pos 1 ∷ pos 3 ∷ pos 15 ∷ pos 16 ∷ []
parents = refl

children : map (λ i. or_none (child_at books i)) (0 ∷ 1 ∷ 3 ∷ []) ≡ pos 3 ∷ pos 14 ∷ pos 15 ∷ []
unfolding Rattle.facet_names.specs.Arrays.greatest
children = refl

siblings : map (λ i. or_none (sibling_at books i)) (3 ∷ 1 ∷ 14 ∷ 12 ∷ 7 ∷ 2 ∷ 15 ∷ 9 ∷ 4 ∷ []) ≡ pos 1 ∷ negsuc 0 ∷ pos 12 ∷ pos 7 ∷ pos 2 ∷ negsuc 0 ∷ pos 9 ∷ pos 4 ∷ negsuc 0 ∷ []
unfolding Rattle.facet_names.specs.Arrays.greatest
siblings = refl

-- ---- parents

above_three : above (codes "A" ∷ codes "x" ∷ codes "y" ∷ []) ≡ codes "A" ∷ codes "x" ∷ []
above_three = refl

above_one : parent_of (codes "A" ∷ []) ≡ None
above_one = refl

-- ---- term texts

both_escaped : term_text (codes "A" ∷ (0x78 ∷ 0x1f ∷ 0x79 ∷ 0x1e ∷ 0x7a ∷ []) ∷ []) ≡ 0x41 ∷ 0x1f ∷ 0x78 ∷ 0x1e ∷ 0x1f ∷ 0x79 ∷ 0x1e ∷ 0x1e ∷ 0x7a ∷ []
unfolding term_text escaped
both_escaped = refl

three_parts : term_text (codes "A" ∷ codes "x" ∷ codes "y" ∷ []) ≡ 0x41 ∷ 0x1f ∷ 0x78 ∷ 0x1f ∷ 0x79 ∷ []
unfolding term_text escaped
three_parts = refl

separator_escaped : term_text (codes "A" ∷ (0x78 ∷ 0x1f ∷ 0x79 ∷ []) ∷ []) ≡ 0x41 ∷ 0x1f ∷ 0x78 ∷ 0x1e ∷ 0x1f ∷ 0x79 ∷ []
unfolding term_text escaped
separator_escaped = refl

escape_at_end : (path : List (List ℕ)) → ¬ IsTermText (0x41 ∷ 0x1e ∷ []) path
unfolding read
escape_at_end = joined_of_nothing (0x41 ∷ 0x1e ∷ []) refl

needless_escape : (path : List (List ℕ)) → ¬ IsTermText (0x1e ∷ 0x41 ∷ []) path
unfolding read
needless_escape = joined_of_nothing (0x1e ∷ 0x41 ∷ []) refl

empty_part : (path : List (List ℕ)) → ¬ IsTermText (0x41 ∷ 0x1f ∷ []) path
unfolding term_text escaped
empty_part = joined_of_no_path (0x41 ∷ 0x1f ∷ []) (codes "A" ∷ [] ∷ []) (EmptyPart 1) (omega arith) refl refl

empty_text : (path : List (List ℕ)) → ¬ IsTermText [] path
unfolding term_text escaped
empty_text = joined_of_no_path [] ([] ∷ []) (EmptyPart 0) (omega arith) refl refl
