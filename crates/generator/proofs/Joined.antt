-- The tallies of two lists of replies make that of both, and a tally makes the summary.
use Rattle.std.proofs.Common.{◌≡◌, ◌∙◌, ◌+◌, ◌++◌, List, [], ◌∷◌, slice_get, Option, Some, None, option_map, refl, sym, ap, ap₂}
use Rattle.std.specs.Prelude.{◌||◌, filter_map}
use Rattle.std.specs.Option.{option_or}
use Rattle.std.proofs.lemmas.List.Elements.{filter_map-append}
use Rattle.std.proofs.lemmas.List.Folds.{list_any-append}
use Rattle.std.proofs.lemmas.List.Sums.{sum_by-append}
use Rattle.facet_replies.specs.Replies.{Reply}
use Rattle.generator.specs.Summaries.{is_uncommitted, wants_memory, numbers_in, found_in}
use Rattle.generator.specs.Tallies.{IsTallyOf, counts_of, counts_told, sizes_of, sizes_told}
use Rattle.generator.specs.declared.tally.Tally.{Tally}

first_append : {A : Type 0} (xs ys : List A) → slice_get (xs ++ ys) 0 ≡ option_or (slice_get xs 0) (slice_get ys 0)
first_append [] ys = refl
first_append (x ∷ xs) ys = refl

map_or : {A B : Type 0} (f : A → B) (o p : Option A) → option_map f (option_or o p) ≡ option_or (option_map f o) (option_map f p)
map_or f None p = refl
map_or f (Some x) p = refl

first_part : {A B : Type 0} (part : Reply → Option A) (f : A → B) (first second : List Reply)
    → option_map f (slice_get (filter_map part (first ++ second)) 0) ≡ option_or (option_map f (slice_get (filter_map part first) 0)) (option_map f (slice_get (filter_map part second) 0))
first_part part f first second =
    ap (λ xs. option_map f (slice_get xs 0)) (filter_map-append part first second)
    ∙ ap (option_map f) (first_append (filter_map part first) (filter_map part second))
    ∙ map_or f (slice_get (filter_map part first) 0) (slice_get (filter_map part second) 0)

pub joined : (first second : List Reply) (a b t : Tally) → IsTallyOf first a → IsTallyOf second b
    → t.added ≡ a.added + b.added → t.uncommitted ≡ (a.uncommitted || b.uncommitted) → t.starved ≡ (a.starved || b.starved)
    → t.sizes ≡ option_or a.sizes b.sizes → t.counts ≡ option_or a.counts b.counts → IsTallyOf (first ++ second) t
joined first second a b t of_first of_second added uncommitted starved sizes counts = record {
  added = added ∙ ap₂ (λ n m. n + m) of_first.added of_second.added ∙ sym (sum_by-append _ first second);
  uncommitted = uncommitted ∙ ap₂ (λ n m. n || m) of_first.uncommitted of_second.uncommitted ∙ sym (list_any-append is_uncommitted first second);
  starved = starved ∙ ap₂ (λ n m. n || m) of_first.starved of_second.starved ∙ sym (list_any-append wants_memory first second);
  sizes = ap (option_map sizes_told) sizes ∙ map_or sizes_told a.sizes b.sizes ∙ ap₂ option_or of_first.sizes of_second.sizes ∙ sym (first_part numbers_in sizes_of first second);
  counts = ap (option_map counts_told) counts ∙ map_or counts_told a.counts b.counts ∙ ap₂ option_or of_first.counts of_second.counts ∙ sym (first_part found_in counts_of first second);
}
