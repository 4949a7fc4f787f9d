-- Counting the records that parts have left, one after the other.
use Rattle.std.proofs.Common.{◌≡◌, ℕ, zero, suc, ◌+◌, ◌<◌, ◌≤◌, List, [], ◌∷◌, ◌++◌, length, get_or, set, take, sym, ap, subst, ◌∙◌, arith, append_assoc}
use Rattle.std.specs.List.{AllZip}
use Rattle.std.proofs.lemmas.List.{get_or-set_other, get_or_default, length-append, length-map, length-set, map-append, take_all}
use Rattle.std.proofs.lemmas.List.Folds.{length-flat_map-take}
use Rattle.facet_model.specs.Stored.{Records}
use Rattle.seg_grammar.specs.Lookups.{record_of}
use Rattle.sideways.specs.Counted.{PartLeft}
use Rattle.value_facets.specs.Hits.{leaves_at, leaves_of}
use Rattle.value_facets.specs.Marking.{Marked}
use Rattle.value_facets.specs.Tallying.{HasCounted, Tallied}
use Rattle.value_facets.proofs.HitLeaves.{leaves_to}

-- one record more
pub leaves_more : (segment : Records) (lists : List (List ℕ)) (first : List ℕ) (place : ℕ) (leaves : List ℕ) → leaves ≡ (record_of segment place).leaves
    → (lists ++ leaves_at segment first) ++ leaves ∷ [] ≡ lists ++ leaves_at segment (first ++ place ∷ [])
leaves_more segment lists first place leaves is =
    append_assoc lists (leaves_at segment first) (leaves ∷ [])
    ∙ ap (λ l. lists ++ l) (ap (λ (ls : List ℕ). leaves_at segment first ++ ls ∷ []) is ∙ sym (map-append (λ p. (record_of segment p).leaves) first (place ∷ [])))

-- the segments are those of the parts
pub zip_at : (segments : List Records) (parts : List PartLeft) → AllZip (λ s (p : PartLeft). p.segment ≡ s) segments parts → (i : ℕ) (d : Records) (e : PartLeft) → i < length parts → (get_or parts i e).segment ≡ get_or segments i d
zip_at [] [] are i d e lt = absurd (omega arith)
zip_at [] (p ∷ ps) are i d e lt = absurd are
zip_at (s ∷ ss) [] are i d e lt = absurd are
zip_at (s ∷ ss) (p ∷ ps) are zero d e lt = are.0
zip_at (s ∷ ss) (p ∷ ps) are (suc i) d e lt = zip_at ss ps are.1 i d e (omega arith)

-- The first k parts were counted, and the others did not change.
pub record AreCountedTo (marks : Marked) (k : ℕ) (parts now : List PartLeft) (old new : Tallied) : Type 0 where
  pub long : length now ≡ length parts
  pub rest : (j : ℕ) (d : PartLeft) → k ≤ j → get_or now j d ≡ get_or parts j d
  pub hits : new.hits ≡ old.hits + length (leaves_of (take k parts))
  pub as_many : length new.counts ≡ length old.counts
  pub counted : (lists : List (List ℕ)) → HasCounted marks lists old → HasCounted marks (lists ++ leaves_of (take k parts)) new

module _ (marks : Marked) (i : ℕ) (parts now : List PartLeft) (old new : Tallied) (x : PartLeft) (are : AreCountedTo marks i parts now old new) (lt : i < length parts) where
  -- the next part is as it was
  pub part_here : get_or now i x ≡ get_or parts i x
  part_here = are.rest i x (omega arith)

  -- there is room for its records
  pub part_room : new.hits + length (get_or now i x).left ≤ old.hits + length (leaves_of parts)
  part_room =
      let most = length-flat_map-take (λ (p : PartLeft). leaves_at p.segment p.left) parts i x lt in
      omega (arith, most, are.hits, ap (λ (p : PartLeft). length p.left) part_here, length-map (get_or parts i x).left (λ place. (record_of (get_or parts i x).segment place).leaves))

  pub parts_more : (segment : Records) (part : PartLeft) (more : Tallied) → (get_or now i x).segment ≡ segment → more.hits ≡ new.hits + length (get_or now i x).left → length more.counts ≡ length new.counts
      → ((lists : List (List ℕ)) → HasCounted marks lists new → HasCounted marks (lists ++ leaves_at segment (get_or now i x).left) more)
      → AreCountedTo marks (i + 1) parts (set now i part) old more
  parts_more segment part more same hits as_many counted = record {
    long = length-set now i part ∙ are.long;
    rest = λ j d le. get_or-set_other now i j part d (λ e. omega (arith, e, le)) ∙ are.rest j d (omega (arith, le));
    hits = omega (arith, hits, are.hits, ap length to, length-append (leaves_of (take i parts)) (leaves_at p.segment p.left), ap (λ (q : PartLeft). length q.left) part_here, length-map p.left (λ place. (record_of p.segment place).leaves));
    as_many = as_many ∙ are.as_many;
    counted = λ lists has. subst (λ ls. HasCounted marks ls more)
        (append_assoc lists (leaves_of (take i parts)) (leaves_at segment (get_or now i x).left) ∙ ap (λ l. lists ++ l) (ap (λ l. leaves_of (take i parts) ++ l) here ∙ sym to))
        (counted (lists ++ leaves_of (take i parts)) (are.counted lists has));
  }
    where
      p : PartLeft
      p = get_or parts i x

      to : leaves_of (take (i + 1) parts) ≡ leaves_of (take i parts) ++ leaves_at p.segment p.left
      to = leaves_to parts i p lt (get_or_default parts i p x lt)

      here : leaves_at segment (get_or now i x).left ≡ leaves_at p.segment p.left
      here = ap (λ s. leaves_at s (get_or now i x).left) (sym same) ∙ ap (λ (q : PartLeft). leaves_at q.segment q.left) part_here

-- all parts were counted
pub all_counted : (marks : Marked) (i : ℕ) (parts now : List PartLeft) (old new : Tallied) → AreCountedTo marks i parts now old new → length parts ≤ i → (lists : List (List ℕ)) → HasCounted marks lists old → HasCounted marks (lists ++ leaves_of parts) new
all_counted marks i parts now old new are le lists has = subst (λ ps. HasCounted marks (lists ++ leaves_of ps) new) (take_all i parts le) (are.counted lists has)
