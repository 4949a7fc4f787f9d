-- A line that is taken, or what is left of one.
use Rattle.std.proofs.Common.{◌≡◌, ◌∙◌, ◌<◌, ◌≤◌, ℕ, Bool, true, false, List, [], ◌∷◌, ◌++◌, length, take, Option, Some, None, refl, sym, ap, subst, append-nil, arith}
use Rattle.std.proofs.lemmas.List.{take_all}
use Rattle.live_io.specs.Unread.{IsUnread, LeavesLine, TakesLine, Unread}
use Rattle.live_lines.specs.Items.{Item, Reading, item_list, step}
use Rattle.live_lines.specs.Lines.{most_bytes}
use Rattle.live_lines.specs.Views.{reading_of}
use Rattle.live_serving.specs.Moments.{IsNextLine, IsOver, IsUnderway, fed}
use Rattle.live_serving.specs.declared.line_phases.LinePhases.{LinePhases}
use Rattle.live_serving.proofs.Read.{over_bare, over_line, took_line}

module _ (o : Bool) (first got : List ℕ) (items : List Item) where
  pub takes_line : (p q : LinePhases) (r : Unread) (item : Option Item) (len : ℕ) → r ≡ p.reader
      → ((limit : ℕ) (consumed before : List ℕ) → IsUnread limit consumed r before → TakesLine limit consumed r len q.reader before)
      → ((line : List ℕ) → IsNextLine p.reader len line → (item, reading_of q.grouping) ≡ step o (reading_of p.grouping) line) → IsUnderway o first p got items → IsUnderway o first q got (items ++ item_list item)
  takes_line p q r item len same line steps u =
      let t : TakesLine most_bytes (fed (first ∷ u.taken)) p.reader len q.reader got =
      subst (λ (r : Unread). TakesLine most_bytes (fed (first ∷ u.taken)) r len q.reader got) same (line most_bytes (fed (first ∷ u.taken)) got (subst (λ (r : Unread). IsUnread most_bytes (fed (first ∷ u.taken)) r got) (sym same) u.unread)) in
      took_line o first p q got items item len u t (steps t.line (t.kept, t.long))

  pub rests_none : (p q : LinePhases) → reading_of q.grouping ≡ reading_of p.grouping → p.reader.dropped ≡ false → p.reader.bytes ≡ []
      → ((limit : ℕ) (consumed before : List ℕ) → IsUnread limit consumed p.reader before → LeavesLine limit consumed p.reader before) → IsUnderway o first p got items → IsOver o first q got (items ++ [])
  rests_none p q same kept none line u =
      let t = line most_bytes (fed (first ∷ u.taken)) got u.unread in
      subst (λ (l : List Item). IsOver o first q got l) (sym (append-nil items)) (over_bare o first p q got items u t (t.kept kept ∙ none) same)

  pub rests_some : (p q : LinePhases) (item : Option Item) (len : ℕ) → len ≡ length p.reader.bytes → (p.reader.dropped ≡ false → 0 < length p.reader.bytes)
      → ((limit : ℕ) (consumed before : List ℕ) → IsUnread limit consumed p.reader before → LeavesLine limit consumed p.reader before)
      → ((line : List ℕ) → IsNextLine p.reader len line → (item, reading_of q.grouping) ≡ step o (reading_of p.grouping) line) → IsUnderway o first p got items → IsOver o first q got (items ++ item_list item)
  rests_some p q item len all some line steps u =
      let t = line most_bytes (fed (first ∷ u.taken)) got u.unread in
      let whole : take len p.reader.bytes ≡ p.reader.bytes = ap (λ (n : ℕ). take n p.reader.bytes) all ∙ take_all (length p.reader.bytes) p.reader.bytes (omega arith) in
      over_line o first p q got items item u t (by p.reader.dropped refl t) (steps t.line ((λ kept. t.kept kept ∙ sym whole), t.long))
    where
      by : (d : Bool) → p.reader.dropped ≡ d → (t : LeavesLine most_bytes (fed (first ∷ u.taken)) p.reader got) → t.line ≡ [] → ⊥
      by true is t none = omega (arith, t.long is, ap length none)
      by false is t none = omega (arith, some is, ap length (sym (t.kept is) ∙ none))
