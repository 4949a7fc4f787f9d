-- What was read, line by line.
use Rattle.std.proofs.Common.{◌≡◌, ◌∙◌, ◌<◌, ◌⊎◌, inl, inr, ℕ, Bool, true, false, List, [], ◌∷◌, ◌++◌, length, take, Option, Some, None, refl, sym, ap, subst, append_assoc, append-nil}
use Rattle.std.specs.List.{AllByRecursion}
use Rattle.facet_output.specs.Answered.{Answered}
use Rattle.facet_words.specs.Lines.{lines_of}
use Rattle.live_io.specs.Unread.{IsUnread, LeavesLine, TakesLine, Unread, first_feed}
use Rattle.live_lines.specs.Items.{Item, Reading, first_reading, item_list, items_from, last_item, live_items, step}
use Rattle.live_lines.specs.Lines.{most_bytes}
use Rattle.live_lines.specs.Views.{reading_of}
use Rattle.live_serving.specs.Lines.{due, due_after, said, whole_lines}
use Rattle.live_serving.specs.Moments.{IsOver, IsUnderway, fed}
use Rattle.live_serving.specs.declared.line_phases.LinePhases.{LinePhases}
use Rattle.live_serving.proofs.Cut.{bare_more, fed_append, lines_fed, lines_last, unfed_append, whole_fed, whole_none}
use Rattle.live_serving.proofs.Written.{said_stays}

-- ---- items of more lines

pub composed : (o : Bool) (r : Reading) (ls ms : List (List ℕ))
    → items_from o r (ls ++ ms) ≡ ((items_from o r ls).0 ++ (items_from o (items_from o r ls).1 ms).0, (items_from o (items_from o r ls).1 ms).1)
composed o r [] ms = refl
composed o r (l ∷ ls) ms =
    let s = step o r l in
    let rest = composed o s.1 ls ms in
    let a = items_from o s.1 ls in
    let b = items_from o a.1 ms in
    ap (λ (t : List Item × Reading). (item_list s.0 ++ t.0, t.1)) rest ∙ ap (λ (l : List Item). (l, b.1)) (sym (append_assoc (item_list s.0) a.0 b.0))

-- one line more
pub line_more : (o : Bool) (ls : List (List ℕ)) (items : List Item) (r q : Reading) (item : Option Item) (l : List ℕ) → items_from o first_reading ls ≡ (items, r) → (item, q) ≡ step o r l
    → items_from o first_reading (ls ++ l ∷ []) ≡ (items ++ item_list item, q)
line_more o ls items r q item l is next =
    composed o first_reading ls (l ∷ []) ∙ ap (λ (t : List Item × Reading). (t.0 ++ (items_from o t.1 (l ∷ [])).0, (items_from o t.1 (l ∷ [])).1)) is
    ∙ ap (λ (t : Option Item × Reading). (items ++ (item_list t.0 ++ []), t.1)) (sym next) ∙ ap (λ (l : List Item). (items ++ l, q)) (append-nil (item_list item))

-- the items of some lines are the first of those of more lines
pub items_front : (o : Bool) (ls ms : List (List ℕ)) (items : List Item) (r : Reading) → items_from o first_reading ls ≡ (items, r)
    → live_items o (ls ++ ms) ≡ items ++ ((items_from o r ms).0 ++ item_list (last_item (items_from o r ms).1))
items_front o ls ms items r is =
    let b = items_from o r ms in
    let all : items_from o first_reading (ls ++ ms) ≡ (items ++ b.0, b.1) =
    composed o first_reading ls ms ∙ ap (λ (t : List Item × Reading). (t.0 ++ (items_from o t.1 ms).0, (items_from o t.1 ms).1)) is in
    ap (λ (t : List Item × Reading). t.0 ++ item_list (last_item t.1)) all ∙ append_assoc items b.0 (item_list (last_item b.1))

-- ---- while more may come

module _ (o : Bool) (first : List ℕ) where
  -- what was got, as lines that were taken and a rest
  parts : (p : LinePhases) (got : List ℕ) (items : List Item) (u : IsUnderway o first p got items) → got ≡ fed (first ∷ u.taken) ++ (u.unread.gone ++ p.reader.bytes)
  parts p got items u = u.unread.parts ∙ append_assoc (fed (first ∷ u.taken)) u.unread.gone p.reader.bytes

  pub whole_first : (p : LinePhases) (got : List ℕ) (items : List Item) (u : IsUnderway o first p got items) → (more : List (List ℕ)) × (whole_lines got ≡ first ∷ more)
  whole_first p got items u =
      let rest = u.unread.gone ++ p.reader.bytes in
      (u.taken ++ whole_lines rest, ap whole_lines (parts p got items u) ∙ whole_fed (first ∷ u.taken) rest u.no_feeds)

  pub lines_first : (p : LinePhases) (got : List ℕ) (items : List Item) (u : IsUnderway o first p got items) → lines_of got ≡ first ∷ (u.taken ++ lines_of (u.unread.gone ++ p.reader.bytes))
  lines_first p got items u = ap lines_of (parts p got items u) ∙ lines_fed (first ∷ u.taken) (u.unread.gone ++ p.reader.bytes) u.no_feeds

  -- where no whole line is left, those that were taken are all
  pub whole_all : (p : LinePhases) (got : List ℕ) (items : List Item) (u : IsUnderway o first p got items) → first_feed p.reader.bytes ≡ None → whole_lines got ≡ first ∷ u.taken
  whole_all p got items u none =
      let rest = u.unread.gone ++ p.reader.bytes in
      ap whole_lines (parts p got items u) ∙ whole_fed (first ∷ u.taken) rest u.no_feeds
      ∙ ap (λ (ls : List (List ℕ)). (first ∷ u.taken) ++ ls) (whole_none rest (unfed_append u.unread.gone p.reader.bytes u.unread.no_feed none)) ∙ append-nil (first ∷ u.taken)

  -- then what was said is due, whatever replies are still to come
  pub is_due : (opened : ℕ × ℕ) (p : LinePhases) (got : List ℕ) (items : List Item) (u : IsUnderway o first p got items) (replies more : List (List Answered)) → first_feed p.reader.bytes ≡ None
      → length replies ≡ length items → said opened items replies ≡ due o opened (replies ++ more) got
  is_due opened p got items u replies more none as_many =
      sym (ap (λ (ls : List (List ℕ)). due_after o opened (replies ++ more) ls) (whole_all p got items u none)
      ∙ ap (λ (t : List Item × Reading). said opened t.0 (replies ++ more)) u.reading ∙ said_stays opened items replies more as_many)

  -- a line was taken
  pub took_line : (p q : LinePhases) (got : List ℕ) (items : List Item) (item : Option Item) (len : ℕ) (u : IsUnderway o first p got items)
      → (t : TakesLine most_bytes (fed (first ∷ u.taken)) p.reader len q.reader got) → (item, reading_of q.grouping) ≡ step o (reading_of p.grouping) t.line → IsUnderway o first q got (items ++ item_list item)
  took_line p q got items item len u t next = record {
    taken = u.taken ++ t.line ∷ [];
    no_feeds = bare_more (first ∷ u.taken) t.line u.no_feeds t.no_feed;
    unread = subst (λ (l : List ℕ). IsUnread most_bytes l q.reader got) (sym (fed_append (first ∷ u.taken) t.line)) t.unread;
    reading = line_more o u.taken items (reading_of p.grouping) (reading_of q.grouping) item t.line u.reading next;
  }

  -- more was got
  pub got_more : (p q : LinePhases) (got bytes : List ℕ) (items : List Item) (u : IsUnderway o first p got items) → reading_of q.grouping ≡ reading_of p.grouping
      → ((consumed before : List ℕ) → IsUnread most_bytes consumed p.reader before → IsUnread most_bytes consumed q.reader (before ++ bytes)) → IsUnderway o first q (got ++ bytes) items
  got_more p q got bytes items u same more = record {
    taken = u.taken;
    no_feeds = u.no_feeds;
    unread = more (fed (first ∷ u.taken)) got u.unread;
    reading = u.reading ∙ ap (λ (r : Reading). (items, r)) (sym same);
  }

  -- ---- at the end of input

  -- nothing is left of a line
  pub over_bare : (p q : LinePhases) (got : List ℕ) (items : List Item) (u : IsUnderway o first p got items) (t : LeavesLine most_bytes (fed (first ∷ u.taken)) p.reader got) → t.line ≡ []
      → reading_of q.grouping ≡ reading_of p.grouping → IsOver o first q got items
  over_bare p q got items u t none same = record {
    rest = u.taken;
    lines = ap lines_of (t.parts ∙ ap (λ (l : List ℕ). fed (first ∷ u.taken) ++ l) none) ∙ lines_fed (first ∷ u.taken) [] u.no_feeds ∙ append-nil (first ∷ u.taken);
    items_are = ap (λ (t : List Item × Reading). t.0 ++ item_list (last_item t.1)) u.reading ∙ ap (λ (r : Reading). items ++ item_list (last_item r)) (sym same);
  }

  -- what is left is a line
  pub over_line : (p q : LinePhases) (got : List ℕ) (items : List Item) (item : Option Item) (u : IsUnderway o first p got items) (t : LeavesLine most_bytes (fed (first ∷ u.taken)) p.reader got)
      → (t.line ≡ [] → ⊥) → (item, reading_of q.grouping) ≡ step o (reading_of p.grouping) t.line → IsOver o first q got (items ++ item_list item)
  over_line p q got items item u t some next = record {
    rest = u.taken ++ t.line ∷ [];
    lines = ap lines_of t.parts ∙ lines_fed (first ∷ u.taken) t.line u.no_feeds ∙ ap (λ (ls : List (List ℕ)). (first ∷ u.taken) ++ ls) (last t.line t.no_feed some);
    items_are = ap (λ (t : List Item × Reading). t.0 ++ item_list (last_item t.1)) (line_more o u.taken items (reading_of p.grouping) (reading_of q.grouping) item t.line u.reading next);
  }
    where
      last : (l : List ℕ) → first_feed l ≡ None → (l ≡ [] → ⊥) → lines_of l ≡ l ∷ []
      last [] none some = absurd (some refl)
      last (b ∷ bs) none some = lines_last b bs none
