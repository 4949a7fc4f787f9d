-- Bytes that are cut into lines.
use Rattle.std.proofs.Common.{◌≡◌, ℕ, ◌+◌, ◌<◌, ◌≤◌, ◌⊎◌, inl, inr, Bool, true, false, cond, List, [], ◌∷◌, ◌++◌, length, Option, Some, None, refl, sym, ap, ◌∙◌, arith, append_assoc, append-nil, length-append}
use Rattle.std.specs.Prelude.{◌==◌, not, nat_lt}
use Rattle.std.specs.List.{AllByRecursion}
use Rattle.std.proofs.lemmas.Bool.{cases_lt, lt-ltb, le-ltb}
use Rattle.facet_words.specs.Lines.{lines_of, onto_first}
use Rattle.live_io.specs.Unread.{first_feed, line_len}
use Rattle.live_serving.specs.Lines.{onto_whole, whole_lines}
use Rattle.live_serving.specs.Moments.{fed}

line_len-le : (bytes : List ℕ) → line_len bytes ≤ length bytes
line_len-le [] = omega arith
line_len-le (b ∷ bs) = by (b == 10) (line_len bs) (line_len-le bs)
  where
    by : (t : Bool) (n : ℕ) → n ≤ length bs → cond (not t) (1 + n) 0 ≤ length (b ∷ bs)
    by true n le = omega arith
    by false n le = omega arith

none_feed : (bytes : List ℕ) → first_feed bytes ≡ None → line_len bytes ≡ length bytes
none_feed bytes e = by (cases_lt (line_len bytes) (length bytes))
  where
    by : (line_len bytes < length bytes) ⊎ (length bytes ≤ line_len bytes) → line_len bytes ≡ length bytes
    by (inl lt) = let is : first_feed bytes ≡ Some (line_len bytes) = rw (lt-ltb (line_len bytes) (length bytes) lt) refl in absurd cc
    by (inr le) = let most = line_len-le bytes in omega arith

pub no_feed_len : (bytes : List ℕ) → first_feed bytes ≡ None → line_len bytes ≡ length bytes
no_feed_len bytes e = none_feed bytes e

feed_none : (bytes : List ℕ) → line_len bytes ≡ length bytes → first_feed bytes ≡ None
feed_none bytes e = rw (le-ltb (line_len bytes) (length bytes) (omega arith)) refl

-- its first byte is no line feed, and there is none behind it
unfed : (b : ℕ) (bs : List ℕ) → first_feed (b ∷ bs) ≡ None → ((b == 10) ≡ false) × (first_feed bs ≡ None)
unfed b bs none = by (b == 10) refl (none_feed (b ∷ bs) none)
  where
    by : (t : Bool) → (b == 10) ≡ t → cond (not t) (1 + line_len bs) 0 ≡ length (b ∷ bs) → ((b == 10) ≡ false) × (first_feed bs ≡ None)
    by true h e = absurd (omega arith)
    by false h e = (h, feed_none bs (omega arith))

-- ---- whole lines

pub whole_none : (bs : List ℕ) → first_feed bs ≡ None → whole_lines bs ≡ []
whole_none [] none = refl
whole_none (b ∷ bs) none = let u = unfed b bs none in let rest = whole_none bs u.1 in rw (u.0, rest) refl

pub whole_line : (l rest : List ℕ) → first_feed l ≡ None → whole_lines (l ++ 10 ∷ rest) ≡ l ∷ whole_lines rest
whole_line [] rest none = refl
whole_line (b ∷ bs) rest none = let u = unfed b bs none in let more = whole_line bs rest u.1 in rw (u.0, more) refl

fed_more : (l : List ℕ) (ls : List (List ℕ)) (rest : List ℕ) → fed (l ∷ ls) ++ rest ≡ l ++ 10 ∷ (fed ls ++ rest)
fed_more l ls rest = append_assoc (l ++ 10 ∷ []) (fed ls) rest ∙ append_assoc l (10 ∷ []) (fed ls ++ rest)

pub whole_fed : (ls : List (List ℕ)) (rest : List ℕ) → AllByRecursion (λ l. first_feed l ≡ None) ls → whole_lines (fed ls ++ rest) ≡ ls ++ whole_lines rest
whole_fed [] rest bare = refl
whole_fed (l ∷ ls) rest bare =
    ap whole_lines (fed_more l ls rest) ∙ whole_line l (fed ls ++ rest) bare.0 ∙ ap (λ t. l ∷ t) (whole_fed ls rest bare.1)

-- ---- all lines

pub lines_line : (l rest : List ℕ) → first_feed l ≡ None → lines_of (l ++ 10 ∷ rest) ≡ l ∷ lines_of rest
lines_line [] rest none = refl
lines_line (b ∷ bs) rest none = let u = unfed b bs none in let more = lines_line bs rest u.1 in rw (u.0, more) refl

pub lines_fed : (ls : List (List ℕ)) (rest : List ℕ) → AllByRecursion (λ l. first_feed l ≡ None) ls → lines_of (fed ls ++ rest) ≡ ls ++ lines_of rest
lines_fed [] rest bare = refl
lines_fed (l ∷ ls) rest bare =
    ap lines_of (fed_more l ls rest) ∙ lines_line l (fed ls ++ rest) bare.0 ∙ ap (λ t. l ∷ t) (lines_fed ls rest bare.1)

-- a line without its line feed, which has some byte
pub lines_last : (b : ℕ) (bs : List ℕ) → first_feed (b ∷ bs) ≡ None → lines_of (b ∷ bs) ≡ (b ∷ bs) ∷ []
lines_last b [] none = let u = unfed b [] none in rw u.0 refl
lines_last b (c ∷ bs) none = let u = unfed b (c ∷ bs) none in let more = lines_last c bs u.1 in rw (u.0, more) refl

pub fed_append : (ls : List (List ℕ)) (l : List ℕ) → fed (ls ++ l ∷ []) ≡ (fed ls ++ l) ++ 10 ∷ []
fed_append [] l = append-nil (l ++ 10 ∷ [])
fed_append (m ∷ ls) l =
    ap (λ t. (m ++ 10 ∷ []) ++ t) (fed_append ls l) ∙ sym (append_assoc (m ++ 10 ∷ []) (fed ls ++ l) (10 ∷ []))
    ∙ ap (λ t. t ++ 10 ∷ []) (sym (append_assoc (m ++ 10 ∷ []) (fed ls) l))

pub bare_more : (ls : List (List ℕ)) (l : List ℕ) → AllByRecursion (λ l. first_feed l ≡ None) ls → first_feed l ≡ None → AllByRecursion (λ l. first_feed l ≡ None) (ls ++ l ∷ [])
bare_more [] l bare none = (none, tt)
bare_more (m ∷ ls) l bare none = (bare.0, bare_more ls l bare.1 none)

-- ---- the first line

-- a first line that is whole is the first one of all that begins so
pub first_of_more : (bs more first : List ℕ) (others : List (List ℕ)) → whole_lines bs ≡ first ∷ others → (later : List (List ℕ)) × (lines_of (bs ++ more) ≡ first ∷ later)
first_of_more [] more first others w = absurd cc
first_of_more (b ∷ bs) more first others w = by (first_of_more bs more) (b == 10) (whole_lines bs) refl w
  where
    by : ((l : List ℕ) (ls : List (List ℕ)) → whole_lines bs ≡ l ∷ ls → (later : List (List ℕ)) × (lines_of (bs ++ more) ≡ l ∷ later))
        → (t : Bool) (ls : List (List ℕ)) → whole_lines bs ≡ ls → cond t ([] ∷ ls) (onto_whole b ls) ≡ first ∷ others
        → (later : List (List ℕ)) × (cond t ([] ∷ lines_of (bs ++ more)) (onto_first b (lines_of (bs ++ more))) ≡ first ∷ later)
    by behind true ls is w = let e : [] ≡ first = cc in (lines_of (bs ++ more), ap (λ l. l ∷ lines_of (bs ++ more)) e)
    by behind false [] is w = absurd cc
    by behind false (l ∷ ls) is w =
        let rest = behind l ls is in
        let e : b ∷ l ≡ first = cc in
        (rest.0, ap (onto_first b) rest.1 ∙ ap (λ l. l ∷ rest.0) e)

-- ---- bytes without a line feed

pub line_len-append : (front back : List ℕ) → line_len front ≡ length front → line_len (front ++ back) ≡ length front + line_len back
line_len-append [] back e = omega arith
line_len-append (b ∷ bs) back e = by (b == 10) (line_len bs) (line_len (bs ++ back)) (line_len-append bs back) e
  where
    by : (t : Bool) (n m : ℕ) → (n ≡ length bs → m ≡ length bs + line_len back) → cond (not t) (1 + n) 0 ≡ length (b ∷ bs) → cond (not t) (1 + m) 0 ≡ length (b ∷ bs) + line_len back
    by true n m more is = absurd (omega arith)
    by false n m more is = let rest = more (omega arith) in omega arith

pub unfed_append : (front back : List ℕ) → first_feed front ≡ None → first_feed back ≡ None → first_feed (front ++ back) ≡ None
unfed_append front back p q =
    feed_none (front ++ back) (omega (arith, line_len-append front back (none_feed front p), none_feed back q, length-append front back))
