-- The first line feed of some bytes.
use Rattle.std.proofs.Common.{◌≡◌, ℕ, suc, ◌+◌, ◌-◌, ◌<◌, ◌≤◌, ◌⊎◌, inl, inr, Bool, true, false, cond, List, [], ◌∷◌, ◌++◌, length, take, drop, Option, Some, None, refl, sym, ap, ap₂, ◌∙◌, arith, length-append}
use Rattle.std.specs.Prelude.{◌==◌, not, option_map, unwrap_or}
use Rattle.std.specs.Prelude.{Result, Ok, Err, IsOk, is_ok}
use Rattle.std.proofs.lemmas.Bool.{cases_lt, lt-ltb, le-ltb, eqb-true}
use Rattle.std.proofs.lemmas.List.{drop-append-le, drop-drop, drop_all, length-drop, take_at}
use Rattle.live_io.specs.Unread.{first_feed, line_len}

pub line_len-le : (bytes : List ℕ) → line_len bytes ≤ length bytes
line_len-le [] = omega arith
line_len-le (b ∷ bs) = by (b == 10) (line_len bs) (line_len-le bs)
  where
    by : (t : Bool) (n : ℕ) → n ≤ length bs → cond (not t) (1 + n) 0 ≤ length (b ∷ bs)
    by true n le = omega arith
    by false n le = omega arith

pub feed_some : (bytes : List ℕ) → line_len bytes < length bytes → first_feed bytes ≡ Some (line_len bytes)
feed_some bytes lt = rw (lt-ltb (line_len bytes) (length bytes) lt) refl

pub feed_none : (bytes : List ℕ) → length bytes ≤ line_len bytes → first_feed bytes ≡ None
feed_none bytes le = rw (le-ltb (line_len bytes) (length bytes) le) refl

pub some_feed : (bytes : List ℕ) (n : ℕ) → first_feed bytes ≡ Some n → (n ≡ line_len bytes) × (line_len bytes < length bytes)
some_feed bytes n e = by (cases_lt (line_len bytes) (length bytes))
  where
    by : (line_len bytes < length bytes) ⊎ (length bytes ≤ line_len bytes) → (n ≡ line_len bytes) × (line_len bytes < length bytes)
    by (inl lt) = let is = feed_some bytes lt in (cc, lt)
    by (inr le) = let is = feed_none bytes le in absurd cc

pub none_feed : (bytes : List ℕ) → first_feed bytes ≡ None → line_len bytes ≡ length bytes
none_feed bytes e = by (cases_lt (line_len bytes) (length bytes))
  where
    by : (line_len bytes < length bytes) ⊎ (length bytes ≤ line_len bytes) → line_len bytes ≡ length bytes
    by (inl lt) = let is = feed_some bytes lt in absurd cc
    by (inr le) = let most = line_len-le bytes in omega arith

-- bytes without a line feed come before
pub line_len-append : (front back : List ℕ) → line_len front ≡ length front → line_len (front ++ back) ≡ length front + line_len back
line_len-append [] back e = omega arith
line_len-append (b ∷ bs) back e = by (b == 10) (line_len bs) (line_len (bs ++ back)) (line_len-append bs back) e
  where
    by : (t : Bool) (n m : ℕ) → (n ≡ length bs → m ≡ length bs + line_len back) → cond (not t) (1 + n) 0 ≡ length (b ∷ bs) → cond (not t) (1 + m) 0 ≡ length (b ∷ bs) + line_len back
    by true n m more is = absurd (omega arith)
    by false n m more is = let rest = more (omega arith) in omega arith

-- what is before the first line feed has none
pub line_len-take : (bytes : List ℕ) → line_len (take (line_len bytes) bytes) ≡ length (take (line_len bytes) bytes)
line_len-take [] = refl
line_len-take (b ∷ bs) = by (b == 10) refl (line_len bs) (line_len-take bs)
  where
    by : (t : Bool) → (b == 10) ≡ t → (n : ℕ) → line_len (take n bs) ≡ length (take n bs) → line_len (take (cond (not t) (1 + n) 0) (b ∷ bs)) ≡ length (take (cond (not t) (1 + n) 0) (b ∷ bs))
    by true h n rest = refl
    by false h n rest = let first : 1 + n ≡ suc n = omega arith in rw (first, h) (omega (arith, rest))

-- what begins with the first line feed
pub line_len-drop : (bytes : List ℕ) → line_len (drop (line_len bytes) bytes) ≡ 0
line_len-drop [] = refl
line_len-drop (b ∷ bs) = by (b == 10) refl (line_len bs) (line_len-drop bs)
  where
    by : (t : Bool) → (b == 10) ≡ t → (n : ℕ) → line_len (drop n bs) ≡ 0 → line_len (drop (cond (not t) (1 + n) 0) (b ∷ bs)) ≡ 0
    by true h n rest = rw h refl
    by false h n rest = let first : 1 + n ≡ suc n = omega arith in rw first rest

-- the first line, its line feed, and the rest
pub line_parts : (bytes : List ℕ) → line_len bytes < length bytes → bytes ≡ take (line_len bytes) bytes ++ 10 ∷ drop (line_len bytes + 1) bytes
line_parts [] lt = absurd (omega arith)
line_parts (b ∷ bs) lt = by (b == 10) refl (line_len bs) (line_parts bs) lt
  where
    by : (t : Bool) → (b == 10) ≡ t → (n : ℕ) → (n < length bs → bs ≡ take n bs ++ 10 ∷ drop (n + 1) bs) → cond (not t) (1 + n) 0 < length (b ∷ bs)
        → b ∷ bs ≡ take (cond (not t) (1 + n) 0) (b ∷ bs) ++ 10 ∷ drop (cond (not t) (1 + n) 0 + 1) (b ∷ bs)
    by true h n rest less = ap (λ x. x ∷ bs) (eqb-true b 10 h)
    by false h n rest less =
        let first : 1 + n ≡ suc n = omega arith in
        let second : suc n + 1 ≡ suc (n + 1) = omega arith in
        rw (first, second) (ap (λ xs. b ∷ xs) (rest (omega arith)))

-- the first line feed of bytes that have none in front
pub feed_after : (front back : List ℕ) → first_feed front ≡ None → first_feed (front ++ back) ≡ option_map (λ n. length front + n) (first_feed back)
feed_after front back none = by (cases_lt (line_len back) (length back))
  where
    len : line_len (front ++ back) ≡ length front + line_len back
    len = line_len-append front back (none_feed front none)

    by : (line_len back < length back) ⊎ (length back ≤ line_len back) → first_feed (front ++ back) ≡ option_map (λ n. length front + n) (first_feed back)
    by (inl lt) = feed_some (front ++ back) (omega (arith, len, length-append front back)) ∙ ap Some len ∙ ap (λ (o : Option ℕ). option_map (λ n. length front + n) o) (sym (feed_some back lt))
    by (inr le) = feed_none (front ++ back) (omega (arith, len, length-append front back)) ∙ ap (λ (o : Option ℕ). option_map (λ n. length front + n) o) (sym (feed_none back le))

-- bytes behind those from `at` on, which have no line feed
pub feed_behind : (items more : List ℕ) (at : ℕ) → at ≤ length items → first_feed (drop at items) ≡ None
    → first_feed (drop at (items ++ more)) ≡ option_map (λ n. (length items - at) + n) (first_feed more)
feed_behind items more at le none =
    ap first_feed (drop-append-le at items more le) ∙ feed_after (drop at items) more none ∙ ap (λ (k : ℕ). option_map (λ n. k + n) (first_feed more)) (length-drop at items)

-- the bytes from the first line feed on
pub feed_front : (items : List ℕ) (at len : ℕ) → Some len ≡ first_feed (drop at items) → (at + len ≤ length items) × (Some 0 ≡ first_feed (drop (at + len) items)) × (drop (at + len) items ≡ drop (line_len (drop at items)) (drop at items))
feed_front items at len is =
    let found = some_feed (drop at items) len (sym is) in
    let low : at + len < length items = omega (arith, found.0, found.1, length-drop at items) in
    let rest : drop (at + len) items ≡ drop (line_len (drop at items)) (drop at items) = sym (drop-drop len at items) ∙ ap (λ (k : ℕ). drop k (drop at items)) found.0 in
    let zero : line_len (drop (at + len) items) ≡ 0 = ap line_len rest ∙ line_len-drop (drop at items) in
    (omega arith, sym (feed_some (drop (at + len) items) (omega (arith, zero, length-drop (at + len) items)) ∙ ap Some zero), rest)

pub nothing_kept : (bytes : List ℕ) → None ≡ first_feed bytes → [] ≡ drop (line_len bytes) bytes
nothing_kept bytes none = sym (drop_all (line_len bytes) bytes (omega (arith, none_feed bytes (sym none))))

pub line_len_of : (bytes : List ℕ) → unwrap_or (first_feed bytes) (length bytes) ≡ line_len bytes
line_len_of bytes = by (cases_lt (line_len bytes) (length bytes))
  where
    by : (line_len bytes < length bytes) ⊎ (length bytes ≤ line_len bytes) → unwrap_or (first_feed bytes) (length bytes) ≡ line_len bytes
    by (inl lt) = ap (λ (o : Option ℕ). unwrap_or o (length bytes)) (feed_some bytes lt)
    by (inr le) = ap (λ (o : Option ℕ). unwrap_or o (length bytes)) (feed_none bytes le) ∙ omega (arith, line_len-le bytes)

pub feed_below : (bytes : List ℕ) (len : ℕ) → first_feed bytes ≡ Some len → len < length bytes
feed_below bytes len is = let found = some_feed bytes len is in omega (arith, found.0, found.1)

pub line_len_at : (bytes : List ℕ) (feed : Option ℕ) (n r : ℕ) → feed ≡ first_feed bytes → n ≡ length bytes → r ≡ unwrap_or feed n → r ≡ line_len bytes
line_len_at bytes feed n r at len is = is ∙ ap₂ unwrap_or at len ∙ line_len_of bytes

-- a place in the bytes behind, told from the front
pub placed : (base n place : ℕ) (found : Option ℕ) → found ≡ Some place → n ≡ base → Some (n + place) ≡ option_map (λ k. base + k) found
placed base n place found is same = rw (is, same) refl

pub misplaced : (base : ℕ) (found : Option ℕ) → found ≡ None → None ≡ option_map (λ k. base + k) found
misplaced base found is = rw is refl

pub grown : {A E : Type 0} (r : Result A E) (old new more : List ℕ) → IsOk r → new ≡ cond (is_ok r) (old ++ more) old → new ≡ old ++ more
grown (Ok a) old new more ok is = is
grown (Err e) old new more ok is = absurd cc

pub front_is : (front back : List ℕ) (n : ℕ) → n ≡ length front → take n (front ++ back) ≡ front
front_is front back n is = rw is (take_at front back (length front) refl)
