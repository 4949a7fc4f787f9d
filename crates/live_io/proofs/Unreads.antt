-- What is unread after bytes were got, and after a line was taken.
use Rattle.std.proofs.Common.{◌≡◌, ℕ, ◌+◌, ◌<◌, ◌≤◌, ◌⊎◌, inl, inr, Bool, true, false, cond, List, [], ◌∷◌, ◌++◌, length, take, drop, Option, Some, None, refl, sym, ap, ap₂, ◌∙◌, arith, append_assoc, length-append}
use Rattle.std.specs.Prelude.{◌||◌, nat_lt}
use Rattle.std.proofs.lemmas.List.{take-append-drop, length-take}
use Rattle.std.proofs.lemmas.Bool.{lt-ltb, le-ltb}
use borrow.Author.Tests.{ltb-true}
use Rattle.std.specs.Io.KnownBytes.{Consumes, IsAtEnd}
use Rattle.live_io.specs.Events.{Event, got, noted}
use Rattle.live_io.specs.Unread.{first_feed, line_len, Unread, nothing_unread, passed, shortened, with_got, IsUnread, TakesLine, LeavesLine, Fills}
use Rattle.live_io.proofs.Feeds.{line_len-le, feed_none, some_feed, none_feed, line_len-append, line_len-take, line_parts}

pub none_is_unread : (limit : ℕ) → IsUnread limit [] nothing_unread []
none_is_unread limit = record { gone = []; parts = refl; no_feed = refl; kept = λ no. refl; long = λ yes. absurd cc }

no_feed-append : (front back : List ℕ) → first_feed front ≡ None → first_feed back ≡ None → first_feed (front ++ back) ≡ None
no_feed-append front back p q =
    feed_none (front ++ back) (omega (arith, line_len-append front back (none_feed front p), none_feed back q, length-append front back))

regrouped : (a b c d : List ℕ) → a ++ b ++ (c ++ d) ≡ a ++ (b ++ c) ++ d
regrouped a b c d = simp append_assoc

with_feed : (a b c d : List ℕ) → a ++ b ++ (c ++ 10 ∷ d) ≡ (a ++ (b ++ c) ++ 10 ∷ []) ++ [] ++ d
with_feed a b c d = simp append_assoc

pub line_taken : (limit : ℕ) (consumed before : List ℕ) (u : Unread) (len : ℕ) → first_feed u.bytes ≡ Some len → IsUnread limit consumed u before → TakesLine limit consumed u len (passed len u) before
line_taken limit consumed before u len at is =
    let found = some_feed u.bytes len at in
    let front = take len u.bytes in
    let back = drop (len + 1) u.bytes in
    let bare : first_feed front ≡ None = rw found.0 (feed_none (take (line_len u.bytes) u.bytes) (omega (arith, line_len-take u.bytes))) in
    let cut : u.bytes ≡ front ++ 10 ∷ back = rw found.0 (line_parts u.bytes found.1) in
    let seam : before ≡ (consumed ++ (is.gone ++ front) ++ 10 ∷ []) ++ [] ++ back =
    is.parts ∙ ap (λ (t : List ℕ). consumed ++ is.gone ++ t) cut ∙ with_feed consumed is.gone front back in
    record {
      line = is.gone ++ front;
      no_feed = no_feed-append is.gone front is.no_feed bare;
      kept = λ no. ap (λ (t : List ℕ). t ++ front) (is.kept no);
      long = λ yes. let most = is.long yes in omega (arith, length-append is.gone front);
      unread = record { gone = []; parts = seam; no_feed = refl; kept = λ no. refl; long = λ yes. absurd cc };
    }

pub line_left : (limit : ℕ) (consumed before : List ℕ) (u : Unread) → first_feed u.bytes ≡ None → IsUnread limit consumed u before → LeavesLine limit consumed u before
line_left limit consumed before u none is = record {
  line = is.gone ++ u.bytes;
  parts = is.parts ∙ append_assoc consumed is.gone u.bytes;
  no_feed = no_feed-append is.gone u.bytes is.no_feed none;
  kept = λ no. ap (λ (t : List ℕ). t ++ u.bytes) (is.kept no);
  long = λ yes. let most = is.long yes in omega (arith, length-append is.gone u.bytes);
}

pub more_unread : (limit : ℕ) (consumed before more : List ℕ) (u : Unread) → first_feed u.bytes ≡ None → IsUnread limit consumed u before → IsUnread limit consumed (with_got limit more u) (before ++ more)
more_unread limit consumed before more u none is = by u.dropped refl (nat_lt limit (line_len (u.bytes ++ more))) refl
  where
    all : List ℕ
    all = u.bytes ++ more

    joined : before ++ more ≡ consumed ++ is.gone ++ all
    joined = ap (λ (t : List ℕ). t ++ more) is.parts ∙ append_assoc (consumed ++ is.gone) u.bytes more

    short : limit < length (is.gone ++ take (line_len all) all) → IsUnread limit consumed (shortened all) (before ++ more)
    short long = record {
      gone = is.gone ++ take (line_len all) all;
      parts = joined ∙ ap (λ (t : List ℕ). consumed ++ is.gone ++ t) (sym (take-append-drop (line_len all) all)) ∙ regrouped consumed is.gone (take (line_len all) all) (drop (line_len all) all);
      no_feed = no_feed-append is.gone (take (line_len all) all) is.no_feed (feed_none (take (line_len all) all) (omega (arith, line_len-take all)));
      kept = λ no. absurd cc;
      long = λ yes. long;
    }

    by : (d : Bool) → u.dropped ≡ d → (t : Bool) → nat_lt limit (line_len all) ≡ t
        → IsUnread limit consumed (cond (d || t) (shortened all) (record { dropped = false; bytes = all })) (before ++ more)
    by true was t over = short (let most = is.long was in omega (arith, length-append is.gone (take (line_len all) all)))
    by false was true over = short (omega (arith, ltb-true _ _ over, length-append is.gone (take (line_len all) all), length-take (line_len all) all, line_len-le all))
    by false was false over = record {
      gone = is.gone;
      parts = joined;
      no_feed = is.no_feed;
      kept = λ no. is.kept was;
      long = λ yes. absurd cc;
    }

-- a read call returned the first n bytes of the block
pub filled : (limit n : ℕ) (old new : Unread) (block more : List ℕ) (left left' : Option (List ℕ)) (events events' : Option (List Event)) → first_feed old.bytes ≡ None → 0 < length block → n ≤ length block
    → more ≡ take n block → new ≡ with_got limit more old → Consumes left left' (take n block) × (n ≡ 0 → 0 < length block → IsAtEnd left') → events' ≡ noted (got (take n block)) events
    → Fills limit n old new left left' events events'
filled limit n old new block more left left' events events' none some within is state bytes notes = record {
  bytes = more;
  count = omega (arith, ap length is, length-take n block);
  state = state;
  taken = rw is bytes.0;
  told = rw is notes;
  end = λ nothing. bytes.1 nothing some;
  unread = λ consumed before unread. rw state (more_unread limit consumed before more old none unread);
}

pub line_passed : (limit : ℕ) (consumed before : List ℕ) (u inner new : Unread) (len : ℕ) → u ≡ inner → new ≡ passed len inner → first_feed u.bytes ≡ Some len → IsUnread limit consumed u before
    → TakesLine limit consumed u len new before
line_passed limit consumed before u inner new len same is at unread = rw (is, ← same) (line_taken limit consumed before u len at unread)

-- bytes were added, and the first line is not too long
pub line_kept : (limit : ℕ) (u w : Unread) (more : List ℕ) → w.dropped ≡ u.dropped → w.bytes ≡ u.bytes ++ more → w.dropped ≡ false → line_len w.bytes ≤ limit → w ≡ with_got limit more u
line_kept limit u w more dropped bytes whole few =
    let was : u.dropped ≡ false = sym dropped ∙ whole in
    let short : nat_lt limit (line_len (u.bytes ++ more)) ≡ false = ap (λ t. nat_lt limit (line_len t)) (sym bytes) ∙ le-ltb limit (line_len w.bytes) few in
    rw (was, short) (ap₂ (λ d t. record { dropped = d; bytes = t }) whole bytes)

-- bytes were added, and the first line is too long
pub line_dropped : (limit : ℕ) (u w new : Unread) (more : List ℕ) → w.dropped ≡ u.dropped → w.bytes ≡ u.bytes ++ more → (w.dropped ≡ true) ⊎ (limit < line_len w.bytes) → new ≡ shortened w.bytes
    → new ≡ with_got limit more u
line_dropped limit u w new more dropped bytes (inl cut) is =
    let was : u.dropped ≡ true = sym dropped ∙ cut in
    rw was (is ∙ ap shortened bytes)
line_dropped limit u w new more dropped bytes (inr over) is =
    let long : nat_lt limit (line_len (u.bytes ++ more)) ≡ true = ap (λ t. nat_lt limit (line_len t)) (sym bytes) ∙ lt-ltb limit (line_len w.bytes) over in
    by u.dropped refl long
  where
    by : (d : Bool) → u.dropped ≡ d → nat_lt limit (line_len (u.bytes ++ more)) ≡ true → new ≡ cond (d || nat_lt limit (line_len (u.bytes ++ more))) (shortened (u.bytes ++ more)) (record { dropped = false; bytes = u.bytes ++ more })
    by true was long = is ∙ ap shortened bytes
    by false was long = rw long (is ∙ ap shortened bytes)
