-- A first line of too many bytes.
use Rattle.std.proofs.Common.{◌≡◌, ◌∙◌, ◌<◌, ◌≤◌, ℕ, ◌+◌, Bool, true, false, cond, List, [], ◌∷◌, ◌++◌, length, None, refl, sym, ap, subst, arith, append_assoc}
use Rattle.std.specs.Prelude.{◌==◌, not}
use Rattle.facet_words.specs.Lines.{lines_of, onto_first}
use Rattle.live_io.specs.Unread.{IsUnread, Unread, line_len}
use Rattle.live_lines.specs.Lines.{most_bytes}
use Rattle.live_serving.proofs.Cut.{line_len-append, no_feed_len}

-- the first line has as many bytes as there are before the first line feed
pub first_is : (b : ℕ) (bs : List ℕ) → (first : List ℕ) × (rest : List (List ℕ)) × (lines_of (b ∷ bs) ≡ first ∷ rest) × (length first ≡ line_len (b ∷ bs))
first_is b [] = by (b == 10)
  where
    by : (t : Bool) → (first : List ℕ) × (rest : List (List ℕ)) × (cond t ([] ∷ []) (onto_first b []) ≡ first ∷ rest) × (length first ≡ cond (not t) (1 + 0) 0)
    by true = ([], [], refl, refl)
    by false = (b ∷ [], [], refl, refl)
first_is b (c ∷ bs) = by (b == 10) (first_is c bs)
  where
    by : (t : Bool) → ((first : List ℕ) × (rest : List (List ℕ)) × (lines_of (c ∷ bs) ≡ first ∷ rest) × (length first ≡ line_len (c ∷ bs)))
        → (first : List ℕ) × (rest : List (List ℕ)) × (cond t ([] ∷ lines_of (c ∷ bs)) (onto_first b (lines_of (c ∷ bs))) ≡ first ∷ rest) × (length first ≡ cond (not t) (1 + line_len (c ∷ bs)) 0)
    by true f = ([], lines_of (c ∷ bs), refl, refl)
    by false f = (b ∷ f.0, f.1, ap (onto_first b) f.2, let e = f.3 in omega arith)

first_long : (bs : List ℕ) → most_bytes < line_len bs → (first : List ℕ) × (rest : List (List ℕ)) × (lines_of bs ≡ first ∷ rest) × (most_bytes < length first)
first_long [] long = absurd (omega arith)
first_long (b ∷ bs) long = let f = first_is b bs in (f.0, f.1, f.2, subst (λ (n : ℕ). most_bytes < n) (sym f.3) long)

line_len-more : (bs more : List ℕ) → line_len bs ≤ line_len (bs ++ more)
line_len-more [] more = omega arith
line_len-more (b ∷ bs) more = by (b == 10) (line_len-more bs more)
  where
    by : (t : Bool) → line_len bs ≤ line_len (bs ++ more) → cond (not t) (1 + line_len bs) 0 ≤ cond (not t) (1 + line_len (bs ++ more)) 0
    by true le = omega arith
    by false le = omega arith

-- whatever comes behind it
pub long_first : (u : Unread) (got more : List ℕ) → IsUnread most_bytes [] u got → (u.dropped ≡ false → most_bytes < line_len u.bytes)
    → (first : List ℕ) × (rest : List (List ℕ)) × (lines_of (got ++ more) ≡ first ∷ rest) × (most_bytes < length first)
long_first u got more i long =
    let rest = u.bytes ++ more in
    let parts : got ++ more ≡ i.gone ++ rest = ap (λ (l : List ℕ). l ++ more) i.parts ∙ append_assoc i.gone u.bytes more in
    let len = line_len-append i.gone rest (no_feed_len i.gone i.no_feed) in
    let stays = line_len-more u.bytes more in
    let enough : most_bytes < line_len (i.gone ++ rest) = by u.dropped refl len stays in
    first_long (got ++ more) (subst (λ (l : List ℕ). most_bytes < line_len l) (sym parts) enough)
  where
    by : (d : Bool) → u.dropped ≡ d → line_len (i.gone ++ (u.bytes ++ more)) ≡ length i.gone + line_len (u.bytes ++ more) → line_len u.bytes ≤ line_len (u.bytes ++ more) → most_bytes < line_len (i.gone ++ (u.bytes ++ more))
    by true is len stays = let many = i.long is in omega arith
    by false is len stays = let many = long is in omega arith
