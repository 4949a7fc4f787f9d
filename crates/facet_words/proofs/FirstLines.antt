-- Lines: the JSON value of one, and the first one of some bytes.
use Rattle.std.proofs.Common.{◌≡◌, ℕ, suc, ◌+◌, ◌<◌, ◌≤◌, Bool, true, false, cond, ltb, List, [], ◌∷◌, length, drop, Some, None, refl, sym, arith}
use Rattle.std.specs.Prelude.{◌==◌, IsUtf8, not, take}
use Rattle.std.specs.List.{position_or_len, position}
use Rattle.std.specs.Str.{is_utf8}
use Rattle.std.proofs.lemmas.Bool.{ltb-false}
use Rattle.std.proofs.lemmas.Str.{is_utf8-from_IsUtf8, IsUtf8-from_is_utf8}
use borrow.Author.Tests.{ltb-true}
use Rattle.serde_json.specs.Data.{Data}
use Rattle.serde_json.specs.Read.{read}
use Rattle.facet_words.specs.Lines.{line_data, lines_of}

pub is_json : (bs : List ℕ) (d : Data) → IsUtf8 bs → read bs ≡ Some d → Some d ≡ line_data bs
unfolding line_data
is_json bs d u e = rw (is_utf8-from_IsUtf8 bs u) (sym e)

pub no_json : (bs : List ℕ) → (IsUtf8 bs → read bs ≡ None) → None ≡ line_data bs
unfolding line_data
no_json bs h = by (is_utf8 bs) refl
  where
    by : (b : Bool) → is_utf8 bs ≡ b → None ≡ cond b (read bs) None
    by true e = sym (h (IsUtf8-from_is_utf8 bs e))
    by false e = refl

-- ---- the first line, and the others

abbrev feed : List ℕ → ℕ
feed bs = position_or_len (λ b. b == 10) bs

one_step : (b : ℕ) (bs : List ℕ) (n : ℕ) (t : Bool) → (b == 10) ≡ t → (n < length bs → lines_of bs ≡ take n bs ∷ lines_of (drop (n + 1) bs)) → cond (not (b == 10)) (1 + n) 0 < length (b ∷ bs)
    → lines_of (b ∷ bs) ≡ take (cond (not (b == 10)) (1 + n) 0) (b ∷ bs) ∷ lines_of (drop (cond (not (b == 10)) (1 + n) 0 + 1) (b ∷ bs))
one_step b bs n true h more lt = rw h refl
one_step b bs n false h more lt =
    let within : n < length bs = let l : 1 + n < length (b ∷ bs) = rw h at lt in omega arith in
    let first : 1 + n ≡ suc n = omega arith in
    let second : suc n + 1 ≡ suc (n + 1) = omega arith in
    rw (h, first, second, more within) refl

pub line_at : (bs : List ℕ) → feed bs < length bs → lines_of bs ≡ take (feed bs) bs ∷ lines_of (drop (feed bs + 1) bs)
line_at [] lt = absurd (omega arith)
line_at (b ∷ bs) lt = one_step b bs (feed bs) (b == 10) refl (line_at bs) lt

last_step : (b : ℕ) (bs : List ℕ) (n : ℕ) (t : Bool) → (b == 10) ≡ t → (length bs ≤ n → 0 < length bs → lines_of bs ≡ bs ∷ []) → length (b ∷ bs) ≤ cond (not (b == 10)) (1 + n) 0 → lines_of (b ∷ bs) ≡ (b ∷ bs) ∷ []
last_step b bs n true h more le = absurd (let l : length (b ∷ bs) ≤ 0 = rw h at le in omega arith)
last_step b [] n false h more le = rw h refl
last_step b (x ∷ bs) n false h more le =
    let long : length (x ∷ bs) ≤ n = let l : length (b ∷ x ∷ bs) ≤ 1 + n = rw h at le in omega arith in
    rw (h, more long (omega arith)) refl

pub line_last : (bs : List ℕ) → length bs ≤ feed bs → 0 < length bs → lines_of bs ≡ bs ∷ []
line_last [] le some = absurd (omega arith)
line_last (b ∷ bs) le some = last_step b bs (feed bs) (b == 10) refl (line_last bs) le

-- what a search for a line feed says
pub feed_found : (bs : List ℕ) (at : ℕ) → Some at ≡ position (λ b. b == 10) bs → (at ≡ feed bs) × (feed bs < length bs)
feed_found bs at e = by (ltb (feed bs) (length bs)) refl e
  where
    by : (t : Bool) → ltb (feed bs) (length bs) ≡ t → Some at ≡ cond t (Some (feed bs)) None → (at ≡ feed bs) × (feed bs < length bs)
    by true h e = (cc, ltb-true _ _ h)
    by false h e = absurd cc

pub feed_missed : (bs : List ℕ) → None ≡ position (λ b. b == 10) bs → length bs ≤ feed bs
feed_missed bs e = by (ltb (feed bs) (length bs)) refl e
  where
    by : (t : Bool) → ltb (feed bs) (length bs) ≡ t → None ≡ cond t (Some (feed bs)) None → length bs ≤ feed bs
    by true h e = absurd cc
    by false h e = ltb-false _ _ h
