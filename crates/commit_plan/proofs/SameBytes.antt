-- Stored segments that have given bytes.
use Rattle.std.proofs.Common.{◌≡◌, ℕ, ◌+◌, ◌<◌, ◌≤◌, ◌-◌, Bool, true, false, ◌&&◌, List, [], ◌∷◌, length, take, drop, get_or, map, Some, None, refl, ap, ◌∙◌, sym, arith}
use Rattle.std.specs.Str.{bytes_eq}
use Rattle.std.proofs.lemmas.List.{drop_more, drop_all, drop-drop, drop-map, take_all, get_or-map, length-drop, length-map}
use Rattle.facet_model.specs.Stored.{Records}
use Rattle.seg_grammar.specs.Spelling.{seg_bytes}
use Rattle.commit_plan.specs.Committed.{Kept}
use Rattle.commit_plan.specs.Drafts.{taken, is_same, are_same}

-- what a mapped list has at a place that was read
pub mapped_at : {S T : Type 0} (f : S → T) (ks : List S) (at : ℕ) (k : S) → at < length ks → k ≡ get_or ks at k → get_or (map f ks) at (f k) ≡ f k
mapped_at f ks at k low is = get_or-map f ks at k (f k) low ∙ ap f (sym is)

module _ {S : Type 0} (f : S → Kept) (ks : List S) (at : ℕ) (k : S) (low : at < length ks) (is : k ≡ get_or ks at k) where
  pub taken_more : (bytes : List ℕ) → bytes_eq (seg_bytes (f k).segment) bytes ≡ false → taken (drop (at + 1) (map f ks)) bytes ≡ taken (drop at (map f ks)) bytes
  unfolding taken
  taken_more bytes other = rw (drop_more (map f ks) at (f k) (omega (arith, low, length-map ks f)), mapped_at f ks at k low is, other) refl

  pub taken_here : (bytes : List ℕ) → bytes_eq (seg_bytes (f k).segment) bytes ≡ true → taken (drop at (map f ks)) bytes ≡ Some ((f k).part, drop (at + 1) (map f ks))
  unfolding taken
  taken_here bytes same = rw (drop_more (map f ks) at (f k) (omega (arith, low, length-map ks f)), mapped_at f ks at k low is, same) refl

  module _ {T : Type 0} (g : T → Records) (ss : List T) (s : T) (high : at < length ss) (there : s ≡ get_or ss at s) where
    pub same_more : is_same (f k) (g s) ≡ true → are_same (drop (at + 1) (map f ks)) (drop (at + 1) (map g ss)) ≡ are_same (drop at (map f ks)) (drop at (map g ss))
    unfolding are_same
    same_more same = rw (drop_more (map f ks) at (f k) (omega (arith, low, length-map ks f)), drop_more (map g ss) at (g s) (omega (arith, high, length-map ss g)), mapped_at f ks at k low is, mapped_at g ss at s high there, same) refl

    pub same_apart : is_same (f k) (g s) ≡ false → are_same (drop at (map f ks)) (drop at (map g ss)) ≡ false
    unfolding are_same
    same_apart other = rw (drop_more (map f ks) at (f k) (omega (arith, low, length-map ks f)), drop_more (map g ss) at (g s) (omega (arith, high, length-map ss g)), mapped_at f ks at k low is, mapped_at g ss at s high there, other) refl

-- the rest of a list from a place on, mapped, and what lies behind a place of it
module _ {S T : Type 0} (f : S → T) (ks : List S) (from : ℕ) (low : from ≤ length ks) where
  pub rest_mapped : map f (take (length ks - from) (drop from ks)) ≡ drop from (map f ks)
  rest_mapped = ap (map f) (take_all (length ks - from) (drop from ks) (omega (arith, length-drop from ks))) ∙ sym (drop-map f from ks)

  pub rest_behind : (ahead : ℕ) → drop (ahead + 1) (map f (take (length ks - from) (drop from ks))) ≡ drop (from + ahead + 1) (map f ks)
  rest_behind ahead = ap (drop (ahead + 1)) rest_mapped ∙ drop-drop (ahead + 1) from (map f ks) ∙ ap (λ (n : ℕ). drop n (map f ks)) (omega arith)

pub taken_none : (ks : List Kept) (at : ℕ) (bytes : List ℕ) → length ks ≤ at → taken (drop at ks) bytes ≡ None
unfolding taken
taken_none ks at bytes high = rw (drop_all at ks high) refl

pub same_end : (ks : List Kept) (ss : List Records) (at : ℕ) → length ks ≤ at → length ss ≤ at → are_same (drop at ks) (drop at ss) ≡ true
unfolding are_same
same_end ks ss at high long = rw (drop_all at ks high, drop_all at ss long) refl

pub same_length : (ks : List Kept) (ss : List Records) → are_same ks ss ≡ true → length ks ≡ length ss
unfolding are_same
same_length [] [] same = refl
same_length [] (s ∷ ss) same = absurd cc
same_length (k ∷ ks) [] same = absurd cc
same_length (k ∷ ks) (s ∷ ss) same = go (is_same k s) same (same_length ks ss)
  where
    go : (b : Bool) → (b && are_same ks ss) ≡ true → (are_same ks ss ≡ true → length ks ≡ length ss) → length (k ∷ ks) ≡ length (s ∷ ss)
    go true rest others = omega (arith, others rest)
    go false rest others = absurd cc

pub lengths_differ : (ks : List Kept) (ss : List Records) → (length ks ≡ length ss → ⊥) → are_same ks ss ≡ false
lengths_differ ks ss differ = go (are_same ks ss) refl
  where
    go : (b : Bool) → are_same ks ss ≡ b → are_same ks ss ≡ false
    go true is = absurd (differ (same_length ks ss is))
    go false is = is
