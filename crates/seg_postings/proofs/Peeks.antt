-- Places, the first of which was looked at.
use Rattle.std.proofs.Common.{◌≡◌, ℕ, ◌<◌, ◌≤◌, List, [], ◌∷◌, ◌++◌, Option, Some, None, sym, ap, ◌∙◌, arith}
use Rattle.std.specs.Option.{option_to_list}
use Rattle.seg_postings.specs.Rising.{IsRising, IsNext, from_place}
use Rattle.seg_postings.specs.Steps.{IsPeeked}
use Rattle.seg_postings.proofs.Order.{from_all, from_below, from_later}
use Rattle.seg_postings.proofs.Either.{from_none}

abbrev pub peeked : Option ℕ → List ℕ → List ℕ
peeked head xs = option_to_list head ++ xs

pub peeked_none : (p : ℕ) (head : Option ℕ) (xs old : List ℕ) → head ≡ None → IsPeeked head xs → peeked head xs ≡ old → old ≡ from_place p old
peeked_none p None xs old e h v = let n : old ≡ [] = sym v ∙ h in rw n (sym (from_none p))
peeked_none p (Some x) xs old e h v = absurd cc

pub peeked_keeps : (p : ℕ) (head : Option ℕ) (x : ℕ) (xs old : List ℕ) → head ≡ Some x → IsPeeked head xs → p ≤ x → peeked head xs ≡ old → old ≡ from_place p old
peeked_keeps p None x xs old e h le v = absurd cc
peeked_keeps p (Some y) x xs old e h le v = let k : y ≡ x = cc in rw (← v) (sym (from_all p (y ∷ xs) (omega arith, from_below p y xs (omega arith) h.0)))

pub next_peeked : (r : Option ℕ) (old new : List ℕ) → IsNext r old new → IsRising old → IsPeeked r new
next_peeked None old new h k = h.1
next_peeked (Some x) old new h k = rw h at k

pub next_list : (r : Option ℕ) (old new : List ℕ) → IsNext r old new → peeked r new ≡ old
next_list None old new h = h.1 ∙ sym h.0
next_list (Some x) old new h = sym h

pub peeked_seeks : (p : ℕ) (head : Option ℕ) (x : ℕ) (xs old : List ℕ) (r : Option ℕ) (new : List ℕ) → head ≡ Some x → x < p → peeked head xs ≡ old → IsNext r (from_place p xs) new → peeked r new ≡ from_place p old
peeked_seeks p None x xs old r new e lt v n = absurd cc
peeked_seeks p (Some y) x xs old r new e lt v n = let s : y ≡ x = cc in next_list r (from_place p xs) new n ∙ sym (from_later p y xs (omega arith)) ∙ ap (from_place p) v
