-- Marking the places of a list, one after the other.
use Rattle.std.proofs.Common.{◌≡◌, ℕ, ◌*◌, ◌<◌, eqb, ◌||◌, List, [], ◌∷◌, length, sym, ap, ◌∙◌, arith}
use Rattle.seg_postings.specs.Rising.{IsRising, is_in}
use Rattle.place_bits.specs.Words.{has, AreBelow}
use Rattle.std.proofs.Math.Bool.{or-false, or_assoc}

-- What is marked and what is left are together what was marked and what was left at first.
pub record AreMarked (old : List ℕ) (all : List ℕ) (now : List ℕ) (left : List ℕ) : Type 0 where
  pub len : length now ≡ length old
  pub below : AreBelow (64 * length old) left
  pub rises : IsRising left → IsRising all
  pub same : (n : ℕ) → (has now n || is_in n left) ≡ (has old n || is_in n all)

pub one_marked : (old all now left new : List ℕ) (x : ℕ) (xs : List ℕ) → AreMarked old all now left → IsRising left → left ≡ x ∷ xs → length new ≡ length now → ((n : ℕ) → has new n ≡ (has now n || eqb n x)) → AreMarked old all new xs
one_marked old all now left new x xs h r e len marked =
    let parts : AreBelow (64 * length old) (x ∷ xs) = rw e at h.below in
    record {
      len = len ∙ h.len;
      below = parts.1;
      rises = λ _. h.rises r;
      same = λ n. ap (λ b. b || is_in n xs) (marked n) ∙ or_assoc (has now n) (eqb n x) (is_in n xs) ∙ sym (ap (λ l. has now n || is_in n l) e) ∙ h.same n;
    }

pub is_below : (old all now left : List ℕ) (x : ℕ) (xs : List ℕ) → AreMarked old all now left → left ≡ x ∷ xs → x < 64 * length now
is_below old all now left x xs h e =
    let parts : AreBelow (64 * length old) (x ∷ xs) = rw e at h.below in
    omega (arith, parts.0, h.len)

pub all_marked : (old all now left : List ℕ) → AreMarked old all now left → left ≡ [] → (n : ℕ) → has now n ≡ (has old n || is_in n all)
all_marked old all now left h e n = sym (ap (λ l. has now n || is_in n l) e ∙ or-false (has now n)) ∙ h.same n
