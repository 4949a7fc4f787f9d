-- Marking the places of nodes, one after the other.
use Rattle.std.proofs.Common.{◌≡◌, ℕ, ◌<◌, Bool, true, false, ◌||◌, ◌==◌, List, [], ◌∷◌, ◌++◌, refl, sym, ap, ◌∙◌, arith}
use Rattle.std.proofs.Math.Bool.{or-true, or-false, or_assoc}
use Rattle.seg_postings.specs.Rising.{is_in}
use Rattle.seg_postings.specs.Sets.{either}
use Rattle.seg_postings.proofs.Members.{is_in-either, here_in, later_in}
use Rattle.place_bits.specs.Words.{Marked, AreBelow, with_places}
use Rattle.plan_places.specs.Marks.{IsMarkable, AreMarkedToo}
use Rattle.plan_places.specs.Planned.{Planned, any_of}

swapped : (a b c : Bool) → ((((b || false) || a)) || c) ≡ (a || (b || c))
swapped true true c = refl
swapped true false c = refl
swapped false true c = refl
swapped false false c = refl

-- places that are below by membership are below one by one
pub below_each : (bound : ℕ) (xs : List ℕ) → ((n : ℕ) → is_in n xs ≡ true → n < bound) → AreBelow bound xs
below_each bound [] below = tt
below_each bound (x ∷ xs) below = (below x (here_in x xs), below_each bound xs (λ n among. below n (later_in n x xs among)))

-- ---- one node

pub marked_places : (set new : Marked) (xs : List ℕ) → new ≡ with_places (either set.places xs) set → AreMarkedToo xs new set
marked_places set new xs is = record { words = ap (λ (m : Marked). m.words) is; members = λ n. ap (λ (m : Marked). is_in n m.places) is ∙ is_in-either n set.places xs }

pub marked_none : (set : Marked) → AreMarkedToo [] set set
marked_none set = record { words = refl; members = λ n. sym (or-false (is_in n set.places)) }

pub marked_leaf : (set one new : Marked) (head : ℕ) (xs : List ℕ) → one ≡ with_places (either (head ∷ []) set.places) set → new ≡ with_places (either one.places xs) one → AreMarkedToo (head ∷ xs) new set
marked_leaf set one new head xs first rest = record {
  words = ap (λ (m : Marked). m.words) rest ∙ ap (λ (m : Marked). m.words) first;
  members = λ n.
      ap (λ (m : Marked). is_in n m.places) rest ∙ is_in-either n one.places xs
      ∙ ap (λ b. b || is_in n xs) (ap (λ (m : Marked). is_in n m.places) first ∙ is_in-either n (head ∷ []) set.places)
      ∙ swapped (is_in n set.places) (n == head) (is_in n xs);
}

-- ---- the children of a union

any_more : (n : ℕ) (ps : List Planned) (p : Planned) → is_in n (any_of (ps ++ p ∷ [])) ≡ (is_in n (any_of ps) || is_in n p.left)
any_more n [] p = is_in-either n p.left [] ∙ or-false (is_in n p.left)
any_more n (q ∷ ps) p =
    is_in-either n q.left (any_of (ps ++ p ∷ [])) ∙ ap (λ b. is_in n q.left || b) (any_more n ps p) ∙ sym (or_assoc (is_in n q.left) (is_in n (any_of ps)) (is_in n p.left))
    ∙ ap (λ b. b || is_in n p.left) (sym (is_in-either n q.left (any_of ps)))

-- What is marked, and what the children have that are left, are together what was marked and what all children have.
pub record AreMarkedSoFar (all left : List Planned) (now old : Marked) : Type 0 where
  pub words : now.words ≡ old.words
  pub room : IsMarkable old (any_of left)
  pub same : (n : ℕ) → (is_in n now.places || is_in n (any_of left)) ≡ (is_in n old.places || is_in n (any_of all))

pub none_so_far : (all : List Planned) (old : Marked) → IsMarkable old (any_of all) → AreMarkedSoFar all all old old
none_so_far all old room = record { words = refl; room = room; same = λ n. refl }

moved_over : (a b c : Bool) → ((a || c) || b) ≡ (a || (b || c))
moved_over true b c = refl
moved_over false true true = refl
moved_over false true false = refl
moved_over false false true = refl
moved_over false false false = refl

module _ (all left rest : List Planned) (child : Planned) (now old : Marked) (so_far : AreMarkedSoFar all left now old) (is : left ≡ rest ++ child ∷ []) where
  of_left : (n : ℕ) → is_in n (any_of left) ≡ (is_in n (any_of rest) || is_in n child.left)
  of_left n = ap (λ ps. is_in n (any_of ps)) is ∙ any_more n rest child

  pub child_room : IsMarkable now child.left
  child_room n among = let in_left : is_in n (any_of left) ≡ true = of_left n ∙ ap (λ b. is_in n (any_of rest) || b) among ∙ or-true (is_in n (any_of rest)) in omega (arith, so_far.room n in_left, so_far.words)

  pub one_more : (new : Marked) → AreMarkedToo child.left new now → AreMarkedSoFar all rest new old
  one_more new marked = record {
    words = marked.words ∙ so_far.words;
    room = λ n among. so_far.room n (of_left n ∙ ap (λ b. b || is_in n child.left) among);
    same = λ n.
        ap (λ b. b || is_in n (any_of rest)) (marked.members n) ∙ moved_over (is_in n now.places) (is_in n (any_of rest)) (is_in n child.left)
        ∙ ap (λ b. is_in n now.places || b) (sym (of_left n)) ∙ so_far.same n;
  }

pub all_marked : (all left : List Planned) (now old : Marked) → AreMarkedSoFar all left now old → left ≡ [] → AreMarkedToo (any_of all) now old
all_marked all left now old so_far none = record {
  words = so_far.words;
  members = λ n. sym (or-false (is_in n now.places)) ∙ ap (λ ps. is_in n now.places || is_in n (any_of ps)) (sym none) ∙ so_far.same n;
}
