-- What holds between the steps of a search through several nodes.
use Rattle.std.specs.Prelude.{◌≡◌, ℕ, ◌<◌, ◌≤◌, Bool, true, false, List, [], ◌∷◌, Option, Some, None}
use Rattle.seg_postings.specs.Rising.{from_place}
use Rattle.plan_places.specs.Planned.{Planned}
use Rattle.plan_places.specs.Nodes.{conjunction_left, conjunction_nodes}
use Rattle.plan_places.specs.declared.conjunction.Conjunction.{Conjunction}

-- From p on the two have the same places.
pub record IsSameFrom (p : ℕ) (now old : Planned) : Type 0 where
  pub left : from_place p now.left ≡ from_place p old.left
  pub nodes : now.nodes ≡ old.nodes

-- each is the same from p on as the one at its place
abbrev pub AreSameFrom : ℕ → List Planned → List Planned → Type 0
AreSameFrom p [] [] = Unit {0}
AreSameFrom p [] (q ∷ qs) = ⊥
AreSameFrom p (n ∷ ns) [] = ⊥
AreSameFrom p (n ∷ ns) (q ∷ qs) = IsSameFrom p n q × AreSameFrom p ns qs

-- None from the first on and before the next passes the test, and the first does if it is the next.
pub record AreNoneBefore (test : ℕ → Bool) (first next : ℕ) : Type 0 where
  pub from : first ≤ next
  pub none : (n : ℕ) → first ≤ n → n < next → test n ≡ false
  pub found : next ≡ first → test first ≡ true

-- The result is where the search continues from the first. It is none if no place from there on passes the test.
abbrev pub IsMeeting : (ℕ → Bool) → ℕ → Option ℕ → Type 0
IsMeeting test first None = (n : ℕ) → first ≤ n → test n ≡ false
IsMeeting test first (Some next) = AreNoneBefore test first next

-- All places below p are passed.
pub record IsMoved (p : ℕ) (now old : Conjunction) : Type 0 where
  pub left : conjunction_left now ≡ from_place p (conjunction_left old)
  pub nodes : conjunction_nodes now ≡ conjunction_nodes old
