-- Lists of points with one more.
use Rattle.std.proofs.Common.{◌≡◌, ℕ, ◌≤◌, List, [], ◌∷◌, ◌++◌, None, refl, sym, ap, subst, ◌∙◌, arith, All}
use Rattle.std.proofs.lemmas.List.Elements.{All-push, All-weaker, All-head}
use Rattle.commit_turns.specs.Commits.{ArePoints}
use Rattle.commit_turns.specs.Points.{made, failed_after, first_of, last_of}
use Rattle.pair_manager.specs.declared.point.CommitPoint.{CommitPoint}

-- the first point stays
pub first_stays : (before : List CommitPoint) (last : CommitPoint) (more : List CommitPoint) → first_of ((before ++ last ∷ []) ++ more) ≡ first_of (before ++ last ∷ [])
first_stays [] last more = refl
first_stays (p ∷ ps) last more = refl

pub first_more : (es before : List CommitPoint) (last : CommitPoint) (more : List CommitPoint) → es ≡ before ++ last ∷ [] → first_of (es ++ more) ≡ first_of es
first_more es before last more ends = ap (λ (l : List CommitPoint). first_of (l ++ more)) ends ∙ first_stays before last more ∙ sym (ap first_of ends)

-- the last point is the last
pub last_push : (before : List CommitPoint) (last : CommitPoint) → last_of (before ++ last ∷ []) ≡ last
unfolding last_of
last_push [] last = refl
last_push (p ∷ []) last = refl
last_push (p ∷ q ∷ ps) last = last_push (q ∷ ps) last

abbrev pub Below : CommitPoint → CommitPoint → Type 0
Below last p = (p.labels ≤ last.labels) × (p.operations ≤ last.operations)

pub first_below : (es before : List CommitPoint) (last : CommitPoint) → es ≡ before ++ last ∷ [] → All (Below last) es → Below last (first_of es)
first_below [] [] last ends most = absurd (cc ends)
first_below [] (q ∷ before) last ends most = absurd (cc ends)
first_below (p ∷ ps) before last ends most = All-head (Below last) p ps most

module _ (faults labels operations : ℕ) (last : CommitPoint) (es : List CommitPoint) (are : ArePoints faults labels operations last es) where
  -- no point has failed where the last one has not
  pub all_unfailed : last.failed ≡ None → All (λ (p : CommitPoint). p.failed ≡ None) es
  all_unfailed none = subst (λ (l : List CommitPoint). All (λ (p : CommitPoint). p.failed ≡ None) l) (sym are.ends) (All-push (λ (p : CommitPoint). p.failed ≡ None) are.before last are.unfailed none)

  -- all that is noted was committed
  pub points_made : last.failed ≡ None → (now : ℕ) → ArePoints now labels operations (made operations labels) (es ++ made operations labels ∷ [])
  points_made none now = record {
    before = es;
    ends = refl;
    unfailed = all_unfailed none;
    counts = λ count is. absurd (cc is);
    most = All-push (Below (made operations labels)) es (made operations labels)
        (All-weaker (Below last) (Below (made operations labels)) (λ p low. (omega (arith, low.0, are.within.0), omega (arith, low.1, are.within.1))) es are.most) (omega arith, omega arith);
    within = (omega arith, omega arith);
  }

  -- a commit failed
  pub points_failed : (count : ℕ) → last.failed ≡ None → (now : ℕ) → count ≤ now → ArePoints now labels operations (failed_after last count) (es ++ failed_after last count ∷ [])
  points_failed count none now le = record {
    before = es;
    ends = refl;
    unfailed = all_unfailed none;
    counts = λ k is. let same : count ≡ k = cc is in omega (arith, le, same);
    most = All-push (Below (failed_after last count)) es (failed_after last count) are.most (omega arith, omega arith);
    within = are.within;
  }
