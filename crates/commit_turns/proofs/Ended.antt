-- What the value says when it is taken for good.
use Rattle.std.proofs.Common.{◌≡◌, ℕ, ◌≤◌, List, Some, None, refl, sym, ap, subst, ◌∙◌, All}
use Rattle.std.proofs.lemmas.List.Elements.{All-push, All-weaker}
use Rattle.facet_disk.specs.Calls.{Rose}
use Rattle.facet_disk.specs.Images.{Image, Told}
use Rattle.facet_disk.specs.declared.disk.Disk.{Ghosts}
use Rattle.facet_model.specs.Histories.{Operation}
use Rattle.facet_names.proofs.LabelLists.{Labels}
use Rattle.commit_plan.specs.Committed.{Committed}
use Rattle.commit_store.specs.Committers.{CommitterView}
use Rattle.store_opening.specs.Settled.{IsSettled}
use Rattle.store_opening.proofs.Held.{stands_settled}
use Rattle.commit_turns.specs.Commits.{IsLast}
use Rattle.commit_turns.specs.DiskStates.{DiskState}
use Rattle.commit_turns.specs.Ending.{Lasts, FailsWith}
use Rattle.commit_turns.specs.Points.{count_after, last_of}
use Rattle.commit_turns.specs.Recovery.{HoldsJust}
use Rattle.pair_manager.specs.declared.point.CommitPoint.{CommitPoint}
use Rattle.commit_turns.proofs.Carried.{On, last_files}
use Rattle.commit_turns.proofs.Imaged.{just_found}
use Rattle.commit_turns.proofs.Pointed.{last_push}

-- where a commit failed, so of the count
abbrev AtFailure : (ℕ → Type 0) → CommitPoint → Type 0
AtFailure P p = (count : ℕ) → p.failed ≡ Some count → P count

module _ {D : Type 0} (disk : Ghosts D) (told settled : Type 0) (quiet : DiskState → Type 0) (start : D) (begun : Committed) (committer : CommitterView D) (last : CommitPoint) (labels : Labels) (history : List Operation) (es : List CommitPoint) (marks : List (D × CommitPoint))
    (st : On disk told settled quiet start begun committer last labels history es marks) where
  -- what holds of the last count holds of each
  each_failed : (P : ℕ → Type 0) → AtFailure P last → All (AtFailure P) es
  each_failed P here = subst (λ (l : List CommitPoint). All (AtFailure P) l) (sym st.points.ends)
      (All-push (AtFailure P) st.points.before last (All-weaker (λ (p : CommitPoint). p.failed ≡ None) (AtFailure P) (λ p none count some. absurd (cc (sym none ∙ some))) st.points.before st.points.unfailed) here)

  pub counts : All (AtFailure (λ count. count ≤ disk.faults committer.disk)) es
  counts = each_failed (λ count. count ≤ disk.faults committer.disk) st.points.counts

  pub rose : All (AtFailure (Rose (disk.faults start))) es
  rose = each_failed (Rose (disk.faults start)) st.rose

  ends : last_of es ≡ last
  ends = ap last_of st.points.ends ∙ last_push st.points.before last

  -- the disk's count of faults is that of the last point, where it has failed
  pub count_is : disk.faults committer.disk ≡ count_after (disk.faults start) (last_of es).failed
  count_is = st.exact ∙ ap (λ (p : CommitPoint). count_after (disk.faults start) p.failed) (sym ends)

  -- the committer is closed as the last point has failed
  pub shut : (last_of es).failed ≡ committer.closed
  shut = ap (λ (p : CommitPoint). p.failed) ends ∙ st.closed

  -- the device failed where a commit failed
  pub fails_with : told → FailsWith disk (disk.failures start) (last_of es).failed committer.disk
  fails_with is = let followed = st.followed is in record { unfailed = λ none. followed.unfailed (sym shut ∙ none); rose = λ count some. followed.failed count (sym shut ∙ some) }

  module _ (is : settled) (unfailed : (last_of es).failed ≡ None) where
    pub kept : IsLast disk committer last labels history
    kept = st.committed is (sym shut ∙ unfailed)

    pub exact : (c : Image) → disk.may_leave committer.disk c → HoldsJust committer.config labels history (last_of es) c
    exact c left = subst (λ (p : CommitPoint). HoldsJust committer.config labels history p c) (sym ends)
        (just_found committer.config labels kept.known history kept.segments last.operations last c (last_files disk committer.config committer kept.known kept.segments kept.here c left) kept.goes_on kept.within kept.just kept.many refl)

    pub settles : (s : Told) → disk.may_leave committer.disk s.files → IsSettled disk committer.config s committer.disk
    settles s own = let at = kept.here in stands_settled committer.config committer.state.next at.taxonomy at.index _ at.known.files disk committer.disk s own at.stands

  pub lasts : settled → ((s : Told) → disk.told committer.disk ≡ Some s → disk.may_leave committer.disk s.files) → Lasts disk committer.config (disk.moment start) labels history es committer.disk
  lasts is own = record {
    opened = (st.keeps is).moments.each;
    marks = marks;
    moments = (st.keeps is).survive;
    exit = (st.keeps is).now;
    exact = exact is;
    settled = λ none s tells. settles is none s (own s tells);
  }
