-- What the disk keeps when sessions end, in terms of what there is at the end.
use Rattle.std.proofs.Common.{◌≡◌, ◌∙◌, ℕ, ◌≤◌, List, [], ◌∷◌, length, map, Some, refl, sym, ap, subst}
use Rattle.std.specs.Prelude.{All}
use Rattle.chronicle.specs.History.{entries}
use Rattle.commit_turns.specs.Ending.{FailsWith, Lasts}
use Rattle.commit_turns.specs.Points.{count_after, last_of}
use Rattle.facet_disk.specs.Images.{Told}
use Rattle.facet_disk.specs.declared.disk.Disk.{Ghosts}
use Rattle.facet_engine.specs.Notes.{noted}
use Rattle.facet_engine.specs.Steps.{point_of}
use Rattle.facet_engine.specs.declared.notes.Notes.{Notes}
use Rattle.facet_io.specs.Faults.{Rose}
use Rattle.facet_model.specs.Flags.{Config}
use Rattle.facet_output.specs.Seen.{CommitPoint as Point, history_of, labels_of}
use Rattle.pair_manager.specs.declared.point.CommitPoint.{CommitPoint}
use Rattle.store_opening.specs.Quiet.{IsQuiet}
use Rattle.store_opening.specs.Settled.{IsSettled}
use Rattle.facet_serving.specs.Stores.{CountsFault, Keeps, points_of}

points_are : (es : List (ℕ × CommitPoint)) → points_of (map {B = ℕ × Point} (λ e. (e.0, point_of e.1)) es) ≡ entries es
points_are [] = refl
points_are (e ∷ es) = ap (λ (l : List CommitPoint). e.1 ∷ l) (points_are es)

module _ {D : Type 0} (ghosts : Ghosts D) (config : Config) (notes : Notes) (old new : D) (told settled : Type 0) where
  -- what the end of the system says of the disk, in terms of propositions that say how it was at the start
  pub record Leaves : Type 0 where
    pub counts : All (λ (p : CommitPoint). (count : ℕ) → p.failed ≡ Some count → count ≤ ghosts.faults new) (entries notes.commits.seen)
    pub rose : All (λ (p : CommitPoint). (count : ℕ) → p.failed ≡ Some count → Rose (ghosts.faults old) count) (entries notes.commits.seen)
    pub exact : ghosts.faults new ≡ count_after (ghosts.faults old) (last_of (entries notes.commits.seen)).failed
    pub tells : told → (s : Told) × (ghosts.told new ≡ Some s)
    pub failed : told → FailsWith ghosts (ghosts.failures old) (last_of (entries notes.commits.seen)).failed new
    pub untouched : length (entries notes.commits.seen) ≤ 1 → IsQuiet ghosts old new
    pub lasts : settled → Lasts ghosts config (ghosts.moment old) (labels_of (noted notes)) (history_of (noted notes)) (entries notes.commits.seen) new

  pub keeps : ((t : Told) → ghosts.told old ≡ Some t → told) → ((t : Told) → ghosts.told old ≡ Some t → IsSettled ghosts config t old → settled) → Leaves → Keeps ghosts config (noted notes) old new
  keeps is_told is_settled leaves =
      let points : points_of (noted notes).commits ≡ entries notes.commits.seen = points_are notes.commits.seen in
      record {
        counted = subst (λ (l : List CommitPoint). All (CountsFault ghosts old new) l) (sym points) (λ k p lt count failed. (leaves.rose k p lt count failed, leaves.counts k p lt count failed));
        exact = leaves.exact ∙ ap (λ (l : List CommitPoint). count_after (ghosts.faults old) (last_of l).failed) (sym points);
        tells = λ t tells. leaves.tells (is_told t tells);
        untouched = λ few. leaves.untouched (subst (λ (l : List CommitPoint). length l ≤ 1) points few);
        failed = λ t tells. subst (λ (l : List CommitPoint). FailsWith ghosts (ghosts.failures old) (last_of l).failed new) (sym points) (leaves.failed (is_told t tells));
        lasts = λ t tells was.
            subst (λ (l : List CommitPoint). Lasts ghosts config (ghosts.moment old) (labels_of (noted notes)) (history_of (noted notes)) l new) (sym points) (leaves.lasts (is_settled t tells was));
      }
