-- Runs after one another.
use Rattle.std.proofs.Common.{◌≡◌, ◌∙◌, ◌⊎◌, inl, inr, ℕ, ◌≤◌, ◌<◌, List, [], ◌∷◌, length, take, Some, None, Ok, sym, ap, subst, arith}
use Rattle.std.specs.Prelude.{All}
use Rattle.std.proofs.lemmas.Bool.{cases_lt}
use Rattle.std.proofs.lemmas.List.Elements.{All-cons, All-head, All-nil, All-tail, All-weaker}
use Rattle.commit_turns.specs.Points.{last_of}
use Rattle.commit_turns.specs.Recovery.{Holds, HoldsJust, Recovers, docs_found}
use Rattle.facet_disk.specs.Images.{Image, Told}
use Rattle.facet_disk.specs.declared.disk.Disk.{Ghosts}
use Rattle.facet_model.specs.Flags.{Config}
use Rattle.facet_model.specs.Histories.{docs}
use Rattle.facet_names.specs.Labels.{GoesOn}
use Rattle.facet_output.specs.Output.{Opened}
use Rattle.facet_output.specs.Seen.{CommitPoint as Point, Entries, Seen, history_of, labels_of}
use Rattle.pair_manager.specs.declared.point.CommitPoint.{CommitPoint}
use Rattle.store_opening.specs.Files.{Found, files}
use Rattle.facet_serving.specs.Laws.{AcknowledgedIsReopened, IsReopened, LeavesStore}
use Rattle.facet_serving.specs.Stores.{points_of}

-- two readings of the same files are one
one_found : (config : Config) (c : Image) (f f' : Found) → files config c ≡ Ok f → files config c ≡ Ok f' → f ≡ f'
one_found config c f f' is is' = let e : Ok f ≡ Ok f' = sym is ∙ is' in cc e

module _ (config : Config) (last : Seen) (next : Opened) (c : Image) (f : Found) (is : files config c ≡ Ok f) (labels : next.labels ≡ f.labels) (documents : next.docs ≡ docs_found f) where
  abbrev Held : CommitPoint → Type 0
  Held p = Holds config (labels_of last) (history_of last) p c

  -- what is recovered is what is opened
  labels_are : (r : Recovers config (labels_of last) (history_of last) c) → r.found.labels ≡ next.labels
  labels_are r = ap (λ (x : Found). x.labels) (one_found config c r.found f r.is is) ∙ sym labels

  docs_are : (r : Recovers config (labels_of last) (history_of last) c) → next.docs ≡ docs (take r.operations (history_of last))
  docs_are r = documents ∙ sym (ap docs_found (one_found config c r.found f r.is is)) ∙ r.docs_are

  labels_from : (p : CommitPoint) → Held p → p.labels ≤ length next.labels
  labels_from p h = omega (arith, h.labels_from, ap length (labels_are h.recovers))

  -- so many operations leave the documents that are opened
  record Witness (ps : List CommitPoint) : Type 0 where
    operations : ℕ
    within : operations ≤ length (history_of last)
    leave : next.docs ≡ docs (take operations (history_of last))
    all : All (λ p. (p.labels ≤ length next.labels) × (p.operations ≤ operations)) ps

  abbrev AreBelow : ℕ → CommitPoint → Type 0
  AreBelow n p = (p.labels ≤ length next.labels) × (p.operations ≤ n)

  below_more : (m n : ℕ) → m ≤ n → (p : CommitPoint) → AreBelow m p → AreBelow n p
  below_more m n le p b = (b.0, omega (arith, le, b.1))

  -- those of each point, and so the greatest number of these
  witness : (q : CommitPoint) → Held q → (ps : List CommitPoint) → All Held ps → Witness ps
  witness q h [] all = record { operations = h.recovers.operations; within = h.recovers.within; leave = docs_are h.recovers; all = All-nil (AreBelow h.recovers.operations) }
  witness q h (p ∷ ps) all =
      let w = witness q h ps (All-tail Held p ps all) in
      let k = All-head Held p ps all in
      greater w k (cases_lt w.operations k.recovers.operations)
    where
      greater : (w : Witness ps) (k : Held p) → (w.operations < k.recovers.operations) ⊎ (k.recovers.operations ≤ w.operations) → Witness (p ∷ ps)
      greater w k (inl lt) = record {
        operations = k.recovers.operations;
        within = k.recovers.within;
        leave = docs_are k.recovers;
        all = All-cons (AreBelow k.recovers.operations) p ps (labels_from p k, k.operations_from)
            (All-weaker (AreBelow w.operations) (AreBelow k.recovers.operations) (below_more w.operations k.recovers.operations (omega (arith, lt))) ps w.all);
      }
      greater w k (inr le) = record {
        operations = w.operations;
        within = w.within;
        leave = w.leave;
        all = All-cons (AreBelow w.operations) p ps (labels_from p k, omega (arith, k.operations_from, le)) w.all;
      }

  just : (p : CommitPoint) → HoldsJust config (labels_of last) (history_of last) p c → (length next.labels ≡ p.labels) × (next.docs ≡ docs (take p.operations (history_of last)))
  just p h = (sym (ap length (labels_are h.recovers)) ∙ h.labels_many, docs_are h.recovers ∙ ap (λ n. docs (take n (history_of last))) h.operations_many)

  pub reopened : (p : CommitPoint) → Held p → All Held (points_of last.commits) → ((last_of (points_of last.commits)).failed ≡ None → HoldsJust config (labels_of last) (history_of last) (last_of (points_of last.commits)) c) → IsReopened last next
  reopened p h all exact =
      let w = witness p h (points_of last.commits) all in
      record {
        labels = subst (λ (l : List (List (List ℕ))). GoesOn l (labels_of last)) (labels_are h.recovers) h.recovers.labels_first;
        operations = w.operations;
        within = w.within;
        documents = w.leave;
        all = w.all;
        exact = λ none. just (last_of (points_of last.commits)) (exact none);
      }

-- the first point is held
first_held : (P : CommitPoint → Type 0) (commits : Entries Point) (e : ℕ × Point) → take 1 commits ≡ e ∷ [] → All P (points_of commits) → (p : CommitPoint) × P p
first_held P [] e is all = absurd (cc is)
first_held P (x ∷ commits) e is all =
    let p : CommitPoint = record { operations = x.1.operations; labels = x.1.labels; failed = x.1.failed } in
    (p, all 0 p (omega arith))

module _ {D : Type 0} (ghosts : Ghosts D) (own : (d : D) (t : Told) → ghosts.told d ≡ Some t → ghosts.may_leave d t.files) where
  pub acknowledged_reopened : AcknowledgedIsReopened ghosts
  acknowledged_reopened settings again phases later trace more start between end t tells settled same first second =
      let u = first.keeps.tells t tells in
      let lasts = first.keeps.lasts t tells settled in
      let stored = second.opens.stored u.0 u.1 in
      let is : files settings.config u.0.files ≡ Ok stored.0 = subst (λ (config : Config). files config u.0.files ≡ Ok stored.0) same stored.1 in
      let reads = own between u.0 u.1 in
      let held : All (λ (p : CommitPoint). Holds settings.config (labels_of first.last) (history_of first.last) p u.0.files) (points_of first.last.commits) =
      All-weaker (λ (p : CommitPoint). (c : Image) → ghosts.may_leave between c → Holds settings.config (labels_of first.last) (history_of first.last) p c)
      (λ (p : CommitPoint). Holds settings.config (labels_of first.last) (history_of first.last) p u.0.files) (λ p h. h u.0.files reads) (points_of first.last.commits) lasts.exit in
      let one = first_held (λ (p : CommitPoint). Holds settings.config (labels_of first.last) (history_of first.last) p u.0.files) first.last.commits _ first.points.first held in
      reopened settings.config first.last second.opened u.0.files stored.0 is stored.2 stored.3 one.0 one.1 held (λ none. lasts.exact none u.0.files reads)

  pub leaves_store : LeavesStore ghosts
  leaves_store settings phases trace start between t u tells settled first told =
      let lasts = first.keeps.lasts t tells settled in
      let one = first_held (λ (p : CommitPoint). (c : Image) → ghosts.may_leave between c → Holds settings.config (labels_of first.last) (history_of first.last) p c) first.last.commits _ first.points.first lasts.exit in
      let r = one.1 u.files (own between u told) in
      (r.recovers.found, r.recovers.is)
