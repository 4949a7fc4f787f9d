-- What becomes of the commits of a run.
use Rattle.std.proofs.Common.{◌≡◌, ◌∙◌, ◌⊎◌, inl, inr, ⊎_elim, ℕ, ◌+◌, ◌*◌, ◌^◌, ◌≤◌, ◌<◌, List, length, map, take, Some, true, sym, ap, subst, arith}
use Rattle.std.specs.Prelude.{All}
use Rattle.std.proofs.lemmas.List.{length-map}
use Rattle.std.proofs.lemmas.List.Elements.{All-weaker}
use Rattle.std.proofs.lemmas.List.Sums.{count_by-le-length}
use Rattle.std.proofs.lemmas.Nat.{mul-le}
use Rattle.std.proofs.Math.Nat.{le_trans}
use Rattle.commit_turns.specs.Ending.{Lasts}
use Rattle.commit_turns.specs.Recovery.{Holds as HoldsPoint}
use Rattle.commit_turns.specs.Surviving.{HadJust, HasSince}
use Rattle.facet_disk.specs.Images.{Image, Told}
use Rattle.facet_disk.specs.declared.disk.Disk.{Ghosts}
use Rattle.facet_engine.specs.declared.ending.Trace.{Trace}
use Rattle.facet_io.specs.Faults.{Rose}
use Rattle.facet_model.specs.Histories.{docs}
use Rattle.facet_output.proofs.Among.{In, all_at, in_map, of_map}
use Rattle.facet_output.proofs.Effects.{change_placed}
use Rattle.facet_output.proofs.Outcomes.{durable_point, failed_point}
use Rattle.facet_output.specs.Answered.{Answered, in_writing_order}
use Rattle.facet_output.specs.Commits.{has_outcome}
use Rattle.facet_output.specs.Effects.{effect, report}
use Rattle.facet_output.specs.Output.{has_shown}
use Rattle.facet_output.specs.Replying.{IsCommitted, IsRight}
use Rattle.facet_output.specs.Seen.{CommitPoint as Point, history_of, labels_of}
use Rattle.facet_output.specs.Reported.{closed_by, durable_by, failed, failed_by, shown_in, stood, stood_by}
use Rattle.facet_replies.specs.Replies.{no_memory, numbered, refused}
use Rattle.facet_words.specs.Commands.{Settings, Command, Order, commit}
use Rattle.facet_words.specs.ScriptOrder.{orders_in}
use Rattle.pair_manager.specs.declared.point.CommitPoint.{CommitPoint}
use Rattle.store_opening.specs.Files.{greatest_number}
use Rattle.store_opening.specs.Newest.{next_after}
use Rattle.facet_serving.proofs.Adds.{right_of, shown_before, stands_there}
use Rattle.facet_serving.proofs.Commits.{failed_before}
use Rattle.facet_serving.proofs.Counted.{written_few}
use Rattle.facet_serving.specs.Acknowledged.{AcknowledgedStays, AcknowledgedSurvives, CommitsAreAcknowledged, HasChange, HeldSince, Holds, IsAcknowledged, IsHeld, IsHeldSince}
use Rattle.facet_serving.specs.Sessions.{Ran, SpendsFrom}
use Rattle.facet_serving.specs.Stores.{CountsFault, points_of}
use Rattle.facet_output.proofs.Gluing.{all_by}

-- a point of the history of commits, as those who commit see it
abbrev point : ℕ × Point → CommitPoint
point e = record { operations = e.1.operations; labels = e.1.labels; failed = e.1.failed }

module _ {D : Type 0} (ghosts : Ghosts D) (settings : Settings) (phases : List (List Order)) (trace : Trace) (old new : D) (ran : Ran ghosts settings phases trace old new) where
  -- what an image has of the point of an acknowledged commit is what that acknowledged
  held_by : (c : Image) (a : Answered) (n : ℕ) → In a ran.answered → a.order.command ≡ commit → a.reply ≡ numbered n → (p : CommitPoint) → p.operations ≡ n
      → has_shown (labels_of ran.last) ran.last.pairs ran.answered a p.labels ≡ true → HoldsPoint settings.config (labels_of ran.last) (history_of ran.last) p c
      → Holds settings ran.last ran.answered a n c
  held_by c a n there is says p size shown_to h =
      let stands : stood a ≡ Some n = λ i. stood_by (is i) a.saw (says i) in
      let many : n ≤ h.recovers.operations = (let from = h.operations_from in omega (arith, from, size)) in
      record {
        recovers = h.recovers;
        many = many;
        labels = (p.labels, h.labels_from, shown_to);
        changes = all_by (HasChange (history_of ran.last) a h.recovers.operations) ran.answered (λ b among place o after placed.
            let shown = shown_before settings phases ran.opened (labels_of ran.last) (history_of ran.last) ran.last.pairs ran.answered ran.right a b n there among stands after in
            let says_place = (change_placed b.order.session (effect b.order.command) (report b.reply) (place, o) placed).2 in
            let up_to = ap (shown_in b.saw) says_place in
            let r = stands_there settings phases ran.opened (labels_of ran.last) (history_of ran.last) ran.last.pairs ran.answered ran.right b (place, o) among placed in
            (omega (arith, shown, up_to, many), r.1));
      }

  held : (c : Image) → All (λ (p : CommitPoint). HoldsPoint settings.config (labels_of ran.last) (history_of ran.last) p c) (points_of ran.last.commits)
      → (a : Answered) (n : ℕ) → In a ran.answered → a.order.command ≡ commit → a.reply ≡ numbered n → Holds settings ran.last ran.answered a n c
  held c all a n there is says =
      let p = durable_point ran.opened ran.last ran.answered ran.points a n there (λ i. durable_by (is i) (says i)) in
      held_by c a n there is says (point p.0) p.3 p.4
      (all_at (λ (p : CommitPoint). HoldsPoint settings.config (labels_of ran.last) (history_of ran.last) p c) (points_of ran.last.commits) (point p.0) all (in_map point ran.last.commits p.0 p.1))

  -- the disk as it was when the point of an acknowledged commit was entered
  held_since : Lasts ghosts settings.config (ghosts.moment old) (labels_of ran.last) (history_of ran.last) (points_of ran.last.commits) new
      → (a : Answered) (n : ℕ) → In a ran.answered → a.order.command ≡ commit → a.reply ≡ numbered n → HeldSince ghosts settings ran.last ran.answered new a n
  held_since lasts a n there is says =
      let p = durable_point ran.opened ran.last ran.answered ran.points a n there (λ i. durable_by (is i) (says i)) in
      let s = lasts.moments in
      let among : In (point p.0) (map (λ (m : D × CommitPoint). m.1) lasts.marks) = subst (In (point p.0)) (sym s.are) (in_map point ran.last.commits p.0 p.1) in
      let m = of_map (λ (m : D × CommitPoint). m.1) lasts.marks (point p.0) among in
      let since = all_at (HasSince ghosts settings.config (labels_of ran.last) (history_of ran.last) new) lasts.marks m.0 s.since m.1 in
      let just = all_at (HadJust ghosts settings.config (labels_of ran.last) (history_of ran.last)) lasts.marks m.0 s.just m.1 in
      let unfailed = ap (λ (q : CommitPoint). q.failed) (sym m.2) ∙ p.2 in
      record {
        at = m.0.0;
        earlier = since.later;
        just = λ c left. let h = just unfailed c left in (h.recovers.found, h.recovers.is, h.recovers.docs_are ∙ ap (λ k. docs (take k (history_of ran.last))) (h.operations_many ∙ ap (λ (q : CommitPoint). q.operations) (sym m.2) ∙ p.3));
        since = λ c left. held_by c a n there is says (point p.0) p.3 p.4
            (subst (λ (q : CommitPoint). HoldsPoint settings.config (labels_of ran.last) (history_of ran.last) q c) (sym m.2) (since.each c left));
      }

-- a count that rose to one that is at most another rose to that
rose_on : (before some now : ℕ) → Rose before some → some ≤ now → Rose before now
rose_on before some now (inl lt) le = inl (omega (arith, lt, le))
rose_on before some now (inr most) le = inr (le_trans most le)

-- numbers that are spent are 2^63 or more
none_spent : (number next taken : ℕ) → 2 ^ 63 ≤ number → number < next + taken → next ≤ 2 ^ 62 → taken ≤ 1000003 * 4294967297 → ⊥
none_spent number next taken high low from few = omega (arith, high, low, from, few)

module _ {D : Type 0} (ghosts : Ghosts D) (settings : Settings) (phases : List (List Order)) (trace : Trace) (old new : D) (ran : Ran ghosts settings phases trace old new) where
  -- no commit failed where the count of faults did not rise
  none_failed : (Rose (ghosts.faults old) (ghosts.faults new) → ⊥) → (a : Answered) (count : ℕ) → In a ran.answered → failed a ≡ Some count → ⊥
  none_failed still a count there e =
      let p = failed_point ran.opened ran.last ran.answered ran.points a count there e in
      let counts = all_at (CountsFault ghosts old new) (points_of ran.last.commits) (point p.0) ran.keeps.counted (in_map point ran.last.commits p.0 p.1) count p.2 in
      still (rose_on (ghosts.faults old) count (ghosts.faults new) counts.0 counts.1)

  few_commits : (most : ℕ) → length (in_writing_order phases) ≤ most → length ran.last.commits ≤ most + 1
  few_commits most le =
      let asked = ap length ran.right.asked in
      let size = length-map {B = ℕ × Order} ran.answered (λ a. (a.phase, a.order)) in
      let many = ran.points.many in
      let commits = count_by-le-length has_outcome ran.answered in
      omega (arith, asked, size, many, commits, le)

  acknowledged : (Rose (ghosts.faults old) (ghosts.faults new) → ⊥) → (t : Told) → ghosts.told old ≡ Some t → next_after (greatest_number t.files) ≤ 2 ^ 62 → length (in_writing_order phases) ≤ 4294967296
      → (a : Answered) → In a ran.answered → IsAcknowledged a
  acknowledged still t tells from few a there is =
      let r = right_of settings phases ran.opened (labels_of ran.last) (history_of ran.last) ran.last.pairs ran.answered ran.right a there in
      ⊎_elim (λ right. committed (subst (λ (c : Command). IsRight settings (labels_of ran.last) (history_of ran.last) r.0 a.order.session c a.took a.saw a.reply) is right)) (λ lacks. inr lacks.1) r.1
    where
      committed : IsCommitted (history_of ran.last) a.reply → ((n : ℕ) × (a.reply ≡ numbered n)) ⊎ (a.reply ≡ refused no_memory)
      committed (inl c) = inl (c.0, c.2)
      committed (inr (inl d)) = absurd (none_failed still a d.0 there (λ i. failed_by (is i) (d.1 i)))
      committed (inr (inr (inl d))) =
          let b = failed_before settings phases ran.opened (labels_of ran.last) (history_of ran.last) ran.last.pairs ran.answered ran.right a d.0 there (λ i. closed_by (is i) (d.1 i)) in
          absurd (none_failed still b.0 d.0 b.1 b.2)
      committed (inr (inr (inr d))) =
          let low = all_at (SpendsFrom (next_after (greatest_number t.files)) ran.last) ran.answered a (ran.spent t tells) there d.0 d.2 in
          let many = few_commits 4294967296 few in
          let taken = mul-le 1000003 (length ran.last.commits) 1000003 4294967297 (omega arith) many in
          absurd (none_spent d.0 (next_after (greatest_number t.files)) (1000003 * length ran.last.commits) d.1 low from taken)

module _ {D : Type 0} (ghosts : Ghosts D) where
  pub acknowledged_stays : AcknowledgedStays ghosts
  acknowledged_stays settings phases trace old new t tells settled ran c left =
      let lasts = ran.keeps.lasts t tells settled in
      let all : All (λ (p : CommitPoint). HoldsPoint settings.config (labels_of ran.last) (history_of ran.last) p c) (points_of ran.last.commits) =
      All-weaker (λ (p : CommitPoint). (c : Image) → ghosts.may_leave new c → HoldsPoint settings.config (labels_of ran.last) (history_of ran.last) p c)
      (λ (p : CommitPoint). HoldsPoint settings.config (labels_of ran.last) (history_of ran.last) p c) (λ p h. h c left) (points_of ran.last.commits) lasts.exit in
      all_by (IsHeld settings ran.last ran.answered c) ran.answered (λ a there n is says. held ghosts settings phases trace old new ran c all a n there is says)

  pub acknowledged_survives : AcknowledgedSurvives ghosts
  acknowledged_survives settings phases trace old new t tells settled ran =
      let lasts = ran.keeps.lasts t tells settled in
      all_by (IsHeldSince ghosts settings ran.last ran.answered new) ran.answered (λ a there n is says. held_since ghosts settings phases trace old new ran lasts a n there is says)

  pub commits_are_acknowledged : CommitsAreAcknowledged ghosts
  commits_are_acknowledged s phases trace old new t orders fewer tells from still ran =
      let written = written_few s.phases in
      let few : length (in_writing_order phases) ≤ 4294967296 = within (length (in_writing_order phases)) (length (in_writing_order s.phases)) (length (orders_in s.phases)) fewer written orders in
      all_by IsAcknowledged ran.answered (λ a there. acknowledged ghosts s.settings phases trace old new ran still t tells from few a there)
    where
      within : (some all orders : ℕ) → some ≤ all → all ≤ 64 * orders → orders ≤ 67108864 → some ≤ 4294967296
      within some all orders one two three = omega (arith, one, two, three)
