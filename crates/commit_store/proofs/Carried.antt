-- What the device calls of a planned commit leave is what the commit promises.
use Rattle.std.proofs.Common.{◌≡◌, ◌∙◌, List, take, Some, None, Contains, sym, ap, subst, ⊎_elim}
use Rattle.facet_disk.specs.declared.disk.Disk.{Ghosts}
use Rattle.facet_disk.specs.Images.{Image, Told}
use Rattle.facet_model.specs.Flags.{Config}
use Rattle.facet_model.specs.Stored.{Records}
use Rattle.facet_names.specs.Labels.{GoesOn}
use Rattle.commit_calls.specs.declared.plan.Plan.{Plan}
use Rattle.commit_calls.specs.Held.{Held, Below}
use Rattle.commit_calls.specs.Moments.{LeavesOnly, IsAt, IsOneOfThree}
use Rattle.commit_calls.specs.Outcomes.{carried_told, cleared_told, whole_told, IsCutShort as IsCallsCutShort}
use Rattle.commit_calls.specs.Plans.{Leads}
use Rattle.store_opening.specs.Newest.{AreListed}
use Rattle.store_opening.specs.Settled.{IsSettled}
use Rattle.store_opening.proofs.Held.{stands_settled}
use Rattle.commit_plan.specs.Committed.{Committed}
use Rattle.commit_store.specs.Committers.{CommitterView}
use Rattle.commit_store.specs.Committing.{HasOneOfThree}
use Rattle.commit_plan.specs.Plannings.{IsPlanOf, IsCommittedAt, AreLed, LeadsOn}
use Rattle.commit_store.specs.Promised.{AreAmong, HasNamed}
use Rattle.commit_plan.specs.Results.{committed_told, IsCutShort}
use Rattle.commit_plan.proofs.Cleaning.{carried_is, cut_short_is, left_named}
use Rattle.commit_store.proofs.Listed.{are_listed}
use Rattle.commit_plan.proofs.Remaining.{named_stays}
use Rattle.commit_store.proofs.Promises.{leaves_weaker, led, one_of_three}
use Rattle.std.proofs.lemmas.Option.{same_Some}
use Rattle.facet_names.proofs.LabelLists.{Labels}

-- a committer that took no fault
abbrev pub left : {D : Type 0} → Config → Committed → D → CommitterView D
left config state now = record { closed = None; config = config; state = state; disk = now }

-- from `now` to `end`
module _ {D : Type 0} (disk : Ghosts D) (own : (d : D) (s : Told) → disk.told d ≡ Some s → disk.may_leave d s.files) (config : Config) (old : Committed) (now : D) (view : Labels) (ss : List Records)
    (p : Plan) (after : Committed) (end : D) (plan : IsPlanOf config old view ss p after) (leads : LeadsOn config old p after view ss) where
  -- it holds of each pair of directories that the plan leads from and to
  abbrev Leading : (Held → Held → Held → Held → Type 0) → Type 0
  Leading holds = (s : Told) (t i t' i' : Held) → disk.told now ≡ Some s → Leads p t i t' i' → IsAt disk.may_leave p.from t i now → holds t i t' i'

  module _ (s : Told) (labels : Labels) (segs : List Records) (told : disk.told now ≡ Some s) (at : IsCommittedAt disk config old now labels segs) (on : GoesOn labels view) where
    abbrev all : AreLed config p after at.taxonomy at.index view segs ss
    all = led disk config old now labels view segs ss at p after own s told leads on

    from : IsAt disk.may_leave p.from at.taxonomy at.index now
    from = subst (λ n. IsAt disk.may_leave n at.taxonomy at.index now) (sym plan.from) at.stands

    pub passes : Leading (λ t i t' i'. LeavesOnly disk now end (IsOneOfThree p.to t i t' i')) → LeavesOnly disk now end (HasOneOfThree config labels segs view ss)
    passes run = leaves_weaker disk now end (IsOneOfThree p.to at.taxonomy at.index all.taxonomy_after all.index_after) (HasOneOfThree config labels segs view ss)
        (one_of_three disk config old now labels view segs ss at p after own s told leads on)
        (run s at.taxonomy at.index all.taxonomy_after all.index_after told all.leads from)

    pub ends : Leading (λ t i t' i'. (c : Image) → disk.may_leave end c → IsOneOfThree p.to t i t' i' c) → (c : Image) → disk.may_leave end c → HasOneOfThree config labels segs view ss c
    ends run c left = one_of_three disk config old now labels view segs ss at p after own s told leads on c
        (run s at.taxonomy at.index all.taxonomy_after all.index_after told all.leads from c left)

    pub acknowledged : Leading (λ t i t' i'. IsAt disk.may_leave p.to t' i' end) → IsCommittedAt disk config after end view ss
    acknowledged done = record {
      taxonomy = all.taxonomy_after;
      index = all.index_after;
      stands = subst (λ n. IsAt disk.may_leave n all.taxonomy_after all.index_after end) plan.to (done s at.taxonomy at.index all.taxonomy_after all.index_after told all.leads from);
      known = all.known;
    }

    pub settles : Leading (λ t i t' i'. IsAt disk.may_leave p.to t' i' end) → (u : Told) → disk.told end ≡ Some u → IsSettled disk config u end
    settles done u tells =
        let there = acknowledged done in
        stands_settled config after.next there.taxonomy there.index (record { labels = view; segments = ss }) there.known.files disk end u (own end u tells) there.stands

  -- ---- what it tells

  pub tells : ((s : Told) → disk.told now ≡ Some s → disk.told end ≡ Some (carried_told p s)) → (s : Told) → disk.told now ≡ Some s → disk.told end ≡ Some (committed_told config old view ss s)
  tells made s told = made s told ∙ ap (λ (t : Told). Some t) (carried_is config old view ss p after plan s)

  pub tells_same : ((s : Told) → disk.told now ≡ Some s → disk.told end ≡ Some (carried_told p s)) → (s u : Told) → disk.told now ≡ Some s → disk.told end ≡ Some u → u ≡ committed_told config old view ss s
  tells_same made s u told then = same_Some _ _ (sym then ∙ tells made s told)

  pub cleaned : ((s : Told) → disk.told now ≡ Some s → disk.told end ≡ Some (carried_told p s)) → (s u : Told) → disk.told now ≡ Some s → disk.told end ≡ Some u
      → AreAmong s.files old.listed → AreAmong u.files after.listed
  cleaned made s u told then listed n some =
      subst (λ (st : Committed). Contains st.listed n) (sym plan.after)
      (left_named config old view ss s listed n (λ none. some (ap (λ (t : Told). t.files n) (tells_same made s u told then) ∙ none)))

  pub stays_listed : ((s : Told) → disk.told now ≡ Some s → disk.told end ≡ Some (carried_told p s)) → (s u : Told) → disk.told now ≡ Some s → disk.told end ≡ Some u
      → HasNamed s.files old → AreListed s.files old.listed → AreListed u.files after.listed
  stays_listed made s u told then named listed = subst (λ (st : Committed). AreListed u.files st.listed) (sym plan.after)
      (are_listed config old view ss s named listed u (tells_same made s u told then))

  pub named_still : ((s : Told) → disk.told now ≡ Some s → disk.told end ≡ Some (carried_told p s)) → (s u : Told) → disk.told now ≡ Some s → disk.told end ≡ Some u
      → HasNamed s.files old → HasNamed u.files after
  named_still made s u told then named = subst (HasNamed u.files) (sym plan.after)
      (λ n has none. named_stays config old view ss s named n has (sym (ap (λ (t : Told). t.files n) (tells_same made s u told then)) ∙ none))

  pub cut_short : ((s : Told) → disk.told now ≡ Some s → IsCallsCutShort p s (disk.told end)) → (s : Told) → disk.told now ≡ Some s → IsCutShort config old view ss s (disk.told end)
  cut_short cut s told = cut_short_is config old view ss p after plan s (disk.told end) (cut s told)

  -- calls that were cut short tell too
  pub tells_still : ((s : Told) → disk.told now ≡ Some s → IsCallsCutShort p s (disk.told end)) → (s : Told) → disk.told now ≡ Some s → (u : Told) × (disk.told end ≡ Some u)
  tells_still cut s told = ⊎_elim (λ below. (below.told, below.is)) (λ done. (cleared_told (take done.0 p.strays.items) (whole_told p s), done.1)) (cut s told)

  pub fresh : ((s u : Told) → disk.told now ≡ Some s → disk.told end ≡ Some u → Below p.from s.files → Below p.to u.files) → (s u : Told) → disk.told now ≡ Some s → disk.told end ≡ Some u
      → Below old.next s.files → Below after.next u.files
  fresh names s u told then below = subst (λ n. Below n u.files) plan.to (names s u told then (subst (λ n. Below n s.files) (sym plan.from) below))
