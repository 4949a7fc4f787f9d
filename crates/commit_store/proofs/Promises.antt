-- What the device calls of a commit keep is what it promises.
use Rattle.std.proofs.Common.{◌≡◌, inl, inr, ⊎_elim, true, false, List, Some, Result, Ok, Err, OnOk, arith}
use Rattle.std.specs.Prelude.{is_err, OnErr}
use Rattle.facet_disk.specs.declared.disk.Disk.{Ghosts}
use Rattle.facet_disk.specs.Images.{Image, Told}
use Rattle.facet_model.specs.Flags.{Config}
use Rattle.facet_model.specs.Stored.{Records}
use Rattle.facet_names.specs.Labels.{GoesOn}
use Rattle.commit_calls.specs.declared.plan.Plan.{Plan}
use Rattle.commit_calls.specs.Moments.{LeavesOnly, IsOneOfThree}
use Rattle.store_opening.proofs.Held.{files_stand}
use Rattle.commit_plan.specs.Committed.{Committed}
use Rattle.commit_store.specs.Committing.{HasOneOfThree}
use Rattle.commit_plan.specs.Plannings.{IsCommittedAt, AreLed, LeadsOn}
use Rattle.commit_plan.proofs.Standing.{index_first}
use Rattle.facet_names.proofs.LabelLists.{Labels}

pub on_ok : {T E : Type 0} (r : Result T E) (X : Type 0) → OnOk r X → is_err r ≡ false → X
on_ok (Ok x) X is fine = is
on_ok (Err e) X is fine = absurd (cc fine)

pub on_fault : {T E : Type 0} (r : Result T E) (X : Type 0) → OnErr r X → is_err r ≡ true → X
on_fault (Ok x) X is fault = absurd (cc fault)
on_fault (Err e) X is fault = is

pub leaves_weaker : {D : Type 0} (disk : Ghosts D) (old new : D) (P Q : Image → Type 0) → ((c : Image) → P c → Q c) → LeavesOnly disk old new P → LeavesOnly disk old new Q
leaves_weaker disk old new P Q weaker run = record {
  later = run.later;
  each = λ c at. weaker c (run.each c at);
  before = λ t c le at. ⊎_elim (λ was. inl was) (λ is. inr (weaker c is)) (run.before t c le at);
}

-- nothing was done
pub leaves_same : {D : Type 0} (disk : Ghosts D) (only_now : (d : D) (c : Image) → disk.left_since d (disk.moment d) c → disk.may_leave d c) (now : D) (P : Image → Type 0)
    → ((c : Image) → disk.may_leave now c → P c) → LeavesOnly disk now now P
leaves_same disk only_now now P here = record {
  later = omega arith;
  each = λ c at. here c (only_now now c at);
  before = λ t c le at. inl at;
}

module _ {D : Type 0} (disk : Ghosts D) (config : Config) (old : Committed) (now : D) (labels view : Labels) (segs ss : List Records) (at : IsCommittedAt disk config old now labels segs) where
  -- every image has the files of the pair before
  pub here_now : (c : Image) → disk.may_leave now c → HasOneOfThree config labels segs view ss c
  here_now c left = inl (files_stand config old.next at.taxonomy at.index c (record { labels = labels; segments = segs }) (at.stands c left) at.known.files)

  module _ (p : Plan) (new : Committed) (own : (d : D) (s : Told) → disk.told d ≡ Some s → disk.may_leave d s.files) (s : Told) (is : disk.told now ≡ Some s) (lead : LeadsOn config old p new view ss) (on : GoesOn labels view) where
    pub led : AreLed config p new at.taxonomy at.index view segs ss
    led =
        let stands = at.stands s.files (own now s is) in
        lead at.taxonomy at.index labels segs at.known on stands.taxonomy_named stands.index_named (index_first old.next at.taxonomy at.index s.files stands)

    pub one_of_three : (c : Image) → IsOneOfThree p.to at.taxonomy at.index led.taxonomy_after led.index_after c → HasOneOfThree config labels segs view ss c
    one_of_three c (inl stands) = inl (files_stand config p.to at.taxonomy at.index c (record { labels = labels; segments = segs }) stands at.known.files)
    one_of_three c (inr (inl stands)) = inr (inl (files_stand config p.to led.taxonomy_after at.index c (record { labels = view; segments = segs }) stands led.middle))
    one_of_three c (inr (inr stands)) = inr (inr (files_stand config p.to led.taxonomy_after led.index_after c (record { labels = view; segments = ss }) stands led.known.files))
