-- An add that was tried.
use Rattle.std.proofs.Common.{◌≡◌, ◌≢◌, ◌∙◌, ℕ, true, List, Ok, Err, refl, sym, subst}
use Rattle.chronicle.specs.Shown.{Shown, SeesOn}
use Rattle.chronicle.proofs.Prefixes.{prefix_self}
use Rattle.facet_model.specs.Documents.{Doc}
use Rattle.facet_model.specs.Histories.{Change, Operation, knows}
use Rattle.facet_names.proofs.LabelLists.{Labels}
use Rattle.pair_manager.specs.declared.pass.Pass.{Pass}
use Rattle.pair_manager.specs.Appended.{HasNoRoom, IsPlaced}
use Rattle.taxo_cache.specs.Seen.{labels_of}
use Rattle.taxo_list.specs.declared.fault.TaxoFault.{TaxoFault}
use Rattle.taxo_list.specs.declared.fault.TaxoFault.TheVariants.{LabelsFull as ListFull, NoMemory as ListNoMemory}
use Rattle.taxo_adding.specs.Several.{IsFullForOne}
use Rattle.facet_adding.specs.Adding.{HasTried}
use Rattle.facet_adding.specs.declared.adding.AddFault.TheVariants as adds

-- a token that is the same has seen on
pub same_sees_on : {A : Type 0} (old new : Shown A) → new ≡ old → SeesOn old new
same_sees_on old new is = subst (λ t. SeesOn old t) (sym is) (prefix_self old.seen, refl)

-- a fault that tells a size tells of a full list
pub full_for : (size limit : ℕ) (labels paths : Labels) (fault : TaxoFault) → fault ≡ ListFull size → (fault ≢ ListNoMemory → IsFullForOne fault limit labels paths) → IsFullForOne (ListFull size) limit labels paths
full_for size limit labels paths fault is full = subst (λ (f : TaxoFault). IsFullForOne f limit labels paths) is (full (λ e. apart (sym is ∙ e)))
  where
    apart : ListFull size ≡ ListNoMemory → ⊥
    apart e = cc

-- ---- from the resolved labels on

module _ (limit session : ℕ) (brings : Doc → Change) (doc : Doc) (old mid new : Pass) (entered : Doc) (is : entered ≡ doc) (operations : mid.operations ≡ old.operations) (labels : new.labels ≡ mid.labels)
    (known : knows (labels_of mid.labels.seen) doc ≡ true) where
  still_known : knows (labels_of new.labels.seen) doc ≡ true
  still_known = subst (λ (t : Shown (List (List ℕ))). knows (labels_of t.seen) doc ≡ true) (sym labels) known

  pub tried_placed : (at : ℕ) → IsPlaced at (record { session = session; change = brings entered }) mid.operations new.operations → HasTried limit session (brings doc) doc old new (Ok at)
  tried_placed at there = (still_known, subst (λ (T : Type 0). T) (λ i. IsPlaced at (record { session = session; change = brings (is i) }) (operations i) new.operations) there)

  pub tried_full : (count : ℕ) → SeesOn mid.operations new.operations → HasNoRoom (brings entered) count new.operations → HasTried limit session (brings doc) doc old new (Err (adds.DocsFull count))
  tried_full count on full = (subst (λ (t : Shown Operation). SeesOn t new.operations) operations on, still_known, subst (λ (d : Doc). HasNoRoom (brings d) count new.operations) is full)
