-- What a commit enters in its turn.
use Rattle.std.proofs.Common.{◌≡◌, ◌↔◌, ℕ, List, [], ◌∷◌, ◌++◌, Option, Some, Result, Err, sym, ap, subst, ◌∙◌, append-nil}
use Rattle.chronicle.specs.History.{entries, numbered}
use Rattle.chronicle.specs.Shown.{Shown, SeesOn, mine}
use Rattle.commit_plan.specs.declared.fault.CommitFault.{CommitFault}
use Rattle.commit_plan.specs.declared.fault.CommitFault.TheVariants.{Closed}
use Rattle.commit_turns.specs.Answers.{Enters}
use Rattle.commit_turns.specs.Commits.{ArePoints}
use Rattle.commit_turns.specs.Points.{last_of, entered}
use Rattle.pair_manager.specs.declared.point.CommitPoint.{CommitPoint}
use Rattle.commit_turns.proofs.Carried.{none_unless}
use Rattle.commit_turns.proofs.Pointed.{last_push, all_unfailed}

module _ (labels : ℕ) (old turn new : Shown CommitPoint) (shut : Option ℕ) (result : Result ℕ CommitFault) (faults known operations : ℕ) (last : CommitPoint) (sees : SeesOn old turn)
    (are : ArePoints faults known operations last (entries turn.seen)) (is_last : last.failed ≡ shut) (closed : (count : ℕ) → (shut ≡ Some count) ↔ (result ≡ Err (Closed count))) (same : new.number ≡ turn.number) where
  ends : last_of (entries turn.seen) ≡ last
  ends = ap last_of are.ends ∙ last_push are.before last

  failed_is : (last_of (entries turn.seen)).failed ≡ shut
  failed_is = ap (λ (p : CommitPoint). p.failed) ends ∙ is_last

  pub enters_these : (ps : List CommitPoint) → entered last labels result ≡ ps → new.seen ≡ turn.seen ++ numbered turn.number ps → mine new ≡ mine turn ++ numbered turn.number ps → Enters labels old new result
  enters_these ps are_entered seen own =
      let these : numbered turn.number ps ≡ numbered new.number (entered (last_of (entries turn.seen)) labels result) = λ i. numbered (sym same i) ((sym are_entered ∙ ap (λ (p : CommitPoint). entered p labels result) (sym ends)) i) in
      record {
        before = turn.seen;
        sees_on = sees.0;
        closed = λ count. ((λ is. (closed count).0 (sym failed_is ∙ is)), λ is. failed_is ∙ (closed count).1 is);
        unfailed = λ never. all_unfailed faults known operations last (entries turn.seen) are (is_last ∙ none_unless shut (λ k some. never k ((closed k).0 some)));
        seen = seen ∙ ap (λ l. turn.seen ++ l) these;
        mine = own ∙ ap (λ l. mine turn ++ l) these ∙ ap (λ l. l ++ numbered new.number (entered (last_of (entries turn.seen)) labels result)) sees.1;
        others = (are.before, are.ends ∙ ap (λ (p : CommitPoint). are.before ++ p ∷ []) (sym ends), are.unfailed);
      }

  pub enters_none : entered last labels result ≡ [] → new.seen ≡ turn.seen → mine new ≡ mine turn → Enters labels old new result
  enters_none none seen own = enters_these [] none (seen ∙ sym (append-nil turn.seen)) (own ∙ sym (append-nil (mine turn)))

abbrev pub IsClosedBy : Option ℕ → Result ℕ CommitFault → Type 0
IsClosedBy shut result = (count : ℕ) → (shut ≡ Some count) ↔ (result ≡ Err (Closed count))

pub closed_by : (shut : Option ℕ) (e f : CommitFault) → e ≡ f → IsClosedBy shut (Err e) → IsClosedBy shut (Err f)
closed_by shut e f same = subst (λ (x : CommitFault). IsClosedBy shut (Err x)) same
