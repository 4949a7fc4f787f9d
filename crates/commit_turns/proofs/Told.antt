-- What points that were seen say of those seen later.
use Rattle.std.proofs.Common.{◌≡◌, ℕ, List, [], ◌∷◌, ◌++◌, Result, Ok, Err, sym, ap, subst, ◌∙◌, All}
use Rattle.std.specs.Prelude.{IfOk}
use Rattle.std.proofs.lemmas.List.{map-append}
use Rattle.std.proofs.lemmas.List.Elements.{All-contains, Contains-append_left, Contains-push}
use mathlib.Core.List.{IsPrefix}
use Rattle.chronicle.specs.History.{entries}
use Rattle.chronicle.specs.Shown.{Shown}
use Rattle.chronicle.proofs.Entries.{entries-prefix}
use Rattle.chronicle.proofs.Prefixes.{prefix_trans}
use Rattle.commit_plan.specs.declared.fault.CommitFault.{CommitFault}
use Rattle.commit_turns.specs.Answers.{Enters}
use Rattle.commit_turns.specs.Points.{made, first_of}
use Rattle.pair_manager.specs.declared.point.CommitPoint.{CommitPoint}

-- the first point is the one that was seen first
pub first_told : (xs ys : List (ℕ × CommitPoint)) (p : CommitPoint) → entries xs ≡ p ∷ [] → IsPrefix xs ys → first_of (entries ys) ≡ p
first_told xs ys p is on =
    let q = entries-prefix xs ys on in
    ap first_of (sym q.1) ∙ ap (λ (l : List CommitPoint). first_of (l ++ q.0)) is

pub enters_on : (labels : ℕ) (old new : Shown CommitPoint) (result : Result ℕ CommitFault) → Enters labels old new result → IsPrefix old.seen new.seen
enters_on labels old new result e = prefix_trans old.seen e.before new.seen e.sees_on (_, sym e.seen)

-- what holds of all points that are seen later holds of the one that a commit entered
pub entered_holds : (labels : ℕ) (old new : Shown CommitPoint) (result : Result ℕ CommitFault) (later : List (ℕ × CommitPoint)) (P : CommitPoint → Type 0) → Enters labels old new result → IsPrefix new.seen later → All P (entries later)
    → IfOk result (λ n. P (made n labels))
entered_holds labels old new (Err fault) later P e on all = tt
entered_holds labels old new (Ok n) later P e on all =
    let q = entries-prefix new.seen later on in
    let is : entries new.seen ≡ entries e.before ++ made n labels ∷ [] = ap entries e.seen ∙ map-append (λ (x : ℕ × CommitPoint). x.1) e.before ((new.number, made n labels) ∷ []) in
    let here : All P ((entries e.before ++ made n labels ∷ []) ++ q.0) = subst (All P) (sym (ap (λ (l : List CommitPoint). l ++ q.0) (sym is) ∙ q.1)) all in
    All-contains P ((entries e.before ++ made n labels ∷ []) ++ q.0) (made n labels) here (Contains-append_left (entries e.before ++ made n labels ∷ []) q.0 (made n labels) (Contains-push (entries e.before) (made n labels)))
