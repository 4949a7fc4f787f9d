-- What survives of each commit: under longer notes, when the chronicle is opened, and after one more commit.
use Rattle.std.proofs.Common.{◌≡◌, ◌≤◌, ◌<◌, List, [], ◌∷◌, ◌++◌, map, get_or, None, refl, sym, ap, subst, ◌∙◌, arith, inl, All}
use Rattle.std.proofs.lemmas.List.{map-append}
use Rattle.std.proofs.lemmas.List.Elements.{All-nil, All-cons, All-head, All-tail, All-push, All-weaker}
use Rattle.std.proofs.lemmas.List.Quantifiers.{all_pairs_push}
use mathlib.Core.List.{IsPrefix}
use Rattle.facet_disk.specs.Images.{Image}
use Rattle.facet_disk.specs.declared.disk.Disk.{Ghosts}
use Rattle.facet_model.specs.Flags.{Config}
use Rattle.facet_model.specs.Histories.{Operation}
use Rattle.facet_names.specs.Labels.{GoesOn}
use Rattle.facet_names.proofs.LabelLists.{Labels}
use Rattle.commit_calls.specs.Moments.{LeavesOnly}
use Rattle.commit_calls.proofs.Runs.{leaves_on, leaves_more}
use Rattle.commit_turns.specs.Recovery.{Holds, HoldsJust}
use Rattle.commit_turns.specs.Surviving.{HadJust, HasSince, Survive}
use Rattle.pair_manager.specs.declared.point.CommitPoint.{CommitPoint}
use Rattle.commit_turns.proofs.Imaged.{holds_more, holds_less, just_more}
use Rattle.commit_turns.proofs.Pointed.{last_push, Below}

-- what holds of each image of a list holds of the elements
module _ {X Y : Type 0} (P : Y → Type 0) (f : X → Y) where
  unmapped : (xs : List X) → All P (map f xs) → All (λ (x : X). P (f x)) xs
  unmapped [] all = All-nil (λ (x : X). P (f x))
  unmapped (x ∷ xs) all = All-cons (λ (x : X). P (f x)) x xs (All-head P (f x) (map f xs) all) (unmapped xs (All-tail P (f x) (map f xs) all))

module _ {X : Type 0} (P Q R : X → Type 0) (each : (x : X) → P x → Q x → R x) where
  both : (xs : List X) → All P xs → All Q xs → All R xs
  both xs one two k d lt = each (get_or xs k d) (one k d lt) (two k d lt)

-- since this moment there is no other
abbrev pub OnlyNow : {D : Type 0} → Ghosts D → Type 0
OnlyNow {D} disk = (d : D) (c : Image) → disk.left_since d (disk.moment d) c → disk.may_leave d c

-- a point that was entered now
abbrev pub marked : {D : Type 0} → D → CommitPoint → List (D × CommitPoint)
marked now p = (now, p) ∷ []

module _ {D : Type 0} (disk : Ghosts D) (config : Config) where
  pub survive_more : (labels more : Labels) (history longer : List Operation) (points : List CommitPoint) (marks : List (D × CommitPoint)) (now : D) → GoesOn labels more → IsPrefix history longer
      → Survive disk config labels history points marks now → Survive disk config more longer points marks now
  survive_more labels more history longer points marks now on grows s = record {
    are = s.are;
    before = s.before;
    ends = s.ends;
    rise = s.rise;
    just = All-weaker (HadJust disk config labels history) (HadJust disk config more longer)
        (λ m had none c left. just_more config labels more history longer m.1 c on grows (had none c left)) marks s.just;
    since = All-weaker (HasSince disk config labels history now) (HasSince disk config more longer now)
        (λ m has. leaves_more disk (Holds config labels history m.1) (Holds config more longer m.1) m.0 now (λ c h. holds_more config labels more history longer m.1 c on grows h) has) marks s.since;
  }

  module _ (only_now : OnlyNow disk) (labels : Labels) (history : List Operation) where
    at_once : (now : D) (p : CommitPoint) → ((c : Image) → disk.may_leave now c → Holds config labels history p c) → LeavesOnly disk now now (Holds config labels history p)
    at_once now p here = record { later = omega arith; each = λ c left. here c (only_now now c left); before = λ t c le left. inl left }

    -- the opened point alone
    pub survive_first : (p : CommitPoint) (now : D) → ((c : Image) → disk.may_leave now c → Holds config labels history p c) → (p.failed ≡ None → (c : Image) → disk.may_leave now c → HoldsJust config labels history p c)
        → Survive disk config labels history (p ∷ []) (marked now p) now
    survive_first p now here just = record {
      are = refl;
      before = [];
      ends = ap (marked now) (sym (last_push [] p));
      rise = λ i j d lt within. let few : j < 1 = within in absurd (omega (arith, lt, few));
      just = All-push (HadJust disk config labels history) [] (now, p) (All-nil (HadJust disk config labels history)) just;
      since = All-push (HasSince disk config labels history now) [] (now, p) (All-nil (HasSince disk config labels history now)) (at_once now p here);
    }

    -- one point more, after a commit of which each image has what was committed last
    pub survive_push : (es : List CommitPoint) (marks : List (D × CommitPoint)) (last p : CommitPoint) (old new : D) → All (Below last) es → LeavesOnly disk old new (Holds config labels history last)
        → ((c : Image) → disk.may_leave new c → Holds config labels history p c) → (p.failed ≡ None → (c : Image) → disk.may_leave new c → HoldsJust config labels history p c)
        → Survive disk config labels history es marks old → Survive disk config labels history (es ++ p ∷ []) (marks ++ marked new p) new
    survive_push es marks last p old new most leaves here just s = record {
      are = map-append (λ (m : D × CommitPoint). m.1) marks (marked new p) ∙ ap (λ (l : List CommitPoint). l ++ p ∷ []) s.are;
      before = marks;
      ends = ap (λ (q : CommitPoint). marks ++ marked new q) (sym (last_push es p));
      rise = all_pairs_push (λ (a b : D × CommitPoint). disk.moment a.0 ≤ disk.moment b.0) marks (new, p) s.rise (λ k m low. risen (get_or marks k m) (s.since k m low));
      just = All-push (HadJust disk config labels history) marks (new, p) s.just just;
      since = All-push (HasSince disk config labels history new) marks (new, p)
          (both (HasSince disk config labels history old) (λ (m : D × CommitPoint). Below last m.1) (HasSince disk config labels history new) goes_on marks s.since
          (unmapped (Below last) (λ (m : D × CommitPoint). m.1) marks (subst (All (Below last)) (sym s.are) most)))
          (at_once new p here);
    }
      where
        risen : (m : D × CommitPoint) → HasSince disk config labels history old m → disk.moment m.0 ≤ disk.moment new
        risen m has = omega (arith, has.later, leaves.later)

        goes_on : (m : D × CommitPoint) → HasSince disk config labels history old m → Below last m.1 → HasSince disk config labels history new m
        goes_on m has low =
            leaves_on disk (Holds config labels history m.1) m.0 old new has
            (leaves_more disk (Holds config labels history last) (Holds config labels history m.1) old new (λ c h. holds_less config labels history last m.1 c low.0 low.1 h) leaves)
