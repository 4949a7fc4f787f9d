use Rattle.std.proofs.Common.{◌≡◌, ◌∙◌, List, ℕ, Some, None, ap, sym, subst}
use Rattle.seg_postings.specs.Rising.{IsRising, from_place}
use Rattle.place_bits.specs.Words.{IsFirstIn, Marked, members}
use Rattle.place_bits.proofs.Firsts.{rising_left, next_none, next_some}
use Rattle.place_bits.proofs.cursor.BitPlacesPlaces.next.Goals as goal

pub returns-in_err-place-clause-rising : goal.returns-in_err-place-clause-rising
returns-in_err-place-clause-rising c = subst (λ (m : Marked). IsRising m.places) c.self.view_is (rising_left c.self.inside.words.items c.self.inside.next)

pub returns-in_err-place-clause-next : goal.returns-in_err-place-clause-next
returns-in_err-place-clause-next c =
    let left : from_place c.self.inside.next (members c.self.inside.words.items) ≡ c.args.self.now.places = ap (λ (m : Marked). m.places) c.self.view_is in
    let first : IsFirstIn c.self.inside.words.items c.self.inside.next None = subst (λ (l : List ℕ). IsFirstIn l c.self.inside.next None) c.deref.ensures.value c.in_err-place.ensures in
    let none = sym left ∙ next_none c.self.inside.words.items c.self.inside.next first in
    rw c.from_residual.ensures (none, none)

pub returns-clause-rising : goal.returns-clause-rising
returns-clause-rising c = subst (λ (m : Marked). IsRising m.places) c.self.view_is (rising_left c.self.inside.words.items c.self.inside.next)

pub returns-clause-next : goal.returns-clause-next
returns-clause-next c =
    let left : from_place c.self.inside.next (members c.self.inside.words.items) ≡ c.args.self.now.places = ap (λ (m : Marked). m.places) c.self.view_is in
    let first : IsFirstIn c.self.inside.words.items c.self.inside.next (Some c.in_ok-place.place) = subst (λ (l : List ℕ). IsFirstIn l c.self.inside.next (Some c.in_ok-place.place)) c.deref.ensures.value c.in_ok-place.ensures in
    sym left ∙ next_some c.self.inside.words.items c.self.inside.next c.in_ok-place.place first

pub returns-clause-words : goal.returns-clause-words
returns-clause-words c = ap (λ (m : Marked). m.words) c.self.view_is
