use Rattle.std.proofs.Common.{◌≡◌, ◌∙◌, ap, sym, subst, arith, length}
use Rattle.std.proofs.lemmas.List.{with_items_is}
use Rattle.seg_postings.specs.Rising.{IsRising}
use Rattle.place_bits.specs.Words.{Marked, marked, marked_from}
use Rattle.place_bits.proofs.Firsts.{rising_left}
use Rattle.place_bits.proofs.Rests.{rest_marked}
use Rattle.place_bits.proofs.cursor.BitPlaces.into_rest.Goals as goal

pub returns-clause-rest : goal.returns-clause-rest
returns-clause-rest c =
    let held : c.deref_mut.result.now ≡ c.self.inside.words.items = c.deref_mut.ensures.value in
    let size : length c.leave_from.new.words ≡ length c.self.inside.words.items = c.leave_from.ensures.len ∙ ap length held in
    c.of_words.ensures ∙ ap marked (with_items_is c.self.inside.words c.leave_from.new.words (omega (arith, size, c.self.inside.words.ok.0)))
    ∙ rest_marked c.leave_from.new.words c.deref_mut.result.now c.self.inside.next c.leave_from.ensures.len c.leave_from.ensures.left
    ∙ ap (marked_from c.self.inside.next) held
    ∙ c.self.view_is

pub returns-clause-rising : goal.returns-clause-rising
returns-clause-rising c = subst (λ (m : Marked). IsRising m.places) (sym (returns-clause-rest c)) (subst (λ (m : Marked). IsRising m.places) c.self.view_is (rising_left c.self.inside.words.items c.self.inside.next))
