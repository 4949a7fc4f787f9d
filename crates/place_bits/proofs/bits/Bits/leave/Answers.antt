use Rattle.std.proofs.Common.{◌≡◌, ◌∙◌, ◌&&◌, not, List, ℕ, ap, sym, subst, arith, length}
use Rattle.std.proofs.lemmas.List.{with_items_is}
use Rattle.seg_postings.specs.Rising.{IsRising, is_in}
use Rattle.place_bits.specs.Words.{Marked, has, members}
use Rattle.place_bits.proofs.Lists.{is_in_members, rising_members}
use Rattle.place_bits.proofs.bits.Bits.leave.Goals as goal

pub leave-requires : goal.leave-requires
leave-requires c =
    let room : length c.self.inside.words.items ≡ length c.other.inside.words.items = ap (λ (m : Marked). m.words) c.self.view_is ∙ c.requires ∙ sym (ap (λ (m : Marked). m.words) c.other.view_is) in
    ap length c.deref_mut.ensures.value ∙ room ∙ sym (ap length c.deref.ensures.value)

pub returns-clause-words : goal.returns-clause-words
returns-clause-words c =
    let held : c.deref_mut.result.now ≡ c.self.inside.words.items = c.deref_mut.ensures.value in
    let size : length c.leave.new.words ≡ length c.self.inside.words.items = c.leave.ensures.len ∙ ap length held in
    ap length (with_items_is c.self.inside.words c.leave.new.words (omega (arith, size, c.self.inside.words.ok.0))) ∙ size ∙ ap (λ (m : Marked). m.words) c.self.view_is

pub returns-clause-left : goal.returns-clause-left
returns-clause-left c = λ n.
    let held : c.deref_mut.result.now ≡ c.self.inside.words.items = c.deref_mut.ensures.value in
    let lent : c.deref.result.now ≡ c.other.inside.words.items = c.deref.ensures.value in
    let size : length c.leave.new.words ≡ length c.self.inside.words.items = c.leave.ensures.len ∙ ap length held in
    ap (λ (l : List ℕ). is_in n (members l)) (with_items_is c.self.inside.words c.leave.new.words (omega (arith, size, c.self.inside.words.ok.0)))
    ∙ is_in_members c.leave.new.words n ∙ c.leave.ensures.left n
    ∙ (λ i. has (held i) n && not (has (lent i) n))
    ∙ (λ i. sym (is_in_members c.self.inside.words.items n) i && not (sym (is_in_members c.other.inside.words.items n) i))
    ∙ (λ i. is_in n (c.self.view_is i).places && not (is_in n (c.other.view_is i).places))

pub returns-clause-rising : goal.returns-clause-rising
returns-clause-rising c =
    let held : c.deref_mut.result.now ≡ c.self.inside.words.items = c.deref_mut.ensures.value in
    let size : length c.leave.new.words ≡ length c.self.inside.words.items = c.leave.ensures.len ∙ ap length held in
    subst (λ (l : List ℕ). IsRising (members l)) (sym (with_items_is c.self.inside.words c.leave.new.words (omega (arith, size, c.self.inside.words.ok.0)))) (rising_members c.leave.new.words)
