use Rattle.std.proofs.Common.{◌≡◌, ◌∙◌, ◌&&◌, ◌||◌, not, List, ℕ, ap, sym, arith, length}
use Rattle.std.proofs.lemmas.List.{with_items_is}
use Rattle.seg_postings.specs.Rising.{is_in}
use Rattle.place_bits.specs.Words.{Marked, has, members}
use Rattle.place_bits.proofs.Lists.{is_in_members}
use Rattle.place_bits.proofs.bits.Bits.note.Goals as goal

pub returns-clause-missed : goal.returns-clause-missed
returns-clause-missed c =
    let base : c.deref.result.now ≡ c.self.inside.words.items = c.deref.ensures.value in
    let dim : c.deref_mut.result.now ≡ c.dim.inside.words.items = c.deref_mut.ensures.value in
    let size : length c.note.new.dim ≡ length c.dim.inside.words.items = c.note.ensures.dim_len ∙ ap length dim in
    let items = with_items_is c.dim.inside.words c.note.new.dim (omega (arith, size, c.dim.inside.words.ok.0)) in
    record {
      words = ap length items ∙ size ∙ ap (λ (m : Marked). m.words) c.dim.view_is;
      members = λ n.
          ap (λ (l : List ℕ). is_in n (members l)) items ∙ is_in_members c.note.new.dim n ∙ c.note.ensures.missed n
          ∙ (λ i. has (base i) n && not (has (dim i) n))
          ∙ (λ i. sym (is_in_members c.self.inside.words.items n) i && not (sym (is_in_members c.dim.inside.words.items n) i))
          ∙ (λ i. is_in n (c.self.view_is i).places && not (is_in n (c.dim.view_is i).places));
    }

pub returns-clause-ones : goal.returns-clause-ones
returns-clause-ones c = λ n.
    let base : c.deref.result.now ≡ c.self.inside.words.items = c.deref.ensures.value in
    let dim : c.deref_mut.result.now ≡ c.dim.inside.words.items = c.deref_mut.ensures.value in
    let ones : c.deref_mut-2.result.now ≡ c.ones.inside.words.items = c.deref_mut-2.ensures.value in
    let size : length c.note.new.ones ≡ length c.ones.inside.words.items = c.note.ensures.ones_len ∙ ap length ones in
    ap (λ (l : List ℕ). is_in n (members l)) (with_items_is c.ones.inside.words c.note.new.ones (omega (arith, size, c.ones.inside.words.ok.0)))
    ∙ is_in_members c.note.new.ones n ∙ c.note.ensures.ones n
    ∙ (λ i. has (ones i) n || (has (base i) n && not (has (dim i) n)))
    ∙ (λ i. sym (is_in_members c.ones.inside.words.items n) i || (sym (is_in_members c.self.inside.words.items n) i && not (sym (is_in_members c.dim.inside.words.items n) i)))
    ∙ (λ i. is_in n (c.ones.view_is i).places || (is_in n (c.self.view_is i).places && not (is_in n (c.dim.view_is i).places)))

pub returns-clause-twos : goal.returns-clause-twos
returns-clause-twos c = λ n.
    let base : c.deref.result.now ≡ c.self.inside.words.items = c.deref.ensures.value in
    let dim : c.deref_mut.result.now ≡ c.dim.inside.words.items = c.deref_mut.ensures.value in
    let ones : c.deref_mut-2.result.now ≡ c.ones.inside.words.items = c.deref_mut-2.ensures.value in
    let twos : c.deref_mut-3.result.now ≡ c.twos.inside.words.items = c.deref_mut-3.ensures.value in
    let size : length c.note.new.twos ≡ length c.twos.inside.words.items = c.note.ensures.twos_len ∙ ap length twos in
    ap (λ (l : List ℕ). is_in n (members l)) (with_items_is c.twos.inside.words c.note.new.twos (omega (arith, size, c.twos.inside.words.ok.0)))
    ∙ is_in_members c.note.new.twos n ∙ c.note.ensures.twos n
    ∙ (λ i. has (twos i) n || (has (ones i) n && (has (base i) n && not (has (dim i) n))))
    ∙ (λ i. sym (is_in_members c.twos.inside.words.items n) i || (sym (is_in_members c.ones.inside.words.items n) i && (sym (is_in_members c.self.inside.words.items n) i && not (sym (is_in_members c.dim.inside.words.items n) i))))
    ∙ (λ i. is_in n (c.twos.view_is i).places || (is_in n (c.ones.view_is i).places && (is_in n (c.self.view_is i).places && not (is_in n (c.dim.view_is i).places))))
