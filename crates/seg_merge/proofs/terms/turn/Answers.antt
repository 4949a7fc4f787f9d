use Rattle.std.proofs.Common.{rules, ◌≡◌, true, false, sym, subst}
use Rattle.std.specs.Ordering.{is_lt, is_gt}
use Rattle.facet_names.proofs.Ordered.{is_less}
use Rattle.facet_model.specs.Words.{word_cmp}
use Rattle.seg_merge.specs.Walk.{with_term, AreWritten, IsWalk}
use Rattle.seg_merge.proofs.Walking.{same_text, turned_on, turned_same}
use Rattle.seg_merge.proofs.terms.turn.Goals as goal

pub returns-then-is_lt : goal.returns-then-is_lt
returns-then-is_lt c = λ ss start passed walk.
    let less : is_lt (word_cmp c.args.text.now c.args.term.now) ≡ true = search rules in
    subst (IsWalk ss start c.put_term.new.out.items c.put_term.new.count passed c.args.term.now c.args.segment) (sym c.clear.ensures.items)
    (turned_on ss start c.args.out.now.items c.put_term.new.out.items c.args.count.now c.put_term.new.count passed c.args.text.now c.args.from c.args.places.now.items c.args.term.now c.args.segment walk (is_less _ less)
    (subst (λ ps. AreWritten start c.put_term.new.out.items c.put_term.new.count (with_term walk.terms c.args.text.now ps)) c.deref.ensures.value (c.in_ok-put_term.ensures start walk.terms walk.written walk.before)))

pub returns : goal.returns
returns c = λ ss start passed walk.
    let less : is_lt (word_cmp c.args.text.now c.args.term.now) ≡ false = search rules in
    let more : is_gt (word_cmp c.args.text.now c.args.term.now) ≡ false = search rules in
    turned_same ss start c.args.out.now.items c.args.out.now.items c.args.count.now c.args.count.now passed c.args.text.now c.args.from c.args.places.now.items c.args.term.now c.args.segment walk (same_text c.args.text.now c.args.term.now less more) c.if-segment-from.false
