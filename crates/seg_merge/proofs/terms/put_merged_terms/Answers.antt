use Rattle.std.proofs.Common.{rules, arith, ◌≡◌, ◌∙◌, ◌<◌, ℕ, List, [], length, map, replicate, get_or, refl, sym, ap, subst}
use Rattle.std.specs.Arc.{arc_value}
use Rattle.std.proofs.lemmas.List.{length-map}
use Rattle.std.proofs.lemmas.List.Elements.{All-from_recursion}
use Rattle.facet_model.specs.Stored.{Records}
use Rattle.seg_grammar.specs.Spelling.{IsTerm}
use Rattle.seg_merge.specs.Merged.{IsOwn}
use Rattle.seg_merge.specs.Walk.{bases_from, segment_at, text_in, with_term, AreWritten, IsWalk, IsNextTerm, AreAllPassed}
use Rattle.seg_merge.proofs.Walking.{segment_is, walk_begins, walk_more, walk_ends, length_bases, base_there, low_base}
use Rattle.seg_merge.proofs.terms.put_merged_terms.Goals as goal

pub loop-init : goal.loop-init
loop-init c =
    let ss : List Records = map arc_value c.args.segments.now in
    let zeros : c.in_ok-passed.passed.items ≡ replicate (length c.args.segments.now) 0 = search rules in
    let none : c.new-places.result.items ≡ [] = c.new-places.ensures.items in
    record {
      walk = subst (IsWalk ss c.args.out.now.items c.args.out.now.items 0 c.in_ok-passed.passed.items [] 0) (sym none)
          (subst (λ ns. IsWalk ss c.args.out.now.items c.args.out.now.items 0 ns [] 0 []) (sym zeros) (walk_begins ss c.args.out.now.items (length c.args.segments.now) (sym (length-map c.args.segments.now arc_value))));
      short = omega arith;
      utf8 = ([], (refl, refl));
    }

pub turn-requires-text-text : goal.turn-requires-text-text
turn-requires-text-text c = λ l. c.loop.invariant.utf8

pub put_term-requires-text-text : goal.put_term-requires-text-text
put_term-requires-text-text c = λ l. c.loop.invariant.utf8

pub index-requires : goal.index-requires
index-requires c =
    let ss : List Records = map arc_value c.args.segments.now in
    let next : IsNextTerm ss c.loop.passed.items c.in-Some.number c.in-Some.at = subst (λ ps. IsNextTerm ss ps c.in-Some.number c.in-Some.at) c.deref-in-loop.ensures.value c.in-Some.ensures in
    omega (arith, next.segment, c.in_ok-bases.bases.ok.0, ap length c.in_ok-bases.ensures, length_bases 0 ss)

pub put_moved-requires-clause-base : goal.put_moved-requires-clause-base
put_moved-requires-clause-base c =
    let ss : List Records = map arc_value c.args.segments.now in
    let next : IsNextTerm ss c.loop.passed.items c.in-Some.number c.in-Some.at = subst (λ ps. IsNextTerm ss ps c.in-Some.number c.in-Some.at) c.deref-in-loop.ensures.value c.in-Some.ensures in
    let base : c.index.result.now ≡ get_or (bases_from 0 ss) c.in-Some.number 0 = c.index.ensures ∙ ap (λ (ns : List ℕ). get_or ns c.in-Some.number c.index.result.now) c.in_ok-bases.ensures ∙ base_there ss c.in-Some.number c.index.result.now next.segment in
    omega (arith, base, low_base 0 ss c.in-Some.number next.segment, c.requires.few)

pub loop-preserved : goal.loop-preserved
loop-preserved c =
    let ss : List Records = map arc_value c.args.segments.now in
    let k = c.in-Some.number in
    let at = c.in-Some.at in
    let old = c.args.out.now.items in
    let next : IsNextTerm ss c.loop.passed.items k at = subst (λ ps. IsNextTerm ss ps k at) c.deref-in-loop.ensures.value c.in-Some.ensures in
    let lt : k < length c.args.segments.now = omega (arith, next.segment, length-map c.args.segments.now arc_value) in
    let here : segment_at ss k ≡ arc_value c.index-segments-number.result = segment_is arc_value c.args.segments.now k c.index-segments-number.result lt (sym c.index-segments-number.is) in
    let text : c.term_text-term.result.now ≡ text_in ss k at = c.term_text-term.ensures ∙ ap (λ (s : Records). (get_or s.terms at ([], [])).0) (c.deref-in-loop-2.ensures ∙ sym here) in
    let walk : IsWalk ss old c.turn.new.out.items c.turn.new.count c.loop.passed.items c.term_text-term.result.now k c.turn.new.places.items = c.in_ok-turn.ensures ss old c.loop.passed.items c.loop.invariant.walk in
    let own : IsOwn (segment_at ss k) = All-from_recursion IsOwn ss c.requires.own k _ next.segment in
    let fits : IsTerm (length (segment_at ss k).records) (get_or (segment_at ss k).terms at ([], [])) = All-from_recursion (IsTerm (length (segment_at ss k).records)) (segment_at ss k).terms own.terms at ([], []) next.within in
    record {
      walk = walk_more ss old c.turn.new.out.items c.turn.new.count c.loop.passed.items c.term_text-term.result.now k at c.turn.new.places.items walk next text
          c.index.result.now c.deref-in-loop-3.result.now.dead c.places.result c.put_moved.new.list.items
          (c.index.ensures ∙ ap (λ (ns : List ℕ). get_or ns k c.index.result.now) c.in_ok-bases.ensures ∙ base_there ss k c.index.result.now next.segment)
          (ap (λ (s : Records). s.dead) (c.deref-in-loop-3.ensures ∙ sym here))
          (c.places.ensures ∙ ap (λ (s : Records). (get_or s.terms at ([], [])).1) (c.deref-in-loop-4.ensures ∙ sym here))
          c.in_ok-put_moved.ensures;
      short = omega (arith, ap length text, fits.text.length);
      utf8 = c.term_text-term.utf8;
    }

pub returns : goal.returns
returns c =
    let ss : List Records = map arc_value c.args.segments.now in
    let old = c.args.out.now.items in
    let new = c.put_term.new.out.items in
    let walk : IsWalk ss old c.loop.out.items c.loop.count c.loop.passed.items c.loop.text.now c.loop.from c.loop.places.items = c.loop.invariant.walk in
    let written : AreWritten old new c.put_term.new.count (with_term walk.terms c.loop.text.now c.loop.places.items) =
    subst (λ ps. AreWritten old new c.put_term.new.count (with_term walk.terms c.loop.text.now ps)) c.deref-2.ensures.value (c.in_ok-put_term.ensures old walk.terms walk.written walk.before) in
    let ended : AreAllPassed ss c.loop.passed.items = subst (AreAllPassed ss) c.deref-3.ensures.value (c.is_end.ensures c.if-not-is_end.false) in
    walk_ends ss old c.loop.out.items new c.loop.count c.put_term.new.count c.loop.passed.items c.loop.text.now c.loop.from c.loop.places.items walk written ended
