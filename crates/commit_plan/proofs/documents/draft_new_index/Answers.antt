use Rattle.std.proofs.Common.{rules, arith, ◌≡◌, List, map, sym, subst}
use Rattle.std.specs.Arc.{arc_value}
use Rattle.std.specs.List.{AllByRecursion}
use Rattle.seg_grammar.proofs.Again.{segment_again}
use Rattle.commit_plan.specs.Committed.{IsKept, Kept, kept_view, parts_in}
use Rattle.commit_plan.specs.Drafts.{placed}
use Rattle.commit_plan.proofs.Counting.{placed_named, placed_live, placed_some, placed_size, placed_few, placed_documents, placed_numbers}
use Rattle.commit_plan.proofs.documents.draft_new_index.Goals as goal

pub write_index_commit-requires-clause-number : goal.write_index_commit-requires-clause-number
write_index_commit-requires-clause-number c =
    let old = c.args.state.now in let ss = map arc_value c.args.segments.now in let d = c.args.draft in
    let olds : AllByRecursion IsKept old.kept = rw (← c.state.view_is) c.state.invariant.kept in
    let number : c.next-number.result ≡ (placed old ss d).draft.next = search rules in
    omega (arith, number, c.requires.some, (placed_numbers segment_again old ss d olds c.requires.own).0)

pub write_index_commit-requires-clause-parts : goal.write_index_commit-requires-clause-parts
write_index_commit-requires-clause-parts c =
    let old = c.args.state.now in let ss = map arc_value c.args.segments.now in let d = c.args.draft in
    let olds : AllByRecursion IsKept old.kept = rw (← c.state.view_is) c.state.invariant.kept in
    let parts : c.deref-3.result.now ≡ parts_in (placed old ss d).kept = search rules in
    rw parts (placed_live segment_again old ss d olds c.requires.own)

pub write_index_commit-requires-clause-some : goal.write_index_commit-requires-clause-some
write_index_commit-requires-clause-some c =
    let old = c.args.state.now in let ss = map arc_value c.args.segments.now in let d = c.args.draft in
    let olds : AllByRecursion IsKept old.kept = rw (← c.state.view_is) c.state.invariant.kept in
    let parts : c.deref-3.result.now ≡ parts_in (placed old ss d).kept = search rules in
    rw parts (placed_some segment_again old ss d olds c.requires.own)

pub write_index_commit-requires-clause-few : goal.write_index_commit-requires-clause-few
write_index_commit-requires-clause-few c =
    let old = c.args.state.now in let ss = map arc_value c.args.segments.now in let d = c.args.draft in
    let olds : AllByRecursion IsKept old.kept = rw (← c.state.view_is) c.state.invariant.kept in
    let parts : c.deref-3.result.now ≡ parts_in (placed old ss d).kept = search rules in
    rw parts (omega (arith, placed_size segment_again old ss d olds c.requires.own, placed_few segment_again old ss d olds c.requires.own c.requires.few))

pub write_index_commit-requires-clause-live : goal.write_index_commit-requires-clause-live
write_index_commit-requires-clause-live c =
    let old = c.args.state.now in let ss = map arc_value c.args.segments.now in let d = c.args.draft in
    let olds : AllByRecursion IsKept old.kept = rw (← c.state.view_is) c.state.invariant.kept in
    let parts : c.deref-3.result.now ≡ parts_in (placed old ss d).kept = search rules in
    rw parts (placed_documents segment_again old ss d olds c.requires.own c.requires.few)

pub put-requires-clause-number : goal.put-requires-clause-number
put-requires-clause-number c =
    let old = c.args.state.now in let ss = map arc_value c.args.segments.now in let d = c.args.draft in
    let olds : AllByRecursion IsKept old.kept = rw (← c.state.view_is) c.state.invariant.kept in
    let number : c.next-number.result ≡ (placed old ss d).draft.next = search rules in
    let same : c.next-number.result ≡ c.finish-draft.result.0.next = c.next-number.ensures in
    let high = (placed_numbers segment_again old ss d olds c.requires.own).1 in
    omega (arith, number, same, high, c.requires.room, placed_few segment_again old ss d olds c.requires.own c.requires.few)

pub returns-clause-are : goal.returns-clause-are
returns-clause-are c =
    let old = c.args.state.now in let ss = map arc_value c.args.segments.now in let d = c.args.draft in
    let olds : AllByRecursion IsKept old.kept = rw (← c.state.view_is) c.state.invariant.kept in
    let kept : map kept_view c.finish-draft.result.1.items ≡ (placed old ss d).kept = search rules in
    subst (λ (ks : List Kept). AllByRecursion IsKept ks) (sym kept) (placed_named segment_again old ss d olds c.requires.own).kept
