use Rattle.std.proofs.Common.{rules, arith, ◌≡◌, ◌∙◌, ◌-◌, map, sym, ap}
use Rattle.std.specs.Arc.{arc_value}
use Rattle.std.specs.Option.{option_or}
use Rattle.commit_file.specs.Commits.{kept_of}
use Rattle.commit_file.proofs.Ordering.{kept_flags}
use Rattle.seg_decoding.proofs.Again.{opens_later}
use Rattle.seg_decoding.proofs.Longer.{opened_longer}
use Rattle.seg_documents.proofs.Storing.{few_segments}
use Rattle.seg_grammar.proofs.Again.{segment_again}
use Rattle.commit_plan.specs.Committed.{Committed, IsCommitted}
use Rattle.commit_plan.specs.Drafts.{Drafted, nothing_drafted, labels_drafted, labels_first, index_drafted, drafted, labels_number_from, label_parts_from, index_number_from, kept_from, committed_by}
use Rattle.commit_plan.specs.Plannings.{IsReadAgain}
use Rattle.commit_plan.specs.Strays.{strays}
use Rattle.commit_plan.proofs.Leading.{all_led, plan_is, no_different}
use Rattle.commit_plan.proofs.Numbers.{first_number, all_numbers}
use Rattle.commit_plan.proofs.planning.plan_commit.Goals as goal

pub returns-clause-plan : goal.returns-clause-plan
returns-clause-plan c =
    let config = c.args.config.now in let old = c.args.state.now in let view = c.args.view.now in let ss = map arc_value c.args.segments.now in
    let start : c.new-draft.result ≡ nothing_drafted old.next = c.new-draft.ensures ∙ ap (λ (s : Committed). nothing_drafted s.next) c.state.view_is in
    let next : c.new-draft.result.next ≡ old.next = ap (λ (d : Drafted). d.next) start in
    let first : c.draft_labels.new.draft ≡ labels_first old view = c.in_ok-labels.ensures.draft ∙ ap (labels_drafted old view) start in
    let all : c.in_ok-index.index.draft ≡ drafted config old view ss = c.in_ok-index.ensures.draft ∙ (λ i. index_drafted config (c.size.ensures.size i) old ss (first i)) in
    let commit = c.in_ok-labels.ensures.commit ∙ ap (λ n. labels_number_from n old view) next in
    let parts = c.in_ok-labels.ensures.parts ∙ ap (λ n. label_parts_from n old view) next in
    let newest = c.in_ok-index.ensures.commit ∙ ap (λ d. index_number_from d old ss) first in
    let kept = c.in_ok-index.ensures.kept ∙ ap (λ d. kept_from d old ss) first in
    let is = c.in_ok-planned.ensures.after in
    let to = c.in_ok-planned.ensures.numbers.1 in
    let after = is ∙ (λ i. committed_by (option_or (commit i) old.taxonomy) (parts i) (c.in_ok-labels.ensures.count i) (option_or (newest i) old.index) (kept i) (all i).next) in
    record {
      from = c.in_ok-planned.ensures.numbers.0 ∙ ap (λ (d : Drafted). d.from) all ∙ first_number config old view ss;
      to = to ∙ sym (ap (λ (s : Committed). s.next) is);
      room = omega (arith, to, c.next-to.ensures, c.if-to-gt-LIMIT.false);
      rises = c.in_ok-planned.ensures.rises;
      files = c.in_ok-planned.ensures.files ∙ ap (λ (d : Drafted). d.files) all;
      taxonomy = c.in_ok-planned.ensures.parts.0 ∙ commit;
      index = c.in_ok-planned.ensures.parts.1 ∙ newest;
      after = after;
      strays = c.in_ok-planned.ensures.strays ∙ ap (λ (s : Committed). strays old.listed s.listed) after;
    }

pub returns-clause-is_plan : goal.returns-clause-is_plan
returns-clause-is_plan c =
    let read : IsReadAgain c.args.config.now c.args.state.now c.args.view.now (map arc_value c.args.segments.now) = search rules in
    plan_is c.args.config.now c.args.state.now c.args.view.now (map arc_value c.args.segments.now) c.in_ok-planned.planned.plan c.in_ok-planned.planned.after (returns-clause-plan c) read

pub returns-clause-leads : goal.returns-clause-leads
returns-clause-leads c = λ t i labels segs known on below_t below_i one.
    let config = c.args.config.now in let old = c.args.state.now in let view = c.args.view.now in let ss = map arc_value c.args.segments.now in
    let read : IsReadAgain config old view ss = search rules in
    let committed : IsCommitted old = rw (← c.state.view_is) c.state.invariant in
    let alike = no_different config (kept_of config) (λ dim. sym (kept_flags dim config)) in
    all_led config old view ss c.in_ok-planned.planned.plan c.in_ok-planned.planned.after (returns-clause-plan c) read segment_again (opens_later config view view) alike
    (λ known needs documents bytes list_known list on low. opened_longer config known view list_known list on needs low documents bytes)
    c.size.ensures.list committed c.requires.own c.requires.decodes.0 c.requires.decodes.1 t i labels segs known on below_t below_i one

pub returns-clause-takes : goal.returns-clause-takes
returns-clause-takes c =
    let config = c.args.config.now in let old = c.args.state.now in let view = c.args.view.now in let ss = map arc_value c.args.segments.now in
    let numbers = all_numbers config old view ss in
    let same : c.in_ok-planned.planned.after.next ≡ (drafted config old view ss).next = ap (λ (s : Committed). s.next) (returns-clause-plan c).after in
    let few = few_segments ss c.requires.own in
    (omega (arith, numbers.0, same), omega (arith, numbers.1, same, few, c.requires.few))

pub returns-then-to-gt-LIMIT-clause-bound : goal.returns-then-to-gt-LIMIT-clause-bound
returns-then-to-gt-LIMIT-clause-bound c = λ number e.
    let config = c.args.config.now in let old = c.args.state.now in let view = c.args.view.now in let ss = map arc_value c.args.segments.now in
    let start : c.new-draft.result ≡ nothing_drafted old.next = c.new-draft.ensures ∙ ap (λ (s : Committed). nothing_drafted s.next) c.state.view_is in
    let first : c.draft_labels.new.draft ≡ labels_first old view = c.in_ok-labels.ensures.draft ∙ ap (labels_drafted old view) start in
    let all : c.in_ok-index.index.draft ≡ drafted config old view ss = c.in_ok-index.ensures.draft ∙ (λ i. index_drafted config (c.size.ensures.size i) old ss (first i)) in
    let next : c.next-to.result ≡ (drafted config old view ss).next = c.next-to.ensures ∙ ap (λ (d : Drafted). d.next) all in
    let last : c.next-to.result - 1 ≡ number = cc e in
    omega (arith, last, next, (all_numbers config old view ss).1, few_segments ss c.requires.own, c.requires.few)
