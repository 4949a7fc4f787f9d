use Rattle.facet_serving.proofs.Untouched.{is_quiet, left_quiet}
use Rattle.facet_serving.proofs.serving.run_on_store.Goals as goal

pub run_with_name-requires-clause-told : goal.run_with_name-requires-clause-told
run_with_name-requires-clause-told g c κs within = ((λ t. t), (λ t tells. (t, tells)))

pub run_with_name-requires-clause-settled : goal.run_with_name-requires-clause-settled
run_with_name-requires-clause-settled g c κs within = ((λ w. w), (λ t tells settled. record { told = t; tells = tells; settled = settled }))

pub run_with_name-requires-clause-quiet : goal.run_with_name-requires-clause-quiet
run_with_name-requires-clause-quiet g c κs within = (
  left_quiet g.D.Disk c.args.store.start.value c.args.store.committer.disk c.requires.ready.opened.quiet,
  (λ d quiet. is_quiet g.D.Disk c.args.store.start.value d quiet),
)
