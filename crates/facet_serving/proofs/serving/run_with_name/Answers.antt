use Rattle.std.proofs.Common.{◌≡◌, ◌∙◌, refl, sym, ap, subst}
use Rattle.facet_engine.specs.Notes.{noted}
use Rattle.facet_engine.specs.Opening.{opened_of}
use Rattle.facet_model.specs.ConfigTexts.{config_texts}
use Rattle.facet_words.specs.CommandViews.{settings_view}
use Rattle.store_opening.specs.Quiet.{IsQuiet}
use Rattle.facet_serving.proofs.Begun.{counted}
use Rattle.facet_serving.proofs.Kept.{keeps}
use Rattle.facet_serving.proofs.Opened.{opens, rooted}
use Rattle.facet_serving.proofs.serving.run_with_name.Goals as goal

pub run_to_end-ran-requires-clause-first : goal.run_to_end-ran-requires-clause-first
run_to_end-ran-requires-clause-first g c κs within =
    let e = c.in-Ok.ensures in
    record { numbers = e.first.0; made = e.first.1; counted = counted c.in-Ok.first (opened_of c.args.store) e.first.1 e.seen; named = e.named }

pub returns-in-Ok-clause-carried : goal.returns-in-Ok-clause-carried
returns-in-Ok-clause-carried g c =
    let disk = g.D.Disk in
    let store = c.args.store in
    let start = store.start.value in
    let settings = settings_view c.args.settings in
    let e = c.in-Ok.ensures in
    let r = c.run_to_end-ran.ensures in
    let ended = c.run_to_end-ran.result.ended in
    let texts : config_texts settings.config ≡ c.in-Ok.first.commits.frame.texts = ap config_texts e.settings.config ∙ e.own.config ∙ sym c.in-Ok.first.one_config.1 in
    record {
      opened = opened_of store;
      last = noted ended.notes;
      first = c.in-Ok.first;
      next = _;
      at = _;
      faults = _;
      failures = _;
      numbers = e.numbers;
      next_is = c.requires.next;
      pair_is = c.opened-opened.ensures ∙ e.opened;
      rooted = rooted store;
      opens = opens disk settings.config store start refl c.requires.ready;
      traced = record { labels = r.labels; sessions = r.sessions };
      keeps = keeps disk settings.config ended.notes start ended.disk g.N.Start.told g.N.Start.settled c.requires.told.1 c.requires.settled.1 (record {
        counts = r.counts;
        rose = r.rose _ _ _ _ e.numbers;
        exact = r.exact _ _ _ _ e.numbers;
        tells = r.tells;
        failed = λ told. r.failed _ _ _ _ told e.numbers;
        untouched = λ few. c.requires.quiet.1 ended.disk (r.quiet few);
        lasts = λ settled. r.lasts settings.config _ _ _ _ settled texts e.numbers;
      });
      ended = r.ran settings (opened_of store) e.settings e.seen (rooted store);
    }

pub returns-clause-quiet : goal.returns-clause-quiet
returns-clause-quiet g c = subst (λ d. IsQuiet g.D.Disk c.args.store.start.value d) (sym c.in-Err.ensures.fault.1) c.requires.ready.opened.quiet
