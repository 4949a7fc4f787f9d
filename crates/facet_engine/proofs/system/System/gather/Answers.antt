use Rattle.std.proofs.Common.{subst}
use Rattle.facet_output.specs.Seen.{Seen}
use Rattle.facet_engine.specs.Exchange.{Meets}
use Rattle.facet_engine.proofs.system.System.gather.Goals as goal

pub returns-clause-told : goal.returns-clause-told
returns-clause-told g c = subst (λ (s : Seen). Meets 0 c.args.first.now c.meet_all.new.pass s) c.notes-notes.ensures.seen (c.meet_all.ensures.told 0 c.requires.numbers).0
