use Rattle.std.proofs.Common.{◌≡◌, map, ap, ◌∙◌}
use Rattle.std.specs.Prelude.{fold, option_map}
use Rattle.facet_config.specs.Differences.{nearer}
use Rattle.facet_config.proofs.Different.{first_of_both, when_none, when_some}
use Rattle.facet_config.proofs.config.FacetsConfig.differs.Goals as goal

pub returns-clause-none : goal.returns-clause-none
returns-clause-none c =
    let is : option_map (λ s. s.now) c.first_different.result ≡ first_of_both c.args.self.now c.args.other.now = c.first_different.ensures.is ∙ ap (λ o. fold (nearer c.args.self.now c.args.other.now) o (map (λ d. d.0) c.args.other.now)) c.first_different-own.ensures.is in
    when_none c.args.self.now c.args.other.now (λ s. s.now) c.first_different.result is

pub returns-clause-first : goal.returns-clause-first
returns-clause-first c =
    let is : option_map (λ s. s.now) c.first_different.result ≡ first_of_both c.args.self.now c.args.other.now = c.first_different.ensures.is ∙ ap (λ o. fold (nearer c.args.self.now c.args.other.now) o (map (λ d. d.0) c.args.other.now)) c.first_different-own.ensures.is in
    when_some c.args.self.now c.args.other.now (λ s. s.now) c.first_different.result is
