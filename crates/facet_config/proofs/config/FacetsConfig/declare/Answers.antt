use Rattle.std.proofs.Common.{rules, ◌≡◌, ◌∙◌, ap, None}
use Rattle.std.specs.Map.{lookup}
use Rattle.std.specs.String.{string_eq}
use Rattle.indexmap.proofs.CallerLemmas.{insert_entry-new}
use Rattle.facet_config.proofs.Lookups.{not_there, one_more, named_more}
use Rattle.facet_config.proofs.config.FacetsConfig.declare.Goals as goal
use Rattle.facet_names.proofs.Keys.{is_key}

pub returns-clause-ok : goal.returns-clause-ok
returns-clause-ok c =
    let es = c.self.inside.dims.entries in
    let none : lookup (is_key c.args.dim.now) es ≡ None = not_there c.args.dim.now es (search rules) in
    let fresh : lookup (string_eq c.in_ok-name.name) es ≡ None = ap (λ d. lookup (is_key d) es) c.in_ok-name.ensures.ok ∙ none in
    let made = c.in_ok-insert.ensures.entries ∙ insert_entry-new string_eq c.self.inside.dims c.in_ok-name.name c.args.flags fresh in
    rw (← c.self.view_is) (one_more es c.insert.new.self.entries c.in_ok-name.name c.args.flags c.args.dim.now c.in_ok-name.ensures.ok made)

pub invariant_of-self-2 : goal.invariant_of-self-2
invariant_of-self-2 c =
    let es = c.self.inside.dims.entries in
    let none : lookup (is_key c.args.dim.now) es ≡ None = not_there c.args.dim.now es (search rules) in
    let fresh : lookup (string_eq c.in_ok-name.name) es ≡ None = ap (λ d. lookup (is_key d) es) c.in_ok-name.ensures.ok ∙ none in
    let made = c.in_ok-insert.ensures.entries ∙ insert_entry-new string_eq c.self.inside.dims c.in_ok-name.name c.args.flags fresh in
    named_more es c.insert.new.self.entries c.in_ok-name.name c.args.flags c.args.dim.now c.in_ok-name.ensures.ok made (search rules, search rules) c.self.invariant
