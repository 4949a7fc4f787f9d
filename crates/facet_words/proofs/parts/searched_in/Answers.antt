use Rattle.std.proofs.Common.{◌≡◌, Option, option_map, map, Some, None, sym, subst, ◌∙◌}
use Rattle.std.specs.Prelude.{IfOk}
use Rattle.serde_json.specs.View.{view}
use Rattle.facet_words.specs.Commands.{Search}
use Rattle.facet_words.specs.CommandViews.{search_view}
use Rattle.facet_words.proofs.Searches.{no_other_keys, settled_parts}
use Rattle.facet_words.proofs.parts.searched_in.Goals as goal

pub returns-then-not-keys_among : goal.returns-then-not-keys_among
returns-then-not-keys_among c = no_other_keys (map (λ k. k.now) c.args.keys.now) (view c.args.value.now) (sym c.keys_among.ensures ∙ c.if-not-keys_among.true)

pub returns-in-None : goal.returns-in-None
returns-in-None c = settled_parts (map (λ k. k.now) c.args.keys.now) (view c.args.value.now) None (sym c.in-None.is ∙ c.settings_in.ensures) (sym c.keys_among.ensures ∙ c.if-not-keys_among.false)

pub returns-in-Some : goal.returns-in-Some
returns-in-Some c =
    subst (λ (s : Option Search). IfOk c.parts_in.result (λ o. option_map search_view o ≡ s))
    (settled_parts (map (λ k. k.now) c.args.keys.now) (view c.args.value.now) (Some c.in-Some.settings) (sym c.in-Some.is ∙ c.settings_in.ensures) (sym c.keys_among.ensures ∙ c.if-not-keys_among.false))
    c.parts_in.ensures
