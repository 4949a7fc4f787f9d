use Rattle.std.proofs.Common.{sym, ◌∙◌}
use Rattle.serde_json.specs.View.{view}
use Rattle.facet_words.proofs.SettingsParts.{no_other_keys, no_docs, no_labels, no_stripes, no_cache, no_merge, no_config, all_parts}
use Rattle.facet_words.proofs.config_line.settings_in.Goals as goal

pub returns-then-not-keys_among : goal.returns-then-not-keys_among
returns-then-not-keys_among c = no_other_keys (view c.args.value.now) (sym c.keys_among.ensures ∙ c.if-not-keys_among.true)

pub returns-in_default : goal.returns-in_default
returns-in_default c = no_docs (view c.args.value.now) (sym c.in_default.ensures.value)

pub returns-in_default-whole_or : goal.returns-in_default-whole_or
returns-in_default-whole_or c = no_labels (view c.args.value.now) (sym c.in_default-whole_or.ensures.value)

pub returns-in_default-whole_or-2 : goal.returns-in_default-whole_or-2
returns-in_default-whole_or-2 c = no_stripes (view c.args.value.now) (sym c.in_default-whole_or-2.ensures.value)

pub returns-in_default-whole_or-3 : goal.returns-in_default-whole_or-3
returns-in_default-whole_or-3 c = no_cache (view c.args.value.now) (sym c.in_default-whole_or-3.ensures.value)

pub returns-in_default-flag_at : goal.returns-in_default-flag_at
returns-in_default-flag_at c = no_merge (view c.args.value.now) (sym c.in_default-flag_at.ensures)

pub returns-in_default-2 : goal.returns-in_default-2
returns-in_default-2 c = no_config (view c.args.value.now) (sym c.in_ok-config.ensures ∙ c.in_default-2.is)

pub returns : goal.returns
returns c =
    all_parts (view c.args.value.now) c.in-Some-2.config c.in-Some.max_docs c.in-Some-whole_or.max_labels c.in-Some-whole_or-2.stripes c.in-Some-whole_or-3.cache c.in-Some-flag_at.auto_merge (sym c.keys_among.ensures ∙ c.if-not-keys_among.false)
    (sym c.in-Some.ensures.value) (sym c.in-Some-whole_or.ensures.value) (sym c.in-Some-whole_or-2.ensures.value) (sym c.in-Some-whole_or-3.ensures.value) (sym c.in-Some-flag_at.ensures)
    (sym c.in_ok-config.ensures ∙ c.in-Some-2.is)
