use Rattle.std.proofs.Common.{sym, ◌∙◌}
use Rattle.serde_json.specs.View.{view}
use Rattle.facet_words.proofs.Levels.{no_bool, no_lists, other_lists, three_lists}
use Rattle.facet_words.proofs.query.lists_at.Goals as goal

pub returns-then-not-keys_among : goal.returns-then-not-keys_among
returns-then-not-keys_among c inner = no_bool inner (view c.args.value.now) (sym c.keys_among.ensures ∙ c.if-not-keys_among.true)

pub returns-in_default : goal.returns-in_default
returns-in_default c inner = no_lists inner (view c.args.value.now) (sym c.keys_among.ensures ∙ c.if-not-keys_among.false) c.in_default.ensures

pub returns-then-keys_among : goal.returns-then-keys_among
returns-then-keys_among c inner = three_lists inner (view c.args.value.now) (view c.in-Some.lists.now) (sym c.keys_among.ensures ∙ c.if-not-keys_among.false) c.in-Some.ensures (sym c.keys_among-2.ensures ∙ c.if-keys_among.true)

pub returns-else-keys_among : goal.returns-else-keys_among
returns-else-keys_among c inner = other_lists inner (view c.args.value.now) (view c.in-Some.lists.now) (sym c.keys_among.ensures ∙ c.if-not-keys_among.false) c.in-Some.ensures (sym c.keys_among-2.ensures ∙ c.if-keys_among.false)
