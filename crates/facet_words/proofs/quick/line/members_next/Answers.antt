use Rattle.std.proofs.Common.{rules}
use Rattle.serde_json.specs.Data.{no_members}
use Rattle.facet_words.proofs.QuickMembers.{none_found, begins_read, member_read, members_read}
use Rattle.facet_words.proofs.quick.line.members_next.Goals as goal

pub loop-key-init : goal.loop-key-init
loop-key-init c = (no_members, none_found, begins_read _)

pub returns-in_default-key : goal.returns-in_default-key
returns-in_default-key c = members_read _ c.loop-key.reader _ c.loop-key.found (search rules) c.loop-key.invariant

pub loop-key-preserved : goal.loop-key-preserved
loop-key-preserved c = member_read _ c.loop-key.reader c.next_key.new.self _ c.in-Some.key.now c.loop-key.found _ (search rules) (search rules) c.loop-key.invariant
