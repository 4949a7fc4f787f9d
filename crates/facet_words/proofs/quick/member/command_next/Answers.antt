use Rattle.std.proofs.Common.{rules, refl, arith}
use Rattle.std.specs.Prelude.{codes}
use Rattle.json.specs.Json.{string}
use Rattle.serde_json.specs.Data.{string as string_data}
use Rattle.facet_words.proofs.QuickMembers.{add_found}
use Rattle.facet_words.proofs.quick.member.command_next.Goals as goal

pub returns : goal.returns
returns c = λ _. (string (codes "add"), string_data (codes "add"), search rules, refl, omega arith, λ ms is. add_found ms _ _ _ _ _ is)
