use Rattle.std.proofs.Common.{rules, refl, arith}
use Rattle.json.specs.Json.{number}
use Rattle.serde_json.specs.Data.{unsigned, number as number_data}
use Rattle.facet_words.proofs.QuickMembers.{session_found}
use Rattle.facet_words.proofs.quick.member.session_next.Goals as goal

pub returns : goal.returns
returns c = λ _. (number c.in-Some-Number.text.now, number_data (unsigned c.in-Some.session), search rules, rw (c.in-Some.ensures) refl, omega arith, λ ms is. session_found ms _ _ _ _ _ is c.in-Some.session)
