use Rattle.std.proofs.Common.{rules, refl, arith}
use Rattle.json.specs.Json.{string}
use Rattle.serde_json.specs.Data.{string as string_data}
use Rattle.facet_words.proofs.QuickMembers.{text_found}
use Rattle.facet_words.proofs.quick.member.document_text_next.Goals as goal

pub returns : goal.returns
returns c = λ _. (string c.in-Some.text.now, string_data c.in-Some.text.now, search rules, refl, omega arith, λ ms is. text_found ms _ _ _ _ _ is c.in-Some.text.now)
