use Rattle.facet_words.proofs.FirstLines.{is_json, no_json}
use Rattle.facet_words.proofs.lines.line_value.Goals as goal

pub returns-in-Ok : goal.returns-in-Ok
returns-in-Ok c = is_json _ _ c.in-Ok.ensures.ok.0 c.in-Ok.ensures.ok.1

pub returns-else-is_memory : goal.returns-else-is_memory
returns-else-is_memory c = no_json _ (c.in-Err.ensures.err (λ m. let t = c.is_memory.ensures.1 m in absurd cc))
