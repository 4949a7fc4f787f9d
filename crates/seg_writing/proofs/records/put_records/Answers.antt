use Rattle.std.proofs.Common.{rules, ◌≡◌, ℕ, ◌<◌, ◌+◌, ◌++◌, List, [], ◌∷◌, length, map, take, sym, ap, ◌∙◌}
use Rattle.std.proofs.lemmas.List.{take_more, map-append}
use Rattle.seg_terms.specs.Entries.{stored_of}
use Rattle.seg_writing.proofs.Puts.{records_more}
use Rattle.seg_writing.proofs.records.put_records.Goals as goal

pub loop-entry-preserved : goal.loop-entry-preserved
loop-entry-preserved c =
    let entries = c.args.entries.now in
    let i = c.loop-entry.entry-index in
    let entry = c.entry-item.result in
    let within : i < length entries = search rules in
    let longer : map stored_of (take (i + 1) entries) ≡ map stored_of (take i entries) ++ stored_of entry ∷ [] = ap (map stored_of) (take_more entries i entry within ∙ ap (λ e. take i entries ++ e ∷ []) (sym c.entry-item.is)) ∙ map-append stored_of (take i entries) (entry ∷ []) in
    let mid : List ℕ = c.loop-entry.out.items in
    let new : List ℕ = c.put_record.new.out.items in
    let size : c.len.result ≡ length mid = search rules in
    let marks : c.push.new.self.items ≡ c.loop-entry.marks.items ++ length mid ∷ [] = c.in_ok-push.ensures.items ∙ ap (λ n. c.loop-entry.marks.items ++ n ∷ []) size in
    rw (marks, c.in_ok-push-2.ensures.items, longer) (records_more c.args.out.now.items mid new c.loop-entry.marks.items c.loop-entry.counted.items (map stored_of (take i entries)) c.in_ok-put_record.field-0 (stored_of entry) c.loop-entry.invariant c.in_ok-put_record.ensures)
