use Rattle.std.proofs.Common.{rules, ◌≡◌, ◌<◌, ◌+◌, ◌++◌, ◌∷◌, [], length, take, ap, sym, ◌∙◌}
use Rattle.std.proofs.lemmas.List.{take_more}
use Rattle.commit_file.specs.Limits.{IsDocumentPart}
use Rattle.commit_file.specs.Spelling.{part_bytes}
use Rattle.commit_file.proofs.writing.put_parts.Goals as goal
use Rattle.facet_codec.proofs.Lists.{each_push, bytes_push}

pub loop-part-preserved : goal.loop-part-preserved
loop-part-preserved c =
    let parts = c.args.parts.now in
    let i = c.loop-part.part-index in
    let part = c.part-item.result in
    let within : i < length parts = search rules in
    let longer : take (i + 1) parts ≡ take i parts ++ part ∷ [] = take_more parts i part within ∙ ap (λ p. take i parts ++ p ∷ []) (sym c.part-item.is) in
    rw longer (record {
      bytes = bytes_push (part_bytes 2) c.args.out.now.items c.loop-part.out.items c.put_part.new.out.items (take i parts) part c.loop-part.invariant.bytes c.in_ok-put_part.ensures.bytes;
      fit = each_push (λ p. IsDocumentPart p.part) (take i parts) part c.loop-part.invariant.fit c.in_ok-put_part.ensures.fits;
    })
