use Rattle.std.proofs.Common.{rules, arith, refl, ◌≡◌, ◌+◌, ◌<◌, ◌++◌, ◌∷◌, [], ap, sym, ◌∙◌, take, length, string_bytes}
use Rattle.std.proofs.lemmas.List.{length-append}
use Rattle.facet_names.specs.Paths.{texts}
use Rattle.facet_names.specs.Blocks.{block, headed}
use Rattle.facet_names.proofs.Parts.{texts_more, part_is_short}
use Rattle.facet_names.proofs.Blocks.{block_more, few_in_front}
use Rattle.facet_names.proofs.block.block_of.Goals as goal

pub loop-part-init : goal.loop-part-init
unfolding block
loop-part-init c = refl

pub loop-part-2-init : goal.loop-part-2-init
unfolding block
loop-part-2-init c = c.in_ok-text.ensures.bytes

pub overflow_add-size-in-loop-part : goal.overflow_add-size-in-loop-part
overflow_add-size-in-loop-part c =
    let small = few_in_front c.loop-part.part-index c.args.parts.now c.requires in
    let is = c.loop-part.invariant in
    search rules

pub loop-part-preserved : goal.loop-part-preserved
loop-part-preserved c =
    let parts = c.args.parts.now in
    let at = c.loop-part.part-index in
    let before = texts (take at parts) in
    let part = string_bytes c.part-item.result in
    let within : at < length parts = search rules in
    let more : texts (take (at + 1) parts) ≡ before ++ part ∷ [] = texts_more parts at c.part-item.result within c.part-item.is in
    let size : length (block (texts (take (at + 1) parts))) ≡ length (block before) + length (headed part) = ap length (ap block more ∙ block_more before part) ∙ length-append (block before) (headed part) in
    let len : c.len.result ≡ length part = search rules in
    omega (arith, size, len, c.loop-part.invariant)

pub push-requires : goal.push-requires
push-requires c =
    let parts = c.args.parts.now in
    let within : c.loop-part-2.part-index < length parts = search rules in
    part_is_short parts c.loop-part-2.part-index c.part-item-in-loop-part-2.result c.as_str.result.now c.requires within c.part-item-in-loop-part-2.is c.as_str.ensures.value

pub loop-part-2-preserved : goal.loop-part-2-preserved
loop-part-2-preserved c =
    let parts = c.args.parts.now in
    let at = c.loop-part-2.part-index in
    let before = texts (take at parts) in
    let part = string_bytes c.part-item-in-loop-part-2.result in
    let within : at < length parts = search rules in
    let more : texts (take (at + 1) parts) ≡ before ++ part ∷ [] = texts_more parts at c.part-item-in-loop-part-2.result within c.part-item-in-loop-part-2.is in
    c.in_ok-push.ensures
    ∙ ap (λ t. string_bytes c.loop-part-2.text ++ headed t) c.as_str.ensures.value
    ∙ ap (λ t. t ++ headed part) c.loop-part-2.invariant
    ∙ sym (ap block more ∙ block_more before part)
