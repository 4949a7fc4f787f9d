use Rattle.std.proofs.Common.{arith, rules, ◌≡◌, ◌+◌, ◌*◌, ◌∷◌, ◌∙◌, ap, sym, subst, length, take, drop, slice_index_or}
use Rattle.std.specs.Str.{IsCharBoundary}
use Rattle.facet_names.specs.Blocks.{IsBlock, block, parts_of}
use Rattle.facet_names.proofs.Blocks.{HasFirst, first_of, length_is, two_at_least, behind_length, length_ends, part_ends, decoded, is_block, take_front, drop_front}
use Rattle.facet_names.proofs.block.cut.Goals as goal
use Rattle.facet_names.proofs.block.cut.Goals.{After-split_at-2}

pub bounds-bytes-1 : goal.bounds-bytes-1
bounds-bytes-1 c = let two = two_at_least c.args.text.now (first_of c.args.text.now c.requires.is c.requires.some) in search (rules, two)

pub split_at-requires : goal.split_at-requires
split_at-requires c = length_ends c.args.text.now (first_of c.args.text.now c.requires.is c.requires.some) c.utf8.text

pub split_at-requires-2 : goal.split_at-requires-2
split_at-requires-2 c =
    let text = c.args.text.now in
    let first = first_of text c.requires.is c.requires.some in
    let size : slice_index_or c.as_bytes-bytes.result.now 0 0 * 32 + slice_index_or c.as_bytes-bytes.result.now 1 0 ≡ length first.part = ap (λ t. slice_index_or t 0 0 * 32 + slice_index_or t 1 0) c.as_bytes-bytes.ensures.value ∙ length_is text first in
    subst (λ n. IsCharBoundary c.split_at.result.1.now n) (sym size) (subst (λ t. IsCharBoundary t (length first.part)) (sym c.split_at.ensures.back) (part_ends text first))

first : (c : After-split_at-2) → HasFirst c.args.text.now
first c = first_of c.args.text.now c.requires.is c.requires.some

size : (c : After-split_at-2) → slice_index_or c.as_bytes-bytes.result.now 0 0 * 32 + slice_index_or c.as_bytes-bytes.result.now 1 0 ≡ length (first c).part
size c = ap (λ t. slice_index_or t 0 0 * 32 + slice_index_or t 1 0) c.as_bytes-bytes.ensures.value ∙ length_is c.args.text.now (first c)

front : (c : After-split_at-2) → c.split_at-2.result.0.now ≡ (first c).part
front c = c.split_at-2.ensures.front ∙ ap (λ n. take n c.split_at.result.1.now) (size c) ∙ ap (take (length (first c).part)) (c.split_at.ensures.back ∙ behind_length c.args.text.now (first c)) ∙ take_front (first c).part (block (first c).rest)

behind : (c : After-split_at-2) → c.split_at-2.result.1.now ≡ block (first c).rest
behind c = c.split_at-2.ensures.back ∙ ap (λ n. drop n c.split_at.result.1.now) (size c) ∙ ap (drop (length (first c).part)) (c.split_at.ensures.back ∙ behind_length c.args.text.now (first c)) ∙ drop_front (first c).part (block (first c).rest)

pub returns-clause-parts : goal.returns-clause-parts
returns-clause-parts c = decoded c.args.text.now (first c) ∙ (λ i. sym (front c) i ∷ parts_of (sym (behind c) i))

pub returns-clause-rest : goal.returns-clause-rest
returns-clause-rest c = subst IsBlock (sym (behind c)) (is_block c.args.text.now (first c))

pub returns-clause-filled : goal.returns-clause-filled
returns-clause-filled c = omega (arith, (first c).filled, ap length (front c))

pub returns-clause-short : goal.returns-clause-short
returns-clause-short c = omega (arith, (first c).short, ap length (front c))
