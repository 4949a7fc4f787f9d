use Rattle.std.proofs.Common.{rules, arith, ◌≡◌, ◌≤◌, ◌-◌, ap, sym, subst, ◌∙◌, take, length, string_bytes}
use Rattle.std.specs.Str.{IsCharBoundary, IsUtf8}
use Rattle.facet_names.specs.Blocks.{IsPathBlock, parts_of}
use Rattle.facet_names.proofs.Blocks.{front_ends, front_path, rest_is_shorter}
use Rattle.facet_names.proofs.path.Path.front.Goals as goal

pub overflow_sub-len : goal.overflow_sub-len
overflow_sub-len c =
    let len : c.len.result ≡ length c.deref.result.now = search rules in
    let whole : IsPathBlock c.deref.result.now = search rules in
    omega (arith, len, rest_is_shorter c.args.len c.deref.result.now c.skip-rest.result.now whole c.skip-rest.ensures.is c.skip-rest.ensures.parts)

pub split_at-requires : goal.split_at-requires
split_at-requires c =
    let len : c.len.result ≡ length c.deref.result.now = search rules in
    let whole : IsPathBlock c.deref.result.now = search rules in
    let same : c.deref.result.now ≡ c.deref-2.result.now = search rules in
    let utf8 : IsUtf8 c.skip-rest.result.now = search rules in
    subst (λ t. IsCharBoundary t (c.len.result - length c.skip-rest.result.now)) same
    (subst (λ n. IsCharBoundary c.deref.result.now (n - length c.skip-rest.result.now)) (sym len)
    (front_ends c.args.len c.deref.result.now c.skip-rest.result.now whole c.skip-rest.ensures.is c.skip-rest.ensures.parts utf8))

pub invariant_of-result : goal.invariant_of-result
invariant_of-result c =
    let text = c.deref.result.now in
    let whole : IsPathBlock text = search rules in
    let within : c.args.len ≤ length (parts_of text) = search rules in
    let len : c.len.result ≡ length text = search rules in
    let same : c.deref-2.result.now ≡ text = search rules in
    let copied : string_bytes c.in_ok-text.text ≡ c.split_at.result.0.now = search rules in
    let taken = copied ∙ c.split_at.ensures.front ∙ (λ i. take (len i - length c.skip-rest.result.now) (same i)) in
    (front_path c.args.len text c.skip-rest.result.now whole c.skip-rest.ensures.is c.skip-rest.ensures.parts (string_bytes c.in_ok-text.text) c.requires.some within taken).0

pub returns : goal.returns
returns c =
    let text = c.deref.result.now in
    let whole : IsPathBlock text = search rules in
    let within : c.args.len ≤ length (parts_of text) = search rules in
    let len : c.len.result ≡ length text = search rules in
    let same : c.deref-2.result.now ≡ text = search rules in
    let copied : string_bytes c.in_ok-text.text ≡ c.split_at.result.0.now = search rules in
    let taken = copied ∙ c.split_at.ensures.front ∙ (λ i. take (len i - length c.skip-rest.result.now) (same i)) in
    let view : parts_of text ≡ c.args.self.now = search rules in
    (front_path c.args.len text c.skip-rest.result.now whole c.skip-rest.ensures.is c.skip-rest.ensures.parts (string_bytes c.in_ok-text.text) c.requires.some within taken).1 ∙ ap (take c.args.len) view
