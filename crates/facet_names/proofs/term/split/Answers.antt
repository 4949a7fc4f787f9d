use Rattle.std.proofs.Common.{rules, arith, ◌≡◌, ◌++◌, true, false, [], ◌∷◌, Some, ap, sym, ◌∙◌, string_bytes, length}
use Rattle.std.proofs.lemmas.List.{length-map, map-append}
use Rattle.std.proofs.Math.Utf8.{encode}
use Rattle.facet_names.specs.Paths.{texts}
use Rattle.facet_names.specs.Terms.{is_special}
use Rattle.facet_names.proofs.TermTexts.{read, none_joined, text_is_joined, no_escaped, read_char, read_escaped, read_escape, read_separator, read_end, open_escape, other_special}
use Rattle.facet_names.proofs.term.split.Goals as goal

pub returns-then-after_escape : goal.returns-then-after_escape
returns-then-after_escape c =
    let whole = texts c.loop-ch.parts.items in
    let part = string_bytes c.loop-ch.part in
    let turn : c.loop-ch.ch-iterator.rest.now ≡ encode c.in-Some.ch ++ c.next.new.self.rest.now = search rules in
    let plain : is_special c.in-Some.ch ≡ false = search rules in
    none_joined c.args.text.now (sym c.loop-ch.invariant ∙ (λ i. read (turn i) (c.if-after_escape.true i) whole part) ∙ no_escaped c.in-Some.ch c.next.new.self.rest.now whole part plain)

pub loop-ch-preserved-in-Continue-1 : goal.loop-ch-preserved-in-Continue-1
loop-ch-preserved-in-Continue-1 c =
    let whole = texts c.loop-ch.parts.items in
    let part = string_bytes c.loop-ch.part in
    let rest = c.next.new.self.rest.now in
    let turn : c.loop-ch.ch-iterator.rest.now ≡ encode c.in-Some.ch ++ rest = search rules in
    let plain : is_special c.in-Some.ch ≡ false = search rules in
    (λ i. read rest (c.if-after_escape.false i) whole (c.in_ok-push.ensures.bytes i))
    ∙ sym (read_char c.in-Some.ch rest whole part plain)
    ∙ sym (λ i. read (turn i) (c.if-after_escape.false i) whole part)
    ∙ c.loop-ch.invariant

pub loop-ch-preserved-then-after_escape-2 : goal.loop-ch-preserved-then-after_escape-2
loop-ch-preserved-then-after_escape-2 c =
    let whole = texts c.loop-ch.parts.items in
    let part = string_bytes c.loop-ch.part in
    let rest = c.next.new.self.rest.now in
    let turn : c.loop-ch.ch-iterator.rest.now ≡ encode c.in-Some.ch ++ rest = search rules in
    let special : is_special c.in-Some.ch ≡ true = search rules in
    ap (read rest false whole) c.in_ok-push-2.ensures.bytes
    ∙ sym (read_escaped c.in-Some.ch rest whole part special)
    ∙ sym (λ i. read (turn i) (c.if-after_escape-2.true i) whole part)
    ∙ c.loop-ch.invariant

pub loop-ch-preserved-then-ch-eq-ESCAPE : goal.loop-ch-preserved-then-ch-eq-ESCAPE
loop-ch-preserved-then-ch-eq-ESCAPE c =
    let whole = texts c.loop-ch.parts.items in
    let part = string_bytes c.loop-ch.part in
    let rest = c.next.new.self.rest.now in
    let turn : c.loop-ch.ch-iterator.rest.now ≡ encode c.in-Some.ch ++ rest = search rules in
    sym (read_escape c.in-Some.ch rest whole part (search rules))
    ∙ sym (λ i. read (turn i) (c.if-after_escape-2.false i) whole part)
    ∙ c.loop-ch.invariant

pub loop-ch-preserved : goal.loop-ch-preserved
loop-ch-preserved c =
    let whole = texts c.loop-ch.parts.items in
    let part = string_bytes c.loop-ch.part in
    let rest = c.next.new.self.rest.now in
    let turn : c.loop-ch.ch-iterator.rest.now ≡ encode c.in-Some.ch ++ rest = search rules in
    let special : is_special c.in-Some.ch ≡ true = search rules in
    let pushed : texts c.push-else-ch-eq-ESCAPE.new.self.items ≡ whole ++ part ∷ [] =
    ap texts c.in_ok-push-3.ensures.items ∙ map-append string_bytes c.loop-ch.parts.items (c.replace.result ∷ []) ∙ ap (λ s. whole ++ string_bytes s ∷ []) c.replace.ensures.value in
    let empty : string_bytes c.replace.new.dest ≡ [] = ap string_bytes c.replace.ensures.after ∙ c.new.ensures.bytes in
    (λ i. read rest (c.if-after_escape-2.false i) (pushed i) (empty i))
    ∙ sym (read_separator c.in-Some.ch rest whole part (other_special c.in-Some.ch special (search rules)))
    ∙ sym (λ i. read (turn i) (c.if-after_escape-2.false i) whole part)
    ∙ c.loop-ch.invariant

pub returns-then-after_escape-3 : goal.returns-then-after_escape-3
returns-then-after_escape-3 c =
    let whole = texts c.loop-ch.parts.items in
    let part = string_bytes c.loop-ch.part in
    let none : length c.loop-ch.ch-iterator.rest.now ≡ 0 = search rules in
    none_joined c.args.text.now (sym c.loop-ch.invariant ∙ ap (λ t. read c.loop-ch.ch-iterator.rest.now t whole part) c.if-after_escape-3.true ∙ open_escape c.loop-ch.ch-iterator.rest.now whole part none)

pub returns : goal.returns
returns c =
    let whole = texts c.loop-ch.parts.items in
    let part = string_bytes c.loop-ch.part in
    let none : length c.loop-ch.ch-iterator.rest.now ≡ 0 = search rules in
    let pushed : texts c.push-2.new.self.items ≡ whole ++ part ∷ [] = ap texts c.in_ok-push-4.ensures.items ∙ map-append string_bytes c.loop-ch.parts.items (c.loop-ch.part ∷ []) in
    let joined = text_is_joined c.args.text.now (texts c.push-2.new.self.items) (
    sym c.loop-ch.invariant
    ∙ ap (λ t. read c.loop-ch.ch-iterator.rest.now t whole part) c.if-after_escape-3.false
    ∙ read_end c.loop-ch.ch-iterator.rest.now whole part none
    ∙ ap Some (sym pushed)
    ) in
    (omega (arith, joined.some, length-map c.push-2.new.self.items string_bytes), joined.is)
