use Rattle.std.proofs.Common.{rules, arith, ◌≡◌, ◌++◌, ◌∷◌, [], refl, ap, sym, ◌∙◌, append_assoc, string_bytes, length}
use Rattle.std.proofs.lemmas.Str.{encode_ascii}
use Rattle.std.proofs.Math.Utf8.{encode}
use Rattle.facet_names.specs.Terms.{HasSome, escaped}
use Rattle.facet_names.proofs.TermTexts.{all_written, written_plain, written_special, some_written}
use Rattle.facet_names.proofs.term.push_each.Goals as goal
use Rattle.facet_names.proofs.term.push_each.Goals.{then-is_special+in_ok-push, else-is_special}

pub returns-in_err-push-clause-err : goal.returns-in_err-push-clause-err
returns-in_err-push-clause-err c =
    let so_far = c.loop-ch.invariant in
    let some : HasSome (escaped c.args.part.now) (string_bytes c.args.text.now) (string_bytes c.push.new.self) =
    some_written (string_bytes c.args.text.now) so_far.0 (escaped c.loop-ch.ch-iterator.rest.now) (escaped c.args.part.now) (string_bytes c.push.new.self) (c.in_err-push.ensures.bytes ∙ so_far.1) so_far.2 in
    search (rules, some)

pub loop-ch-preserved : goal.loop-ch-preserved
loop-ch-preserved c =
    let so_far = c.loop-ch.invariant in
    let old = string_bytes c.args.text.now in
    let ch = encode c.in-Some.ch in
    let rest = c.next.new.self.rest.now in
    let turn : c.loop-ch.ch-iterator.rest.now ≡ ch ++ rest = search rules in
    let all : so_far.0 ++ escaped (ch ++ rest) ≡ escaped c.args.part.now = ap (λ t. so_far.0 ++ escaped t) (sym turn) ∙ so_far.2 in
    elim c.if-is_special.branch [
      | then-is_special+in_ok-push w ↦
          let mid : string_bytes c.if-is_special.text ≡ old ++ (so_far.0 ++ 30 ∷ []) =
          ap string_bytes w.text-is ∙ w.in_ok-push.ensures.bytes ∙ ap (λ t. string_bytes c.loop-ch.text ++ t) (encode_ascii 30 (omega arith)) ∙ ap (λ t. t ++ 30 ∷ []) so_far.1 ∙ append_assoc old so_far.0 (30 ∷ []) in (
            (so_far.0 ++ 30 ∷ []) ++ ch,
            c.in_ok-push-2.ensures.bytes ∙ ap (λ t. t ++ ch) mid ∙ append_assoc old (so_far.0 ++ 30 ∷ []) ch,
            written_special so_far.0 (so_far.0 ++ 30 ∷ []) ((so_far.0 ++ 30 ∷ []) ++ ch) c.in-Some.ch rest (sym c.is_special.ensures ∙ w.if-is_special.true) refl refl ∙ all,
          )
      | else-is_special w ↦ (
        so_far.0 ++ ch,
        c.in_ok-push-2.ensures.bytes ∙ ap (λ t. string_bytes t ++ ch) w.text-is ∙ ap (λ t. t ++ ch) so_far.1 ∙ append_assoc old so_far.0 ch,
        written_plain so_far.0 (so_far.0 ++ ch) c.in-Some.ch rest (sym c.is_special.ensures ∙ w.if-is_special.false) refl ∙ all,
      )
    ]

pub returns-in_err-push-2-clause-err : goal.returns-in_err-push-2-clause-err
returns-in_err-push-2-clause-err c =
    let so_far = c.loop-ch.invariant in
    let old = string_bytes c.args.text.now in
    let ch = encode c.in-Some.ch in
    let rest = c.next.new.self.rest.now in
    let turn : c.loop-ch.ch-iterator.rest.now ≡ ch ++ rest = search rules in
    let all : so_far.0 ++ escaped (ch ++ rest) ≡ escaped c.args.part.now = ap (λ t. so_far.0 ++ escaped t) (sym turn) ∙ so_far.2 in
    let some : HasSome (escaped c.args.part.now) old (string_bytes c.push-in-loop-ch.new.self) = elim c.if-is_special.branch [
      | then-is_special+in_ok-push w ↦
          let mid : string_bytes c.if-is_special.text ≡ old ++ (so_far.0 ++ 30 ∷ []) =
          ap string_bytes w.text-is ∙ w.in_ok-push.ensures.bytes ∙ ap (λ t. string_bytes c.loop-ch.text ++ t) (encode_ascii 30 (omega arith)) ∙ ap (λ t. t ++ 30 ∷ []) so_far.1 ∙ append_assoc old so_far.0 (30 ∷ []) in
          some_written old (so_far.0 ++ 30 ∷ []) (ch ++ escaped rest) (escaped c.args.part.now) (string_bytes c.push-in-loop-ch.new.self) (c.in_err-push-2.ensures.bytes ∙ mid)
          (sym (append_assoc (so_far.0 ++ 30 ∷ []) ch (escaped rest)) ∙ written_special so_far.0 (so_far.0 ++ 30 ∷ []) ((so_far.0 ++ 30 ∷ []) ++ ch) c.in-Some.ch rest (sym c.is_special.ensures ∙ w.if-is_special.true) refl refl ∙ all)
      | else-is_special w ↦
          some_written old so_far.0 (escaped (ch ++ rest)) (escaped c.args.part.now) (string_bytes c.push-in-loop-ch.new.self) (c.in_err-push-2.ensures.bytes ∙ ap string_bytes w.text-is ∙ so_far.1) all
    ] in
    search (rules, some)

pub returns-clause-ok : goal.returns-clause-ok
returns-clause-ok c =
    let so_far = c.loop-ch.invariant in
    let none : length c.loop-ch.ch-iterator.rest.now ≡ 0 = search rules in
    so_far.1 ∙ ap (λ t. string_bytes c.args.text.now ++ t) (all_written c.loop-ch.ch-iterator.rest.now so_far.0 none ∙ so_far.2)
