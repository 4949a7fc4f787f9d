use Rattle.std.proofs.Common.{◌≡◌, ◌++◌, ◌∷◌, [], ℕ, List, map, take, get_or, sym, ap, ◌∙◌, arith}
use Rattle.std.proofs.lemmas.List.{map_push, take_more}
use Rattle.std.proofs.lemmas.List.{take_all}
use Rattle.std.proofs.lemmas.Option.{get_or_from_slice_get}
use Rattle.serde_json.specs.Data.{string, array}
use Rattle.serde_json.specs.View.{view, items_of}
use Rattle.serde_json.proofs.Views.{view-Array}
use Rattle.facet_replies.proofs.answers.path_value.Goals as goal

pub loop-at-preserved : goal.loop-at-preserved
loop-at-preserved c =
    let got = get_or_from_slice_get c.args.path.now c.loop-at.at c.part.result.now [] c.part.ensures.part in
    ap (map view) c.in_ok-push.ensures.items ∙ map_push view c.loop-at.list.items c.in_ok-try_from_str.field-0
    ∙ (λ i. c.loop-at.invariant i ++ c.in_ok-try_from_str.ensures i ∷ [])
    ∙ ap (λ (p : List ℕ). map string (take c.loop-at.at c.args.path.now) ++ string p ∷ []) (sym got)
    ∙ sym (ap (map string) (take_more c.args.path.now c.loop-at.at [] (omega (arith, c.len-at-end.ensures))) ∙ map_push string (take c.loop-at.at c.args.path.now) (get_or c.args.path.now c.loop-at.at []))

pub returns : goal.returns
returns c =
    let all : take c.loop-at.at c.args.path.now ≡ c.args.path.now = take_all c.loop-at.at c.args.path.now (omega (arith, c.len-at-end.ensures)) in
    view-Array c.loop-at.list ∙ ap (λ xs. array (items_of xs)) (c.loop-at.invariant ∙ ap (map string) all)
