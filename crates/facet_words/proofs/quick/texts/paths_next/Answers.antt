use Rattle.std.proofs.Common.{rules, ◌≡◌, ◌∷◌, ◌++◌, List, ap, ◌∙◌, sym, Some, []}
use Rattle.json.specs.Token.{Token}
use Rattle.json.specs.Json.{array}
use Rattle.json.specs.Tree.{json_tokens}
use Rattle.serde_json.specs.Data.{array as array_data}
use Rattle.std.proofs.lemmas.List.Elements.{All-push}
use Rattle.facet_words.specs.Quick.{written_texts, text_items}
use Rattle.facet_words.specs.Shapes.{path}
use Rattle.facet_words.proofs.QuickTexts.{ended, lists_tokens, one_list_more, lists_are_tokens}
use Rattle.facet_words.proofs.quick.texts.paths_next.Goals as goal

pub loop-alloc-preserved : goal.loop-alloc-preserved
loop-alloc-preserved c =
    let before = c.loop-alloc.paths.items in
    let p = c.in-Some.path in
    let rest = c.path_next.new.reader in
    let now : c.loop-alloc.reader ≡ json_tokens (array (written_texts p)) ++ rest = search rules in
    let items : c.push.new.self.items ≡ before ++ p ∷ [] = search rules in
    rw items (
      c.loop-alloc.invariant.0 ∙ ap (λ (ts : List Token). Token.begin_array ∷ (lists_tokens before ++ ts)) now ∙ ap (λ (ts : List Token). Token.begin_array ∷ ts) (sym (one_list_more before p rest)),
      All-push (λ l. path (array_data (text_items l)) ≡ Some l) before p c.loop-alloc.invariant.1 (search rules),
    )

pub returns-clause-read : goal.returns-clause-read
returns-clause-read c = rw c.shrink_to_fit.ensures.items (c.loop-alloc.invariant.0 ∙ ap (λ (ts : List Token). Token.begin_array ∷ ts)
    (ap (λ (ts : List Token). lists_tokens c.loop-alloc.paths.items ++ ts) (ended c.loop-alloc.reader c.take_end_array.new.self c.loop-alloc-test.ensures) ∙ lists_are_tokens c.loop-alloc.paths.items c.take_end_array.new.self))
