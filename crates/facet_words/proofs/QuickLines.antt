-- The order of a line, by what was found in it.
use Rattle.std.proofs.Common.{◌≡◌, ℕ, ◌<◌, ◌≤◌, ◌^◌, true, false, List, [], ◌∷◌, ◌++◌, length, get_or, Option, Some, None, Ok, refl, sym, ap, ◌∙◌, arith, append-nil, lt-ltb, le-leb}
use Rattle.std.specs.Prelude.{◌==◌, SomeIff, IsUtf8, IfSome, IfOk, Result, option_map, option_and_then, Err}
use Rattle.std.specs.Option.{unwrap_or}
use Rattle.std.proofs.lemmas.Str.{is_utf8-from_IsUtf8}
use Rattle.fast_float.specs.Text.{IsInteger, scan, digits_of}
use Rattle.json.specs.Token.{Token}
use Rattle.json.specs.Json as json
use Rattle.json.specs.Lex.{tokens}
use Rattle.json.specs.Tree.{json_tokens, depth}
use Rattle.json.proofs.Printed.Trees.{value-json_tokens}
use Rattle.serde_json.specs.Data.{Members, unsigned, object}
use Rattle.serde_json.specs.Read.{number_of, read, of_json}
use Rattle.facet_names.specs.declared.fault.NoMemory.{NoMemory}
use Rattle.facet_words.specs.Lines.{line_data}
use Rattle.facet_words.specs.CommandLines.{heading_of, added_of, command_of, command_named}
use Rattle.facet_words.specs.Quick.{IsFound, HasFound, AreMembers}
use Rattle.facet_words.specs.CommandViews.{order_view}
use Rattle.facet_words.specs.Commands.{add}
use Rattle.facet_words.specs.Scripts.{order_of, ends_phase, line_of, line_at}
use Rattle.facet_words.specs.declared.quick.found.Found.{Found}
use Rattle.facet_words.specs.declared.command.Order.{Order}

-- ---- numbers

pub whole_read : (s : List ℕ) (r : Option ℕ) → (get_or s 0 0 == 45) ≡ false → SomeIff r (IsInteger (scan s) × (digits_of (scan s) < 2 ^ 64)) (digits_of (scan s)) → IfSome r (λ n. number_of s ≡ Some (unsigned n))
unfolding number_of
whole_read s None plus read = tt
whole_read s (Some n) plus read = rw (plus, lt-ltb _ _ read.0.0.0, read.0.0.1, read.0.0.2, lt-ltb _ _ read.0.1, read.1) refl

-- ---- the order

-- a part of a value, or of the one that stands for none
pub part_or : {A B : Type 0} (f : A → B) (o : Option A) (d : A) → f (unwrap_or o d) ≡ unwrap_or (option_map f o) (f d)
part_or f None d = refl
part_or f (Some x) d = refl

module _ (line n : ℕ) (ms : Members) (id : List ℕ) where
  pub order_read : (text : Option (List ℕ)) (labels : Option (List (List (List ℕ)))) → IsFound ms (Some n) true (Some id) text labels
      → 1 ≤ n → n ≤ 64 → 1 ≤ length id → length id ≤ 256 → length (unwrap_or text []) ≤ 65536
      → line_of line (object ms) ≡ Ok (Some (record { session = n; line = line; command = add (record { id = id; text = unwrap_or text []; labels = unwrap_or labels [] }) }))
  unfolding line_of ends_phase order_of command_of command_named heading_of added_of
  order_read None None is one last some short few =
      rw (is.cmd_is, is.s_is, is.id_is, is.text_is, is.facets_is, is.among, le-leb 1 (length id) some, le-leb (length id) 256 short, le-leb 1 n one, le-leb n 64 last) refl
  order_read None (Some ls) is one last some short few =
      rw (is.cmd_is, is.s_is, is.id_is, is.text_is, is.facets_is, is.paths ls refl, is.among, le-leb 1 (length id) some, le-leb (length id) 256 short, le-leb 1 n one, le-leb n 64 last) refl
  order_read (Some t) None is one last some short few =
      rw (is.cmd_is, is.s_is, is.id_is, is.text_is, is.facets_is, is.among, le-leb 1 (length id) some, le-leb (length id) 256 short, le-leb 0 (length t) (omega arith), le-leb (length t) 65536 few, le-leb 1 n one, le-leb n 64 last) refl
  order_read (Some t) (Some ls) is one last some short few =
      rw (is.cmd_is, is.s_is, is.id_is, is.text_is, is.facets_is, is.paths ls refl, is.among, le-leb 1 (length id) some, le-leb (length id) 256 short, le-leb 0 (length t) (omega arith), le-leb (length t) 65536 few, le-leb 1 n one, le-leb n 64 last) refl

-- ---- the line

-- a text that has the tokens of a value, which does not nest too deep, is read as that value
tokens_are_read : (text : List ℕ) (j : json.Json) → tokens text ≡ json_tokens j → depth j ≤ 127 → read text ≡ of_json j
tokens_are_read text j has low =
    let all : tokens text ≡ json_tokens j ++ [] = has ∙ sym (append-nil (json_tokens j)) in
    ap (λ (ts : List Token). option_and_then of_json (option_and_then (λ p. json.if_last p.0 p.1) (json.value 127 ts))) all
    ∙ ap (λ o. option_and_then of_json (option_and_then (λ p. json.if_last p.0 p.1) o)) (value-json_tokens j 127 [] low)

pub line_read : (line : ℕ) (bytes : List ℕ) (after : List Token) (f : Found) (o : Order) → IsUtf8 bytes → tokens bytes ≡ Token.begin_object ∷ after → AreMembers after [] f
    → ((ms : Members) → HasFound ms f → line_of line (object ms) ≡ Ok (Some (order_view o))) → line_at line bytes ≡ Ok (Some (order_view o))
unfolding line_at line_data
line_read line bytes after f o text first are is =
    let all = are.0 in
    let ms = are.1 in
    let low = are.3 in
    let whole : tokens bytes ≡ json_tokens (json.object all) = first ∙ ap (λ (ts : List Token). Token.begin_object ∷ ts) (are.2 ∙ append-nil _) in
    let value : read bytes ≡ Some (object ms) = tokens_are_read bytes (json.object all) whole (omega arith) ∙ ap (option_map object) are.4 in
    rw (is_utf8-from_IsUtf8 bytes text, value) (is ms are.5)

pub lines_read : (line : ℕ) (bytes : List ℕ) (after : List Token) (f : Found) (r : Result (Option Order) NoMemory) → IsUtf8 bytes → tokens bytes ≡ Token.begin_object ∷ after → AreMembers after [] f
    → IfOk r (λ o. IfSome o (λ x. (ms : Members) → HasFound ms f → line_of line (object ms) ≡ Ok (Some (order_view x)))) → IfOk r (λ o. IfSome o (λ x. line_at line bytes ≡ Ok (Some (order_view x))))
lines_read line bytes after f (Err e) text first are is = tt
lines_read line bytes after f (Ok None) text first are is = tt
lines_read line bytes after f (Ok (Some o)) text first are is = line_read line bytes after f o text first are is
