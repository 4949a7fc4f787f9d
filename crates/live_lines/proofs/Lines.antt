-- A line of a process, and the same line of a script.
use Rattle.std.proofs.Common.{◌≡◌, ◌∙◌, ◌≤◌, ◌<◌, ℕ, Bool, true, false, List, [], ◌∷◌, length, Option, Some, None, Result, Ok, Err, refl, sym, ap, subst}
use Rattle.std.specs.Prelude.{◌&&◌, nat_lt, if◌then◌else◌, codes}
use Rattle.std.specs.Option.{option_map_or}
use Rattle.std.specs.Str.{bytes_eq}
use Rattle.std.proofs.lemmas.Bool.{and_parts, lt-ltb, le-ltb}
use Rattle.std.proofs.lemmas.Slice.Eq.{bytes_eq-Decides}
use Rattle.serde_json.specs.Data.{Data}
use Rattle.serde_json.specs.Find.{as_str}
use Rattle.facet_words.specs.declared.fault.ScriptFault.{ScriptFault}
use Rattle.facet_words.specs.declared.fault.ScriptFault.TheVariants.{NotJson, BadShape}
use Rattle.facet_words.specs.CommandLines.{heading_of, command_named, command_of}
use Rattle.facet_words.specs.Commands.{Order}
use Rattle.facet_words.specs.Lines.{line_data}
use Rattle.facet_words.specs.Scripts.{is_named, or_fault, order_of, ends_phase, line_of, line_at}
use Rattle.facet_words.specs.Shapes.{key, keys_among, whole}
use Rattle.facet_words.proofs.Rising.{first_then, of_ok, IsOrderOf, bytes_order}
use Rattle.live_lines.specs.Lines.{most_bytes, Line, order, group, faulty, script, too_long, begins_group, is_commit, script_line, live_line}

-- ---- the line that begins a group is no line of a script

named_so : (kind : List ℕ) (d : Data) → is_named kind d ≡ true → key (codes "cmd") as_str d ≡ Some kind
named_so kind d is = by (key (codes "cmd") as_str d) refl is
  where
    by : (o : Option (List ℕ)) → key (codes "cmd") as_str d ≡ o → option_map_or (λ name. bytes_eq name kind) o false ≡ true → key (codes "cmd") as_str d ≡ Some kind
    by None e is = absurd cc
    by (Some name) e is = e ∙ ap Some ((bytes_eq-Decides name kind).0 is)

no_order : (line : ℕ) (d : Data) → key (codes "cmd") as_str d ≡ Some (codes "group") → line_of line d ≡ Err (BadShape line)
unfolding line_of ends_phase order_of command_of heading_of command_named
no_order line d is = by (key (codes "s") whole d) refl
  where
    by : (o : Option ℕ) → key (codes "s") whole d ≡ o → line_of line d ≡ Err (BadShape line)
    by None s = rw (is, s) refl
    by (Some n) s = rw (is, s) refl

data_no_group : (line : ℕ) (d : Data) (o : Option Order) → line_of line d ≡ Ok o → begins_group d ≡ false
unfolding begins_group
data_no_group line d o is = by (is_named (codes "group") d && keys_among (codes "cmd" ∷ []) d) refl
  where
    by : (b : Bool) → (is_named (codes "group") d && keys_among (codes "cmd" ∷ []) d) ≡ b → b ≡ false
    by false e = refl
    by true e =
        let bad = no_order line d (named_so (codes "group") d (and_parts (is_named (codes "group") d) (keys_among (codes "cmd" ∷ []) d) e).0) in
        let both : ◌≡◌ {A = Result (Option Order) ScriptFault} (Ok o) (Err (BadShape line)) = sym is ∙ bad in
        absurd cc

read_so : {A : Type 0} (fault : ScriptFault) (o : Option A) (x : A) → or_fault fault o ≡ Ok x → o ≡ Some x
read_so fault None x is = absurd cc
read_so fault (Some y) x is = ap Some (of_ok is)

pub no_group : (line : ℕ) (bytes : List ℕ) (o : Option Order) → line_at line bytes ≡ Ok o → option_map_or begins_group (line_data bytes) false ≡ false
unfolding line_at
no_group line bytes o is =
    let t = first_then (or_fault (NotJson line) (line_data bytes)) (line_of line) o is in
    ap (λ (d : Option Data). option_map_or begins_group d false) (read_so (NotJson line) (line_data bytes) t.0 t.1) ∙ data_no_group line t.0 o t.2

-- ---- an order is of its line

of_order : {o p : Order} → order o ≡ order p → o ≡ p
of_order e = cc

script_order : (only_reads : Bool) (line : ℕ) (bytes : List ℕ) (r : Result (Option Order) ScriptFault) → line_at line bytes ≡ r → (o : Order) → script_line only_reads r ≡ order o → IsOrderOf line o
script_order only_reads line bytes (Ok (Some p)) is o same = by (only_reads && is_commit p.command) same
  where
    by : (b : Bool) → (if b then faulty (script (BadShape p.line)) else order p) ≡ order o → IsOrderOf line o
    by true e = absurd cc
    by false e = subst (IsOrderOf line) (of_order e) (bytes_order line bytes p is)
script_order only_reads line bytes (Ok None) is o same = absurd cc
script_order only_reads line bytes (Err e) is o same = absurd cc

pub order_at : (only_reads : Bool) (line : ℕ) (bytes : List ℕ) (o : Order) → live_line only_reads line bytes ≡ order o → IsOrderOf line o
unfolding live_line
order_at only_reads line bytes o is = by (nat_lt most_bytes (length bytes)) (option_map_or begins_group (line_data bytes) false) is
  where
    by : (a b : Bool) → (if a then faulty (too_long line) else (if b then group else script_line only_reads (line_at line bytes))) ≡ order o → IsOrderOf line o
    by true b e = absurd cc
    by false true e = absurd cc
    by false false e = script_order only_reads line bytes (line_at line bytes) refl o e

-- ---- what is read

module _ (only_reads : Bool) (line : ℕ) (bytes : List ℕ) where
  abbrev others : Line
  others = if option_map_or begins_group (line_data bytes) false then group else script_line only_reads (line_at line bytes)

  pub read_too_long : most_bytes < length bytes → faulty (too_long line) ≡ live_line only_reads line bytes
  unfolding live_line
  read_too_long many = ap (λ (b : Bool). if b then faulty (too_long line) else others) (sym (lt-ltb most_bytes (length bytes) many))

  short_line : length bytes ≤ most_bytes → others ≡ live_line only_reads line bytes
  unfolding live_line
  short_line few = ap (λ (b : Bool). if b then faulty (too_long line) else others) (sym (le-ltb most_bytes (length bytes) few))

  pub read_order : (o : Option Order) → length bytes ≤ most_bytes → line_at line bytes ≡ Ok o → script_line only_reads (Ok o) ≡ live_line only_reads line bytes
  read_order o few is =
      ap (script_line only_reads) (sym is) ∙ ap (λ (b : Bool). if b then group else script_line only_reads (line_at line bytes)) (sym (no_group line bytes o is)) ∙ short_line few

  pub read_fault : (fault : ScriptFault) → length bytes ≤ most_bytes → line_at line bytes ≡ Err fault
      → (if option_map_or begins_group (line_data bytes) false then group else faulty (script fault)) ≡ live_line only_reads line bytes
  read_fault fault few is = ap (λ (r : Result (Option Order) ScriptFault). if option_map_or begins_group (line_data bytes) false then group else script_line only_reads r) (sym is) ∙ short_line few
