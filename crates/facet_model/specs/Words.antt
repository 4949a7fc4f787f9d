-- Words: texts that may be named, such as ids and components, and the words of a text.
use Rattle.std.specs.Prelude.{◌==◌, ◌&&◌, ◌||◌, ℕ, nat_lt, nat_le, Bool, List, length, filter, if◌then◌else◌, Option}
use Rattle.std.specs.Prelude.{Some, None}
use Rattle.std.specs.List.{slice_split}
use Rattle.std.specs.declared.cmp.Ordering.{Ordering}
use Rattle.std.specs.Cmp.{IsPartialOrder, partial_order_from_agreeing_total}
use Rattle.std.specs.Cmp.Lexicographic.{slice_cmp, nat_list_cmp_total, texts_ties}
use Rattle.std.specs.Ordering.{nat_cmp}
use Rattle.std.specs.Prelude.{refl}
use Rattle.std.specs.Str.{bytes_eq, str_to_ascii_lowercase}

-- a word has 1 to 65,536 bytes
abbrev pub is_word : List ℕ → Bool
is_word text = nat_le 1 (length text) && nat_le (length text) 65536

abbrev pub word_of : List ℕ → Option (List ℕ)
word_of text = if is_word text then Some text else None

-- by bytes
abbrev pub word_cmp : List ℕ → List ℕ → Ordering
word_cmp = slice_cmp nat_cmp

pub word_order : IsPartialOrder bytes_eq (λ x y. Some (word_cmp x y))
word_order = partial_order_from_agreeing_total word_cmp nat_list_cmp_total (λ x y. refl) texts_ties

-- a space, a tab, a carriage return or a line feed
abbrev pub is_blank : ℕ → Bool
is_blank b = b == 32 || b == 9 || b == 13 || b == 10

-- the pieces between blanks that have a byte, with a to z for A to Z
abbrev pub words : List ℕ → List (List ℕ)
words text = filter (λ w. nat_lt 0 (length w)) (slice_split is_blank (str_to_ascii_lowercase text))
