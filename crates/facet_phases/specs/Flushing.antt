-- The laws of lines that are written one after the other.
use Rattle.std.proofs.Common.{◌≡◌, ◌∙◌, ℕ, List, [], ◌++◌, length, take, drop, Option, Some, None, refl, sym, ap, subst}
use Rattle.std.proofs.Common.{append_assoc, append-nil}
use Rattle.std.proofs.lemmas.List.{take-append-drop, take_at}
use Rattle.std.proofs.lemmas.List.Concat.{flat_map-append}
use Rattle.std.specs.Io.KnownBytes.{Appends}
use Rattle.facet_io.specs.Faults.{Rose}
use Rattle.facet_output.specs.Answered.{Answered}
use Rattle.facet_output.specs.OutputLines.{answered_line, reply_lines}
use Rattle.facet_phases.specs.Moments.{Moment, Writes, WritesSome}
use Rattle.facet_io.proofs.Pieces.{appends_then}

pub appends_none : (old : Option (List ℕ)) → Appends old old []
appends_none None = tt
appends_none (Some xs) = sym (append-nil xs)

-- a prefix of a later piece makes a prefix of all
pub appends_some : (old mid new : Option (List ℕ)) (all front piece rest : List ℕ) (n : ℕ)
    → all ≡ front ++ (piece ++ rest) → Appends old mid front
    → Appends mid new (take n piece) → (m : ℕ) × Appends old new (take m all)
appends_some old mid new all front piece rest n is p q =
    let some = take n piece in
    let left = drop n piece in
    let whole : piece ++ rest ≡ some ++ (left ++ rest) =
    ap (λ t. t ++ rest) (sym (take-append-drop n piece)) ∙ append_assoc some left rest in
    let parts : all ≡ (front ++ some) ++ (left ++ rest) =
    is ∙ ap (λ t. front ++ t) whole ∙ sym (append_assoc front some (left ++ rest)) in
    let is_done : take (length (front ++ some)) all ≡ front ++ some =
    rw parts (take_at (front ++ some) (left ++ rest) (length (front ++ some)) refl) in
    (length (front ++ some), rw is_done (appends_then old mid new front some p q))

pub lines_append : (xs ys : List Answered) → reply_lines (xs ++ ys) ≡ reply_lines xs ++ reply_lines ys
lines_append xs ys = flat_map-append answered_line xs ys

pub writes_none : (m : Moment) → Writes m m []
writes_none m = (appends_none m.written, refl)

pub writes_then : (a b c : Moment) (xs ys : List Answered) → Writes a b (reply_lines xs) → Writes b c (reply_lines ys)
    → Writes a c (reply_lines (xs ++ ys))
writes_then a b c xs ys p q = (
  subst (λ (l : List ℕ). Appends a.written c.written l) (sym (lines_append xs ys))
      (appends_then a.written b.written c.written (reply_lines xs) (reply_lines ys) p.0 q.0),
  q.1 ∙ p.1,
)

pub some_then : (a b c : Moment) (xs ys zs : List Answered) → Writes a b (reply_lines xs)
    → WritesSome b c (reply_lines ys)
    → WritesSome a c (reply_lines (xs ++ (ys ++ zs)))
some_then a b c xs ys zs p q = (
  subst (λ (n : ℕ). Rose n c.faults) p.1 q.0,
  appends_some a.written b.written c.written (reply_lines (xs ++ (ys ++ zs))) (reply_lines xs) (reply_lines ys)
      (reply_lines zs) q.1.0
      (lines_append xs (ys ++ zs) ∙ ap (λ (l : List ℕ). reply_lines xs ++ l) (lines_append ys zs)) p.0 q.1.1,
)
