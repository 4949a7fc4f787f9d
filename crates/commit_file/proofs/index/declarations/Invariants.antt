use denote.Shadow.{shadow}
use denote.Text.{Utf8}
use Rattle.std.proofs.Common.{◌≡◌, ◌-◌}
use Rattle.facet_codec.proofs.Lists.{with_front}
use Rattle.commit_file.specs.Reading.{each_at, declaration_at, declarations_at}
use Rattle.commit_file.proofs.Rising.{AreUpTo}
use Rattle.commit_file.proofs.index.declarations.Given as goal

abbrev pub invariant-loop : goal.invariant-loop
invariant-loop l = record {
  utf8 : shadow (Utf8 l.before);
  up_to : AreUpTo l.before l.kept;
  read : with_front l.kept (each_at (λ _. declaration_at) (λ _ d. d.0) (l.n - l.counter) l.before l.cursor) ≡ declarations_at l.n l.fn.cursor;
}
