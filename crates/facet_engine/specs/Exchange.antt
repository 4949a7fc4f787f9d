-- How sessions are made, and learn what others have seen.
use Rattle.std.specs.Prelude.{◌≡◌, ℕ}
use Rattle.chronicle.specs.History.{longer}
use Rattle.chronicle.specs.Shown.{SeesOn, MakesOne, IsCounted}
use Rattle.facet_output.specs.Seen.{Seen, Sees, IsTold}
use Rattle.pair_manager.specs.declared.pass.Pass.{Pass}
use Rattle.pair_manager.specs.Passes.{SamePass}
use Rattle.facet_engine.specs.Steps.{seen_of}

-- of each of its tokens so many others were made
abbrev pub HaveMade : ℕ → Pass → Type 0
HaveMade made pass = (pass.labels.made ≡ made) × (pass.operations.made ≡ made) × (pass.pairs.made ≡ made)
    × (pass.commits.made ≡ made)

-- of each of its tokens one more was made, and nothing else changed
abbrev pub MakesOneOfEach : Pass → Pass → Type 0
MakesOneOfEach old new = MakesOne old.labels new.labels × MakesOne old.operations new.operations
    × MakesOne old.pairs new.pairs × MakesOne old.commits new.commits

-- if it is the first one, it has seen no entry under a number that was not given yet
abbrev pub AreCounted : Pass → Type 0
AreCounted pass = IsCounted pass.labels × IsCounted pass.operations × IsCounted pass.pairs × IsCounted pass.commits

-- each token has seen all that it had seen, and maybe more of others
abbrev pub AllSeeOn : Pass → Pass → Type 0
AllSeeOn old new = SeesOn old.labels new.labels × SeesOn old.operations new.operations × SeesOn old.pairs new.pairs
    × SeesOn old.commits new.commits

-- of each history the longer part of the two
abbrev pub longer_of : Seen → Seen → Seen
longer_of a b = record {
  labels = longer a.labels b.labels;
  operations = longer a.operations b.operations;
  pairs = longer a.pairs b.pairs;
  commits = longer a.commits b.commits;
}

-- A pass under this number learns what was shown: it is the same, and of each history it has then seen the longer part
-- of the two.
pub record Meets (number : ℕ) (old new : Pass) (shown : Seen) : Type 0 where
  pub same : SamePass old new
  pub on : AllSeeOn old new
  pub told : IsTold number (seen_of old) (seen_of new)
  pub knows : Sees shown (seen_of new)
  pub longest : seen_of new ≡ longer_of (seen_of old) shown
  -- where it had seen no more than that, it has seen just that
  pub all : Sees (seen_of old) shown → seen_of new ≡ shown
  pub counted : AreCounted new
