-- The pair that is published next, and how the turn ends in which it is made.
use Rattle.std.specs.Prelude.{◌≡◌, ◌++◌, ℕ, false, List, [], ◌∷◌, Result, Ok, Err, length}
use Rattle.facet_model.specs.Flags.{Config}
use Rattle.facet_model.specs.Histories.{Operation}
use Rattle.chronicle.specs.Shown.{Shown, SameToken, SeesOn, IsNoteOf}
use Rattle.taxo_cache.specs.Seen.{SeesLabels}
use Rattle.pair_manager.specs.declared.publication.Publication.{Publication}
use Rattle.pair_manager.specs.Published.{Published, publication_of}
use Rattle.pair_manager.specs.Kept.{IsPair}

-- Two tokens, which do not hold their turns, have seen on.
pub record GoOn (labels labels' : Shown (List (List ℕ))) (operations operations' : Shown Operation) : Type 0 where
  pub known : SameToken labels labels' × (labels'.holds_turn ≡ false)
  pub more_labels : SeesOn labels labels'
  pub history : SameToken operations operations' × (operations'.holds_turn ≡ false)
  pub more_operations : SeesOn operations operations'
  pub list : SeesLabels labels'

-- The pair is of what these tokens have seen, under this config.
pub record IsNext (config : Config) (operations : Shown Operation) (labels : Shown (List (List ℕ)))
    (p : Published) : Type 0 where
  pub history : IsNoteOf operations p.history
  pub known : IsNoteOf labels p.labels
  pub under : p.config ≡ config
  pub is : IsPair p

-- the next pair was published; where there was none, nothing was
abbrev pub Ends : {E : Type 0} → Result Published E → Result ℕ E → Shown Publication → Shown Publication → Type 0
Ends (Ok next) result old new = (result ≡ Ok (length next.history.seen))
    × (new.seen ≡ old.seen ++ (old.number, publication_of next) ∷ [])
Ends (Err e) result old new = (result ≡ Err e) × (new.seen ≡ old.seen)
