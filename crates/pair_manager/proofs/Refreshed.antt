-- What a refresh leaves: the next pair is the last publication, or nothing was published.
use Rattle.std.proofs.Common.{◌≡◌, ◌≤◌, ◌∙◌, ◌++◌, ◌∷◌, [], ℕ, List, Ok, Err, length, refl, sym, ap, subst, arith}
use Rattle.std.specs.Prelude.{Result, IfOk, OnOk, OnErr}
use Rattle.std.proofs.lemmas.List.{map_push}
use mathlib.Core.List.{IsPrefix}
use Rattle.facet_model.specs.Histories.{Operation}
use Rattle.chronicle.specs.Frame.{Frame}
use Rattle.chronicle.specs.History.{entries, own_of}
use Rattle.chronicle.specs.Shown.{Shown, mine, SameToken, SeesOn, EntersBehind}
use Rattle.chronicle.proofs.Prefixes.{prefix_length, prefix_trans}
use Rattle.taxo_cache.specs.Seen.{labels_of}
use Rattle.taxo_adding.proofs.Growing.{seen_goes_on}
use Rattle.pair_manager.specs.declared.publication.Publication.{Publication}
use Rattle.pair_manager.specs.Published.{Published, publication_of, pair_frame, frame_of, seen_of, ArePublications, StandsFor, IsLast}
use Rattle.pair_manager.specs.Next.{Ends, GoOn, IsNext}
use Rattle.pair_manager.proofs.Publishing.{still_right, stands_next}

pub record Refreshed {E : Type 0} (old now : Shown Publication) (labels known : Shown (List (List ℕ))) (operations history : Shown Operation) (result : Result ℕ E) : Type 0 where
  pub right : ArePublications known.seen history.seen (entries now.seen)
  pub pairs : IsPrefix old.seen now.seen
  pub answer : IfOk result (λ n. n ≡ length history.seen)
  pub fresh : IfOk result (λ n. length operations.seen ≤ n)
  pub covers : OnOk result (length (labels_of labels.seen) ≤ length (labels_of known.seen))
  pub enters : OnOk result (EntersBehind (seen_of history known) old now)
  pub newest : OnOk result (IsLast (seen_of history known) (entries now.seen))
  pub none : OnErr result (mine now ≡ mine old)

-- The last pair was taken: the labels and the operations were `labels` and `operations`, then `l` and `o`. The next pair was made of `known` and `history`.
module _ (last : Published) (old taken : Shown Publication) (labels l known : Shown (List (List ℕ))) (operations o history : Shown Operation) (stands : StandsFor last (entries taken.seen))
    (told : IsPrefix last.history.seen o.seen × IsPrefix last.labels.seen l.seen) (more_labels : SeesOn labels l) (more_operations : SeesOn operations o) (go : GoOn l known o history) where
  on : IsPrefix last.labels.seen known.seen
  on = prefix_trans last.labels.seen l.seen known.seen told.1 go.more_labels.0

  more : IsPrefix last.history.seen history.seen
  more = prefix_trans last.history.seen o.seen history.seen told.0 go.more_operations.0

  stands_after : (p : Published) (now : List Publication) → IsNext last.config history known p → now ≡ entries taken.seen ++ publication_of p ∷ [] → StandsFor p now
  stands_after p now next entered =
      stands_next last p (entries taken.seen) now stands next.is (subst (IsPrefix last.labels.seen) (sym next.known.2) on) (subst (IsPrefix last.history.seen) (sym next.history.2) more) entered

  -- it may be published
  pub may_publish : {E : Type 0} (next : Result Published E) → IfOk next (IsNext last.config history known) → frame_of last ≡ taken.frame → taken.frame.identities ≡ operations.identity ∷ labels.identity ∷ []
      → l.identity ≡ labels.identity → o.identity ≡ operations.identity → IfOk next (λ p. StandsFor p (entries taken.seen ++ publication_of p ∷ []) × (frame_of p ≡ taken.frame))
  may_publish (Err e) next framed tied own_labels own_operations = tt
  may_publish (Ok p) next framed tied own_labels own_operations =
      let ids : last.history.identity ∷ last.labels.identity ∷ [] ≡ operations.identity ∷ labels.identity ∷ [] = ap (λ (f : Frame). f.identities) framed ∙ tied in
      let old_history : last.history.identity ≡ operations.identity = cc in
      let old_labels : last.labels.identity ≡ labels.identity = cc in
      let history_same : p.history.identity ≡ operations.identity = next.history.3 ∙ go.history.0.3 ∙ own_operations in
      let labels_same : p.labels.identity ≡ labels.identity = next.known.3 ∙ go.known.0.3 ∙ own_labels in
      (stands_after p (entries taken.seen ++ publication_of p ∷ []) next refl, (λ i. pair_frame (next.under i) ((history_same ∙ sym old_history) i) ((labels_same ∙ sym old_labels) i)) ∙ framed)

  pub refreshed : {E : Type 0} (now : Shown Publication) (next : Result Published E) (result : Result ℕ E) → IfOk next (IsNext last.config history known) → SameToken old taken → SeesOn old taken → SameToken taken now
      → Ends next result taken now → Refreshed old now labels known operations history result
  refreshed {E} now (Ok p) result next turn met back ends =
      let is : publication_of p ≡ seen_of history known = λ i. record { operations = length (next.history.2 i); labels = length (labels_of (next.known.2 i)) } in
      let entered : entries now.seen ≡ entries taken.seen ++ publication_of p ∷ [] = ap entries ends.1 ∙ map_push (λ (x : ℕ × Publication). x.1) taken.seen (taken.number, publication_of p) in
      let right : ArePublications known.seen history.seen (entries now.seen) =
      subst (λ (s : List (ℕ × List (List ℕ))). ArePublications s history.seen (entries now.seen)) next.known.2
      (subst (λ (s : List (ℕ × Operation)). ArePublications p.labels.seen s (entries now.seen)) next.history.2 (stands_after p (entries now.seen) next entered).right) in
      let size : length p.history.seen ≡ length history.seen = ap length next.history.2 in
      subst (λ (r : Result ℕ E). Refreshed old now labels known operations history r) (sym ends.0) (record {
        right = right;
        pairs = prefix_trans old.seen taken.seen now.seen met.0 ((taken.number, publication_of p) ∷ [], sym ends.1);
        answer = size;
        fresh = omega (arith, size, prefix_length operations.seen history.seen (prefix_trans operations.seen o.seen history.seen more_operations.0 go.more_operations.0));
        covers = (seen_goes_on labels.seen known.seen (prefix_trans labels.seen l.seen known.seen more_labels.0 go.more_labels.0)).0;
        enters = record {
          between = taken.seen;
          on = met.0;
          none = (λ i. own_of (sym turn.2 i) (sym turn.0 i) taken.seen) ∙ met.1;
          seen = ends.1 ∙ (λ i. taken.seen ++ (turn.0 i, is i) ∷ []);
        };
        newest = (entries taken.seen, entered ∙ ap (λ (q : Publication). entries taken.seen ++ q ∷ []) is);
        none = tt;
      })
  refreshed {E} now (Err e) result next turn met back ends =
      subst (λ (r : Result ℕ E). Refreshed old now labels known operations history r) (sym ends.0) (record {
        right = subst (λ (s : List (ℕ × Publication)). ArePublications known.seen history.seen (entries s)) (sym ends.1)
            (still_right last.labels.seen known.seen last.history.seen history.seen on more (entries taken.seen) stands.right);
        pairs = subst (IsPrefix old.seen) (sym ends.1) met.0;
        answer = tt;
        fresh = tt;
        covers = tt;
        enters = tt;
        newest = tt;
        none = (λ i. own_of (back.2 i) (back.0 i) (ends.1 i)) ∙ met.1;
      })

-- what holds of the value of an Ok
pub at_ok : {E : Type 0} (P : Published → Type 0) (next : Result Published E) (p : Published) → next ≡ Ok p → IfOk next P → P p
at_ok {E} P next p is all = subst (λ (r : Result Published E). IfOk r P) is all
