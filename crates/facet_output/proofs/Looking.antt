-- What is known of a right reply to a command that looks at a pair.
use Rattle.std.proofs.Common.{◌≡◌, ℕ, zero, suc, ◌≤◌, true, List, length, Option, Some, None, slice_get, refl, sym, ap, subst, arith}
use Rattle.std.proofs.lemmas.Bool.{le-leb}
use Rattle.facet_model.specs.Asks.{AskFault, top_of_none, value_not_kept}
use Rattle.facet_model.specs.Documents.{Doc}
use Rattle.facet_model.specs.Histories.{Operation}
use Rattle.facet_words.specs.Commands.{Settings, Search, Command, add, refresh, hold, release, search, ranges, sums, Counted, document, stats, commit, merge}
use Rattle.facet_words.specs.Answers.{IsSummed}
use Rattle.facet_replies.specs.Replies.{Reply, refused}
use Rattle.facet_output.specs.Effects.{report}
use Rattle.facet_output.specs.Replying.{IsFound, IsShown, IsLooked, docs_of, first_refused, ask_refusal}
use Rattle.facet_output.specs.Reported.{pair_among}
use Rattle.facet_output.proofs.Effects.{shown_by}

module _ (settings : Settings) (labels : List (List (List ℕ))) (history : List Operation) (pair : ℕ × ℕ) (reply : Reply) where
  -- it shows no operations and no labels beyond those of the pair
  pub record Looked : Type 0 where
    pub shown : (saw : Option ℕ) → shown_by saw reply ≤ pair.0
    pub among : (these : List (List (List ℕ))) → pair.1 ≤ length these → pair_among these (report reply) ≡ true

  -- so does a reply that shows no operation, and one that shows those of the pair
  at_most : (other : Reply) → reply ≡ other → ((saw : Option ℕ) → shown_by saw other ≤ pair.0) → ((these : List (List (List ℕ))) → pair.1 ≤ length these → pair_among these (report other) ≡ true) → Looked
  at_most other is le among = record {
    shown = λ saw. let e = ap (shown_by saw) is in let l = le saw in omega arith;
    among = λ these many. subst (λ (r : Reply). pair_among these (report r) ≡ true) (sym is) (among these many);
  }

  ask_refused : (at : ℕ) (fault : AskFault) → reply ≡ refused (ask_refusal at fault) → Looked
  ask_refused at top_of_none is = at_most _ is (λ saw. omega arith) (λ these many. refl)
  ask_refused at value_not_kept is = at_most _ is (λ saw. omega arith) (λ these many. refl)

  found_looked : (s : Search) (o : Option (ℕ × AskFault)) (docs : List Doc) → IsFound settings.config s o pair.0 docs reply → Looked
  found_looked s (Some r) docs is = ask_refused r.0 r.1 is
  found_looked s None docs is = at_most _ is.2 (λ saw. omega arith) (λ these many. refl)

  shown_looked : (docs : List Doc) (at : ℕ) (o : Option Doc) → IsShown labels pair.0 docs at o reply → Looked
  shown_looked docs at None is = at_most _ is (λ saw. omega arith) (λ these many. refl)
  shown_looked docs at (Some doc) is = at_most _ is.2 (λ saw. omega arith) (λ these many. refl)

  summed_looked : (docs : List Doc) (c : Counted) (n : ℕ) → IsSummed pair.0 docs c n reply → Looked
  summed_looked docs c zero is = at_most _ is (λ saw. omega arith) (λ these many. refl)
  summed_looked docs c (suc n) is = at_most _ is.2 (λ saw. omega arith) (λ these many. refl)

  pub looked : (command : Command) → IsLooked settings labels history command pair reply → Looked
  looked (search on s) is = found_looked s (first_refused settings.config s.asks) (docs_of history pair) is
  looked (ranges on c rs) is = at_most _ is (λ saw. omega arith) (λ these many. refl)
  looked (sums on c n) is = summed_looked (docs_of history pair) c n is
  looked (document on at) is = shown_looked (docs_of history pair) at (slice_get (docs_of history pair) at) is
  looked (stats on) is = at_most _ is (λ saw. omega arith) (λ these many. le-leb pair.1 (length these) many)
  looked (add doc) is = absurd is
  looked refresh is = absurd is
  looked (hold name) is = absurd is
  looked (release name) is = absurd is
  looked commit is = absurd is
  looked merge is = absurd is
