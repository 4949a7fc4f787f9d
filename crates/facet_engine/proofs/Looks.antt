-- A command that looks at a pair is a step, if its reply is right for the pair.
use Rattle.std.proofs.Common.{◌≡◌, ◌≢◌, ◌∙◌, inl, inr, ◌≤◌, ℕ, true, List, length, Option, Some, None, option_map, Result, Ok, Err, refl, sym, ap, subst, arith}
use Rattle.std.specs.Arc.{arc_value}
use Rattle.std.specs.Prelude.{IfOk}
use Rattle.std.specs.declared.sync.Arc.{Arc}
use Rattle.std.proofs.lemmas.List.{length-map}
use Rattle.chronicle.specs.History.{entries}
use Rattle.chronicle.specs.Shown.{SeesOn}
use Rattle.chronicle.proofs.Prefixes.{prefix_length}
use Rattle.facet_model.specs.Documents.{Doc}
use Rattle.number_facets.specs.Values.{Range}
use Rattle.taxo_cache.specs.Seen.{labels_of}
use Rattle.pair_manager.specs.declared.pass.Pass.{Pass}
use Rattle.pair_manager.specs.Passes.{SamePass}
use Rattle.pair_manager.specs.Published.{Published, publication_of, IsLast}
use Rattle.facet_words.specs.Answers.{IsSummed, ranged_of}
use Rattle.facet_words.specs.Commands.{Settings, Command, Counted, ranges, sums}
use Rattle.facet_output.specs.Effects.{Effect, Report, effect, looks, report}
use Rattle.facet_output.specs.Held.{held_under}
use Rattle.facet_output.specs.Replies.{Reply, refused, not_held, top_zero, no_memory}
use Rattle.facet_output.specs.Replying.{IsLooked, IsOf, IsRight, IsRightBy, RightReply, takes_memory}
use Rattle.facet_output.specs.Reported.{placed_in, refreshed_in, stood_in}
use Rattle.facet_output.specs.Seen.{EntersNone, history_of, labels_of as plain_labels}
use Rattle.facet_output.specs.Steps.{IsStep, EntersBy, EntersPoints}
use Rattle.pair_search.specs.declared.ranging.RangesAnswer.{RangesAnswer}
use Rattle.pair_search.specs.declared.ranging.RangesFault.{RangesFault}
use Rattle.pair_search.specs.declared.ranging.RangesFault.TheVariants as ranging
use Rattle.pair_search.specs.declared.summing.SumsAnswer.{SumsAnswer}
use Rattle.pair_search.specs.declared.summing.SumsFault.{SumsFault}
use Rattle.pair_search.specs.declared.summing.SumsFault.TheVariants as summing
use Rattle.pair_search.specs.Numbers.{IsRangedIn, IsSummedIn}
use Rattle.pair_search.specs.Replies.{ranges_reply, sums_reply}
use Rattle.facet_engine.specs.HeldPairs.{HeldPair, pair_under, numbers_of, numbers_held}
use Rattle.facet_engine.specs.Sessions.{HaveOneNumber, HasSeen}
use Rattle.facet_engine.specs.Steps.{seen_of, taking, last_pair, ranged, summed}
use Rattle.facet_engine.proofs.Naming.{numbers_under}
use Rattle.facet_engine.proofs.SeenPairs.{begins}
use Rattle.facet_engine.proofs.Taking.{taking_last, taking_none, docs_seen}

-- ---- a shared pair

-- what holds of a pair holds of a shared reference to it
pub of_shared : {X Z F : Type 0} (P : X → Type 0) (x : X) (result : Result (Arc X Z) F) → IfOk result (λ p. arc_value p ≡ x) → P x → IfOk result (λ p. P (arc_value p))
of_shared P x (Ok p) is here = subst P (sym is) here
of_shared P x (Err fault) is here = tt

-- ---- what is right of a pair

-- what was counted in a pair is right of what was seen
pub ranged_right : (settings : Settings) (labels : List (List (List ℕ))) (pass : Pass) (pair : Published) (on : Option (List ℕ)) (c : Counted) (rs : List Range) (reply : Reply) → HasSeen pass pair → IsRangedIn pair c rs reply
    → IsLooked settings labels (history_of (seen_of pass)) (ranges on c rs) (numbers_of pair) reply
ranged_right settings labels pass pair on c rs reply seen is = is ∙ ap (λ (ds : List Doc). ranged_of (numbers_of pair).0 ds c rs) (sym (docs_seen pass pair seen))

pub summed_right : (settings : Settings) (labels : List (List (List ℕ))) (pass : Pass) (pair : Published) (on : Option (List ℕ)) (c : Counted) (n : ℕ) (reply : Reply) → HasSeen pass pair → IsSummedIn pair c n reply
    → IsLooked settings labels (history_of (seen_of pass)) (sums on c n) (numbers_of pair) reply
summed_right settings labels pass pair on c n reply seen is = subst (λ (ds : List Doc). IsSummed (numbers_of pair).0 ds c n reply) (sym (docs_seen pass pair seen)) is

-- ---- the steps

module _ (settings : Settings) (held : List HeldPair) (phase line number : ℕ) (old new : Pass) (have : HaveOneNumber number old) (same : SamePass old new) (labels : SeesOn old.labels new.labels) (operations : SeesOn old.operations new.operations)
    (pairs : SeesOn old.pairs new.pairs) (commits : new.commits ≡ old.commits) where
  abbrev n : ℕ
  n = old.labels.number

  -- a command that looks places nothing, publishes nothing and commits nothing
  places_none : (e : Effect) (on : Option (List ℕ)) (said : Report) → e ≡ looks on → placed_in n e said ≡ None
  places_none e on said is = ap (λ (f : Effect). placed_in n f said) is

  refreshes_none : (e : Effect) (on : Option (List ℕ)) (said : Report) → e ≡ looks on → refreshed_in e said ≡ None
  refreshes_none e on said is = ap (λ (f : Effect). refreshed_in f said) is

  stands_none : (e : Effect) (on : Option (List ℕ)) (said : Report) → e ≡ looks on → stood_in e None said ≡ None
  stands_none e on said is = ap (λ (f : Effect). stood_in f None said) is

  enters_none : (command : Command) (on : Option (List ℕ)) (reply : Reply) → effect command ≡ looks on → EntersNone n (seen_of old).commits (seen_of new).commits → EntersPoints n (length (plain_labels (seen_of old))) command reply (seen_of old).commits (seen_of new).commits
  enters_none command on reply is none = subst (λ (e : Effect). EntersBy n (length (plain_labels (seen_of old))) e (report reply) (seen_of old).commits (seen_of new).commits) (sym is) none

  -- a reply that is right or finds no memory, of no pair that was taken
  looks_on_none : (command : Command) (on : Option (List ℕ)) (reply : Reply) → effect command ≡ looks on
      → RightReply settings (plain_labels (seen_of new)) (history_of (seen_of new)) (numbers_held held) (taking command None reply old new phase line).answered → IsStep settings (numbers_held held) (taking command None reply old new phase line)
  looks_on_none command on reply is right =
      taking_none settings (numbers_held held) phase line number old new have same labels operations pairs commits command reply right
      (places_none (effect command) on (report reply) is) (refreshes_none (effect command) on (report reply) is) (stands_none (effect command) on (report reply) is) (enters_none command on reply is)

  right_by : (command : Command) (on : Option (List ℕ)) (took : Option (ℕ × ℕ)) (reply : Reply) → effect command ≡ looks on
      → IsRightBy settings (plain_labels (seen_of new)) (history_of (seen_of new)) (numbers_held held) n (looks on) command took None reply → IsRight settings (plain_labels (seen_of new)) (history_of (seen_of new)) (numbers_held held) n command took None reply
  right_by command on took reply is right = subst (λ (e : Effect). IsRightBy settings (plain_labels (seen_of new)) (history_of (seen_of new)) (numbers_held held) n e command took None reply) (sym is) right

  module _ (pair : Published) (seen : HasSeen new pair) where
    many : (publication_of pair).operations ≤ length new.operations.seen
    many = prefix_length pair.history.seen new.operations.seen (begins pair.history.seen new.operations.seen seen.operations)

    many_labels : (publication_of pair).labels ≤ length (labels_of new.labels.seen)
    many_labels = let l = prefix_length pair.labels.seen new.labels.seen (begins pair.labels.seen new.labels.seen seen.labels) in omega (arith, l, length-map pair.labels.seen (λ (e : ℕ × List (List ℕ)). e.1), length-map new.labels.seen (λ (e : ℕ × List (List ℕ)). e.1))

    -- the last pair is looked at
    pub look_last : (command : Command) (reply : Reply) → effect command ≡ looks None → IsLast (publication_of pair) (entries new.pairs.seen)
        → IsLooked settings (plain_labels (seen_of new)) (history_of (seen_of new)) command (numbers_of pair) reply → IsStep settings (numbers_held held) (taking command (last_pair new) reply old new phase line)
    look_last command reply is last right =
        taking_last settings (numbers_held held) phase line number old new have same labels operations pairs commits command reply (publication_of pair) last many many_labels
        (inl (right_by command None (Some (numbers_of pair)) reply is right))
        (places_none (effect command) None (report reply) is) (refreshes_none (effect command) None (report reply) is) (stands_none (effect command) None (report reply) is) (enters_none command None reply is)

    -- a held pair is looked at
    pub look_under : (name : List ℕ) (command : Command) (reply : Reply) → effect command ≡ looks (Some name) → pair_under held name ≡ Some pair
        → IsLooked settings (plain_labels (seen_of new)) (history_of (seen_of new)) command (numbers_of pair) reply → IsStep settings (numbers_held held) (taking command None reply old new phase line)
    look_under name command reply is under right =
        let here : held_under (numbers_held held) name ≡ Some (numbers_of pair) = numbers_under held name ∙ ap (option_map numbers_of) under in
        looks_on_none command (Some name) reply is (inl (right_by command (Some name) None reply is
        (subst (λ (o : Option (ℕ × ℕ)). IsOf (λ pair r. IsLooked settings (plain_labels (seen_of new)) (history_of (seen_of new)) command pair r) o (Some name) reply) (sym here) right)))

  -- nothing is held under the name
  pub look_not_held : (name : List ℕ) (command : Command) → effect command ≡ looks (Some name) → pair_under held name ≡ None → IsStep settings (numbers_held held) (taking command None (refused not_held) old new phase line)
  look_not_held name command is none =
      let here : held_under (numbers_held held) name ≡ None = numbers_under held name ∙ ap (option_map numbers_of) none in
      looks_on_none command (Some name) (refused not_held) is (inl (right_by command (Some name) None (refused not_held) is
      (subst (λ (o : Option (ℕ × ℕ)). IsOf (λ pair r. IsLooked settings (plain_labels (seen_of new)) (history_of (seen_of new)) command pair r) o (Some name) (refused not_held)) (sym here) refl)))

  -- there was no memory
  pub look_without_memory : (on : Option (List ℕ)) (command : Command) → effect command ≡ looks on → takes_memory command ≡ true → IsStep settings (numbers_held held) (taking command None (refused no_memory) old new phase line)
  look_without_memory on command is takes = looks_on_none command on (refused no_memory) is (inr (takes, refl))

  -- ---- ranges

  module _ (pair : Published) (seen : HasSeen new pair) (c : Counted) (rs : List Range) where
    pub ranges_last : IsLast (publication_of pair) (entries new.pairs.seen) → (result : Result RangesAnswer RangesFault) → (result ≢ Err ranging.NoMemory → IsRangedIn pair c rs (ranges_reply result))
        → IsStep settings (numbers_held held) (ranged None c rs old new result phase line)
    ranges_last last (Ok a) is = look_last pair seen (ranges None c rs) (ranges_reply (Ok a)) refl last (ranged_right settings (plain_labels (seen_of new)) new pair None c rs (ranges_reply (Ok a)) seen (is (λ e. absurd cc)))
    ranges_last last (Err ranging.NotHeld) is = look_last pair seen (ranges None c rs) (refused not_held) refl last (ranged_right settings (plain_labels (seen_of new)) new pair None c rs (refused not_held) seen (is (λ e. absurd cc)))
    ranges_last last (Err ranging.NoMemory) is = look_without_memory None (ranges None c rs) refl refl

    pub ranges_under : (name : List ℕ) → pair_under held name ≡ Some pair → (result : Result RangesAnswer RangesFault) → (result ≢ Err ranging.NoMemory → IsRangedIn pair c rs (ranges_reply result))
        → IsStep settings (numbers_held held) (ranged (Some name) c rs old new result phase line)
    ranges_under name under (Ok a) is = look_under pair seen name (ranges (Some name) c rs) (ranges_reply (Ok a)) refl under (ranged_right settings (plain_labels (seen_of new)) new pair (Some name) c rs (ranges_reply (Ok a)) seen (is (λ e. absurd cc)))
    ranges_under name under (Err ranging.NotHeld) is = look_under pair seen name (ranges (Some name) c rs) (refused not_held) refl under (ranged_right settings (plain_labels (seen_of new)) new pair (Some name) c rs (refused not_held) seen (is (λ e. absurd cc)))
    ranges_under name under (Err ranging.NoMemory) is = look_without_memory (Some name) (ranges (Some name) c rs) refl refl

  -- ---- sums

  module _ (pair : Published) (seen : HasSeen new pair) (c : Counted) (k : ℕ) where
    pub sums_last : IsLast (publication_of pair) (entries new.pairs.seen) → (result : Result SumsAnswer SumsFault) → (result ≢ Err summing.NoMemory → IsSummedIn pair c k (sums_reply result))
        → IsStep settings (numbers_held held) (summed None c k old new result phase line)
    sums_last last (Ok a) is = look_last pair seen (sums None c k) (sums_reply (Ok a)) refl last (summed_right settings (plain_labels (seen_of new)) new pair None c k (sums_reply (Ok a)) seen (is (λ e. absurd cc)))
    sums_last last (Err summing.NotHeld) is = look_last pair seen (sums None c k) (refused not_held) refl last (summed_right settings (plain_labels (seen_of new)) new pair None c k (refused not_held) seen (is (λ e. absurd cc)))
    sums_last last (Err summing.TopZero) is = look_last pair seen (sums None c k) (refused (top_zero 0)) refl last (summed_right settings (plain_labels (seen_of new)) new pair None c k (refused (top_zero 0)) seen (is (λ e. absurd cc)))
    sums_last last (Err summing.NoMemory) is = look_without_memory None (sums None c k) refl refl

    pub sums_under : (name : List ℕ) → pair_under held name ≡ Some pair → (result : Result SumsAnswer SumsFault) → (result ≢ Err summing.NoMemory → IsSummedIn pair c k (sums_reply result))
        → IsStep settings (numbers_held held) (summed (Some name) c k old new result phase line)
    sums_under name under (Ok a) is = look_under pair seen name (sums (Some name) c k) (sums_reply (Ok a)) refl under (summed_right settings (plain_labels (seen_of new)) new pair (Some name) c k (sums_reply (Ok a)) seen (is (λ e. absurd cc)))
    sums_under name under (Err summing.NotHeld) is = look_under pair seen name (sums (Some name) c k) (refused not_held) refl under (summed_right settings (plain_labels (seen_of new)) new pair (Some name) c k (refused not_held) seen (is (λ e. absurd cc)))
    sums_under name under (Err summing.TopZero) is = look_under pair seen name (sums (Some name) c k) (refused (top_zero 0)) refl under (summed_right settings (plain_labels (seen_of new)) new pair (Some name) c k (refused (top_zero 0)) seen (is (λ e. absurd cc)))
    sums_under name under (Err summing.NoMemory) is = look_without_memory (Some name) (sums (Some name) c k) refl refl
