-- What a reply shows was seen.
use Rattle.std.proofs.Common.{◌≡◌, ⊎_elim, ℕ, ◌≤◌, Bool, true, false, List, length, Option, Some, None, refl, ap, arith}
use Rattle.std.specs.Prelude.{unwrap_or}
use Rattle.std.proofs.lemmas.List.{length-map}
use Rattle.facet_model.specs.Accepts.{Broken, first_broken}
use Rattle.facet_model.specs.Documents.{Doc}
use Rattle.facet_model.specs.Histories.{Change, Operation, doc_of, knows}
use Rattle.facet_words.specs.Commands.{Settings, Command}
use Rattle.facet_output.specs.Effects.{Effect, changes, publishes, holds, releases, persists, merges, looks, effect}
use Rattle.facet_replies.specs.Replies.{Reply, placed, refused, docs_full}
use Rattle.facet_output.specs.Held.{Held, held_under}
use Rattle.facet_output.specs.Replying.{IsChanged, IsAdded, IsResolved, IsOf, IsLooked, IsHold, IsRelease, IsRightBy, IsCommitted, Counts, IsOperation, pair_seen}
use Rattle.facet_output.specs.Reported.{shows}
use Rattle.facet_output.proofs.Effects.{shown_by}
use Rattle.facet_output.specs.Seen.{labels_of, history_of}
use Rattle.facet_output.specs.Steps.{Step, IsStep}
use Rattle.facet_output.proofs.Fronts.{get_below}
use Rattle.facet_output.proofs.HeldPairs.{HeldIn, pair_in}
use Rattle.facet_output.proofs.Looking.{looked}

-- ---- of a reply that is right

module _ (settings : Settings) (labels : List (List (List ℕ))) (history : List Operation) (held : Held) (session : ℕ) (took : Option (ℕ × ℕ)) (saw : Option ℕ) (reply : Reply) where
  counted : Counts history reply → shown_by saw reply ≤ length history
  counted c = let e = ap (shown_by saw) c.2 in omega (arith, c.1)

  -- a change that was placed shows itself and what is before it
  in_place : (change : Change) (at : ℕ) → IsOperation history session change at → reply ≡ placed at → shown_by saw reply ≤ length history
  in_place change at is told = let e = ap (shown_by saw) told in let l = get_below history at (record { session = session; change = change }) is in omega arith

  -- one that was refused for documents shows what it saw
  full : (n size : ℕ) → saw ≡ Some n → n ≤ length history → reply ≡ refused (docs_full size) → shown_by saw reply ≤ length history
  full n size known le told = let e = ap (shown_by saw) told in let k : unwrap_or saw 0 ≡ n = ap (λ (o : Option ℕ). unwrap_or o 0) known in omega arith

  resolved : (change : Change) (b : Bool) → IsResolved settings labels history session change saw b reply → shown_by saw reply ≤ length history
  resolved change false r = let e = ap (shown_by saw) r.1 in omega arith
  resolved change true r = ⊎_elim (λ p. in_place change p.0 p.1 p.3) (λ n. full n.0 _ n.1 n.2 n.4) r

  added : (change : Change) (doc : Doc) (o : Option Broken) → IsAdded settings labels history session change saw doc o reply → shown_by saw reply ≤ length history
  added change doc (Some b) r = let e = ap (shown_by saw) r in omega arith
  added change doc None r = resolved change (knows labels doc) r

  changed : (change : Change) (d : Option Doc) → IsChanged settings labels history session change saw d reply → shown_by saw reply ≤ length history
  changed change None r = in_place change r.0 r.1 r.2
  changed change (Some doc) r = added change doc (first_broken settings.config doc) r

  look_shows : (command : Command) (o : Option (ℕ × ℕ)) (on : Option (List ℕ)) → ((pair : ℕ × ℕ) → o ≡ Some pair → pair.0 ≤ length history) → IsOf (λ pair r. IsLooked settings labels history command pair r) o on reply → shown_by saw reply ≤ length history
  look_shows command (Some pair) on seen is = let l = seen pair refl in let m = (looked settings labels history pair reply command is).shown saw in omega arith
  look_shows command None (Some name) seen is = let e = ap (shown_by saw) is in omega arith
  look_shows command None None seen is = absurd is

  hold_shows : (o t : Option (ℕ × ℕ)) → ((pair : ℕ × ℕ) → t ≡ Some pair → pair.0 ≤ length history) → IsHold o t reply → shown_by saw reply ≤ length history
  hold_shows (Some pair) t seen is = let e = ap (shown_by saw) is in omega arith
  hold_shows None (Some pair) seen is = let e = ap (shown_by saw) is in let l = seen pair refl in omega arith
  hold_shows None None seen is = absurd is

  release_shows : (o : Option (ℕ × ℕ)) → ((pair : ℕ × ℕ) → o ≡ Some pair → pair.0 ≤ length history) → IsRelease o reply → shown_by saw reply ≤ length history
  release_shows (Some pair) seen is = let e = ap (shown_by saw) is in let l = seen pair refl in omega arith
  release_shows None seen is = let e = ap (shown_by saw) is in omega arith

  commit_shows : IsCommitted history reply → shown_by saw reply ≤ length history
  commit_shows is = ⊎_elim counted (λ r. ⊎_elim (λ d. let e = ap (shown_by saw) d.1 in omega arith) (λ r. ⊎_elim (λ c. let e = ap (shown_by saw) c.1 in omega arith) (λ s. let e = ap (shown_by saw) s.2 in omega arith) r) r) is

  right_shows : (e : Effect) (command : Command) → ((on : Option (List ℕ)) (pair : ℕ × ℕ) → pair_seen held took on ≡ Some pair → pair.0 ≤ length history) → IsRightBy settings labels history held session e command took saw reply → shown_by saw reply ≤ length history
  right_shows (changes change) command seen right = changed change (doc_of change) right
  right_shows publishes command seen right = counted right
  right_shows (holds name) command seen right = hold_shows (held_under held name) took (seen None) right
  right_shows (releases name) command seen right = release_shows (held_under held name) (seen (Some name)) right
  right_shows persists command seen right = commit_shows right
  right_shows merges command seen right = let e = ap (shown_by saw) right in omega arith
  right_shows (looks on) command seen right = look_shows command (pair_seen held took on) on (seen on) right

-- ---- of a step

pub shows_seen : (settings : Settings) (held : Held) (x : Step) → IsStep settings held x → HeldIn held x.before → shows x.answered ≤ length x.after.operations
shows_seen settings held x step within =
    let same : length (history_of x.after) ≡ length x.after.operations = length-map x.after.operations (λ e. record { session = e.0; change = e.1 }) in
    ⊎_elim
    (λ right. let l = right_shows settings (labels_of x.after) (history_of x.after) held x.answered.order.session x.answered.took x.answered.saw x.answered.reply (effect x.answered.order.command) x.answered.order.command
    (λ on pair e. let l = (pair_in settings held x on pair step within e).0 in omega arith) right in omega arith)
    (λ lacks. let e = ap (shown_by x.answered.saw) lacks.1 in omega arith) step.right
