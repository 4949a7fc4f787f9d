-- What a pass has seen of pairs.
use Rattle.std.proofs.Common.{◌≡◌, ◌∙◌, ◌++◌, ℕ, List, length, drop, Option, Some, None, Result, Ok, Err, [], ◌∷◌, refl, sym, ap, subst}
use Rattle.std.specs.Prelude.{All, MatchOption, OnOk, OnErr, not, take}
use Rattle.std.specs.Str.{bytes_eq}
use Rattle.std.proofs.lemmas.List.{take-append-drop, take_at}
use Rattle.std.proofs.lemmas.List.Elements.{All-weaker, All-filter, All-push}
use mathlib.Core.List.{IsPrefix}
use Rattle.chronicle.specs.Frame.{Frame}
use Rattle.chronicle.specs.Shown.{Shown, mine, SameToken, SeesOn}
use Rattle.chronicle.proofs.Prefixes.{prefix_self, prefix_trans}
use Rattle.facet_model.specs.ConfigTexts.{config_texts}
use Rattle.facet_model.specs.Flags.{Config}
use Rattle.facet_model.specs.Histories.{Operation}
use Rattle.facet_model.proofs.ConfigTexts.{config_told}
use Rattle.pair_manager.specs.declared.pass.Pass.{Pass}
use Rattle.pair_manager.specs.Passes.{SamePass}
use Rattle.pair_manager.specs.Published.{Published, frame_of}
use Rattle.facet_engine.specs.HeldPairs.{HeldPair, without}
use Rattle.facet_engine.specs.Sessions.{AreFirst, HasSeen, NamesSession}
use Rattle.facet_engine.specs.Systems.{Engine, BelongsTo}

-- the first of a list begin it
pub begins : {A : Type 0} (some all : List A) → AreFirst some all → IsPrefix some all
begins some all first = (drop (length some) all, ap (λ l. l ++ drop (length some) all) (sym first) ∙ take-append-drop (length some) all)

pub first_of : {A : Type 0} (some all : List A) → IsPrefix some all → AreFirst some all
first_of some all p = ap (take (length some)) (sym p.1) ∙ take_at some p.0 (length some) refl

-- it has still seen it when it has seen more
pub still_seen : (old new : Pass) (pair : Published) → SamePass old new → IsPrefix old.operations.seen new.operations.seen → IsPrefix old.labels.seen new.labels.seen → HasSeen old pair → HasSeen new pair
still_seen old new pair same operations labels seen = record {
  operations = first_of pair.history.seen new.operations.seen (prefix_trans pair.history.seen old.operations.seen new.operations.seen (begins pair.history.seen old.operations.seen seen.operations) operations);
  labels = first_of pair.labels.seen new.labels.seen (prefix_trans pair.labels.seen old.labels.seen new.labels.seen (begins pair.labels.seen old.labels.seen seen.labels) labels);
  texts = seen.texts ∙ ap (λ (f : Frame). f.texts) (sym same.operations.4);
}

pub all_still_seen : (old new : Pass) (held : List HeldPair) → SamePass old new → IsPrefix old.operations.seen new.operations.seen → IsPrefix old.labels.seen new.labels.seen → All (λ h. HasSeen old h.pair) held → All (λ h. HasSeen new h.pair) held
all_still_seen old new held same operations labels all = All-weaker (λ (h : HeldPair). HasSeen old h.pair) (λ h. HasSeen new h.pair) (λ h seen. still_seen old new h.pair same operations labels seen) held all

-- its own operations are those that it had
pub still_named : (number : ℕ) (old new : Pass) → mine new.operations ≡ mine old.operations → NamesSession number old → NamesSession number new
still_named number old new is all = subst (All (λ (e : ℕ × Operation). e.1.session ≡ number)) (sym is) all

-- it has seen a pair that it was told of
pub acquired : (old new : Pass) (pair : Published) → SamePass old new → IsPrefix pair.history.seen new.operations.seen → IsPrefix pair.labels.seen new.labels.seen → frame_of pair ≡ old.pairs.frame → HasSeen new pair
acquired old new pair same operations labels frame = record {
  operations = first_of pair.history.seen new.operations.seen operations;
  labels = first_of pair.labels.seen new.labels.seen labels;
  texts = ap (λ (f : Frame). f.texts) frame ∙ old.one_config.0 ∙ ap (λ (f : Frame). f.texts) (sym same.operations.4);
}

-- its config is that of the pass
pub config_of : (pass : Pass) (pair : Published) (config : Config) → config_texts config ≡ pass.operations.frame.texts → HasSeen pass pair → config ≡ pair.config
config_of pass pair config is seen = config_told config pair.config (is ∙ sym seen.texts)

pub same_pass : (pass : Pass) → SamePass pass pass
same_pass pass = record { labels = (refl, refl, refl, refl, refl, refl); operations = (refl, refl, refl, refl, refl, refl); pairs = (refl, refl, refl, refl, refl, refl); commits = (refl, refl, refl, refl, refl, refl) }

pub still_belongs : (engine : Engine) (old new : Pass) → SamePass old new → BelongsTo engine old → BelongsTo engine new
still_belongs engine old new same own = record {
  manager = record { labels = same.labels.3 ∙ own.manager.labels; operations = same.operations.3 ∙ own.manager.operations; pairs = same.pairs.3 ∙ own.manager.pairs };
  commits = same.commits.3 ∙ own.commits;
  config = own.config ∙ ap (λ (f : Frame). f.texts) (sym same.operations.4);
}

pub sees_self : {A : Type 0} (token : Shown A) → SeesOn token token
sees_self token = (prefix_self token.seen, refl)

-- what is left of the held pairs was seen
pub still_held : {A : Type 0} (pass : Pass) (held : List HeldPair) (name : List ℕ) (left : List HeldPair) (result : Option A) → MatchOption result (left ≡ held) (λ n. left ≡ without held name) → All (λ h. HasSeen pass h.pair) held → All (λ h. HasSeen pass h.pair) left
still_held pass held name left None is all = subst (All (λ (h : HeldPair). HasSeen pass h.pair)) (sym is) all
still_held pass held name left (Some n) is all = subst (All (λ (h : HeldPair). HasSeen pass h.pair)) (sym is) (All-filter (λ h. not (bytes_eq h.name name)) (λ (h : HeldPair). HasSeen pass h.pair) held all)

-- and so were those with one more
pub pushed_seen : {A E : Type 0} (pass : Pass) (held now : List HeldPair) (name : List ℕ) (pair : Published) (result : Result A E) → OnOk result (now ≡ held ++ record { name = name; pair = pair } ∷ []) → OnErr result (now ≡ held)
    → All (λ h. HasSeen pass h.pair) held → HasSeen pass pair → All (λ h. HasSeen pass h.pair) now
pushed_seen pass held now name pair (Ok a) is same all seen = subst (All (λ (h : HeldPair). HasSeen pass h.pair)) (sym is) (All-push (λ (h : HeldPair). HasSeen pass h.pair) held (record { name = name; pair = pair }) all seen)
pushed_seen pass held now name pair (Err e) is same all seen = subst (All (λ (h : HeldPair). HasSeen pass h.pair)) (sym same) all

-- a pass whose token of the pairs did not change is the same where the other tokens are
pub same_tokens : (old new : Pass) → SameToken old.labels new.labels → SameToken old.operations new.operations → new.pairs ≡ old.pairs → SameToken old.commits new.commits → SamePass old new
same_tokens old new labels operations pairs commits = record { labels = labels; operations = operations; pairs = subst (λ t. SameToken old.pairs t) (sym pairs) (same_pass old).pairs; commits = commits }
