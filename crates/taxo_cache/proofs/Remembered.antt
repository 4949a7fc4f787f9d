-- The entries of a memo, found and kept.
use Rattle.std.proofs.Common.{◌≡◌, ◌∙◌, ⊎_elim, ℕ, List, [], ◌∷◌, map, Option, Some, None, Bool, false, sym, subst, refl}
use Rattle.std.specs.Prelude.{IfSome}
use Rattle.std.specs.Map.{lookup}
use mathlib.Core.List.{IsPrefix}
use Rattle.atomic_table.specs.Seated.{TableId}
use Rattle.chronicle.specs.History.{longer}
use Rattle.chronicle.specs.Shown.{Shown, SameToken}
use Rattle.lru.specs.LruCache.{LruCache, promoted, put_entries}
use Rattle.lru.proofs.CallerLemmas.{Contains-promoted, Contains-put_entries, Contains-lookup, IsPut}
use Rattle.facet_names.specs.Labels.{IsLabelList, place, prefixes}
use Rattle.facet_names.specs.Paths.{path_eq}
use Rattle.facet_names.proofs.LabelLists.{same_path}
use Rattle.taxo_cache.specs.Seen.{labels_of, SeesLabels}
use Rattle.taxo_cache.specs.Memos.{HasOrdinals, HaveEach, IsMemo}
use Rattle.taxo_cache.proofs.Seen.{place_seen, longer_list}

-- ordinals stay while more labels are seen
places_seen : (old new : List (ℕ × List (List ℕ))) → IsPrefix old new → (paths : List (List (List ℕ))) (ords : List ℕ) → map (place (labels_of old)) paths ≡ map Some ords → map (place (labels_of new)) paths ≡ map Some ords
places_seen old new more [] [] at = refl
places_seen old new more [] (o ∷ os) at = absurd cc
places_seen old new more (p ∷ ps) [] at = absurd cc
places_seen old new more (p ∷ ps) (o ∷ os) at =
    let head : place (labels_of old) p ≡ Some o = cc in
    let tail : map (place (labels_of old)) ps ≡ map Some os = cc in
    let here = place_seen old new p o more head in
    let rest = places_seen old new more ps os tail in
    λ i. here i ∷ rest i

pub ordinals_seen : (old new : List (ℕ × List (List ℕ))) (path : List (List ℕ)) (ords : List ℕ) → IsPrefix old new → HasOrdinals (labels_of old) path ords → HasOrdinals (labels_of new) path ords
ordinals_seen old new path ords more at = places_seen old new more (prefixes path) ords at

pub each_seen : (old new : List (ℕ × List (List ℕ))) (es : List (List (List ℕ) × List ℕ)) → IsPrefix old new → HaveEach (labels_of old) es → HaveEach (labels_of new) es
each_seen old new es more have e there = ordinals_seen old new e.0 e.1 more (have e there)

-- what was found for a path are its prefixes' ordinals
pub found_for : (labels : List (List (List ℕ))) (es : List (List (List ℕ) × List ℕ)) (path : List (List ℕ)) → HaveEach labels es → (o : Option (List ℕ)) → lookup (path_eq path) es ≡ o → IfSome o (HasOrdinals labels path)
found_for labels es path have None e = tt
found_for labels es path have (Some ords) e =
    let found = Contains-lookup (path_eq path) es ords e in
    subst (λ (p : List (List ℕ)). HasOrdinals labels p ords) (sym (same_path path found.0 found.2)) (have (found.0, ords) found.1)

-- to use an entry makes none
pub still_memo : (named : TableId) (note : Shown (List (List ℕ))) (es : List (List (List ℕ) × List ℕ)) (test : List (List ℕ) → Bool) → IsMemo named note es → IsMemo named note (promoted test es)
still_memo named note es test kept = record {
  named = kept.named;
  is_note = kept.is_note;
  idle = kept.idle;
  list = kept.list;
  have = λ e there. kept.have e (Contains-promoted test es e there);
}

-- with one more entry they are right
pub each_put : (c : LruCache (List (List ℕ)) (List ℕ)) (path : List (List ℕ)) (ords : List ℕ) (labels : List (List (List ℕ))) → HaveEach labels c.entries → HasOrdinals labels path ords → HaveEach labels (put_entries path_eq c path ords)
each_put c path ords labels have here e there = ⊎_elim (have e) (λ (put : IsPut path_eq c path ords e).
    let key : path ≡ e.0 = ⊎_elim (λ (same : e.0 ≡ path). sym same) (λ old. same_path path e.0 old.2) put.1 in
    subst (λ (x : List (List ℕ) × List ℕ). HasOrdinals labels x.0 x.1) (λ i. (key i, sym put.0 i)) here) (Contains-put_entries path_eq c path ords e there)

-- a memo that keeps one entry more, and has met a note in which the prefixes of the entry's path have these ordinals
pub one_noted : (named : TableId) (old note new : Shown (List (List ℕ))) (c : LruCache (List (List ℕ)) (List ℕ)) (path : List (List ℕ)) (ords : List ℕ)
    → IsMemo named old c.entries → SameToken old new → new.holds_turn ≡ false → new.seen ≡ longer old.seen note.seen → IsPrefix old.seen new.seen → IsPrefix note.seen new.seen
    → SeesLabels note → HasOrdinals (labels_of note.seen) path ords → IsMemo named new (put_entries path_eq c path ords)
one_noted named old note new c path ords kept same idle met more told list there = record {
  named = same.3 ∙ kept.named;
  is_note = same.2 ∙ kept.is_note;
  idle = idle;
  list = subst (λ (l : List (ℕ × List (List ℕ))). IsLabelList (labels_of l)) (sym met) (longer_list old.seen note.seen kept.list list);
  have = each_put c path ords (labels_of new.seen) (each_seen old.seen new.seen c.entries more kept.have) (ordinals_seen note.seen new.seen path ords told there);
}
