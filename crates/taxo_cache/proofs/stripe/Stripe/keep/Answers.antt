use Rattle.std.proofs.Common.{ℕ, List, ◌≡◌, ◌∙◌, ◌∷◌, take, ap, sym, subst, Some}
use Rattle.std.specs.Map.{remove_entry}
use Rattle.lru.specs.LruCache.{LruCache, put_entries}
use Rattle.facet_names.specs.Labels.{IsLabelList, place}
use Rattle.facet_names.specs.Paths.{path_eq}
use Rattle.taxo_cache.specs.Seen.{labels_of, SeesLabels}
use Rattle.taxo_cache.specs.Stripes.{IsStripe}
use Rattle.taxo_cache.proofs.Kept.{one_kept, put_first}
use Rattle.taxo_cache.proofs.stripe.Stripe.keep.Goals as goal

pub invariant_of-self-2 : goal.invariant_of-self-2
invariant_of-self-2 g c =
    let old = c.self.inside.note in
    let note = c.note-note.result in
    let new = c.meet.new.into in
    let path = c.args.path.now in
    let list : SeesLabels note = subst (λ (l : List (ℕ × List (List ℕ))). IsLabelList (labels_of l)) (sym c.note-note.ensures.note.2) c.requires.labels in
    let there : place (labels_of note.seen) path ≡ Some c.args.ord = rw c.note-note.ensures.note.2 c.requires.there in
    let put = one_kept g.N.Name.labels old note new c.self.inside.cache path c.args.ord c.self.invariant c.meet.ensures.same.0 c.meet.ensures.same.1 c.meet.ensures.longer c.meet.ensures.more.0 c.meet.ensures.told list there in
    subst (λ (d : LruCache (List (List ℕ)) ℕ). IsStripe g.N.Name.labels new d.entries d.cap) (sym c.in_ok-put.ensures.entries) (rw c.in_ok-key.ensures put)

pub returns-clause-kept : goal.returns-clause-kept
returns-clause-kept g c =
    let path = c.args.path.now in
    ap (λ d. d.entries) c.in_ok-put.ensures.entries
    ∙ ap (λ key. put_entries path_eq c.self.inside.cache key c.args.ord) c.in_ok-key.ensures
    ∙ put_first c.self.inside.cache path c.args.ord c.self.invariant.some c.self.invariant.few
    ∙ ap (λ s. take s.room ((path, c.args.ord) ∷ remove_entry (path_eq path) s.entries)) c.self.view_is
