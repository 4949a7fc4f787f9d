use Rattle.std.proofs.Common.{ℕ, List, ◌≡◌, ◌∙◌, sym, subst}
use Rattle.lru.specs.LruCache.{LruCache}
use Rattle.facet_names.specs.Labels.{IsLabelList}
use Rattle.taxo_cache.specs.Seen.{labels_of, SeesLabels}
use Rattle.taxo_cache.specs.Memos.{HasOrdinals, IsMemo}
use Rattle.taxo_cache.proofs.Remembered.{one_noted}
use Rattle.taxo_cache.proofs.memo.Memo.keep.Goals as goal

pub invariant_of-self-2 : goal.invariant_of-self-2
invariant_of-self-2 g c =
    let old = c.self.inside.note in
    let note = c.note-note.result in
    let new = c.meet.new.into in
    let path = c.args.path.now in
    let ords = c.args.ords.now in
    let list : SeesLabels note = subst (λ (l : List (ℕ × List (List ℕ))). IsLabelList (labels_of l)) (sym c.note-note.ensures.note.2) c.requires.labels in
    let there : HasOrdinals (labels_of note.seen) path ords = rw c.note-note.ensures.note.2 c.requires.ordinals in
    let put = one_noted g.N.Name.labels old note new c.self.inside.cache path ords c.self.invariant c.meet.ensures.same.0 c.meet.ensures.same.1 c.meet.ensures.longer c.meet.ensures.more.0 c.meet.ensures.told list there in
    let value : c.new-ords.result ≡ ords = c.new-ords.ensures ∙ c.in_ok-copied.ensures in
    subst (λ (d : LruCache (List (List ℕ)) (List ℕ)). IsMemo g.N.Name.labels new d.entries) (sym c.in_ok-put.ensures.entries) (rw (c.in_ok-key.ensures, value) put)
