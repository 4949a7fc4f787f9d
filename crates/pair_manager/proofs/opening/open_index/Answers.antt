use Rattle.std.proofs.Common.{rules, ◌≡◌, ℕ, List, map, sym, subst}
use Rattle.std.specs.Arc.{arc_value}
use Rattle.facet_model.specs.Flags.{Config}
use Rattle.facet_model.specs.Stored.{Decodes}
use Rattle.seg_documents.specs.Decoding.{docs_in}
use Rattle.taxo_cache.specs.Seen.{labels_of}
use Rattle.pair_manager.proofs.opening.open_index.Goals as goal

pub open-requires-clause-decodes : goal.open-requires-clause-decodes
open-requires-clause-decodes c =
    let all = map arc_value c.args.segments.items in
    let config : arc_value c.args.config.now ≡ arc_value c.in_ok-try_clone.field-0 = search (rules, c.in_ok-try_clone.ensures) in
    subst (λ (x : Config). Decodes (labels_of c.note-note.result.seen) x all (docs_in (labels_of c.note-note.result.seen) all)) config
    (subst (λ (l : List (ℕ × List (List ℕ))). Decodes (labels_of l) (arc_value c.args.config.now) all (docs_in (labels_of l) all)) (sym c.note-note.ensures.note.2) c.requires.decodes)
