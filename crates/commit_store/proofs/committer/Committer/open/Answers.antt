use Rattle.std.proofs.Common.{rules, ◌≡◌, ◌∙◌, map, sym, ap, subst}
use Rattle.std.specs.Arc.{arc_value}
use Rattle.facet_disk.specs.declared.name.Dir.TheVariants.{Taxonomy, Index}
use Rattle.commit_calls.specs.Held.{Below}
use Rattle.store_opening.specs.Settled.{held_in}
use Rattle.store_opening.proofs.Held.{settled_stands}
use Rattle.seg_documents.proofs.Storing.{no_segments}
use Rattle.commit_plan.specs.Committed.{Committed, segments_in}
use Rattle.commit_plan.specs.Openings.{committed_read}
use Rattle.commit_plan.specs.Plannings.{IsCommittedAt}
use Rattle.commit_store.specs.Promised.{HasNamed}
use Rattle.commit_plan.proofs.FromDisk.{all_segments, all_stored, read_known, at_unchanged}
use Rattle.commit_store.proofs.Listed.{read_named}
use Rattle.commit_store.proofs.committer.Committer.open.Goals as goal

pub returns-clause-committed : goal.returns-clause-committed
returns-clause-committed g c = λ s is settled.
    let config = c.args.config in let labels = c.in-Ok.read.labels in let ss = map arc_value c.in-Ok.read.segments.items in let n = c.in-Ok.read.newest in
    let files_are = c.in-Ok.ensures.ok s is in
    let known = read_known config labels s.files n ss files_are (c.in-Ok.ensures.taxonomy s is) (c.in-Ok.ensures.index s is) c.in-Ok.ensures.named in
    let state : c.in-Ok-state_of.state ≡ committed_read n labels ss = search rules in
    let below : Below n.next s.files = λ name some. c.in-Ok.ensures.below name ((c.in-Ok.ensures.listed s is).all name some) in
    let laws = g.met.D.Disk g.world.𝓛 g.world.𝓜 g.world.𝓡 ((λ s x. x), (λ x. x), (λ x. x), λ x. x) in
    let at = settled_stands g.D.Disk c.args.disk (laws.numbered c.args.disk) config s (record { labels = labels; segments = ss }) n.next settled files_are below in
    let after = at_unchanged g.D.Disk n.next (held_in Taxonomy s.files) (held_in Index s.files) c.args.disk c.read_store-read.new.disk c.in-Ok.ensures.read.quiet at in
    subst (λ (st : Committed). IsCommittedAt g.D.Disk config st c.read_store-read.new.disk labels ss) (sym state)
    (record { taxonomy = held_in Taxonomy s.files; index = held_in Index s.files; stands = after; known = known })

pub returns-clause-named : goal.returns-clause-named
returns-clause-named g c = λ s is.
    let config = c.args.config in let labels = c.in-Ok.read.labels in let ss = map arc_value c.in-Ok.read.segments.items in let n = c.in-Ok.read.newest in
    let known = read_known config labels s.files n ss (c.in-Ok.ensures.ok s is) (c.in-Ok.ensures.taxonomy s is) (c.in-Ok.ensures.index s is) c.in-Ok.ensures.named in
    let state : c.in-Ok-state_of.state ≡ committed_read n labels ss = search rules in
    subst (HasNamed s.files) (sym state) (read_named config (committed_read n labels ss) s.files labels ss known)

pub returns-clause-fresh : goal.returns-clause-fresh
returns-clause-fresh g c = λ s is.
    let state : c.in-Ok-state_of.state ≡ committed_read c.in-Ok.read.newest c.in-Ok.read.labels (map arc_value c.in-Ok.read.segments.items) = search rules in
    let below : Below c.in-Ok.read.newest.next s.files = λ name some. c.in-Ok.ensures.below name ((c.in-Ok.ensures.listed s is).all name some) in
    subst (λ (st : Committed). Below st.next s.files) (sym state) below

pub returns-clause-kept : goal.returns-clause-kept
returns-clause-kept g c =
    let labels = c.in-Ok.read.labels in let ss = map arc_value c.in-Ok.read.segments.items in let n = c.in-Ok.read.newest in
    let state : c.in-Ok-state_of.state ≡ committed_read n labels ss = search rules in (
      ap (λ (st : Committed). segments_in st.kept) state ∙ all_segments c.args.config labels n.document_parts.items ss c.in-Ok.ensures.named,
      ap (λ (st : Committed). st.labels) state,
    )

pub returns-clause-own : goal.returns-clause-own
returns-clause-own g c = all_stored c.args.config c.in-Ok.read.labels c.in-Ok.read.newest.document_parts.items (map arc_value c.in-Ok.read.segments.items) c.in-Ok.ensures.named

pub returns-clause-some : goal.returns-clause-some
returns-clause-some g c = no_segments c.in-Ok.read.labels (map arc_value c.in-Ok.read.segments.items) (returns-clause-own g c)
