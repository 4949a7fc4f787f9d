use Rattle.std.proofs.Common.{◌≡◌, ℕ, ◌∙◌, [], ◌∷◌, length, sym, ap, subst}
use Rattle.chronicle.specs.History.{entries}
use Rattle.commit_turns.specs.Points.{made}
use Rattle.taxo_cache.specs.Seen.{labels_of}
use Rattle.commit_turns.proofs.AtOpening.{stands_opened}
use Rattle.commit_turns.proofs.Carried.{On}
use Rattle.commit_turns.proofs.Prefixed.{entries_count}
use Rattle.commit_turns.proofs.Surviving.{marked}
use Rattle.commit_turns.proofs.opening.open_commits.Goals as goal

pub open-requires : goal.open-requires
open-requires g c =
    let d = g.D.Disk in
    let n = g.N.Start in
    let only_now = (g.met.D.Disk g.world.𝓛 g.world.𝓜 g.world.𝓡 ((λ s x. x), (λ x. x), (λ x. x), λ x. x)).only_now in
    let k = c.args.committer in
    let labels = c.args.seen_labels.now.seen in
    let operations = c.args.seen_operations.now.seen in
    let st = stands_opened d only_now n.told n.settled n.quiet c.args.start.value k (labels_of labels) (entries operations) c.requires.opened c.requires.told c.requires.settled c.requires.quiet in
    let point : made (length (entries operations)) (length (labels_of labels)) ≡ c.args.opened = ap (λ (n : ℕ). made n (length (labels_of labels))) (entries_count operations) ∙ sym c.requires.point in
    record {
      marks = marked k.disk c.args.opened;
      stands = subst (λ (T : Type 0). T) (λ i. On d n.told n.settled n.quiet c.args.start.value (sym c.of-begun.ensures i).state k (point i) (labels_of (sym c.note-2.ensures.note.2 i)) (entries (sym c.note.ensures.note.2 i)) (point i ∷ []) (marked k.disk (point i))) st;
    }
