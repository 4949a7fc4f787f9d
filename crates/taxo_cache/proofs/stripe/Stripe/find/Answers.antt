use Rattle.std.proofs.Common.{arith, ap, refl}
use Rattle.std.specs.Map.{lookup}
use Rattle.lru.proofs.CallerLemmas.{Contains-promoted}
use Rattle.facet_names.specs.Paths.{path_eq}
use Rattle.taxo_cache.specs.Seen.{labels_of}
use Rattle.taxo_cache.proofs.Kept.{found_at, as_many_promoted}
use Rattle.taxo_cache.proofs.stripe.Stripe.find.Goals as goal

pub invariant_of-self : goal.invariant_of-self
invariant_of-self g c =
    let kept = c.self.invariant in
    record {
      named = kept.named;
      is_note = kept.is_note;
      idle = kept.idle;
      list = kept.list;
      at = λ e there. kept.at e (Contains-promoted _ c.self.inside.cache.entries e (rw c.get.follows.holds-at-none at there));
      some = rw c.get.follows.holds-at-none kept.some;
      few = rw c.get.follows.holds-at-none (omega (arith, kept.few, as_many_promoted (path_eq c.args.path.now) c.self.inside.cache.entries));
    }

pub returns-clause-there : goal.returns-clause-there
returns-clause-there g c =
    let path = c.args.path.now in
    rw (c.copied.ensures, c.get.ensures.value, ← ap (λ s. s.seen) c.self.view_is)
    (found_at (labels_of c.self.inside.note.seen) c.self.inside.cache.entries path c.self.invariant.at (lookup (path_eq path) c.self.inside.cache.entries) refl)
