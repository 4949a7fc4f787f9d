use Rattle.std.proofs.Common.{refl, subst}
use mathlib.Core.List.{IsPrefix}
use Rattle.seg_documents.specs.Entries.{docs_of}
use Rattle.index_state.specs.Index.{Index, DecodeUnder, docs_under}
use Rattle.index_state.proofs.state.IndexState.segments.Goals as goal

pub returns-clause-decodes : goal.returns-clause-decodes
returns-clause-decodes c = subst (λ (x : Index). DecodeUnder x.labels x.config x.segments) c.self.view_is c.self.invariant.decoded

pub returns-clause-first : goal.returns-clause-first
returns-clause-first c = subst (λ (x : Index). IsPrefix (docs_under x.labels x.segments) x.docs) c.self.view_is (docs_of c.self.inside.waiting.items, refl)
