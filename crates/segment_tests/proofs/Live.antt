-- How many live records two segments have.
use Rattle.std.proofs.Common.{◌≡◌, ◌+◌, [], ◌∷◌, length, ap, ◌∙◌}
use Rattle.std.proofs.lemmas.List.{append-nil, length-append}
use Rattle.facet_model.specs.Stored.{Records, alive, live_before}
use Rattle.live_records.proofs.Alive.{length_alive}
use Rattle.seg_documents.specs.Decoding.{records_in}

pub both_live : (a b : Records) → length (records_in (a ∷ b ∷ [])) ≡ live_before a.dead (length a.records) + live_before b.dead (length b.records)
both_live a b =
    length-append (alive a.dead a.records) (records_in (b ∷ [])) ∙ (λ i. length_alive a.dead a.records i + (ap length (append-nil (alive b.dead b.records)) ∙ length_alive b.dead b.records) i)
