-- Segments with their names, one by one.
use Rattle.std.proofs.Common.{◌≡◌, ℕ, ◌+◌, ◌<◌, ◌≤◌, List, [], ◌∷◌, ◌++◌, length, drop, get_or, refl, sym, ap, ◌∙◌, append_assoc}
use Rattle.std.proofs.lemmas.List.{drop_more, drop_all}
use Rattle.facet_model.specs.Stored.{Records}
use Rattle.commit_file.specs.LiveParts.{LivePart}
use Rattle.commit_plan.specs.Committed.{Kept}
use Rattle.commit_plan.specs.Openings.{kept_by}

pub kept_step : (ps : List LivePart) (ss : List Records) (at : ℕ) (p : LivePart) (s : Records) (front all : List Kept) → at < length ps → at < length ss → get_or ps at p ≡ p → get_or ss at s ≡ s
    → front ++ kept_by (drop at ps) (drop at ss) ≡ all → (front ++ (record { part = p.part; segment = s }) ∷ []) ++ kept_by (drop (at + 1) ps) (drop (at + 1) ss) ≡ all
kept_step ps ss at p s front all low high part segment is =
    let next : kept_by (drop at ps) (drop at ss) ≡ record { part = p.part; segment = s } ∷ kept_by (drop (at + 1) ps) (drop (at + 1) ss) = rw (drop_more ps at p low, drop_more ss at s high, part, segment) refl in
    append_assoc front ((record { part = p.part; segment = s }) ∷ []) (kept_by (drop (at + 1) ps) (drop (at + 1) ss)) ∙ ap (λ rest. front ++ rest) (sym next) ∙ is

pub kept_end : (ps : List LivePart) (ss : List Records) (at : ℕ) → length ps ≤ at → kept_by (drop at ps) ss ≡ []
kept_end ps ss at high = rw (drop_all at ps high) refl
