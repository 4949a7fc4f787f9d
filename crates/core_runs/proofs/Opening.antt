-- What was opened is a valid core.
use Rattle.std.proofs.Common.{◌≡◌, ℕ, ◌≤◌, true, false, length, take, refl, sym, ◌∙◌, arith, take_all}
use Rattle.std.specs.Prelude.{◌==◌, nat_le}
use Rattle.std.specs.List.{list_all}
use Rattle.std.proofs.lemmas.Bool.{and_from, eq-eqb, le-leb, or_left}
use Rattle.std.proofs.lemmas.List.{length-map}
use Rattle.facet_names.specs.Labels.{IsLabelList, prefixes, stands}
use Rattle.facet_model.specs.CoreStates.{Valid}
use Rattle.facet_model.specs.Documents.{Doc}
use Rattle.facet_model.specs.Histories.{add, brought, covers, knows}
use Rattle.facet_model.proofs.Changes.{all_brought}
use Rattle.facet_model.proofs.Fronts.{own_stands, weaker}
use Rattle.facet_output.specs.Output.{Opened, opened_operations}
use Rattle.core_runs.specs.CoreRuns.{opened_core}

le_self : (n : ℕ) → nat_le n n ≡ true
le_self n = le-leb n n (omega arith)

eq_self : (n : ℕ) → (n == n) ≡ true
eq_self n = eq-eqb n n refl

-- its labels are a label list, and cover its documents
pub opened_valid : (opened : Opened) → IsLabelList opened.labels → 1 ≤ length opened.labels → list_all (knows opened.labels) (brought (opened_operations opened)) ≡ true → Valid (opened_core opened)
opened_valid opened is some known =
    let n = length opened.docs in
    let m = length opened.labels in
    let history = opened_operations opened in
    let size : length history ≡ n = length-map opened.docs (λ doc. record { session = 0; change = add doc }) in
    let all_labels : take m opened.labels ≡ opened.labels = take_all m opened.labels (omega arith) in
    let all_docs : take n history ≡ history = take_all n history (omega arith) in
    let covered : covers opened.labels m history n ≡ true = (λ i. list_all (knows (all_labels i)) (brought (all_docs i))) ∙ known in
    let there : nat_le n (length history) ≡ true = le-leb n (length history) (omega arith) in
    record {
      labels = is;
      known = sym (all_brought (λ (doc : Doc). list_all (stands opened.labels) doc.labels) history)
          ∙ weaker (knows opened.labels) (λ (doc : Doc). list_all (stands opened.labels) doc.labels)
          (λ (doc : Doc) all. weaker (λ label. list_all (stands opened.labels) (prefixes label)) (stands opened.labels) (own_stands opened.labels is) doc.labels all) (brought history) known;
      published = and_from _ true (and_from _ _ (and_from _ _ there (le_self m)) covered) refl;
      refresh = refl;
      commit = refl;
      calls = refl;
      renamed = refl;
      tax_may = and_from _ true (and_from _ _ (le-leb 1 m some) (le_self m)) refl;
      idx_may = and_from _ true (and_from _ _ (and_from _ _ there covered) (and_from _ true (le_self m) refl)) refl;
      kept = and_from _ true (and_from _ _ (and_from _ true (le_self m) refl) (and_from _ true (le_self n) refl)) refl;
      tax_read = or_left (m == m) false (eq_self m);
      idx_read = or_left _ false (and_from _ _ (eq_self n) (eq_self m));
    }
