-- What was appended piece by piece is the spelling of the whole.
use Rattle.std.proofs.Common.{◌≡◌, ℕ, ◌+◌, List, [], ◌∷◌, ◌++◌, length, sym, ap, ◌∙◌, arith, append_assoc, length-append}
use Rattle.std.specs.List.{flat_map}
use Rattle.facet_codec.specs.Spelling.{be32, vint, text}
use Rattle.facet_codec.proofs.Lists.{offsets_push, each_push, bytes_push}
use Rattle.facet_model.specs.Stored.{Stored}
use Rattle.seg_grammar.specs.Spelling.{front_bytes, record_bytes, term_bytes, IsRecord}
use Rattle.seg_writing.specs.Written.{IsRecordPut, AreRecordsPut, IsTermText, AreTermsPut}
use Rattle.seg_grammar.proofs.Marks.{counted_push}

four : (o a b c d : List ℕ) → (((o ++ a) ++ b) ++ c) ++ d ≡ o ++ (a ++ (b ++ (c ++ d)))
four o a b c d = simp append_assoc

three : (o a b c : List ℕ) → ((o ++ a) ++ b) ++ c ≡ o ++ (a ++ (b ++ c))
three o a b c = simp append_assoc

-- ---- records

pub front_put : (r : Stored) (o a b c d : List ℕ) → a ≡ o ++ text r.id → b ≡ a ++ text r.text → c ≡ b ++ vint (length r.leaves) → d ≡ c ++ flat_map be32 r.leaves → d ≡ o ++ front_bytes r
unfolding front_bytes
front_put r o a b c d ea eb ec ed =
    ed
    ∙ ap (λ x. x ++ flat_map be32 r.leaves) (ec ∙ ap (λ x. x ++ vint (length r.leaves)) (eb ∙ ap (λ x. x ++ text r.text) ea))
    ∙ four o (text r.id) (text r.text) (vint (length r.leaves)) (flat_map be32 r.leaves)

pub record_put : (r : Stored) (o d e f : List ℕ) → d ≡ o ++ front_bytes r → e ≡ d ++ vint (length r.counted) → f ≡ e ++ flat_map be32 r.counted → f ≡ o ++ record_bytes r
unfolding record_bytes
record_put r o d e f ed ee ef =
    ef
    ∙ ap (λ x. x ++ flat_map be32 r.counted) (ee ∙ ap (λ x. x ++ vint (length r.counted)) ed)
    ∙ three o (front_bytes r) (vint (length r.counted)) (flat_map be32 r.counted)

grown : (old mid more : List ℕ) → mid ≡ old ++ more → length mid ≡ length old + length more
grown old mid more e = ap length e ∙ length-append old more

-- one record more
pub records_more : (old mid new marks counted : List ℕ) (rs : List Stored) (at : ℕ) (r : Stored) → AreRecordsPut old mid marks counted rs → IsRecordPut mid new at r → AreRecordsPut old new (marks ++ length mid ∷ []) (counted ++ at ∷ []) (rs ++ r ∷ [])
records_more old mid new marks counted rs at r before then =
    let size : length mid ≡ length old + length (flat_map record_bytes rs) = grown old mid (flat_map record_bytes rs) before.bytes in
    let place : at ≡ length old + length (flat_map record_bytes rs) + length (front_bytes r) = omega (arith, size, then.counted) in
    record {
      bytes = bytes_push record_bytes old mid new rs r before.bytes then.bytes;
      marks = (λ i. before.marks i ++ size i ∷ []) ∙ sym (offsets_push record_bytes (length old) rs r);
      counted = (λ i. before.counted i ++ place i ∷ []) ∙ sym (counted_push (length old) rs r);
      fit = each_push IsRecord rs r before.fit then.fits;
    }

-- ---- terms

pub term_put : (t : List ℕ × List ℕ) (o a b c : List ℕ) → a ≡ o ++ text t.0 → b ≡ a ++ be32 (length t.1) → c ≡ b ++ flat_map be32 t.1 → c ≡ o ++ term_bytes t
unfolding term_bytes
term_put t o a b c ea eb ec =
    ec
    ∙ ap (λ x. x ++ flat_map be32 t.1) (eb ∙ ap (λ x. x ++ be32 (length t.1)) ea)
    ∙ three o (text t.0) (be32 (length t.1)) (flat_map be32 t.1)

-- one term more
pub terms_more : (old mid new marks : List ℕ) (ts : List (List ℕ × List ℕ)) (t : List ℕ × List ℕ) → AreTermsPut old mid marks ts → new ≡ mid ++ term_bytes t → IsTermText t → AreTermsPut old new (marks ++ length mid ∷ []) (ts ++ t ∷ [])
terms_more old mid new marks ts t before bytes fits =
    let size : length mid ≡ length old + length (flat_map term_bytes ts) = grown old mid (flat_map term_bytes ts) before.bytes in
    record {
      bytes = bytes_push term_bytes old mid new ts t before.bytes bytes;
      marks = (λ i. before.marks i ++ size i ∷ []) ∙ sym (offsets_push term_bytes (length old) ts t);
      fit = each_push IsTermText ts t before.fit fits;
    }

-- ---- the whole

pub whole_put : (m v n rs k ts b0 b1 b2 b3 : List ℕ) → b0 ≡ [] ++ (m ++ (v ++ n)) → b1 ≡ b0 ++ rs → b2 ≡ b1 ++ k → b3 ≡ b2 ++ ts → b3 ≡ m ++ (v ++ (n ++ (rs ++ (k ++ ts))))
whole_put m v n rs k ts b0 b1 b2 b3 e0 e1 e2 e3 =
    e3
    ∙ ap (λ x. x ++ ts) (e2 ∙ ap (λ x. x ++ k) (e1 ∙ ap (λ x. x ++ rs) e0))
    ∙ regroup
  where
    regroup : (((m ++ (v ++ n)) ++ rs) ++ k) ++ ts ≡ m ++ (v ++ (n ++ (rs ++ (k ++ ts))))
    regroup = simp append_assoc
