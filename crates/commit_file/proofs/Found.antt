-- What was read is spelled so, and is within the limits.
use Rattle.std.proofs.Common.{◌≡◌, ℕ, zero, suc, ◌+◌, ◌-◌, ◌^◌, ◌≤◌, ◌<◌, Bool, true, false, cond, eqb, ltb, List, [], ◌∷◌, ◌++◌, length, Result, Ok, Err, refl, sym, ap, subst, ◌∙◌, arith, inl, inr}
use Rattle.std.specs.Prelude.{◌||◌, ◌&&◌, ◌⊎◌, not}
use Rattle.std.specs.List.{flat_map, AllByRecursion, sum_by}
use Rattle.std.specs.List.Sorted.{IsStrictlySortedBy}
use Rattle.std.specs.Map.{keys_of}
use Rattle.std.specs.declared.cmp.Ordering.TheVariants.{Less}
use Rattle.std.specs.Ordering.{is_lt}
use Rattle.std.specs.Str.{bytes_eq}
use Rattle.std.specs.Cmp.Lexicographic.{bytes_decides}
use Rattle.std.proofs.lemmas.List.{append-nil, take-append-drop, take_at}
use Rattle.std.proofs.lemmas.List.Sums.{sum_by-cons}
use Rattle.std.proofs.lemmas.Bool.{ltb-false, lt-ltb, le-ltb, eqb-true, eqb-false, eq-eqb, cases_eq, not-false, agree_below_at, or_parts, and_parts}
use Rattle.sha2.specs.Sha256.{sha256}
use Rattle.facet_codec.specs.Places.{Place, IsBytes}
use Rattle.facet_codec.specs.Faults.{fault_at}
use Rattle.facet_codec.specs.Spelling.{one_byte, be32, be64, vint, text}
use Rattle.facet_codec.specs.Reading.{◌>>=◌, u8_at, u32_at, u64_at, vint_at, bytes_at, text_at}
use Rattle.facet_codec.specs.Laws.{Takes, IsSpelled, IsBelow, HasLength, IsText}
use Rattle.facet_codec.proofs.Taking.{IsBytes-take, Takes-none, Takes-then, done, done_is, bind_ok, guard_ok, guard_yes, told_spelled}
use Rattle.facet_codec.proofs.Lists.{one_more}
use Rattle.facet_codec.proofs.EachKind.{u8_spelled, u32_spelled, u64_spelled, vint_spelled, bytes_spelled, text_spelled}
use Rattle.facet_model.specs.declared.flags.DimFlags.{DimFlags}
use Rattle.facet_model.specs.Flags.{Config}
use Rattle.facet_model.specs.Words.{word_cmp}
use Rattle.commit_file.specs.declared.fault.FileFault.{FileFault}
use Rattle.commit_file.specs.declared.fault.FileFault.TheVariants.{Damaged, Malformed}
use Rattle.commit_file.specs.declared.taxonomy.LabelPart.{LabelPart}
use Rattle.commit_file.specs.LiveParts.{LivePart, live_of, with_live}
use Rattle.commit_file.specs.Commits.{TaxonomyListing, IndexListing, end_of, AreInOrder, is_some_set}
use Rattle.commit_file.specs.LiveBits.{bits_len, bits_of, dead_in, none_past, are_bits}
use Rattle.commit_file.specs.Spelling.{with_digest, head_bytes, label_bytes, taxonomy_bytes, taxonomy_commit_bytes, flags_number, declaration_bytes, document_bytes, records_bytes, live_bytes, part_bytes, index_bytes, index_commit_bytes, old_index_commit_bytes}
use Rattle.commit_file.specs.Limits.{IsTaxonomy, IsLivePart, IsIndex}
use Rattle.commit_file.specs.Reading.{told, word_at, version_at, number_at, head_at, some_at, digest_at, each_at, body_of, digest_in, unsealed, labels_at, first_at, count_at, label_part_at, label_parts_at, taxonomy_at, taxonomy_commit, flags_of, flags_at, dim_at, declaration_at, declarations_at, part_count_at, documents_at, bits_at, live_at, live_records_at, dead_at, part_at, parts_at, index_at, index_commit}
use Rattle.commit_file.proofs.Again.{EachFits, FitsBehind, FitsAfter}
use Rattle.commit_file.proofs.LiveBytes.{bits_found, dead_rises, dead_below}
use Rattle.seg_postings.specs.Rising.{IsRising}
use Rattle.commit_file.proofs.Rising.{some_byte}
use Rattle.commit_file.proofs.Ordering.{is_set, above_all, kept_whole}
use Rattle.facet_names.proofs.Ordered.{is_less}

-- ---- numbers and texts

u8_told : IsSpelled (λ p. told (u8_at p)) one_byte (IsBelow 256)
u8_told = told_spelled (λ e. Malformed (fault_at e)) u8_at one_byte (IsBelow 256) u8_spelled

u32_told : IsSpelled (λ p. told (u32_at p)) be32 (IsBelow (2 ^ 32))
u32_told = told_spelled (λ e. Malformed (fault_at e)) u32_at be32 (IsBelow (2 ^ 32)) u32_spelled

u64_told : IsSpelled (λ p. told (u64_at p)) be64 (IsBelow (2 ^ 64))
u64_told = told_spelled (λ e. Malformed (fault_at e)) u64_at be64 (IsBelow (2 ^ 64)) u64_spelled

vint_told : IsSpelled (λ p. told (vint_at p)) vint (IsBelow (2 ^ 32))
vint_told = told_spelled (λ e. Malformed (fault_at e)) vint_at vint (IsBelow (2 ^ 32)) vint_spelled

text_told : IsSpelled (λ p. told (text_at 1024 p)) text (IsText 1024)
text_told = told_spelled (λ e. Malformed (fault_at e)) (text_at 1024) text (IsText 1024) (text_spelled 1024)

digest_told : IsSpelled digest_at (λ bytes. bytes) (HasLength 32)
digest_told = told_spelled (λ e. Malformed (fault_at e)) (bytes_at 32) (λ bytes. bytes) (HasLength 32) (bytes_spelled 32)

word_found : (n : ℕ) (p q : Place) → IsBytes p.rest → word_at n p ≡ Ok q → Takes p (be32 n) q
unfolding word_at
word_found n p q fits e =
    let a = bind_ok (told (u32_at p)) (λ m. cond (eqb m.0 n) (done m.1) (Err (Malformed p.at))) q e in
    let g = guard_yes (eqb a.0.0 n) (Malformed p.at) a.0.1 q a.2 in
    let k = u32_told p a.0.0 a.0.1 fits a.1 in
    subst (λ (m : ℕ). Takes p (be32 m) q) (eqb-true a.0.0 n g.0) (subst (λ (r : Place). Takes p (be32 a.0.0) r) g.1 k.0)

number_found : (n : ℕ) (p q : Place) → IsBytes p.rest → number_at n p ≡ Ok q → Takes p (be64 n) q
unfolding number_at
number_found n p q fits e =
    let a = bind_ok (told (u64_at p)) (λ m. cond (eqb m.0 0 || not (eqb m.0 n)) (Err (Malformed p.at)) (done m.1)) q e in
    let g = guard_ok (eqb a.0.0 0 || not (eqb a.0.0 n)) (Malformed p.at) (done a.0.1) q a.2 in
    let same : a.0.0 ≡ n = eqb-true a.0.0 n (not-false (eqb a.0.0 n) (or_parts (eqb a.0.0 0) (not (eqb a.0.0 n)) g.0).1) in
    let k = u64_told p a.0.0 a.0.1 fits a.1 in
    subst (λ (m : ℕ). Takes p (be64 m) q) same (subst (λ (r : Place). Takes p (be64 a.0.0) r) (done_is FileFault a.0.1 q g.1) k.0)

version_found : (newest : ℕ) → IsSpelled (version_at newest) be32 (λ n. (0 < n) × (n ≤ newest))
unfolding version_at
version_found newest p n q fits e =
    let a = bind_ok (told (u32_at p)) (λ m. cond (eqb m.0 0 || ltb newest m.0) (Err (Malformed p.at)) (done m)) (n, q) e in
    let g = guard_ok (eqb a.0.0 0 || ltb newest a.0.0) (Malformed p.at) (done a.0) (n, q) a.2 in
    let t = or_parts (eqb a.0.0 0) (ltb newest a.0.0) g.0 in
    let ne = eqb-false a.0.0 0 t.0 in
    let k = u32_told p a.0.0 a.0.1 fits a.1 in
    subst (λ (x : ℕ × Place). Takes p (be32 x.0) x.1 × ((0 < x.0) × (x.0 ≤ newest))) (done_is FileFault a.0 (n, q) g.1) (k.0, (omega arith, ltb-false newest a.0.0 t.1))

head_found : (kind newest number : ℕ) (p : Place) (version : ℕ) (q : Place) → IsBytes p.rest → head_at kind newest number p ≡ Ok (version, q) → Takes p (head_bytes kind version number) q × ((0 < version) × (version ≤ newest))
unfolding head_at head_bytes
head_found kind newest number p version q fits e =
    let a = bind_ok (word_at kind p) (λ magic. version_at newest magic >>= λ v. number_at number v.1 >>= λ start. done (v.0, start)) (version, q) e in
    let b = bind_ok (version_at newest a.0) (λ v. number_at number v.1 >>= λ start. done (v.0, start)) (version, q) a.2 in
    let c = bind_ok (number_at number b.0.1) (λ start. done (b.0.0, start)) (version, q) b.2 in
    let k = word_found kind p a.0 fits a.1 in
    let l = version_found newest a.0 b.0.0 b.0.1 k.bytes b.1 in
    let m = number_found number b.0.1 c.0 l.0.bytes c.1 in
    subst (λ (x : ℕ × Place). Takes p (be32 kind ++ (be32 x.0 ++ be64 number)) x.1 × ((0 < x.0) × (x.0 ≤ newest))) {x = (b.0.0, c.0)} {y = (version, q)} (done_is FileFault (b.0.0, c.0) (version, q) c.2)
    (Takes-then p (be32 kind) a.0 (be32 b.0.0 ++ be64 number) c.0 k (Takes-then a.0 (be32 b.0.0) b.0.1 (be64 number) c.0 l.0 m), l.1)

some_found : IsSpelled some_at be32 (λ n. (0 < n) × (n < 2 ^ 32))
unfolding some_at
some_found p n q fits e =
    let a = bind_ok (told (u32_at p)) (λ m. cond (eqb m.0 0) (Err (Malformed p.at)) (done m)) (n, q) e in
    let g = guard_ok (eqb a.0.0 0) (Malformed p.at) (done a.0) (n, q) a.2 in
    let k = u32_told p a.0.0 a.0.1 fits a.1 in
    let ne = eqb-false a.0.0 0 g.0 in
    subst (λ (x : ℕ × Place). Takes p (be32 x.0) x.1 × ((0 < x.0) × (x.0 < 2 ^ 32))) (done_is FileFault a.0 (n, q) g.1) (k.0, (omega arith, k.1))

-- the first of two lists
IsBytes-front : (front rest : List ℕ) → IsBytes (front ++ rest) → IsBytes front
IsBytes-front front rest bytes = subst IsBytes (take_at front rest (length front) refl) (IsBytes-take (length front) (front ++ rest) bytes)

-- ---- so many values

module _ {A S : Type 0} (read : ℕ → S → Place → Result (A × Place) FileFault) (next : S → A → S) (spell : A → List ℕ) (Fits : ℕ → S → A → Type 0) where
  abbrev FindsEach : Type 0
  FindsEach = (left : ℕ) (s : S) (p : Place) (x : A) (q : Place) → IsBytes p.rest → read left s p ≡ Ok (x, q) → Takes p (spell x) q × Fits left s x

  record AreFound (n : ℕ) (s : S) (p : Place) (xs : List A) (q : Place) : Type 0 where
    takes : Takes p (flat_map spell xs) q
    fit : EachFits read next spell Fits s xs
    count : length xs ≡ n

  each_found : FindsEach → (n : ℕ) (s : S) (p : Place) (xs : List A) (q : Place) → IsBytes p.rest → each_at read next n s p ≡ Ok (xs, q) → AreFound n s p xs q
  unfolding each_at
  each_found law zero s p xs q fits e =
      subst (λ (x : List A × Place). AreFound 0 s p x.0 x.1) (done_is FileFault ([], p) (xs, q) e) (record { takes = Takes-none p fits; fit = tt; count = refl })
  each_found law (suc n) s p xs q fits e =
      let a = bind_ok (read n s p) (λ first. one_more first.0 (each_at read next n (next s first.0) first.1)) (xs, q) e in
      let b = bind_ok (each_at read next n (next s a.0.0) a.0.1) (λ o. done (a.0.0 ∷ o.0, o.1)) (xs, q) a.2 in
      let k = law n s p a.0.0 a.0.1 fits a.1 in
      let l = each_found law n (next s a.0.0) a.0.1 b.0.0 b.0.1 k.0.bytes b.1 in
      subst (λ (x : List A × Place). AreFound (suc n) s p x.0 x.1) (done_is FileFault (a.0.0 ∷ b.0.0, b.0.1) (xs, q) b.2) (record {
        takes = Takes-then p (spell a.0.0) a.0.1 (flat_map spell b.0.0) b.0.1 k.0 l.takes;
        fit = (subst (λ (m : ℕ). Fits m s a.0.0) (sym l.count) k.1, l.fit);
        count = ap (λ (m : ℕ). suc m) l.count;
      })

-- ---- the digest

unsealed_found : (bytes body : List ℕ) → unsealed bytes ≡ Ok body → (bytes ≡ with_digest body) × (body ≡ body_of bytes)
unfolding unsealed
unsealed_found bytes body e =
    let g = guard_ok (ltb (length bytes) 32) (Malformed (length bytes)) (cond (bytes_eq (digest_in bytes) (sha256 (body_of bytes))) (done (body_of bytes)) (Err (Damaged (digest_in bytes) (sha256 (body_of bytes))))) body e in
    let h = guard_yes (bytes_eq (digest_in bytes) (sha256 (body_of bytes))) (Damaged (digest_in bytes) (sha256 (body_of bytes))) (body_of bytes) body g.1 in
    let kept : digest_in bytes ≡ sha256 (body_of bytes) = (bytes_decides (digest_in bytes) (sha256 (body_of bytes))).0 h.0 in
    (sym (take-append-drop (length bytes - 32) bytes) ∙ ap (λ (d : List ℕ). body_of bytes ++ d) kept ∙ ap with_digest h.1, sym h.1)

-- ---- a commit of the taxonomy

labels_found : IsSpelled labels_at be32 (λ n. n ≤ 1000000)
unfolding labels_at
labels_found p n q fits e =
    let a = bind_ok (told (u32_at p)) (λ m. cond (ltb 1000000 m.0) (Err (Malformed p.at)) (done m)) (n, q) e in
    let g = guard_ok (ltb 1000000 a.0.0) (Malformed p.at) (done a.0) (n, q) a.2 in
    let k = u32_told p a.0.0 a.0.1 fits a.1 in
    subst (λ (x : ℕ × Place). Takes p (be32 x.0) x.1 × (x.0 ≤ 1000000)) (done_is FileFault a.0 (n, q) g.1) (k.0, ltb-false _ _ g.0)

first_found : (start : ℕ) → IsSpelled (first_at start) be32 (λ n. (n ≡ start) × (n < 2 ^ 32))
unfolding first_at
first_found start p n q fits e =
    let a = bind_ok (told (u32_at p)) (λ m. cond (eqb m.0 start) (done m) (Err (Malformed p.at))) (n, q) e in
    let g = guard_yes (eqb a.0.0 start) (Malformed p.at) a.0 (n, q) a.2 in
    let k = u32_told p a.0.0 a.0.1 fits a.1 in
    subst (λ (x : ℕ × Place). Takes p (be32 x.0) x.1 × ((x.0 ≡ start) × (x.0 < 2 ^ 32))) g.1 (k.0, (eqb-true a.0.0 start g.0, k.1))

count_found : (labels left start : ℕ) → IsSpelled (count_at labels left start) be32 (λ n. (left ≡ 0 → start + n ≡ labels) × (n < 2 ^ 32))
unfolding count_at
count_found labels left start p n q fits e =
    let a = bind_ok (told (u32_at p)) (λ m. cond (eqb left 0 && not (eqb (start + m.0) labels)) (Err (Malformed p.at)) (done m)) (n, q) e in
    let g = guard_ok (eqb left 0 && not (eqb (start + a.0.0) labels)) (Malformed p.at) (done a.0) (n, q) a.2 in
    let k = u32_told p a.0.0 a.0.1 fits a.1 in
    subst (λ (x : ℕ × Place). Takes p (be32 x.0) x.1 × ((left ≡ 0 → start + x.0 ≡ labels) × (x.0 < 2 ^ 32))) (done_is FileFault a.0 (n, q) g.1)
    (k.0, (λ none. eqb-true (start + a.0.0) labels (not-false (eqb (start + a.0.0) labels) (subst (λ (t : Bool). (t && not (eqb (start + a.0.0) labels)) ≡ false) (eq-eqb left 0 none) g.0)), k.1))

label_found : (labels left start : ℕ) (p : Place) (part : LabelPart) (q : Place) → IsBytes p.rest → label_part_at labels left start p ≡ Ok (part, q) → Takes p (label_bytes part) q × FitsBehind labels left start part
unfolding label_part_at label_bytes
label_found labels left start p part q fits e =
    let a = bind_ok (told (u64_at p)) (λ number. first_at start number.1 >>= λ first. count_at labels left first.0 first.1 >>= λ count. digest_at count.1 >>= λ digest. done (record { number = number.0; first = first.0; count = count.0; digest = digest.0 }, digest.1)) (part, q) e in
    let b = bind_ok (first_at start a.0.1) (λ first. count_at labels left first.0 first.1 >>= λ count. digest_at count.1 >>= λ digest. done (record { number = a.0.0; first = first.0; count = count.0; digest = digest.0 }, digest.1)) (part, q) a.2 in
    let c = bind_ok (count_at labels left b.0.0 b.0.1) (λ count. digest_at count.1 >>= λ digest. done (record { number = a.0.0; first = b.0.0; count = count.0; digest = digest.0 }, digest.1)) (part, q) b.2 in
    let d = bind_ok (digest_at c.0.1) (λ digest. done (record { number = a.0.0; first = b.0.0; count = c.0.0; digest = digest.0 }, digest.1)) (part, q) c.2 in
    let ka = u64_told p a.0.0 a.0.1 fits a.1 in
    let kb = first_found start a.0.1 b.0.0 b.0.1 ka.0.bytes b.1 in
    let kc = count_found labels left b.0.0 b.0.1 c.0.0 c.0.1 kb.0.bytes c.1 in
    let kd = digest_told c.0.1 d.0.0 d.0.1 kc.0.bytes d.1 in
    let made : LabelPart = record { number = a.0.0; first = b.0.0; count = c.0.0; digest = d.0.0 } in
    let tc = Takes-then b.0.1 (be32 c.0.0) c.0.1 d.0.0 d.0.1 kc.0 kd.0 in
    let tb = Takes-then a.0.1 (be32 b.0.0) b.0.1 (be32 c.0.0 ++ d.0.0) d.0.1 kb.0 tc in
    let ta = Takes-then p (be64 a.0.0) a.0.1 (be32 b.0.0 ++ (be32 c.0.0 ++ d.0.0)) d.0.1 ka.0 tb in
    subst (λ (x : LabelPart × Place). Takes p (label_bytes x.0) x.1 × FitsBehind labels left start x.0) {x = (made, d.0.1)} {y = (part, q)} (done_is FileFault (made, d.0.1) (part, q) d.2)
    (ta, record { fits = record { number = ka.1; first = kb.1.1; count = kc.1.1; digest = kd.1 }; begins = kb.1.0; last = kc.1.0 })

in_order : (labels start : ℕ) (parts : List LabelPart) → 0 < length parts → EachFits (label_part_at labels) (λ _ part. end_of part) label_bytes (FitsBehind labels) start parts → AreInOrder labels start parts
in_order labels start [] some fit = absurd (omega (arith, some))
in_order labels start (part ∷ []) some fit = (fit.0.begins, fit.0.last refl)
in_order labels start (part ∷ next ∷ parts) some fit = (fit.0.begins, in_order labels (end_of part) (next ∷ parts) (omega arith) fit.1)

-- nothing is left over
at_end : {A : Type 0} (made x : A) (p q : Place) (bytes : List ℕ) → Takes p bytes q → cond (eqb (length q.rest) 0) (done made) (Err (Malformed q.at)) ≡ Ok x → (p.rest ≡ bytes) × (made ≡ x)
at_end made x p q bytes t e =
    let g = guard_yes (eqb (length q.rest) 0) (Malformed q.at) made x e in
    (t.rest ∙ ap (λ (rest : List ℕ). bytes ++ rest) (by q.rest (eqb-true (length q.rest) 0 g.0)) ∙ append-nil bytes, g.1)
  where
    by : (rest : List ℕ) → length rest ≡ 0 → rest ≡ []
    by [] h = refl
    by (y ∷ ys) h = absurd (omega (arith, h))

-- what was read part by part is the whole body
taxonomy_parts_found : (number : ℕ) (body : List ℕ) (c : TaxonomyListing) (a : Place) (labels : ℕ) (b : Place) (n : ℕ) (d : Place) (parts : List LabelPart) (f : Place) (version : ℕ)
    → IsBytes body → head_at 0x4654434d 1 number (record { at = 0; rest = body }) ≡ Ok (version, a) → labels_at a ≡ Ok (labels, b) → some_at b ≡ Ok (n, d) → label_parts_at labels n d ≡ Ok (parts, f)
    → cond (eqb (length f.rest) 0) (done (record { labels = labels; parts = parts })) (Err (Malformed f.at)) ≡ Ok c → (body ≡ taxonomy_bytes number c) × IsTaxonomy c
unfolding taxonomy_bytes
taxonomy_parts_found number body c a labels b n d parts f version fits ea eb ed ef e =
    let p : Place = record { at = 0; rest = body } in
    let kh = head_found 0x4654434d 1 number p version a fits ea in
    let one : version ≡ 1 = omega (arith, kh.1.0, kh.1.1) in
    let ka = subst (λ (v : ℕ). Takes p (head_bytes 0x4654434d v number) a) one kh.0 in
    let kb = labels_found a labels b ka.bytes eb in
    let kd = some_found b n d kb.0.bytes ed in
    let kf = each_found (label_part_at labels) (λ _ part. end_of part) label_bytes (FitsBehind labels) (label_found labels) n 1 d parts f kd.0.bytes ef in
    let made : TaxonomyListing = record { labels = labels; parts = parts } in
    let count : be32 n ≡ be32 (length parts) = ap be32 (sym kf.count) in
    let td = Takes-then b (be32 n) d (flat_map label_bytes parts) f kd.0 kf.takes in
    let tb = Takes-then a (be32 labels) b (be32 n ++ flat_map label_bytes parts) f kb.0 td in
    let ta = Takes-then p (head_bytes 0x4654434d 1 number) a (be32 labels ++ (be32 n ++ flat_map label_bytes parts)) f ka tb in
    let z = at_end made c p f (head_bytes 0x4654434d 1 number ++ (be32 labels ++ (be32 n ++ flat_map label_bytes parts))) ta e in
    let whole : body ≡ taxonomy_bytes number made = z.0 ∙ ap (λ (m : List ℕ). head_bytes 0x4654434d 1 number ++ (be32 labels ++ (m ++ flat_map label_bytes parts))) count in
    let some : 0 < length parts = omega (arith, kd.1.0, kf.count) in
    subst (λ (x : TaxonomyListing). (body ≡ taxonomy_bytes number x) × IsTaxonomy x) z.1
    (whole, record { labels = kb.1; some = some; few = omega (arith, kd.1.1, kf.count); order = in_order labels 1 parts some kf.fit })

taxonomy_body_found : (number : ℕ) (body : List ℕ) (c : TaxonomyListing) → IsBytes body → taxonomy_at number body ≡ Ok c → (body ≡ taxonomy_bytes number c) × IsTaxonomy c
unfolding taxonomy_at
taxonomy_body_found number body c fits e =
    let p : Place = record { at = 0; rest = body } in
    let a = bind_ok (head_at 0x4654434d 1 number p) (λ start. labels_at start.1 >>= λ labels. some_at labels.1 >>= λ n. label_parts_at labels.0 n.0 n.1 >>= λ parts. cond (eqb (length parts.1.rest) 0) (done (record { labels = labels.0; parts = parts.0 })) (Err (Malformed parts.1.at))) c e in
    let b = bind_ok (labels_at a.0.1) (λ labels. some_at labels.1 >>= λ n. label_parts_at labels.0 n.0 n.1 >>= λ parts. cond (eqb (length parts.1.rest) 0) (done (record { labels = labels.0; parts = parts.0 })) (Err (Malformed parts.1.at))) c a.2 in
    let d = bind_ok (some_at b.0.1) (λ n. label_parts_at b.0.0 n.0 n.1 >>= λ parts. cond (eqb (length parts.1.rest) 0) (done (record { labels = b.0.0; parts = parts.0 })) (Err (Malformed parts.1.at))) c b.2 in
    let f = bind_ok (label_parts_at b.0.0 d.0.0 d.0.1) (λ parts. cond (eqb (length parts.1.rest) 0) (done (record { labels = b.0.0; parts = parts.0 })) (Err (Malformed parts.1.at))) c d.2 in
    taxonomy_parts_found number body c a.0.1 b.0.0 b.0.1 d.0.0 d.0.1 f.0.0 f.0.1 a.0.0 fits a.1 b.1 d.1 f.1 f.2

pub taxonomy_found : (number : ℕ) (bytes : List ℕ) (c : TaxonomyListing) → IsBytes bytes → taxonomy_commit number bytes ≡ Ok c → (bytes ≡ taxonomy_commit_bytes number c) × IsTaxonomy c
unfolding taxonomy_commit
taxonomy_found number bytes c fits e =
    let a = bind_ok (unsealed bytes) (λ body. taxonomy_at number body) c e in
    let k = unsealed_found bytes a.0 a.1 in
    let body_fits : IsBytes a.0 = subst IsBytes (sym k.1) (IsBytes-take (length bytes - 32) bytes fits) in
    let l = taxonomy_body_found number a.0 c body_fits a.2 in
    (k.0 ∙ ap with_digest l.0, l.1)

-- ---- a commit of the index

number_of_flags : (n : ℕ) → n < 8 → flags_number (flags_of n) ≡ n
number_of_flags n lt = eqb-true (flags_number (flags_of n)) n (agree_below_at (λ m. eqb (flags_number (flags_of m)) m) (λ m. true) 8 n refl lt)

some_flag : (n : ℕ) → n < 8 → eqb n 0 ≡ false → is_some_set (flags_of n) ≡ true
some_flag n lt some = rw some at (agree_below_at (λ m. eqb m 0 || is_some_set (flags_of m)) (λ m. true) 8 n refl lt)

flags_found : (p : Place) (f : DimFlags) (q : Place) → IsBytes p.rest → flags_at p ≡ Ok (f, q) → Takes p (one_byte (flags_number f)) q × (is_some_set f ≡ true)
unfolding flags_at
flags_found p f q fits e =
    let a = bind_ok (told (u8_at p)) (λ n. cond (eqb n.0 0 || ltb 7 n.0) (Err (Malformed p.at)) (done (flags_of n.0, n.1))) (f, q) e in
    let g = guard_ok (eqb a.0.0 0 || ltb 7 a.0.0) (Malformed p.at) (done (flags_of a.0.0, a.0.1)) (f, q) a.2 in
    let t = or_parts (eqb a.0.0 0) (ltb 7 a.0.0) g.0 in
    let lt : a.0.0 < 8 = omega (arith, ltb-false 7 a.0.0 t.1) in
    let k = u8_told p a.0.0 a.0.1 fits a.1 in
    subst (λ (x : DimFlags × Place). Takes p (one_byte (flags_number x.0)) x.1 × (is_some_set x.0 ≡ true)) (done_is FileFault (flags_of a.0.0, a.0.1) (f, q) g.1)
    (subst (λ (m : ℕ). Takes p (one_byte m) a.0.1) (sym (number_of_flags a.0.0 lt)) k.0, some_flag a.0.0 lt t.0)

dim_found : (before : List ℕ) → IsSpelled (dim_at before) text (λ d. IsText 1024 d × (is_lt (word_cmp before d) ≡ true))
unfolding dim_at
dim_found before p d q fits e =
    let a = bind_ok (told (text_at 1024 p)) (λ dim. cond (is_lt (word_cmp before dim.0)) (done dim) (Err (Malformed p.at))) (d, q) e in
    let g = guard_yes (is_lt (word_cmp before a.0.0)) (Malformed p.at) a.0 (d, q) a.2 in
    let k = text_told p a.0.0 a.0.1 fits a.1 in
    subst (λ (x : List ℕ × Place). Takes p (text x.0) x.1 × (IsText 1024 x.0 × (is_lt (word_cmp before x.0) ≡ true))) g.1 (k.0, (k.1, g.0))

declaration_found : (left : ℕ) (before : List ℕ) (p : Place) (d : List ℕ × DimFlags) (q : Place) → IsBytes p.rest → declaration_at before p ≡ Ok (d, q) → Takes p (declaration_bytes d) q × FitsAfter left before d
unfolding declaration_at declaration_bytes
declaration_found left before p d q fits e =
    let a = bind_ok (dim_at before p) (λ dim. flags_at dim.1 >>= λ flags. done ((dim.0, flags.0), flags.1)) (d, q) e in
    let b = bind_ok (flags_at a.0.1) (λ flags. done ((a.0.0, flags.0), flags.1)) (d, q) a.2 in
    let ka = dim_found before p a.0.0 a.0.1 fits a.1 in
    let kb = flags_found a.0.1 b.0.0 b.0.1 ka.0.bytes b.1 in
    subst (λ (x : (List ℕ × DimFlags) × Place). Takes p (declaration_bytes x.0) x.1 × FitsAfter left before x.0) {x = ((a.0.0, b.0.0), b.0.1)} {y = (d, q)} (done_is FileFault ((a.0.0, b.0.0), b.0.1) (d, q) b.2)
    (Takes-then p (text a.0.0) a.0.1 (one_byte (flags_number b.0.0)) b.0.1 ka.0 kb.0, record { fits = record { some = some_byte before a.0.0 ka.1.1; text = ka.1.0 }; after = ka.1.1; set = kb.1 })

rises : (before : List ℕ) (ds : Config) → EachFits (λ _. declaration_at) (λ _ d. d.0) declaration_bytes FitsAfter before ds → AllByRecursion (λ y. word_cmp before y ≡ Less) (keys_of ds) × IsStrictlySortedBy word_cmp (keys_of ds)
unfolding IsStrictlySortedBy
rises before [] fit = (tt, tt)
rises before (d ∷ ds) fit =
    let rest = rises d.0 ds fit.1 in
    let less : word_cmp before d.0 ≡ Less = is_less (word_cmp before d.0) fit.0.after in
    ((less, above_all before d.0 (keys_of ds) less rest.0), rest)

all_set : (before : List ℕ) (ds : Config) → EachFits (λ _. declaration_at) (λ _ d. d.0) declaration_bytes FitsAfter before ds → AllByRecursion (λ d. is_set d ≡ true) ds
all_set before [] fit = tt
all_set before (d ∷ ds) fit = (fit.0.set, all_set d.0 ds fit.1)

documents_found : (version before : ℕ) → IsSpelled (documents_at version before) be32 (λ n. (version ≡ 1 → before + n ≤ 1000000) × (n < 2 ^ 32))
unfolding documents_at
documents_found version before p n q fits e =
    let a = bind_ok (told (u32_at p)) (λ m. cond (eqb version 1 && ltb 1000000 (before + m.0)) (Err (Malformed p.at)) (done m)) (n, q) e in
    let g = guard_ok (eqb version 1 && ltb 1000000 (before + a.0.0)) (Malformed p.at) (done a.0) (n, q) a.2 in
    let k = u32_told p a.0.0 a.0.1 fits a.1 in
    subst (λ (x : ℕ × Place). Takes p (be32 x.0) x.1 × ((version ≡ 1 → before + x.0 ≤ 1000000) × (x.0 < 2 ^ 32))) (done_is FileFault a.0 (n, q) g.1)
    (k.0, (λ one. ltb-false 1000000 (before + a.0.0) (subst (λ (t : Bool). (t && ltb 1000000 (before + a.0.0)) ≡ false) (eq-eqb version 1 one) g.0), k.1))

part_count_found : (version : ℕ) → IsSpelled (part_count_at version) be32 (IsBelow (2 ^ 32))
unfolding part_count_at
part_count_found version p n q fits e = by (eqb version 1) e
  where
    by : (b : Bool) → cond b (some_at p) (told (u32_at p)) ≡ Ok (n, q) → Takes p (be32 n) q × IsBelow (2 ^ 32) n
    by true e = let k = some_found p n q fits e in (k.0, k.1.1)
    by false e = u32_told p n q fits e

-- records of which these are not live, behind so many live ones of other segments
record AreBeside (documents before : ℕ) (dead : List ℕ) : Type 0 where
  rise : IsRising dead
  below : AllByRecursion (IsBelow documents) dead
  some : 0 < documents → 0 < documents - length dead
  few : before + (documents - length dead) ≤ 1000000

live_found : (documents before : ℕ) → IsSpelled (live_at documents before) be32 (λ n. (0 < n) × (n ≤ documents) × (before + n ≤ 1000000))
unfolding live_at
live_found documents before p n q fits e =
    let test : ℕ → Bool = λ m. eqb m 0 || (ltb documents m || ltb 1000000 (before + m)) in
    let a = bind_ok (told (u32_at p)) (λ m. cond (test m.0) (Err (Malformed p.at)) (done m)) (n, q) e in
    let g = guard_ok (test a.0.0) (Malformed p.at) (done a.0) (n, q) a.2 in
    let t = or_parts (eqb a.0.0 0) (ltb documents a.0.0 || ltb 1000000 (before + a.0.0)) g.0 in
    let u = or_parts (ltb documents a.0.0) (ltb 1000000 (before + a.0.0)) t.1 in
    let ne = eqb-false a.0.0 0 t.0 in
    let k = u32_told p a.0.0 a.0.1 fits a.1 in
    subst (λ (x : ℕ × Place). Takes p (be32 x.0) x.1 × ((0 < x.0) × (x.0 ≤ documents) × (before + x.0 ≤ 1000000))) (done_is FileFault a.0 (n, q) g.1)
    (k.0, (omega arith, ltb-false documents a.0.0 u.0, ltb-false 1000000 (before + a.0.0) u.1))

-- bits that were read
record AreBits (documents live : ℕ) (p : Place) (dead : List ℕ) (q : Place) : Type 0 where
  takes : Takes p (bits_of documents dead) q
  rise : IsRising dead
  below : AllByRecursion (IsBelow documents) dead
  count : length dead + live ≡ documents

bits_spelled : (documents live : ℕ) (p : Place) (dead : List ℕ) (q : Place) → IsBytes p.rest → bits_at documents live p ≡ Ok (dead, q) → AreBits documents live p dead q
unfolding bits_at
bits_spelled documents live p dead q fits e =
    let a = bind_ok (told (bytes_at (bits_len documents) p)) (λ bits. cond (are_bits documents live bits.0) (done (dead_in documents bits.0, bits.1)) (Err (Malformed p.at))) (dead, q) e in
    let bits : List ℕ = a.0.0 in
    let g = guard_yes (are_bits documents live bits) (Malformed p.at) (dead_in documents bits, a.0.1) (dead, q) a.2 in
    let t = and_parts (eqb (length (dead_in documents bits) + live) documents) (none_past documents bits) g.0 in
    let k = told_spelled (λ e. Malformed (fault_at e)) (bytes_at (bits_len documents)) (λ bytes. bytes) (HasLength (bits_len documents)) (bytes_spelled (bits_len documents)) p bits a.0.1 fits a.1 in
    let bytes : IsBytes bits = IsBytes-front bits a.0.1.rest (subst IsBytes k.0.rest fits) in
    subst (λ (x : List ℕ × Place). AreBits documents live p x.0 x.1) {x = (dead_in documents bits, a.0.1)} {y = (dead, q)} g.1 (record {
      takes = subst (λ (b : List ℕ). Takes p b a.0.1) (sym (bits_found documents bits k.1 bytes t.1)) k.0;
      rise = dead_rises documents bits;
      below = dead_below documents bits;
      count = eqb-true (length (dead_in documents bits) + live) documents t.0;
    })

-- all records are live
whole_spelled : (documents : ℕ) → records_bytes documents [] ≡ be32 documents
whole_spelled documents =
    let all : documents - 0 ≡ documents = omega arith in
    ap (λ (n : ℕ). be32 n ++ cond (ltb n documents) (bits_of documents []) []) all ∙ ap (λ (b : Bool). be32 documents ++ cond b (bits_of documents []) []) (le-ltb documents documents (omega arith)) ∙ append-nil (be32 documents)

some_spelled : (documents live : ℕ) (dead : List ℕ) → live < documents → length dead + live ≡ documents → records_bytes documents dead ≡ be32 live ++ bits_of documents dead
some_spelled documents live dead less count =
    let n : documents - length dead ≡ live = omega (arith, count) in
    ap (λ (m : ℕ). be32 m ++ cond (ltb m documents) (bits_of documents dead) []) n ∙ ap (λ (b : Bool). be32 live ++ cond b (bits_of documents dead) []) (lt-ltb live documents less)

live_records_found : (documents before : ℕ) → IsSpelled (live_records_at documents before) (records_bytes documents) (AreBeside documents before)
unfolding live_records_at
live_records_found documents before p dead q fits e =
    let a = bind_ok (live_at documents before p) (λ live. cond (eqb live.0 documents) (done ([], live.1)) (bits_at documents live.0 live.1)) (dead, q) e in
    let k = live_found documents before p a.0.0 a.0.1 fits a.1 in
    by a.0.0 a.0.1 k.0 k.1.0 k.1.1 k.1.2 (eqb a.0.0 documents) refl a.2
  where
    by : (live : ℕ) (r : Place) → Takes p (be32 live) r → 0 < live → live ≤ documents → before + live ≤ 1000000 → (b : Bool) → eqb live documents ≡ b → cond b (done ([], r)) (bits_at documents live r) ≡ Ok (dead, q) → Takes p (records_bytes documents dead) q × AreBeside documents before dead
    by live r takes some le few true is e =
        let all : live ≡ documents = eqb-true live documents is in
        subst (λ (x : List ℕ × Place). Takes p (records_bytes documents x.0) x.1 × AreBeside documents before x.0) {x = ([], r)} {y = (dead, q)} (done_is FileFault ([], r) (dead, q) e)
        (subst (λ (bytes : List ℕ). Takes p bytes r) (ap be32 all ∙ sym (whole_spelled documents)) takes, record { rise = tt; below = tt; some = λ s. omega (arith, s); few = omega (arith, few, all) })
    by live r takes some le few false is e =
        let b = bits_spelled documents live r dead q takes.bytes e in
        let less : live < documents = omega (arith, le, eqb-false live documents is) in (
          subst (λ (bytes : List ℕ). Takes p bytes q) (sym (some_spelled documents live dead less b.count)) (Takes-then p (be32 live) r (bits_of documents dead) q takes b.takes),
          record { rise = b.rise; below = b.below; some = λ s. omega (arith, some, b.count); few = omega (arith, few, b.count) },
        )

-- a segment behind so many live records of other segments
record IsBeside (left before : ℕ) (p : LivePart) : Type 0 where
  are : IsLivePart p
  few : before + live_of p ≤ 1000000

-- what a version says of the records behind a segment's digest
abbrev behind_digest : ℕ → ℕ → List ℕ → List ℕ
behind_digest version documents dead = cond (eqb version 1) [] (records_bytes documents dead)

dead_found : (version documents before : ℕ) → (version ≡ 1 → before + documents ≤ 1000000) → IsSpelled (dead_at version documents before) (behind_digest version documents) (AreBeside documents before)
unfolding dead_at
dead_found version documents before whole p dead q fits e = by (eqb version 1) refl e
  where
    by : (b : Bool) → eqb version 1 ≡ b → cond b (done ([], p)) (live_records_at documents before p) ≡ Ok (dead, q) → Takes p (cond b [] (records_bytes documents dead)) q × AreBeside documents before dead
    by true is e =
        let few = whole (eqb-true version 1 is) in
        subst (λ (x : List ℕ × Place). Takes p [] x.1 × AreBeside documents before x.0) {x = ([], p)} {y = (dead, q)} (done_is FileFault ([], p) (dead, q) e)
        (Takes-none p fits, record { rise = tt; below = tt; some = λ s. omega (arith, s); few = omega (arith, few) })
    by false is e = live_records_found documents before p dead q fits e

part_spelled : (version : ℕ) (p : LivePart) → part_bytes version p ≡ document_bytes p.part ++ behind_digest version p.part.documents p.dead
unfolding part_bytes
part_spelled version p = by (eqb version 1)
  where
    by : (b : Bool) → cond b (document_bytes p.part) (document_bytes p.part ++ live_bytes p) ≡ document_bytes p.part ++ cond b [] (live_bytes p)
    by true = sym (append-nil (document_bytes p.part))
    by false = refl

part_takes : (version : ℕ) (p : Place) (part : LivePart) (q : Place) → Takes p (document_bytes part.part ++ behind_digest version part.part.documents part.dead) q → Takes p (part_bytes version part) q
part_takes version p part q takes = subst (λ (bytes : List ℕ). Takes p bytes q) (sym (part_spelled version part)) takes

part_found : (version left before : ℕ) (p : Place) (part : LivePart) (q : Place) → IsBytes p.rest → part_at version before p ≡ Ok (part, q) → Takes p (part_bytes version part) q × IsBeside left before part
unfolding part_at document_bytes
part_found version left before p part q fits e =
    let a = bind_ok (told (u64_at p)) (λ number. documents_at version before number.1 >>= λ documents. digest_at documents.1 >>= λ digest. dead_at version documents.0 before digest.1 >>= λ dead. done (record { part = record { number = number.0; documents = documents.0; digest = digest.0 }; dead = dead.0 }, dead.1)) (part, q) e in
    let b = bind_ok (documents_at version before a.0.1) (λ documents. digest_at documents.1 >>= λ digest. dead_at version documents.0 before digest.1 >>= λ dead. done (record { part = record { number = a.0.0; documents = documents.0; digest = digest.0 }; dead = dead.0 }, dead.1)) (part, q) a.2 in
    let c = bind_ok (digest_at b.0.1) (λ digest. dead_at version b.0.0 before digest.1 >>= λ dead. done (record { part = record { number = a.0.0; documents = b.0.0; digest = digest.0 }; dead = dead.0 }, dead.1)) (part, q) b.2 in
    let d = bind_ok (dead_at version b.0.0 before c.0.1) (λ dead. done (record { part = record { number = a.0.0; documents = b.0.0; digest = c.0.0 }; dead = dead.0 }, dead.1)) (part, q) c.2 in
    let ka = u64_told p a.0.0 a.0.1 fits a.1 in
    let kb = documents_found version before a.0.1 b.0.0 b.0.1 ka.0.bytes b.1 in
    let kc = digest_told b.0.1 c.0.0 c.0.1 kb.0.bytes c.1 in
    let kd = dead_found version b.0.0 before kb.1.0 c.0.1 d.0.0 d.0.1 kc.0.bytes d.1 in
    let made : LivePart = record { part = record { number = a.0.0; documents = b.0.0; digest = c.0.0 }; dead = d.0.0 } in
    let tb = Takes-then a.0.1 (be32 b.0.0) b.0.1 c.0.0 c.0.1 kb.0 kc.0 in
    let ta = Takes-then p (be64 a.0.0) a.0.1 (be32 b.0.0 ++ c.0.0) c.0.1 ka.0 tb in
    let td = Takes-then p (be64 a.0.0 ++ (be32 b.0.0 ++ c.0.0)) c.0.1 (behind_digest version b.0.0 d.0.0) d.0.1 ta kd.0 in
    subst (λ (x : LivePart × Place). Takes p (part_bytes version x.0) x.1 × IsBeside left before x.0) {x = (made, d.0.1)} {y = (part, q)} (done_is FileFault (made, d.0.1) (part, q) d.2)
    (part_takes version p made d.0.1 td, record { are = record { rise = kd.1.rise; below = kd.1.below; some = kd.1.some }; few = kd.1.few })

few_live : (version before : ℕ) (parts : List LivePart) → before ≤ 1000000 → EachFits (λ _. part_at version) with_live (part_bytes version) IsBeside before parts → before + sum_by live_of parts ≤ 1000000
few_live version before [] le fit = omega (arith, le)
few_live version before (p ∷ parts) le fit = omega (arith, sum_by-cons live_of p parts, few_live version (before + live_of p) parts fit.0.few fit.1)

all_parts : (version before : ℕ) (parts : List LivePart) → EachFits (λ _. part_at version) with_live (part_bytes version) IsBeside before parts → AllByRecursion IsLivePart parts
all_parts version before [] fit = tt
all_parts version before (p ∷ parts) fit = (fit.0.are, all_parts version (before + live_of p) parts fit.1)

-- a body is a commit in one of the versions
abbrev IsSpelledIn : ℕ → List ℕ → IndexListing → Type 0
IsSpelledIn number body c = (body ≡ index_bytes 2 number c) ⊎ (body ≡ index_bytes 1 number c)

one_of_two : (version number : ℕ) (body : List ℕ) (c : IndexListing) → 0 < version → version ≤ 2 → body ≡ index_bytes version number c → IsSpelledIn number body c
one_of_two version number body c some le is =
    elim (cases_eq version 1) [
      | inl one ↦ inr (is ∙ ap (λ (v : ℕ). index_bytes v number c) one)
      | inr other ↦ let two : version ≡ 2 = omega (arith, some, le, other) in inl (is ∙ ap (λ (v : ℕ). index_bytes v number c) two)
    ]

-- what was read part by part is the whole body
index_parts_found : (number : ℕ) (body : List ℕ) (c : IndexListing) (version : ℕ) (a : Place) (needs : ℕ) (b : Place) (ds : ℕ) (d : Place) (kept : Config) (f : Place) (n : ℕ) (g : Place) (parts : List LivePart) (h : Place)
    → IsBytes body → head_at 0x4649434d 2 number (record { at = 0; rest = body }) ≡ Ok (version, a) → told (u32_at a) ≡ Ok (needs, b) → told (vint_at b) ≡ Ok (ds, d) → declarations_at ds d ≡ Ok (kept, f)
    → part_count_at version f ≡ Ok (n, g) → parts_at version n g ≡ Ok (parts, h)
    → cond (eqb (length h.rest) 0) (done (record { needs = needs; kept = kept; parts = parts })) (Err (Malformed h.at)) ≡ Ok c → IsSpelledIn number body c × IsIndex c
unfolding index_bytes
index_parts_found number body c version a needs b ds d kept f n g parts h fits ea eb ed ef eg eh e =
    let p : Place = record { at = 0; rest = body } in
    let ka = head_found 0x4649434d 2 number p version a fits ea in
    let kb = u32_told a needs b ka.0.bytes eb in
    let kd = vint_told b ds d kb.0.bytes ed in
    let kf = each_found (λ _. declaration_at) (λ _ x. x.0) declaration_bytes FitsAfter declaration_found ds [] d kept f kd.0.bytes ef in
    let kg = part_count_found version f n g kf.takes.bytes eg in
    let kh = each_found (λ _. part_at version) with_live (part_bytes version) IsBeside (part_found version) n 0 g parts h kg.0.bytes eh in
    let made : IndexListing = record { needs = needs; kept = kept; parts = parts } in
    let tg = Takes-then f (be32 n) g (flat_map (part_bytes version) parts) h kg.0 kh.takes in
    let tf = Takes-then d (flat_map declaration_bytes kept) f (be32 n ++ flat_map (part_bytes version) parts) h kf.takes tg in
    let td = Takes-then b (vint ds) d (flat_map declaration_bytes kept ++ (be32 n ++ flat_map (part_bytes version) parts)) h kd.0 tf in
    let tb = Takes-then a (be32 needs) b (vint ds ++ (flat_map declaration_bytes kept ++ (be32 n ++ flat_map (part_bytes version) parts))) h kb.0 td in
    let ta = Takes-then p (head_bytes 0x4649434d version number) a (be32 needs ++ (vint ds ++ (flat_map declaration_bytes kept ++ (be32 n ++ flat_map (part_bytes version) parts)))) h ka.0 tb in
    let z = at_end made c p h (head_bytes 0x4649434d version number ++ (be32 needs ++ (vint ds ++ (flat_map declaration_bytes kept ++ (be32 n ++ flat_map (part_bytes version) parts))))) ta e in
    let whole : body ≡ index_bytes version number made =
    z.0 ∙ (λ i. head_bytes 0x4649434d version number ++ (be32 needs ++ (vint (sym kf.count i) ++ (flat_map declaration_bytes kept ++ (be32 (sym kh.count i) ++ flat_map (part_bytes version) parts))))) in
    let order = rises [] kept kf.fit in
    subst (λ (x : IndexListing). IsSpelledIn number body x × IsIndex x) z.1 (
      one_of_two version number body made ka.1.0 ka.1.1 whole,
      record {
        kept = kept_whole kept order.1 (all_set [] kept kf.fit);
        few = omega (arith, kg.1, kh.count);
        parts = all_parts version 0 parts kh.fit;
        live = omega (arith, few_live version 0 parts (omega arith) kh.fit);
      },
    )

index_body_found : (number : ℕ) (body : List ℕ) (c : IndexListing) → IsBytes body → index_at number body ≡ Ok c → IsSpelledIn number body c × IsIndex c
unfolding index_at
index_body_found number body c fits e =
    let p : Place = record { at = 0; rest = body } in
    let a = bind_ok (head_at 0x4649434d 2 number p) (λ start. told (u32_at start.1) >>= λ needs. told (vint_at needs.1) >>= λ ds. declarations_at ds.0 ds.1 >>= λ kept. part_count_at start.0 kept.1 >>= λ n. parts_at start.0 n.0 n.1 >>= λ parts. cond (eqb (length parts.1.rest) 0) (done (record { needs = needs.0; kept = kept.0; parts = parts.0 })) (Err (Malformed parts.1.at))) c e in
    let b = bind_ok (told (u32_at a.0.1)) (λ needs. told (vint_at needs.1) >>= λ ds. declarations_at ds.0 ds.1 >>= λ kept. part_count_at a.0.0 kept.1 >>= λ n. parts_at a.0.0 n.0 n.1 >>= λ parts. cond (eqb (length parts.1.rest) 0) (done (record { needs = needs.0; kept = kept.0; parts = parts.0 })) (Err (Malformed parts.1.at))) c a.2 in
    let d = bind_ok (told (vint_at b.0.1)) (λ ds. declarations_at ds.0 ds.1 >>= λ kept. part_count_at a.0.0 kept.1 >>= λ n. parts_at a.0.0 n.0 n.1 >>= λ parts. cond (eqb (length parts.1.rest) 0) (done (record { needs = b.0.0; kept = kept.0; parts = parts.0 })) (Err (Malformed parts.1.at))) c b.2 in
    let f = bind_ok (declarations_at d.0.0 d.0.1) (λ kept. part_count_at a.0.0 kept.1 >>= λ n. parts_at a.0.0 n.0 n.1 >>= λ parts. cond (eqb (length parts.1.rest) 0) (done (record { needs = b.0.0; kept = kept.0; parts = parts.0 })) (Err (Malformed parts.1.at))) c d.2 in
    let g = bind_ok (part_count_at a.0.0 f.0.1) (λ n. parts_at a.0.0 n.0 n.1 >>= λ parts. cond (eqb (length parts.1.rest) 0) (done (record { needs = b.0.0; kept = f.0.0; parts = parts.0 })) (Err (Malformed parts.1.at))) c f.2 in
    let h = bind_ok (parts_at a.0.0 g.0.0 g.0.1) (λ parts. cond (eqb (length parts.1.rest) 0) (done (record { needs = b.0.0; kept = f.0.0; parts = parts.0 })) (Err (Malformed parts.1.at))) c g.2 in
    index_parts_found number body c a.0.0 a.0.1 b.0.0 b.0.1 d.0.0 d.0.1 f.0.0 f.0.1 g.0.0 g.0.1 h.0.0 h.0.1 fits a.1 b.1 d.1 f.1 g.1 h.1 h.2

pub index_found : (number : ℕ) (bytes : List ℕ) (c : IndexListing) → IsBytes bytes → index_commit number bytes ≡ Ok c → ((bytes ≡ index_commit_bytes number c) ⊎ (bytes ≡ old_index_commit_bytes number c)) × IsIndex c
unfolding index_commit
index_found number bytes c fits e =
    let a = bind_ok (unsealed bytes) (λ body. index_at number body) c e in
    let k = unsealed_found bytes a.0 a.1 in
    let body_fits : IsBytes a.0 = subst IsBytes (sym k.1) (IsBytes-take (length bytes - 32) bytes fits) in
    let l = index_body_found number a.0 c body_fits a.2 in (
      elim l.0 [
        | inl new ↦ inl (k.0 ∙ ap with_digest new)
        | inr old ↦ inr (k.0 ∙ ap with_digest old)
      ],
      l.1,
    )
