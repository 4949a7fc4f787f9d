-- A commit file is told as damaged only where its digest is another than the one that was kept.
use Rattle.std.proofs.Common.{◌≡◌, ◌∙◌, ℕ, zero, suc, Bool, true, false, cond, List, [], length, Result, Ok, Err, refl, sym, nat_lt, not}
use Rattle.std.proofs.lemmas.Result.{IfErr-at_err}
use Rattle.std.proofs.lemmas.Slice.Eq.{bytes_eq-Decides}
use Rattle.std.specs.Prelude.{◌≢◌, ◌==◌, ◌+◌, ◌&&◌, ◌||◌, IfErr}
use Rattle.std.specs.Ordering.{is_lt}
use Rattle.std.specs.Str.{bytes_eq}
use Rattle.sha2.specs.Sha256.{sha256}
use Rattle.facet_codec.specs.declared.fault.CodecFault.{CodecFault}
use Rattle.facet_codec.specs.Places.{Place}
use Rattle.facet_codec.specs.Reading.{◌>>=◌, u8_at, u32_at, u64_at, vint_at, bytes_at, text_at}
use Rattle.facet_disk.specs.declared.name.FileName.{FileName}
use Rattle.facet_model.specs.Words.{word_cmp}
use Rattle.commit_file.specs.declared.fault.FileFault.{FileFault}
use Rattle.commit_file.specs.declared.fault.FileFault.TheVariants.{Damaged, Malformed, NoMemory}
use Rattle.commit_file.specs.Commits.{end_of}
use Rattle.commit_file.specs.LiveBits.{bits_len, dead_in, are_bits}
use Rattle.commit_file.specs.LiveParts.{with_live}
use Rattle.commit_file.specs.Reading.{told, word_at, number_at, version_at, head_at, some_at, digest_at, each_at, ended, body_of, digest_in, unsealed, labels_at, first_at, count_at, label_part_at, label_parts_at, taxonomy_at, taxonomy_commit, flags_of, flags_at, dim_at, declaration_at, declarations_at, part_count_at, documents_at, bits_at, live_at, live_records_at, dead_at, part_at, parts_at, index_at, index_commit}
use Rattle.store_opening.specs.Faults.{IsSound}
use Rattle.store_opening.specs.Files.{of_file}

-- a digest that is told is another one
abbrev pub IsApart : FileFault → Type 0
IsApart (Damaged kept digest) = kept ≢ digest
IsApart (Malformed at) = Unit {0}
IsApart NoMemory = Unit {0}

abbrev Sound : {A : Type 0} → Result A FileFault → Type 0
Sound r = IfErr r IsApart

-- ---- steps of reading

bind_sound : {A B : Type 0} (r : Result A FileFault) (f : A → Result B FileFault) → Sound r → ((x : A) → Sound (f x)) → Sound (r >>= f)
bind_sound (Ok x) f one two = two x
bind_sound (Err e) f one two = one

told_sound : {A : Type 0} (r : Result A CodecFault) → Sound (told r)
told_sound (Ok x) = tt
told_sound (Err e) = tt

if_sound : {A : Type 0} (b : Bool) (r s : Result A FileFault) → Sound r → Sound s → Sound (cond b r s)
if_sound true r s one two = one
if_sound false r s one two = two

word_sound : (wanted : ℕ) (p : Place) → Sound (word_at wanted p)
unfolding word_at
word_sound wanted p = bind_sound (told (u32_at p)) _ (told_sound (u32_at p)) (λ n. if_sound (n.0 == wanted) (Ok n.1) (Err (Malformed p.at)) tt tt)

number_sound : (number : ℕ) (p : Place) → Sound (number_at number p)
unfolding number_at
number_sound number p = bind_sound (told (u64_at p)) _ (told_sound (u64_at p)) (λ n. if_sound (n.0 == 0 || not (n.0 == number)) (Err (Malformed p.at)) (Ok n.1) tt tt)

version_sound : (newest : ℕ) (p : Place) → Sound (version_at newest p)
unfolding version_at
version_sound newest p = bind_sound (told (u32_at p)) _ (told_sound (u32_at p)) (λ n. if_sound (n.0 == 0 || nat_lt newest n.0) (Err (Malformed p.at)) (Ok n) tt tt)

head_sound : (kind newest number : ℕ) (p : Place) → Sound (head_at kind newest number p)
unfolding head_at
head_sound kind newest number p =
    bind_sound (word_at kind p) _ (word_sound kind p) (λ m.
    bind_sound (version_at newest m) _ (version_sound newest m) (λ v.
    bind_sound (number_at number v.1) _ (number_sound number v.1) (λ start. tt)))

some_sound : (p : Place) → Sound (some_at p)
unfolding some_at
some_sound p = bind_sound (told (u32_at p)) _ (told_sound (u32_at p)) (λ n. if_sound (n.0 == 0) (Err (Malformed p.at)) (Ok n) tt tt)

each_sound : {A S : Type 0} (read : ℕ → S → Place → Result (A × Place) FileFault) (next : S → A → S) → ((n : ℕ) (state : S) (p : Place) → Sound (read n state p)) → (n : ℕ) (state : S) (p : Place) → Sound (each_at read next n state p)
unfolding each_at
each_sound read next one zero state p = tt
each_sound read next one (suc n) state p = bind_sound (read n state p) _ (one n state p) (λ x. bind_sound (each_at read next n (next state x.0) x.1) _ (each_sound read next one n (next state x.0) x.1) (λ y. tt))

ended_sound : {A : Type 0} (x : A) (p : Place) → Sound (ended x p)
ended_sound x p = if_sound (length p.rest == 0) (Ok x) (Err (Malformed p.at)) tt tt

-- ---- a taxonomy commit

labels_sound : (p : Place) → Sound (labels_at p)
unfolding labels_at
labels_sound p = bind_sound (told (u32_at p)) _ (told_sound (u32_at p)) (λ n. if_sound (nat_lt 1000000 n.0) (Err (Malformed p.at)) (Ok n) tt tt)

first_sound : (start : ℕ) (p : Place) → Sound (first_at start p)
unfolding first_at
first_sound start p = bind_sound (told (u32_at p)) _ (told_sound (u32_at p)) (λ n. if_sound (n.0 == start) (Ok n) (Err (Malformed p.at)) tt tt)

count_sound : (labels behind start : ℕ) (p : Place) → Sound (count_at labels behind start p)
unfolding count_at
count_sound labels behind start p = bind_sound (told (u32_at p)) _ (told_sound (u32_at p)) (λ n. if_sound (behind == 0 && not (start + n.0 == labels)) (Err (Malformed p.at)) (Ok n) tt tt)

label_part_sound : (labels behind start : ℕ) (p : Place) → Sound (label_part_at labels behind start p)
unfolding label_part_at
label_part_sound labels behind start p =
    bind_sound (told (u64_at p)) _ (told_sound (u64_at p)) (λ number.
    bind_sound (first_at start number.1) _ (first_sound start number.1) (λ first.
    bind_sound (count_at labels behind first.0 first.1) _ (count_sound labels behind first.0 first.1) (λ count.
    bind_sound (digest_at count.1) _ (told_sound _) (λ digest. tt))))

body_sound : (number : ℕ) (bytes : List ℕ) → Sound (taxonomy_at number bytes)
unfolding taxonomy_at
body_sound number bytes =
    bind_sound (head_at 0x4654434d 1 number (record { at = 0; rest = bytes })) _ (head_sound 0x4654434d 1 number _) (λ start.
    bind_sound (labels_at start.1) _ (labels_sound start.1) (λ labels.
    bind_sound (some_at labels.1) _ (some_sound labels.1) (λ n.
    bind_sound (label_parts_at labels.0 n.0 n.1) _ (each_sound (label_part_at labels.0) (λ _ part. end_of part) (label_part_sound labels.0) n.0 1 n.1) (λ parts. ended_sound _ parts.1))))

-- ---- an index commit

flags_sound : (p : Place) → Sound (flags_at p)
unfolding flags_at
flags_sound p = bind_sound (told (u8_at p)) _ (told_sound (u8_at p)) (λ n. if_sound (n.0 == 0 || nat_lt 7 n.0) (Err (Malformed p.at)) (Ok (flags_of n.0, n.1)) tt tt)

dim_sound : (before : List ℕ) (p : Place) → Sound (dim_at before p)
unfolding dim_at
dim_sound before p = bind_sound (told (text_at 1024 p)) _ (told_sound (text_at 1024 p)) (λ dim. if_sound (is_lt (word_cmp before dim.0)) (Ok dim) (Err (Malformed p.at)) tt tt)

declaration_sound : (before : List ℕ) (p : Place) → Sound (declaration_at before p)
unfolding declaration_at
declaration_sound before p = bind_sound (dim_at before p) _ (dim_sound before p) (λ dim. bind_sound (flags_at dim.1) _ (flags_sound dim.1) (λ flags. tt))

part_count_sound : (version : ℕ) (p : Place) → Sound (part_count_at version p)
unfolding part_count_at
part_count_sound version p = if_sound (version == 1) (some_at p) (told (u32_at p)) (some_sound p) (told_sound (u32_at p))

documents_sound : (version before : ℕ) (p : Place) → Sound (documents_at version before p)
unfolding documents_at
documents_sound version before p = bind_sound (told (u32_at p)) _ (told_sound (u32_at p)) (λ n. if_sound (version == 1 && nat_lt 1000000 (before + n.0)) (Err (Malformed p.at)) (Ok n) tt tt)

bits_sound : (documents live : ℕ) (p : Place) → Sound (bits_at documents live p)
unfolding bits_at
bits_sound documents live p = bind_sound (told (bytes_at (bits_len documents) p)) _ (told_sound _) (λ bits. if_sound (are_bits documents live bits.0) (Ok (dead_in documents bits.0, bits.1)) (Err (Malformed p.at)) tt tt)

live_sound : (documents before : ℕ) (p : Place) → Sound (live_at documents before p)
unfolding live_at
live_sound documents before p = bind_sound (told (u32_at p)) _ (told_sound (u32_at p)) (λ n. if_sound (n.0 == 0 || (nat_lt documents n.0 || nat_lt 1000000 (before + n.0))) (Err (Malformed p.at)) (Ok n) tt tt)

live_records_sound : (documents before : ℕ) (p : Place) → Sound (live_records_at documents before p)
unfolding live_records_at
live_records_sound documents before p = bind_sound (live_at documents before p) _ (live_sound documents before p) (λ live. if_sound (live.0 == documents) (Ok ([], live.1)) (bits_at documents live.0 live.1) tt (bits_sound documents live.0 live.1))

dead_sound : (version documents before : ℕ) (p : Place) → Sound (dead_at version documents before p)
unfolding dead_at
dead_sound version documents before p = if_sound (version == 1) (Ok ([], p)) (live_records_at documents before p) tt (live_records_sound documents before p)

part_sound : (version before : ℕ) (p : Place) → Sound (part_at version before p)
unfolding part_at
part_sound version before p =
    bind_sound (told (u64_at p)) _ (told_sound (u64_at p)) (λ number.
    bind_sound (documents_at version before number.1) _ (documents_sound version before number.1) (λ documents.
    bind_sound (digest_at documents.1) _ (told_sound _) (λ digest.
    bind_sound (dead_at version documents.0 before digest.1) _ (dead_sound version documents.0 before digest.1) (λ dead. tt))))

entries_sound : (number : ℕ) (bytes : List ℕ) → Sound (index_at number bytes)
unfolding index_at
entries_sound number bytes =
    bind_sound (head_at 0x4649434d 2 number (record { at = 0; rest = bytes })) _ (head_sound 0x4649434d 2 number _) (λ start.
    bind_sound (told (u32_at start.1)) _ (told_sound (u32_at start.1)) (λ needs.
    bind_sound (told (vint_at needs.1)) _ (told_sound (vint_at needs.1)) (λ declarations.
    bind_sound (declarations_at declarations.0 declarations.1) _ (each_sound (λ _. declaration_at) (λ _ d. d.0) (λ n. declaration_sound) declarations.0 [] declarations.1) (λ kept.
    bind_sound (part_count_at start.0 kept.1) _ (part_count_sound start.0 kept.1) (λ n.
    bind_sound (parts_at start.0 n.0 n.1) _ (each_sound (λ _. part_at start.0) with_live (λ n. part_sound start.0) n.0 0 n.1) (λ parts. ended_sound _ parts.1))))))

-- ---- whole files

differs : (xs ys : List ℕ) → bytes_eq xs ys ≡ false → xs ≢ ys
differs xs ys apart same = cc (sym apart ∙ (bytes_eq-Decides xs ys).1 same)

unsealed_sound : (bytes : List ℕ) → Sound (unsealed bytes)
unfolding unsealed
unsealed_sound bytes = if_sound (nat_lt (length bytes) 32) (Err (Malformed (length bytes))) _ tt (go (bytes_eq (digest_in bytes) (sha256 (body_of bytes))) refl)
  where
    go : (b : Bool) → bytes_eq (digest_in bytes) (sha256 (body_of bytes)) ≡ b → Sound (cond b (Ok (body_of bytes)) (Err (Damaged (digest_in bytes) (sha256 (body_of bytes)))))
    go true same = tt
    go false apart = differs (digest_in bytes) (sha256 (body_of bytes)) apart

pub taxonomy_sound : (number : ℕ) (bytes : List ℕ) → IfErr (taxonomy_commit number bytes) IsApart
unfolding taxonomy_commit
taxonomy_sound number bytes = bind_sound (unsealed bytes) _ (unsealed_sound bytes) (λ body. body_sound number body)

pub index_sound : (number : ℕ) (bytes : List ℕ) → IfErr (index_commit number bytes) IsApart
unfolding index_commit
index_sound number bytes = bind_sound (unsealed bytes) _ (unsealed_sound bytes) (λ body. entries_sound number body)

-- the fault of a file that was read, with its name
pub of_read : {A : Type 0} (name : FileName) (read : Result A FileFault) (e : FileFault) → IfErr read IsApart → (e ≢ NoMemory → read ≡ Err e) → IsSound (of_file name e)
of_read name read (Damaged kept digest) sound is = IfErr-at_err IsApart (is (λ same. cc same)) sound
of_read name read (Malformed at) sound is = tt
of_read name read NoMemory sound is = tt
