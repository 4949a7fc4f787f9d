-- Bytes with their digest behind them.
use Rattle.std.proofs.Common.{◌≡◌, ℕ, zero, suc, ◌+◌, ◌-◌, ◌*◌, List, ◌++◌, length, Ok, refl, length-append, arith}
use Rattle.std.specs.Prelude.{slice_index}
use Rattle.std.specs.Int.{w32, to_be_bytes}
use Rattle.std.specs.Cmp.Lexicographic.{bytes_decides}
use Rattle.std.proofs.lemmas.Bool.{le-ltb}
use Rattle.std.proofs.lemmas.List.{take_at, drop_at}
use Rattle.sha2.specs.Sha256.{sha256, digest_bytes, final_hash, initial_hash_256}
use Rattle.commit_file.specs.Spelling.{with_digest}
use Rattle.commit_file.specs.Reading.{unsealed, body_of, digest_in}

words_length : (h : List ℕ) (n : ℕ) → length (digest_bytes h n) ≡ n * 4
unfolding digest_bytes
words_length h zero = refl
words_length h (suc n) =
    let four : length (to_be_bytes w32 (slice_index h n)) ≡ 4 = refl in
    omega (arith, words_length h n, four, length-append (digest_bytes h n) (to_be_bytes w32 (slice_index h n)))

digest_length : (m : List ℕ) → length (sha256 m) ≡ 32
unfolding sha256
digest_length m = words_length (final_hash initial_hash_256 m) 8

pub unsealed_again : (body : List ℕ) → unsealed (with_digest body) ≡ Ok body
unfolding unsealed
unsealed_again body =
    let d = sha256 body in
    let size : length (body ++ d) ≡ length body + 32 = omega (arith, length-append body d, digest_length body) in
    let at : length body ≡ length (body ++ d) - 32 = omega (arith, size) in
    let front : body_of (body ++ d) ≡ body = take_at body d (length (body ++ d) - 32) at in
    let last : digest_in (body ++ d) ≡ d = drop_at body d (length (body ++ d) - 32) at in
    rw (le-ltb (length (body ++ d)) 32 (omega (arith, size)), front, last, (bytes_decides d d).1 refl) refl
