-- What a source told and what was read of it.
use Rattle.std.proofs.Common.{◌≡◌, ◌∙◌, ◌≤◌, ◌<◌, ℕ, ◌+◌, Bool, false, List, [], ◌++◌, length, Option, Some, None, Result, refl, sym, ap, subst, arith, append-nil, length-append}
use Rattle.std.specs.Prelude.{nat_lt, if◌then◌else◌}
use Rattle.std.proofs.lemmas.Bool.{lt-ltb, le-ltb}
use Rattle.std.specs.Io.KnownBytes.{Consumes, IsAtEnd}
use Rattle.facet_disk.specs.Images.{Image}
use Rattle.facet_io.specs.declared.source.Source.{Ghosts as SourceGhosts}
use Rattle.facet_words.specs.declared.fault.ScriptFault.{ScriptFault}
use Rattle.facet_words.specs.Commands.{Script}
use Rattle.facet_words.specs.Scripts.{script}
use Rattle.facet_serving.specs.Ends.{expected, script_status}
use Rattle.facet_serving.specs.Reading.{ReadsSome, ReadsTooMuch, ReadsWhole, script_limit}
use Rattle.facet_serving.specs.declared.status.Status.TheVariants.{TooLong}

-- ---- what was read, of bytes that are told

none_read : (known : Option (List ℕ)) → Consumes known known []
none_read None = tt
none_read (Some xs) = refl

all_read : (known left : Option (List ℕ)) (told input : List ℕ) → known ≡ Some told → Consumes known left input → IsAtEnd left → told ≡ input
all_read known None told input is read end = absurd (subst (λ (o : Option (List ℕ)). Consumes o None input) is read)
all_read known (Some rest) told input is read end =
    let parts : told ≡ input ++ rest = subst (λ (o : Option (List ℕ)). Consumes o (Some rest) input) is read in
    parts ∙ ap (λ (l : List ℕ). input ++ l) end ∙ append-nil input

no_fewer : (known left : Option (List ℕ)) (told input : List ℕ) → known ≡ Some told → Consumes known left input → length input ≤ length told
no_fewer known None told input is read = absurd (subst (λ (o : Option (List ℕ)). Consumes o None input) is read)
no_fewer known (Some rest) told input is read =
    let parts : told ≡ input ++ rest = subst (λ (o : Option (List ℕ)). Consumes o (Some rest) input) is read in
    let both : length told ≡ length input + length rest = ap (λ (l : List ℕ). length l) parts ∙ length-append input rest in
    omega (arith, both)

module _ {S : Type 0} (source : SourceGhosts S) where
  -- nothing was read
  pub reads_none : (from to : S) → to ≡ from → ReadsSome source from to
  reads_none from to same = subst (λ (s : S). ReadsSome source from s) (sym same) ([], (let few : 0 ≤ script_limit + 1 = omega arith in few), none_read (source.left from))

  -- ---- how a run over these bytes ends

  pub expected_too_long : (from to : S) → ReadsTooMuch source from to → (told : List ℕ) (image : Image) → source.left from ≡ Some told → TooLong ≡ expected told image
  expected_too_long from to read told image is =
      let more = no_fewer (source.left from) (source.left to) told read.0 is read.2 in
      let many : length read.0 ≡ script_limit + 1 = read.1 in
      let long : script_limit < length told = omega (arith, more, many) in
      ap (λ (b : Bool). if b then TooLong else script_status (script told) image) (sym (lt-ltb script_limit (length told) long))

  pub expected_whole : (from to : S) (input : List ℕ) (result : Result Script ScriptFault) → ReadsWhole source from to input → script input ≡ result → (told : List ℕ) (image : Image) → source.left from ≡ Some told
      → script_status result image ≡ expected told image
  expected_whole from to input result read ends told image is =
      let same = all_read (source.left from) (source.left to) told input is read.read read.end in
      let short : nat_lt script_limit (length told) ≡ false = le-ltb script_limit (length told) (subst (λ (l : List ℕ). length l ≤ script_limit) (sym same) read.fits) in
      sym (ap (λ (b : Bool). if b then TooLong else script_status (script told) image) short
      ∙ ap (λ (r : Result Script ScriptFault). script_status r image) (ap script same ∙ ends))
