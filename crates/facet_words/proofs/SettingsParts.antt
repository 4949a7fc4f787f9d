-- The parts of the settings, in whichever order they are read.
use Rattle.std.proofs.Common.{◌≡◌, ℕ, Bool, true, false, [], ◌∷◌, Option, Some, None, refl, sym, ◌∙◌}
use Rattle.std.specs.Prelude.{codes, option_and_then}
use Rattle.serde_json.specs.Data.{Data}
use Rattle.serde_json.specs.Find.{as_bool}
use Rattle.facet_model.specs.Flags.{Config}
use Rattle.facet_words.specs.Commands.{Settings}
use Rattle.facet_words.specs.ConfigLines.{dimension_of, config_from, settings_of}
use Rattle.facet_words.specs.Shapes.{◌>>=◌, when, whole_within, list_of, key_or, keys_among}

abbrev made : Config → ℕ → ℕ → ℕ → ℕ → Bool → Settings
made c d l s n m = record { config = c; max_docs = d; max_labels = l; stripes = s; cache = n; auto_merge = m }

abbrev joined : Option Config → Option ℕ → Option ℕ → Option ℕ → Option ℕ → Option Bool → Bool → Option Settings
joined c d l s n m b = c >>= λ config. d >>= λ max_docs. l >>= λ max_labels. s >>= λ stripes. n >>= λ cache. m >>= λ auto_merge. when b (made config max_docs max_labels stripes cache auto_merge)

without_keys : (c : Option Config) (d l s n : Option ℕ) (m : Option Bool) → None ≡ joined c d l s n m false
without_keys None d l s n m = refl
without_keys (Some c) None l s n m = refl
without_keys (Some c) (Some d) None s n m = refl
without_keys (Some c) (Some d) (Some l) None n m = refl
without_keys (Some c) (Some d) (Some l) (Some s) None m = refl
without_keys (Some c) (Some d) (Some l) (Some s) (Some n) None = refl
without_keys (Some c) (Some d) (Some l) (Some s) (Some n) (Some m) = refl

without_docs : (c : Option Config) (l s n : Option ℕ) (m : Option Bool) (b : Bool) → None ≡ joined c None l s n m b
without_docs None l s n m b = refl
without_docs (Some c) l s n m b = refl

without_labels : (c : Option Config) (d s n : Option ℕ) (m : Option Bool) (b : Bool) → None ≡ joined c d None s n m b
without_labels None d s n m b = refl
without_labels (Some c) None s n m b = refl
without_labels (Some c) (Some d) s n m b = refl

without_stripes : (c : Option Config) (d l n : Option ℕ) (m : Option Bool) (b : Bool) → None ≡ joined c d l None n m b
without_stripes None d l n m b = refl
without_stripes (Some c) None l n m b = refl
without_stripes (Some c) (Some d) None n m b = refl
without_stripes (Some c) (Some d) (Some l) n m b = refl

without_cache : (c : Option Config) (d l s : Option ℕ) (m : Option Bool) (b : Bool) → None ≡ joined c d l s None m b
without_cache None d l s m b = refl
without_cache (Some c) None l s m b = refl
without_cache (Some c) (Some d) None s m b = refl
without_cache (Some c) (Some d) (Some l) None m b = refl
without_cache (Some c) (Some d) (Some l) (Some s) m b = refl

without_merge : (c : Option Config) (d l s n : Option ℕ) (b : Bool) → None ≡ joined c d l s n None b
without_merge None d l s n b = refl
without_merge (Some c) None l s n b = refl
without_merge (Some c) (Some d) None s n b = refl
without_merge (Some c) (Some d) (Some l) None n b = refl
without_merge (Some c) (Some d) (Some l) (Some s) None b = refl
without_merge (Some c) (Some d) (Some l) (Some s) (Some n) b = refl

module _ (line : Data) where
  abbrev keys : Bool
  keys = keys_among (codes "cmd" ∷ codes "dims" ∷ codes "max_docs" ∷ codes "max_labels" ∷ codes "stripes" ∷ codes "cache" ∷ codes "auto_merge" ∷ []) line

  abbrev declared : Option Config
  declared = option_and_then config_from (key_or (codes "dims") [] (list_of dimension_of) line)

  abbrev docs : Option ℕ
  docs = key_or (codes "max_docs") 1000000 (whole_within 1 1000000) line

  abbrev labels : Option ℕ
  labels = key_or (codes "max_labels") 1000000 (whole_within 1 1000000) line

  abbrev stripes : Option ℕ
  stripes = key_or (codes "stripes") 16 (whole_within 1 64) line

  abbrev cache : Option ℕ
  cache = key_or (codes "cache") 4096 (whole_within 1 65536) line

  abbrev merge : Option Bool
  merge = key_or (codes "auto_merge") false as_bool line

  settings_joined : settings_of line ≡ joined declared docs labels stripes cache merge keys
  unfolding settings_of
  settings_joined = by (key_or (codes "dims") [] (list_of dimension_of) line)
    where
      by : (dims : Option Config)
          → (dims >>= λ ds. config_from ds >>= λ config. docs >>= λ d. labels >>= λ l. stripes >>= λ s. cache >>= λ n. merge >>= λ m. when keys (made config d l s n m))
          ≡ joined (option_and_then config_from dims) docs labels stripes cache merge keys
      by None = refl
      by (Some ds) = refl

  pub no_other_keys : keys_among (codes "cmd" ∷ codes "dims" ∷ codes "max_docs" ∷ codes "max_labels" ∷ codes "stripes" ∷ codes "cache" ∷ codes "auto_merge" ∷ []) line ≡ false → None ≡ settings_of line
  no_other_keys e = without_keys declared docs labels stripes cache merge ∙ (λ i. joined declared docs labels stripes cache merge (sym e i)) ∙ sym settings_joined

  pub no_docs : key_or (codes "max_docs") 1000000 (whole_within 1 1000000) line ≡ None → None ≡ settings_of line
  no_docs e = without_docs declared labels stripes cache merge keys ∙ (λ i. joined declared (sym e i) labels stripes cache merge keys) ∙ sym settings_joined

  pub no_labels : key_or (codes "max_labels") 1000000 (whole_within 1 1000000) line ≡ None → None ≡ settings_of line
  no_labels e = without_labels declared docs stripes cache merge keys ∙ (λ i. joined declared docs (sym e i) stripes cache merge keys) ∙ sym settings_joined

  pub no_stripes : key_or (codes "stripes") 16 (whole_within 1 64) line ≡ None → None ≡ settings_of line
  no_stripes e = without_stripes declared docs labels cache merge keys ∙ (λ i. joined declared docs labels (sym e i) cache merge keys) ∙ sym settings_joined

  pub no_cache : key_or (codes "cache") 4096 (whole_within 1 65536) line ≡ None → None ≡ settings_of line
  no_cache e = without_cache declared docs labels stripes merge keys ∙ (λ i. joined declared docs labels stripes (sym e i) merge keys) ∙ sym settings_joined

  pub no_merge : key_or (codes "auto_merge") false as_bool line ≡ None → None ≡ settings_of line
  no_merge e = without_merge declared docs labels stripes cache keys ∙ (λ i. joined declared docs labels stripes cache (sym e i) keys) ∙ sym settings_joined

  pub no_config : option_and_then config_from (key_or (codes "dims") [] (list_of dimension_of) line) ≡ None → None ≡ settings_of line
  no_config e = (λ i. joined (sym e i) docs labels stripes cache merge keys) ∙ sym settings_joined

  pub all_parts : (c : Config) (d l s n : ℕ) (m : Bool) → keys_among (codes "cmd" ∷ codes "dims" ∷ codes "max_docs" ∷ codes "max_labels" ∷ codes "stripes" ∷ codes "cache" ∷ codes "auto_merge" ∷ []) line ≡ true
      → key_or (codes "max_docs") 1000000 (whole_within 1 1000000) line ≡ Some d → key_or (codes "max_labels") 1000000 (whole_within 1 1000000) line ≡ Some l
      → key_or (codes "stripes") 16 (whole_within 1 64) line ≡ Some s → key_or (codes "cache") 4096 (whole_within 1 65536) line ≡ Some n
      → key_or (codes "auto_merge") false as_bool line ≡ Some m → option_and_then config_from (key_or (codes "dims") [] (list_of dimension_of) line) ≡ Some c
      → Some (made c d l s n m) ≡ settings_of line
  all_parts c d l s n m among ds ls ss ns ms cs = (λ i. joined (sym cs i) (sym ds i) (sym ls i) (sym ss i) (sym ns i) (sym ms i) (sym among i)) ∙ sym settings_joined
