-- A command without further keys, seen as plain data.
use Rattle.std.proofs.Common.{◌≡◌, Bool, true, false, [], ◌∷◌, option_map, refl}
use Rattle.std.specs.Prelude.{codes}
use Rattle.serde_json.specs.Data.{Data}
use Rattle.facet_words.specs.CommandLines.{plain_of}
use Rattle.facet_words.specs.Shapes.{when, keys_among}

pub plain_viewed : {A B : Type 0} (f : A → B) (command : A) (d : Data) → option_map f (plain_of command d) ≡ plain_of (f command) d
unfolding plain_of
plain_viewed f command d = by (keys_among (codes "cmd" ∷ codes "s" ∷ []) d)
  where
    by : (b : Bool) → option_map f (when b command) ≡ when b (f command)
    by true = refl
    by false = refl
