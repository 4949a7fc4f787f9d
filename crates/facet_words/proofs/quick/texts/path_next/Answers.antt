use Rattle.std.proofs.Common.{rules, ◌≡◌, ◌∷◌, ◌++◌, map}
use Rattle.json.specs.Token.{Token}
use Rattle.facet_words.proofs.QuickTexts.{path_tokens, path_reads}
use Rattle.facet_words.proofs.quick.texts.path_next.Goals as goal

pub returns-in-Some-clause-read : goal.returns-in-Some-clause-read
returns-in-Some-clause-read c =
    let begins : c.args.reader.now ≡ Token.begin_array ∷ (map (λ t. Token.string t) c.in-Some.dim ++ c.dim_next.new.reader) = search rules in
    path_tokens c.args.reader.now c.rest_next.new.reader (map (λ t. Token.string t) c.in-Some.dim ++ c.dim_next.new.reader) c.rest_next.result begins c.rest_next.ensures.read

pub returns-in-Some-clause-path : goal.returns-in-Some-clause-path
returns-in-Some-clause-path c = path_reads c.rest_next.result c.rest_next.ensures.fits
