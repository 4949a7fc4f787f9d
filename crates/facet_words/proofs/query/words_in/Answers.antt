use Rattle.std.proofs.Common.{◌≡◌, true, List, ℕ, All, sym, subst}
use Rattle.serde_json.specs.View.{view}
use Rattle.facet_model.specs.Words.{is_word}
use Rattle.facet_words.proofs.WordLengths.{are_words, short_text}
use Rattle.facet_words.proofs.query.words_in.Goals as goal

pub all_of-requires : goal.all_of-requires
all_of-requires c =
    subst (λ (ws : List (List ℕ)). All (λ w. is_word w ≡ true) ws) (sym c.in_ok-words.ensures)
    (are_words c.in-Some-text_in.text.now (short_text (view c.in-Some.found.now) c.in-Some-text_in.text.now c.in-Some-text_in.ensures))
