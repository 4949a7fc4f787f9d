-- The parts of a search, in whichever order they are read.
use Rattle.std.proofs.Common.{◌≡◌, ℕ, Bool, true, false, if◌then◌else◌, List, [], Option, Some, None, refl, sym, ap, ◌∙◌}
use Rattle.std.specs.Prelude.{codes}
use Rattle.serde_json.specs.Data.{Data}
use Rattle.serde_json.specs.Find.{as_bool}
use Rattle.facet_model.specs.Asks.{Asked}
use Rattle.facet_model.specs.Queries.{QueryTree, all}
use Rattle.facet_words.specs.Commands.{Search}
use Rattle.facet_words.specs.CommandLines.{ask_of, most_hits, search_with}
use Rattle.facet_words.specs.Queries.{query_of}
use Rattle.facet_words.specs.SearchParts.{search_settings, settled_search}
use Rattle.facet_words.specs.Shapes.{◌>>=◌, when, whole_within, list_within, path, key_or, keys_among}
use Rattle.facet_words.specs.declared.parts.SearchSettings.{SearchSettings}

-- what cannot be read behind a part cannot be read with it
passed : {A B : Type 0} (o : Option A) (f : A → Option B) → ((x : A) → None ≡ f x) → None ≡ (o >>= f)
passed None f is = refl
passed (Some x) f is = is x

abbrev Drill : Type 0
Drill = List (List (List ℕ))

abbrev made : QueryTree → Drill → Bool → List Asked → Bool → Bool → ℕ → ℕ → Search
made q p s a w h f n = record { query = q; drill = p; sideways = s; asks = a; newest = w; show = h; from = f; hits = n }

-- in the order of the definition
abbrev joined : Option QueryTree → Option Drill → Option Bool → Option (List Asked) → Option Bool → Option Bool → Option ℕ → (Bool → Option ℕ) → Bool → Option Search
joined q p s a w h f n b = q >>= λ query. p >>= λ drill. s >>= λ sideways. a >>= λ asks. w >>= λ newest. h >>= λ show. f >>= λ from. n show >>= λ hits.
    when b (made query drill sideways asks newest show from hits)

abbrev settled : Option Bool → Option Bool → Option Bool → Option ℕ → (Bool → Option ℕ) → Option SearchSettings
settled s w h f n = s >>= λ sideways. w >>= λ newest. h >>= λ show. f >>= λ from. n show >>= λ hits.
    Some (record { sideways = sideways; newest = newest; show = show; from = from; hits = hits })

abbrev others : Option QueryTree → Option Drill → Option (List Asked) → SearchSettings → Option Search
others q p a t = q >>= λ query. p >>= λ drill. a >>= λ asks. Some (made query drill t.sideways asks t.newest t.show t.from t.hits)

without_keys : (q : Option QueryTree) (p : Option Drill) (s : Option Bool) (a : Option (List Asked)) (w h : Option Bool) (f : Option ℕ) (n : Bool → Option ℕ) → None ≡ joined q p s a w h f n false
without_keys q p s a w h f n =
    passed q _ (λ _. passed p _ (λ _. passed s _ (λ _. passed a _ (λ _. passed w _ (λ _. passed h _ (λ show. passed f _ (λ _. passed (n show) _ (λ _. refl))))))))

-- in two steps
in_two : (q : Option QueryTree) (p : Option Drill) (s : Option Bool) (a : Option (List Asked)) (w h : Option Bool) (f : Option ℕ) (n : Bool → Option ℕ) → (settled s w h f n >>= others q p a) ≡ joined q p s a w h f n true
in_two q p None a w h f n = passed q _ (λ _. passed p _ (λ _. refl))
in_two q p (Some s) a None h f n = passed q _ (λ _. passed p _ (λ _. passed a _ (λ _. refl)))
in_two q p (Some s) a (Some w) None f n = passed q _ (λ _. passed p _ (λ _. passed a _ (λ _. refl)))
in_two q p (Some s) a (Some w) (Some h) None n = passed q _ (λ _. passed p _ (λ _. passed a _ (λ _. refl)))
in_two q p (Some s) a (Some w) (Some h) (Some f) n = by (n h) refl
  where
    by : (o : Option ℕ) → n h ≡ o → (settled (Some s) (Some w) (Some h) (Some f) n >>= others q p a) ≡ joined q p (Some s) a (Some w) (Some h) (Some f) n true
    by None e = rw e (passed q _ (λ _. passed p _ (λ _. passed a _ (λ _. refl))))
    by (Some m) e = rw e refl

module _ (keys : List (List ℕ)) (d : Data) where
  abbrev query : Option QueryTree
  query = key_or (codes "query") all query_of d

  abbrev drill : Option Drill
  drill = key_or (codes "drill") [] (list_within 0 256 path) d

  abbrev flag : List ℕ → Option Bool
  flag name = key_or name false as_bool d

  abbrev asks : Option (List Asked)
  asks = key_or (codes "ask") [] (list_within 0 64 ask_of) d

  abbrev from : Option ℕ
  from = key_or (codes "from") 0 (whole_within 0 1000000) d

  abbrev hits : Bool → Option ℕ
  hits show = key_or (codes "hits") 10 (whole_within 0 (most_hits show)) d

  abbrev all_joined : Bool → Option Search
  all_joined b = joined query drill (flag (codes "sideways")) asks (flag (codes "newest")) (flag (codes "show")) from hits b

  search_joined : search_with keys d ≡ all_joined (keys_among keys d)
  unfolding search_with
  search_joined = refl

  pub no_other_keys : keys_among keys d ≡ false → None ≡ search_with keys d
  no_other_keys e = without_keys query drill (flag (codes "sideways")) asks (flag (codes "newest")) (flag (codes "show")) from hits ∙ ap all_joined (sym e) ∙ sym search_joined

  two_steps : (search_settings d >>= λ s. settled_search s d) ≡ all_joined true
  unfolding search_settings settled_search
  two_steps = in_two query drill (flag (codes "sideways")) asks (flag (codes "newest")) (flag (codes "show")) from hits

  -- a search is its settings and its other parts
  pub settled_parts : (o : Option SearchSettings) → o ≡ search_settings d → keys_among keys d ≡ true → (o >>= λ s. settled_search s d) ≡ search_with keys d
  settled_parts o is among = ap (λ (t : Option SearchSettings). t >>= λ s. settled_search s d) is ∙ two_steps ∙ ap all_joined (sym among) ∙ sym search_joined
