-- The first ask that is refused, of the asks from a place on.
use Rattle.std.proofs.Common.{◌≡◌, ℕ, zero, suc, ◌+◌, ◌<◌, List, [], ◌∷◌, length, drop, map, get_or, slice_get, Option, Some, None, option_map, refl, sym, ap, subst, ◌∙◌, arith, add-one}
use Rattle.std.specs.Prelude.{◌==◌, cond, filter_map}
use Rattle.std.proofs.Math.Seq.{drop-cons}
use Rattle.std.specs.List.{cons_option, enumerate_from}
use Rattle.std.proofs.lemmas.List.{length-map, get_or-map}
use Rattle.std.proofs.lemmas.Option.{same_Some, slice_get-map, slice_get_read}
use Rattle.facet_model.specs.AskViews.{ask_view}
use Rattle.facet_model.specs.Asks.{Asked, AskFault, ask_fault}
use Rattle.facet_model.specs.Flags.{Config}
use Rattle.facet_model.specs.declared.ask.Ask.{Ask}
use Rattle.sideways.specs.Refusals.{refused_ask, refusal_at}
use Rattle.sideways.specs.declared.ask.AskRefused.{AskRefused}

abbrev pub refused_from : Config → ℕ → List Ask → Option AskRefused
refused_from config i asks = slice_get (filter_map (refusal_at config) (enumerate_from i (drop i (map ask_view asks)))) 0

refusal_from : (config : Config) (asks : List Ask) (i : ℕ) (ask : Ask) → i < length asks → get_or asks i ask ≡ ask
    → refused_from config i asks ≡ slice_get (cons_option (refusal_at config (i, ask_view ask)) (filter_map (refusal_at config) (enumerate_from (i + 1) (drop (i + 1) (map ask_view asks))))) 0
refusal_from config asks i ask lt at =
    let step : drop i (map ask_view asks) ≡ ask_view ask ∷ drop (i + 1) (map ask_view asks) =
    rw (add-one) (drop-cons (map ask_view asks) i (ask_view ask) (omega (arith, lt, length-map asks ask_view))) ∙ ap (λ a. a ∷ drop (i + 1) (map ask_view asks)) (get_or-map ask_view asks i ask (ask_view ask) lt ∙ ap ask_view at) in
    ap (λ l. slice_get (filter_map (refusal_at config) (enumerate_from i l)) 0) step

pub refused_here : (config : Config) (asks : List Ask) (i : ℕ) (ask : Ask) (r : AskRefused) → i < length asks → get_or asks i ask ≡ ask → refusal_at config (i, ask_view ask) ≡ Some r → refused_from config i asks ≡ Some r
refused_here config asks i ask r lt at here = refusal_from config asks i ask lt at ∙ ap (λ o. slice_get (cons_option o (filter_map (refusal_at config) (enumerate_from (i + 1) (drop (i + 1) (map ask_view asks))))) 0) here

pub refused_later : (config : Config) (asks : List Ask) (i : ℕ) (ask : Ask) → i < length asks → get_or asks i ask ≡ ask → refusal_at config (i, ask_view ask) ≡ None → refused_from config i asks ≡ refused_from config (i + 1) asks
refused_later config asks i ask lt at here = refusal_from config asks i ask lt at ∙ ap (λ o. slice_get (cons_option o (filter_map (refusal_at config) (enumerate_from (i + 1) (drop (i + 1) (map ask_view asks))))) 0) here

-- where none is refused, none is at any place
pub fits_at : (config : Config) (asks : List Asked) (n i : ℕ) (asked : Asked) → slice_get (filter_map (refusal_at config) (enumerate_from n asks)) 0 ≡ None → slice_get asks i ≡ Some asked → ask_fault config asked ≡ None
fits_at config [] n i asked none at = absurd cc
fits_at config (a ∷ rest) n zero asked none at = by (ask_fault config a) none refl
  where
    here : a ≡ asked
    here = cc

    by : (o : Option AskFault) → slice_get (cons_option (option_map (refused_ask n) o) (filter_map (refusal_at config) (enumerate_from (n + 1) rest))) 0 ≡ None → ask_fault config a ≡ o → ask_fault config asked ≡ None
    by None none e = ap (ask_fault config) (sym here) ∙ e
    by (Some f) none e = absurd cc
fits_at config (a ∷ rest) n (suc i) asked none at = fits_at config rest (n + 1) i asked (by (option_map (refused_ask n) (ask_fault config a)) none) at
  where
    by : (o : Option AskRefused) → slice_get (cons_option o (filter_map (refusal_at config) (enumerate_from (n + 1) rest))) 0 ≡ None → slice_get (filter_map (refusal_at config) (enumerate_from (n + 1) rest)) 0 ≡ None
    by None none = none
    by (Some f) none = absurd cc

pub asked_at : (asks : List Ask) (i : ℕ) (ask : Ask) → i < length asks → ask ≡ get_or asks i ask → slice_get (map ask_view asks) i ≡ Some (ask_view ask)
asked_at asks i ask lt here = slice_get-map ask_view asks i ∙ ap (option_map ask_view) (slice_get_read asks (length asks) i ask refl lt here)

-- an ask that is not refused asks for some child
pub some_asked : (f : AskFault) (n : ℕ) → cond (n == 0) (Some f) None ≡ None → 0 < n
some_asked f zero h = absurd cc
some_asked f (suc n) h = omega arith

-- the ask at a place, whatever is said of it
pub same_asked : (asks : List Ask) (i : ℕ) (ask : Ask) (P : Asked → Type 0) → i < length asks → ask ≡ get_or asks i ask → P (ask_view ask) → (asked : Asked) → slice_get (map ask_view asks) i ≡ Some asked → P asked
same_asked asks i ask P lt here holds asked at = subst P (same_Some (ask_view ask) asked (sym (asked_at asks i ask lt here) ∙ at)) holds
