use Rattle.std.proofs.Common.{rules, arith, ◌≡◌, ◌∙◌, ◌<◌, ℕ, List, [], ◌∷◌, ◌++◌, Some, None, map, length, get_or, take, string_bytes, sym, ap}
use Rattle.std.proofs.lemmas.List.{length-map, get_or-map, take_more}
use Rattle.facet_model.specs.declared.flags.DimFlags.{DimFlags}
use Rattle.facet_config.specs.Faults.{declare_fault}
use Rattle.facet_config.specs.declared.fault.DeclareFault.TheVariants.{Twice}
use Rattle.facet_words.specs.declared.config_line.Dimension.{Dimension}
use Rattle.facet_words.proofs.Dimensions.{goes_on, stops, ends, twice_is_declared, none_is_new}
use Rattle.facet_words.proofs.config_line.declared.Goals as goal

abbrev plain : Dimension → List ℕ × DimFlags
plain d = (string_bytes d.name, d.flags)

pub returns-in-Err-Twice : goal.returns-in-Err-Twice
returns-in-Err-Twice c =
    let dims = map plain c.args.dims.now in
    let i = c.loop-dim.dim-index in
    let item = c.dim-item.result in
    let within : i < length dims = omega (arith, length-map c.args.dims.now plain, c.loop-dim-test.true) in
    let at : get_or dims i (plain item) ≡ plain item = get_or-map plain c.args.dims.now i item (plain item) c.loop-dim-test.true ∙ ap plain (sym c.dim-item.is) in
    let fault : declare_fault c.loop-dim.config c.as_str.result.now ≡ Some Twice = search (rules, c.in-Err-Twice.ensures.err, c.in-Err-Twice.field-0-is) in
    let same : declare_fault c.loop-dim.config c.as_str.result.now ≡ declare_fault (take i dims) (string_bytes item.name) = λ j. declare_fault (c.loop-dim.invariant.kept j) (c.as_str.ensures.value j) in
    stops dims i (plain item) (plain item) within at (twice_is_declared (take i dims) (string_bytes item.name) (sym same ∙ fault)) c.loop-dim.invariant.new

pub loop-dim-preserved : goal.loop-dim-preserved
loop-dim-preserved c =
    let dims = map plain c.args.dims.now in
    let i = c.loop-dim.dim-index in
    let item = c.dim-item.result in
    let within : i < length dims = omega (arith, length-map c.args.dims.now plain, c.loop-dim-test.true) in
    let at : get_or dims i (plain item) ≡ plain item = get_or-map plain c.args.dims.now i item (plain item) c.loop-dim-test.true ∙ ap plain (sym c.dim-item.is) in
    let same : declare_fault c.loop-dim.config c.as_str.result.now ≡ declare_fault (take i dims) (string_bytes item.name) = λ j. declare_fault (c.loop-dim.invariant.kept j) (c.as_str.ensures.value j) in
    let fits : declare_fault c.loop-dim.config c.as_str.result.now ≡ None = search (rules, c.in-Ok.ensures.fits) in
    record {
      kept = c.in-Ok.ensures.ok ∙ (λ j. c.loop-dim.invariant.kept j ++ (c.as_str.ensures.value j, item.flags) ∷ []) ∙ sym (take_more dims i (plain item) within ∙ ap (λ x. take i dims ++ x ∷ []) at);
      new = goes_on dims i (plain item) (plain item) _ within at (none_is_new (take i dims) (string_bytes item.name) (sym same ∙ fits)) c.loop-dim.invariant.new;
    }

pub returns : goal.returns
returns c =
    let dims = map plain c.args.dims.now in
    ends dims c.loop-dim.config c.loop-dim.dim-index (omega (arith, length-map c.args.dims.now plain, c.loop-dim-test.false)) c.loop-dim.invariant.kept c.loop-dim.invariant.new
