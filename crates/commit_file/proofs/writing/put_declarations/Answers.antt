use Rattle.std.proofs.Common.{rules, ◌≡◌, ◌<◌, ◌+◌, ◌++◌, ◌∷◌, [], false, length, map, take, get_or, ap, ◌∙◌}
use Rattle.std.proofs.lemmas.List.{take_more, map-append}
use Rattle.facet_config.specs.Declarations.{IsDimension}
use Rattle.commit_file.specs.declared.kept.Declaration.{Declaration}
use Rattle.commit_file.specs.Commits.{declaration}
use Rattle.commit_file.specs.Limits.{IsDeclaration}
use Rattle.commit_file.specs.Spelling.{declaration_bytes}
use Rattle.commit_file.proofs.Puts.{mapped_at}
use Rattle.commit_file.proofs.writing.put_declarations.Goals as goal
use Rattle.facet_codec.proofs.Lists.{each_push, bytes_push}

pub loop-one-preserved : goal.loop-one-preserved
loop-one-preserved c =
    let kept = c.args.kept.now in
    let i = c.loop-one.one-index in
    let blank : Declaration = record { dim = record { ref_ptr = (0, 0); now = [] }; flags = record { hierarchical = false; multi_valued = false; require_dim_count = false } } in
    let one = get_or kept i blank in
    let within : i < length kept = search rules in
    let longer : map declaration (take (i + 1) kept) ≡ map declaration (take i kept) ++ declaration one ∷ [] = ap (map declaration) (take_more kept i blank within) ∙ map-append declaration (take i kept) (one ∷ []) in
    rw longer (record {
      bytes = bytes_push declaration_bytes c.args.out.now.items c.loop-one.out.items c.put_declaration.new.out.items (map declaration (take i kept)) (declaration one) c.loop-one.invariant.bytes c.in_ok-put_declaration.ensures.bytes;
      fit = each_push IsDeclaration (map declaration (take i kept)) (declaration one) c.loop-one.invariant.fit c.in_ok-put_declaration.ensures.fits;
    })

pub put_declaration-requires : goal.put_declaration-requires
put_declaration-requires c =
    let blank : Declaration = record { dim = record { ref_ptr = (0, 0); now = [] }; flags = record { hierarchical = false; multi_valued = false; require_dim_count = false } } in
    mapped_at (λ d. IsDimension d.0) declaration c.args.kept.now c.loop-one.one-index blank c.requires (search rules)
