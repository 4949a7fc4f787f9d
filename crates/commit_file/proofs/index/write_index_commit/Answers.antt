use Rattle.std.proofs.Common.{rules, arith, ◌≡◌, ◌<◌, ◌^◌, ◌∙◌, length, map, ap, sym, subst}
use Rattle.std.specs.List.{AllByRecursion}
use Rattle.std.proofs.lemmas.List.{length-map}
use Rattle.facet_model.specs.Flags.{Config}
use Rattle.commit_file.specs.Commits.{declaration, documents_listed, kept_of}
use Rattle.commit_file.specs.Limits.{IsDeclaration}
use Rattle.commit_file.specs.Spelling.{index_commit_bytes}
use Rattle.commit_file.specs.Reading.{index_commit}
use Rattle.commit_file.proofs.Again.{index_again}
use Rattle.commit_file.proofs.index.write_index_commit.Goals as goal

pub returns-in-Ok-clause-again : goal.returns-in-Ok-clause-again
returns-in-Ok-clause-again c =
    let config = c.args.config.now in
    let kept : map declaration c.deref.result.now ≡ kept_of config = ap (map declaration) c.deref.ensures.value ∙ c.in_ok-kept.ensures.is in
    let bytes : c.in-Ok.bytes.items ≡ index_commit_bytes c.args.number (documents_listed c.args.needs (kept_of config) c.args.parts.now) = c.in-Ok.ensures.bytes ∙ ap (λ (ds : Config). index_commit_bytes c.args.number (documents_listed c.args.needs ds c.args.parts.now)) kept in
    let size : length (kept_of config) < 2 ^ 32 = omega (arith, ap length (sym c.in_ok-kept.ensures.is), length-map c.in_ok-kept.kept.items declaration, c.if-len.false, c.len.ensures) in
    ap (index_commit c.args.number) bytes
    ∙ index_again c.args.number c.args.needs config c.args.parts.now c.requires.number (search rules) (search rules) size (subst (AllByRecursion IsDeclaration) kept c.in-Ok.ensures.declarations) c.requires.few c.requires.parts c.requires.some c.requires.live c.in-Ok.ensures.documents
