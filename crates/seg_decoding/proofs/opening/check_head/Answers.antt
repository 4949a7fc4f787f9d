use Rattle.std.proofs.Common.{◌≡◌, Ok, Err, refl, subst, arith}
use Rattle.std.proofs.lemmas.Bool.{eq-eqb, ne_eqb}
use Rattle.std.proofs.lemmas.Result.{err_from_is_err_and}
use Rattle.facet_codec.specs.Places.{Place}
use Rattle.facet_codec.specs.Reading.{u32_at}
use Rattle.seg_grammar.specs.Reading.{head_at}
use Rattle.seg_decoding.specs.Opening.{head_fits}
use Rattle.seg_decoding.proofs.opening.check_head.Goals as goal

pub returns-then-magic-ne1179862343 : goal.returns-then-magic-ne1179862343
unfolding head_fits head_at
returns-then-magic-ne1179862343 c = let m : u32_at (record { at = 0; rest = c.args.bytes.now }) ≡ Ok (c.in-Ok.magic, c.u32.new.self) = subst (λ (p : Place). u32_at p ≡ Ok (c.in-Ok.magic, c.u32.new.self)) c.new-cursor.ensures c.in-Ok.ensures in
    rw (m, ne_eqb c.in-Ok.magic 0x46534547 c.if-magic-ne1179862343.true) refl

pub returns-in-Err : goal.returns-in-Err
unfolding head_fits head_at
returns-in-Err c = let m : u32_at (record { at = 0; rest = c.args.bytes.now }) ≡ Err c.in-Err.field-0 = subst (λ (p : Place). u32_at p ≡ Err c.in-Err.field-0) c.new-cursor.ensures c.in-Err.ensures.0 in
    rw m refl

pub returns-in_err-version : goal.returns-in_err-version
unfolding head_fits head_at
returns-in_err-version c = let p = err_from_is_err_and c.from_residual.result c.from_residual.ensures.1 in
    let m : u32_at (record { at = 0; rest = c.args.bytes.now }) ≡ Ok (c.in-Ok.magic, c.u32.new.self) = subst (λ (p : Place). u32_at p ≡ Ok (c.in-Ok.magic, c.u32.new.self)) c.new-cursor.ensures c.in-Ok.ensures in
    rw (p.1, p.2, m, eq-eqb c.in-Ok.magic 0x46534547 (omega arith), c.in_err-version.ensures.0) refl

pub returns-then-version-ne1 : goal.returns-then-version-ne1
unfolding head_fits head_at
returns-then-version-ne1 c = let m : u32_at (record { at = 0; rest = c.args.bytes.now }) ≡ Ok (c.in-Ok.magic, c.u32.new.self) = subst (λ (p : Place). u32_at p ≡ Ok (c.in-Ok.magic, c.u32.new.self)) c.new-cursor.ensures c.in-Ok.ensures in
    rw (m, eq-eqb c.in-Ok.magic 0x46534547 (omega arith), c.in_ok-version.ensures, ne_eqb c.in_ok-version.version 1 c.if-version-ne1.true) refl

pub returns-in_err-number : goal.returns-in_err-number
unfolding head_fits head_at
returns-in_err-number c = let p = err_from_is_err_and c.from_residual-in_err-number.result c.from_residual-in_err-number.ensures.1 in
    let m : u32_at (record { at = 0; rest = c.args.bytes.now }) ≡ Ok (c.in-Ok.magic, c.u32.new.self) = subst (λ (p : Place). u32_at p ≡ Ok (c.in-Ok.magic, c.u32.new.self)) c.new-cursor.ensures c.in-Ok.ensures in
    rw (p.1, p.2, m, eq-eqb c.in-Ok.magic 0x46534547 (omega arith), c.in_ok-version.ensures, eq-eqb c.in_ok-version.version 1 (omega arith), c.in_err-number.ensures.0) refl

pub returns-then-number-documents : goal.returns-then-number-documents
unfolding head_fits head_at
returns-then-number-documents c =
    let m : u32_at (record { at = 0; rest = c.args.bytes.now }) ≡ Ok (c.in-Ok.magic, c.u32.new.self) = subst (λ (p : Place). u32_at p ≡ Ok (c.in-Ok.magic, c.u32.new.self)) c.new-cursor.ensures c.in-Ok.ensures in
    rw (m, eq-eqb c.in-Ok.magic 0x46534547 (omega arith), c.in_ok-version.ensures, eq-eqb c.in_ok-version.version 1 (omega arith), c.in_ok-number.ensures, ne_eqb c.in_ok-number.number c.args.documents c.if-number-documents.true) refl

pub returns : goal.returns
unfolding head_fits head_at
returns c =
    let m : u32_at (record { at = 0; rest = c.args.bytes.now }) ≡ Ok (c.in-Ok.magic, c.u32.new.self) = subst (λ (p : Place). u32_at p ≡ Ok (c.in-Ok.magic, c.u32.new.self)) c.new-cursor.ensures c.in-Ok.ensures in
    rw (m, eq-eqb c.in-Ok.magic 0x46534547 (omega arith), c.in_ok-version.ensures, eq-eqb c.in_ok-version.version 1 (omega arith), c.in_ok-number.ensures, eq-eqb c.in_ok-number.number c.args.documents (omega arith)) refl
