use Rattle.std.proofs.Common.{rules, ◌<◌, length}
use Rattle.std.proofs.lemmas.Str.{is_utf8-from_IsUtf8}
use Rattle.seg_merge.proofs.Walking.{written_more}
use Rattle.seg_merge.proofs.terms.put_term.Goals as goal

pub returns : goal.returns
returns c = λ start terms written all.
    let some : 0 < length c.args.places.now = search rules in
    written_more start c.args.out.now.items c.put_text.new.out.items c.put_places.new.out.items c.args.count.now terms c.args.text.now c.args.places.now written all c.in_ok-put_text.ensures c.in_ok-put_places.ensures
    (record { length = c.requires; utf8 = is_utf8-from_IsUtf8 c.args.text.now c.utf8.text }) some
