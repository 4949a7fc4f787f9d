use Rattle.std.proofs.Common.{refl}
use Rattle.chronicle.proofs.Prefixes.{prefix_self}
use Rattle.taxo_adding.proofs.Entering.{adds_none}
use Rattle.taxo_adding.proofs.resolving.add_behind.Goals as goal

pub returns-in_err-ords-clause-adds : goal.returns-in_err-ords-clause-adds
returns-in_err-ords-clause-adds c = let token = c.args.token.now in adds_none c.args.path.now c.args.limit token token (prefix_self token.seen, refl)

pub returns-in_err-extend_from_slice-clause-adds : goal.returns-in_err-extend_from_slice-clause-adds
returns-in_err-extend_from_slice-clause-adds c = let token = c.args.token.now in adds_none c.args.path.now c.args.limit token token (prefix_self token.seen, refl)
