-- The list of labels may cross threads, and a view may be shared by them too.
use denote.Param.Send.{IsSend, IsSync, sendable}
use Rattle.std.proofs.Crossing.{crosses as owned}
use Rattle.facet_names.specs.contracts.path.Path as path
use Rattle.label_pieces.specs.contracts.piece.Piece as piece
use Rattle.taxo_list.specs.contracts.view.TaxoView as view

path_send : IsSend path.the_row
path_send = search (sendable, owned) depth 20

path_sync : IsSync path.the_row
path_sync = search (sendable, owned) depth 20

piece_send : IsSend piece.the_row
piece_send = search (sendable, owned, path_send) depth 40

piece_sync : IsSync piece.the_row
piece_sync = search (sendable, owned, path_sync) depth 40

pub view_send : IsSend view.the_row
view_send = search (sendable, owned, piece_send, piece_sync) depth 40

pub view_sync : IsSync view.the_row
view_sync = search (sendable, owned, piece_send, piece_sync) depth 40

-- for the answers of callers whose types hold a view
pub ruleset crosses = (view_send, view_sync)
