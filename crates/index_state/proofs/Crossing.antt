-- An index may cross threads, and what it shares may be shared by them.
use denote.Param.Send.{IsSend, IsSync, sendable}
use Rattle.std.proofs.Crossing.{crosses as owned}
use Rattle.arc_list.specs.contracts.list.ArcList as segments
use Rattle.chronicle.proofs.Crossing.{crosses as tokens}
use Rattle.facet_config.specs.contracts.config.FacetsConfig as config
use Rattle.facet_model.specs.contracts.document.Document as document
use Rattle.seg_file.specs.contracts.segment.Segment as segment
use Rattle.seg_terms.specs.contracts.entry.Entry as entry
use Rattle.taxo_cache.proofs.Crossing.{path_send}
use Rattle.index_state.specs.contracts.state.IndexState as state
use Rattle.index_state.specs.contracts.view.IndexView as view

pub segment_send : IsSend segment.the_row
segment_send = search (sendable, owned) depth 20

pub segment_sync : IsSync segment.the_row
segment_sync = search (sendable, owned) depth 20

pub segments_send : IsSend (segments.the_row segment.the_row)
segments_send = search (sendable, owned, segment_send, segment_sync) depth 20

pub segments_sync : IsSync (segments.the_row segment.the_row)
segments_sync = search (sendable, owned, segment_send, segment_sync) depth 20

pub document_send : IsSend document.the_row
document_send = search (sendable, owned, path_send) depth 20

entry_send : IsSend entry.the_row
entry_send = search (sendable, owned, document_send) depth 20

pub config_send : IsSend config.the_row
config_send = search (sendable, owned) depth 40

pub config_sync : IsSync config.the_row
config_sync = search (sendable, owned) depth 40

pub state_send : IsSend state.the_row
state_send = search (sendable, owned, tokens, segment_send, segment_sync, segments_send, entry_send, config_send, config_sync) depth 20

pub view_send : IsSend view.the_row
view_send = search (sendable, owned, tokens, segments_send) depth 20

-- for the answers of callers whose types hold an index or its parts
pub ruleset crosses = (segment_send, segment_sync, segments_send, segments_sync, config_send, config_sync, state_send, view_send)
