-- A list of labels may cross threads.
use denote.Param.Send.{IsSend, sendable}
use Rattle.std.proofs.Crossing.{crosses as owned}
use Rattle.taxo_list.specs.contracts.taxonomy.Taxonomy as taxonomy
use Rattle.taxo_cache.proofs.Crossing.{path_send}
use Rattle.taxo_adding.specs.contracts.label_list.LabelList as list

taxonomy_send : IsSend taxonomy.the_row
taxonomy_send = search (sendable, owned, path_send) depth 40

pub list_send : IsSend list.the_row
list_send = search (sendable, owned, taxonomy_send) depth 20
