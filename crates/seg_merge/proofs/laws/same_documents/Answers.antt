use Rattle.seg_merge.proofs.Standing.{merged_decodes, merged_in_place}
use Rattle.seg_merge.proofs.laws.same_documents.Goals as goal

pub returns-clause-documents : goal.returns-clause-documents
returns-clause-documents c = merged_decodes

pub returns-clause-place : goal.returns-clause-place
returns-clause-place c = merged_in_place
