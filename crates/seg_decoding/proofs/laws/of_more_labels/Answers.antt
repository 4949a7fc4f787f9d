use Rattle.seg_decoding.proofs.Longer.{docs_stay, opened_longer}
use Rattle.seg_decoding.proofs.laws.of_more_labels.Goals as goal

pub returns-clause-opened : goal.returns-clause-opened
returns-clause-opened c = λ config known longer needs documents bytes list_known list_longer on low. opened_longer config known longer list_known list_longer on needs low documents bytes

pub returns-clause-documents : goal.returns-clause-documents
returns-clause-documents c = λ config known longer segments docs list_known list_longer on decodes. docs_stay config known longer list_known list_longer on segments docs decodes
