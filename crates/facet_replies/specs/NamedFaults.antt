-- The line of a fault with a name, and with details under some keys.
use Rattle.std.specs.Prelude.{ℕ, List, ◌∷◌, codes}
use Rattle.std.specs.Borrow.{Bor}
use Rattle.hex.specs.Hex.{encode_lower}
use Rattle.serde_json.specs.Data.{Data, string}
use Rattle.facet_replies.specs.ReplyLines.{Fields, fields, whole_data, json_line}
use Rattle.facet_replies.specs.declared.named_fault.Detail.{Detail}
use Rattle.facet_replies.specs.declared.named_fault.Detail.TheVariants.{Text, Number, Digest}

abbrev pub text_field : List ℕ → List ℕ → List ℕ × Data
text_field key text = (key, string text)

abbrev pub number_field : List ℕ → ℕ → List ℕ × Data
number_field key n = (key, whole_data n)

-- a digest is written in hexadecimal digits
abbrev pub digest_field : List ℕ → List ℕ → List ℕ × Data
digest_field key digest = (key, string (encode_lower digest))

-- ---- details

abbrev pub detail_data : Detail → Data
detail_data (Text text) = string text.now
detail_data (Number n) = whole_data n
detail_data (Digest digest) = string (encode_lower digest)

abbrev pub detail_field : Bor (List ℕ) × Detail → List ℕ × Data
detail_field d = (d.0.now, detail_data d.1)

-- the fault's name, and then these keys
unfoldable pub named_fault_data : List ℕ → Fields → Data
named_fault_data name details = fields ((codes "fault", string name) ∷ details)

-- the line of the fault
unfoldable pub named_fault_line : List ℕ → Fields → List ℕ
named_fault_line name details = json_line (named_fault_data name details)
