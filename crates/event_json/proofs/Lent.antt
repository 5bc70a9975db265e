-- Texts that a JSON value lends.
use Rattle.std.proofs.Common.{◌≡◌, ℕ, true, false, List, Option, Some, None, Ok, Err, refl}
use Rattle.serde_json.specs.Data.{Data}
use Rattle.serde_json.specs.Find.{as_str}
use Rattle.epc_core.specs.Items.{is_plain, key_of}
use Rattle.epc_core.specs.Reading.{reading, fault_of}
use Rattle.epc_core.specs.Spellings.{IsPlain}
use Rattle.epc_core.specs.declared.items.EpcFault.{EpcFault}
use Rattle.epc_core.proofs.Plain.{plain_from as none_plain, plain_to as plain_none, reading_plain}
use Rattle.event_json.proofs.Plain.{plain_decides}
use Rattle.event_json.specs.declared.doc_faults.DocField.{DocField}
use Rattle.event_json.specs.declared.doc_faults.DocFaultKind.TheVariants.{BadEpc}
use Rattle.event_json.specs.ItemLists.{epc_of}

-- a plain text is read as an item
pub plain_is_read : (text : List ℕ) → IsPlain text → reading text ≡ Ok (key_of text)
plain_is_read text plain = reading_plain text (plain_none text plain)

-- a plain text is an EPC text, and no other
pub epc_passes : (field : DocField) (d : Data) (text : List ℕ)
    → as_str d ≡ Some text → is_plain text ≡ true → epc_of field d ≡ Ok (key_of text)
unfolding epc_of
epc_passes field d text is plain = rw (is, plain_is_read text ((plain_decides text).0 plain)) refl

reading_refused : (text : List ℕ) (fault : EpcFault) → fault_of text ≡ Some fault → reading text ≡ Err fault
unfolding reading
reading_refused text fault h = rw h refl

pub epc_refused : (field : DocField) (d : Data) (text : List ℕ)
    → as_str d ≡ Some text → is_plain text ≡ false → epc_of field d ≡ Err (record { field = field; kind = BadEpc })
unfolding epc_of
epc_refused field d text is not =
    by (fault_of text) refl
  where
    by : (o : Option EpcFault) → fault_of text ≡ o → epc_of field d ≡ Err (record { field = field; kind = BadEpc })
    by None h =
        absurd (let plain : is_plain text ≡ true = (plain_decides text).1 (none_plain text h) in let no : ⊥ = cc in no)
    by (Some fault) h = rw (is, reading_refused text fault h) refl
