-- the first fault that is found is the one that a document is refused for
use Rattle.std.proofs.Common.{◌≡◌, ℕ, ◌+◌, Bool, true, false, if◌then◌else◌, List, [], ◌∷◌, ◌++◌, Option, Some, None, Result, Ok, Err, map, refl, sym, ap, ◌∙◌, append_assoc}
use Rattle.std.specs.Prelude.{⊤}
use Rattle.std.specs.List.{enumerate_from, flat_map}
use Rattle.std.proofs.lemmas.List.{map-append}
use Rattle.serde_json.specs.Data.{Data, Items, no_items, item}
use Rattle.serde_json.specs.Read.{read}
use Rattle.epc_core.specs.Items.{is_plain}
use Rattle.event_json.specs.Documents.{doc_of, document_of, event_list, events_of, few_events, numbered_event, text_document}
use Rattle.event_json.specs.EventReading.{event_of}
use Rattle.event_json.specs.Events.{Content}
use Rattle.event_json.specs.Faults.{◌>>=◌, at_event}
use Rattle.event_json.specs.Members.{each}
use Rattle.event_json.specs.Sites.{Site}
use Rattle.event_json.specs.Untraced.{in_order, outside_of}
use Rattle.event_json.specs.declared.bodies.Body.{Body}
use Rattle.event_json.specs.declared.bodies.Body.TheVariants.{Note, Ship, Make, Pack}
use Rattle.event_json.specs.declared.doc_faults.DocFault.{DocFault}
use Rattle.event_json.specs.declared.doc_faults.DocField.{DocField}
use Rattle.event_json.specs.declared.doc_faults.DocField.TheVariants as fields
use Rattle.event_json.specs.declared.doc_faults.Flaw.{Flaw}
use Rattle.document_lint.specs.EventFaults.{event_faults}
use Rattle.document_lint.specs.Findings.{at_number, event_findings, found_in, found_of, length_findings, losses, missed, names, near, nears, nears_of, parent_nears, strange, text_lint, told, value_lint}
use Rattle.document_lint.specs.Laws.{FirstFaultRefuses, first_fault, refused_for}
use Rattle.document_lint.specs.Locations.{or_outside, sites_meant, spelling, unlisted}
use Rattle.document_lint.specs.LostGoods.{is_unshipped, packs_nothing, ships_nowhere}
use Rattle.document_lint.specs.NearMisses.{near_text}
use Rattle.document_lint.specs.OtherPlaces.{is_other, other_place, other_places, place_text}
use Rattle.document_lint.specs.declared.findings.Finding.{Finding}
use Rattle.document_lint.specs.declared.findings.PlaceMember.{PlaceMember}
use Rattle.document_lint.specs.declared.findings.PlaceMember.TheVariants.{ReadPoint, BizLocation}
use Rattle.document_lint.specs.declared.findings.What.{What}
use Rattle.document_lint.specs.declared.findings.What.TheVariants.{ShipsNowhere, Outside, NotShipped, NothingPacked, NoEventId, NearMiss, OtherPlace}
use Rattle.document_lint.proofs.FirstFaults.{Lead, event_leads}

-- none of this is a fault
record NoFault (found : List What) : Type 0 where
  pub passed : (n : ℕ) (rest : List Finding) → first_fault (at_number n found ++ rest) ≡ first_fault rest

nothing : NoFault []
nothing = record { passed = λ n rest. refl }

one_more : (what : What) (found : List What) → ((n : ℕ) (rest : List Finding) → first_fault (record { event = n; what = what } ∷ rest) ≡ first_fault rest) → NoFault found → NoFault (what ∷ found)
one_more what found passes none = record { passed = λ n rest. passes n (at_number n found ++ rest) ∙ none.passed n rest }

both : (xs ys : List What) → NoFault xs → NoFault ys → NoFault (xs ++ ys)
both xs ys first second = record {
  passed = λ n rest.
      ap (λ (found : List Finding). first_fault (found ++ rest)) (map-append _ xs ys)
      ∙ ap first_fault (append_assoc (at_number n xs) (at_number n ys) rest) ∙ first.passed n (at_number n ys ++ rest) ∙ second.passed n rest;
}

maybe : (is : Bool) (what : What) → ((n : ℕ) (rest : List Finding) → first_fault (record { event = n; what = what } ∷ rest) ≡ first_fault rest) → NoFault (told is what)
maybe true what passes = one_more what [] passes nothing
maybe false what passes = nothing

spelled : (text : List ℕ) (meant : List Site) → NoFault (map (spelling text) meant)
spelled text [] = nothing
spelled text (s ∷ meant) = one_more (spelling text s) (map (spelling text) meant) (λ n rest. refl) (spelled text meant)

place : (text : List ℕ) (meant : List Site) → NoFault (or_outside text (map (spelling text) meant))
place text [] = one_more (Outside text) [] (λ n rest. refl) nothing
place text (s ∷ meant) = spelled text (s ∷ meant)

places : (sites : List Site) (texts : List (List ℕ)) → NoFault (flat_map (unlisted sites) texts)
places sites [] = nothing
places sites (text ∷ texts) = both (unlisted sites text) (flat_map (unlisted sites) texts) (place text (sites_meant sites text)) (places sites texts)

lost : (sites : List Site) (d : Data) (body : Body) → NoFault (losses sites d body)
lost sites d body =
    let nowhere = told (ships_nowhere d body) ShipsNowhere in
    let gone = flat_map (unlisted sites) (outside_of body) in
    let unshipped = told (is_unshipped d body) NotShipped in
    let unpacked = told (packs_nothing body) NothingPacked in
    both nowhere (gone ++ (unshipped ++ unpacked)) (maybe (ships_nowhere d body) ShipsNowhere (λ n rest. refl))
    (both gone (unshipped ++ unpacked) (places sites (outside_of body))
    (both unshipped unpacked (maybe (is_unshipped d body) NotShipped (λ n rest. refl)) (maybe (packs_nothing body) NothingPacked (λ n rest. refl))))

named : (id : Option (List ℕ)) → NoFault (names id)
named None = one_more NoEventId [] (λ n rest. refl) nothing
named (Some id) = nothing

missing : (field : DocField) (text : Option (List ℕ)) → NoFault (missed field text)
missing field None = nothing
missing field (Some text) = one_more (NearMiss field text) [] (λ n rest. refl) nothing

misses : (field : DocField) (items : List (List ℕ)) → NoFault (nears_of field items)
misses field [] = nothing
misses field (x ∷ items) = both (near field x) (nears_of field items) (missing field (near_text x)) (misses field items)

parents : (parent : Option (List ℕ)) → NoFault (parent_nears parent)
parents None = nothing
parents (Some x) = missing fields.ParentId (near_text x)

bodies : (body : Body) → NoFault (nears body)
bodies (Note items) = misses fields.EpcList items
bodies (Ship items sites outside) = misses fields.EpcList items
bodies (Make id ins outs) = both (nears_of fields.InputEpcList ins) (nears_of fields.OutputEpcList outs) (misses fields.InputEpcList ins) (misses fields.OutputEpcList outs)
bodies (Pack action parent children) = both (parent_nears parent) (nears_of fields.ChildEpcs children) (parents parent) (misses fields.ChildEpcs children)

other : (sites : List Site) (here : Option ℕ) (member : PlaceMember) (text : Option (List ℕ)) → NoFault (other_place sites here member text)
other sites here member None = nothing
other sites here member (Some text) = by (is_other sites here text) (is_plain text)
  where
    by : (t u : Bool) → NoFault (if t then (if u then OtherPlace member text ∷ [] else []) else [])
    by true true = one_more (OtherPlace member text) [] (λ n rest. refl) nothing
    by true false = nothing
    by false u = nothing

others : (sites : List Site) (here : Option ℕ) (d : Data) → NoFault (other_places sites here d)
others sites here d =
    both (other_place sites here ReadPoint (place_text ReadPoint d)) (other_place sites here BizLocation (place_text BizLocation d))
    (other sites here ReadPoint (place_text ReadPoint d)) (other sites here BizLocation (place_text BizLocation d))

kept_event : (sites : List Site) (here : Option ℕ) (d : Data) (e : Content) → NoFault (strange sites here d e)
kept_event sites here d e =
    let placed = other_places sites here d in
    let ended = both (nears e.body) placed (bodies e.body) (others sites here d) in
    both (losses sites d e.body) (names e.id ++ (nears e.body ++ placed)) (lost sites d e.body) (both (names e.id) (nears e.body ++ placed) (named e.id) ended)

-- ---- the events of a list

abbrev fault_in : Result (List (Option Content)) DocFault → Option DocFault
fault_in (Ok found) = None
fault_in (Err fault) = Some fault

behind_one : (first : Option Content) (rest : Result (List (Option Content)) DocFault) → fault_in (rest >>= λ others. Ok (first ∷ others)) ≡ fault_in rest
behind_one first (Ok others) = refl
behind_one first (Err fault) = refl

listed_faults : (sites : List Site) (here : Option ℕ) (n : ℕ) (items : Items)
    → first_fault (flat_map (event_findings sites here) (enumerate_from n (in_order items))) ≡ fault_in (each (numbered_event sites) n items)
listed_faults sites here n no_items = refl
listed_faults sites here n (item d ds) = by (event_of sites d) (event_leads sites d) (listed_faults sites here (n + 1) ds)
  where
    by : (read : Result (Option Content) Flaw) → Lead (event_faults d) read → first_fault (flat_map (event_findings sites here) (enumerate_from (n + 1) (in_order ds))) ≡ fault_in (each (numbered_event sites) (n + 1) ds)
        → first_fault (at_number n (found_of sites here d (at_event n read)) ++ flat_map (event_findings sites here) (enumerate_from (n + 1) (in_order ds)))
        ≡ fault_in (at_event n read >>= λ first. each (numbered_event sites) (n + 1) ds >>= λ rest. Ok (first ∷ rest))
    by (Err flaw) lead rest =
        ap (λ (faults : List What). first_fault (at_number n faults ++ flat_map (event_findings sites here) (enumerate_from (n + 1) (in_order ds)))) lead.1
    by (Ok None) lead rest = rest ∙ sym (behind_one None (each (numbered_event sites) (n + 1) ds))
    by (Ok (Some e)) lead rest =
        (kept_event sites here d e).passed n (flat_map (event_findings sites here) (enumerate_from (n + 1) (in_order ds))) ∙ rest
        ∙ sym (behind_one (Some e) (each (numbered_event sites) (n + 1) ds))

whole_fault : (read : Result (List (Option Content)) DocFault) → fault_in read ≡ refused_for (read >>= λ found. Ok (doc_of found))
whole_fault (Ok found) = refl
whole_fault (Err fault) = refl

value_faults : (sites : List Site) (here : Option ℕ) (d : Data) → first_fault (value_lint sites here d).findings ≡ refused_for (document_of sites d)
unfolding value_lint document_of events_of
value_faults sites here d = by (event_list d)
  where
    by_length : (items : Items) (few : Result ⊤ DocFault)
        → first_fault (length_findings few ++ flat_map (event_findings sites here) (enumerate_from 1 (in_order items)))
        ≡ refused_for (few >>= λ _. each (numbered_event sites) 1 items >>= λ found. Ok (doc_of found))
    by_length items (Err fault) = refl
    by_length items (Ok passed) = listed_faults sites here 1 items ∙ whole_fault (each (numbered_event sites) 1 items)

    by : (list : Result Items DocFault) → first_fault (found_in sites here list).findings ≡ refused_for (list >>= λ items. few_events items >>= λ _. events_of sites items)
    by (Err fault) = refl
    by (Ok items) = by_length items (few_events items)

read_faults : (sites : List Site) (here : Option ℕ) (text : List ℕ) (value : Option Data) → read text ≡ value → first_fault (text_lint sites here text).findings ≡ refused_for (text_document sites text)
unfolding text_lint text_document
read_faults sites here text None is = rw is refl
read_faults sites here text (Some d) is = rw is (value_faults sites here d)

pub first_is_told : FirstFaultRefuses
first_is_told sites here text = read_faults sites here text (read text) refl
