-- The laws of a document's reading.
use Rattle.std.proofs.Common.{◌≡◌, ◌↔◌, ◌⊎◌, inl, inr, ℕ, zero, suc, ◌+◌, ◌<◌, ◌≤◌, Bool, true, false, cond, List, [], ◌∷◌, length, Option, Some, None, Result, Ok, Err, refl, sym, ap, ◌∙◌, subst, arith, zero-add}
use Rattle.std.specs.Prelude.{filter, filter_map, is_none, slice_get, IsOk, nat_lt, ◌==◌}
use Rattle.std.proofs.lemmas.Option.{same_Some}
use Rattle.std.proofs.lemmas.Bool.{ltb-false, ltb-true, ne_eqb}
use Rattle.serde_json.specs.Data.{Data, Items, no_items, item}
use Rattle.event_json.specs.declared.bodies.Body.TheVariants.{Note, Ship}
use Rattle.event_json.specs.declared.doc_faults.DocField.TheVariants as fields
use Rattle.event_json.specs.declared.doc_faults.DocFaultKind.TheVariants as kinds
use Rattle.event_json.specs.declared.doc_faults.Flaw.{Flaw}
use Rattle.event_json.specs.declared.doc_faults.DocFault.{DocFault}
use Rattle.event_json.specs.declared.documents.Doc.{Doc}
use Rattle.event_json.specs.Documents.{whole, event_list, few_events, numbered_event, doc_of, events_of, document_of}
use Rattle.event_json.specs.EventReading.{event_of, shipment}
use Rattle.event_json.specs.Events.{Content}
use Rattle.event_json.specs.Faults.{◌>>=◌, at_event}
use Rattle.event_json.specs.Laws.{member_at, IsRead, IsFirstFault, IsDealt}
use Rattle.event_json.specs.Members.{each, count_of}
use Rattle.event_json.specs.Sites.{Site, addressed}
use Rattle.event_json.proofs.Carried.{each_count}
use Rattle.event_json.proofs.Lists.{parted}

pub same_ok : {A E : Type 0} (x y : A) → ◌≡◌ {A = Result A E} (Ok x) (Ok y) → x ≡ y
same_ok x y e = cc

same_err : {A E : Type 0} (x y : E) → ◌≡◌ {A = Result A E} (Err x) (Err y) → x ≡ y
same_err x y e = cc

-- what is found of a numbered event is what is found of the event
pub unnumbered : {A : Type 0} (n : ℕ) (read : Result A Flaw) (x : A) → at_event n read ≡ Ok x → read ≡ Ok x
unnumbered n (Ok y) x e = ap Ok (same_ok _ _ e)
unnumbered n (Err flaw) x e = absurd (let no : ⊥ = cc in no)

-- two steps that both found something
pub both_found : {A E : Type 0} (first : Result A E) (rest : Result (List A) E) (xs : List A) → (first >>= λ y. rest >>= λ ys. Ok (y ∷ ys)) ≡ Ok xs
    → (y : A) × (ys : List A) × (first ≡ Ok y) × (rest ≡ Ok ys) × (xs ≡ y ∷ ys)
both_found (Ok y) (Ok ys) xs e = (y, ys, refl, refl, sym (same_ok _ _ e))
both_found (Ok y) (Err fault) xs e = absurd (let no : ⊥ = cc in no)
both_found (Err fault) rest xs e = absurd (let no : ⊥ = cc in no)

-- what is found stands at each place
each_at : (sites : List Site) (n : ℕ) (items : Items) (found : List (Option Content)) → each (numbered_event sites) n items ≡ Ok found
    → (place : ℕ) (d : Data) → member_at items place ≡ Some d → (e : Option Content) × (slice_get found place ≡ Some e) × (event_of sites d ≡ Ok e)
each_at sites n no_items found h place d at = absurd (let no : ⊥ = cc in no)
each_at sites n (item x xs) found h zero d at =
    let parts = both_found _ _ found h in
    let same : x ≡ d = same_Some x d at in
    (parts.0, subst (λ l. slice_get l zero ≡ Some parts.0) (sym parts.4) refl, subst (λ v. event_of sites v ≡ Ok parts.0) same (unnumbered n _ _ parts.2))
each_at sites n (item x xs) found h (suc place) d at =
    let parts = both_found _ _ found h in
    let rest = each_at sites (n + 1) xs parts.1 parts.3 place d at in
    (rest.0, subst (λ l. slice_get l (suc place) ≡ Some rest.0) (sym parts.4) rest.1, rest.2)

-- the list that a document was made of
pub doc_found : (found : Result (List (Option Content)) DocFault) (doc : Doc) → (found >>= λ f. Ok (doc_of f)) ≡ Ok doc → (f : List (Option Content)) × (found ≡ Ok f) × (doc_of f ≡ doc)
doc_found (Ok f) doc e = (f, refl, same_ok _ _ e)
doc_found (Err fault) doc e = absurd (let no : ⊥ = cc in no)

pub events_read : (sites : List Site) (items : Items) (doc : Doc) → events_of sites items ≡ Ok doc → IsRead sites items doc
unfolding events_of
events_read sites items doc h =
    let from = doc_found _ doc h in
    record {
      found = from.0;
      counted = each_count (numbered_event sites) 1 items from.0 from.1;
      each = each_at sites 1 items from.0 from.1;
      kept = ap (λ (d : Doc). d.events) (sym from.2);
      skipped = ap (λ (d : Doc). d.skipped) (sym from.2);
    }

-- a fault of a numbered event is the event's flaw
fault_at : {A : Type 0} (n : ℕ) (read : Result A Flaw) (fault : DocFault) → at_event n read ≡ Err fault
    → (flaw : Flaw) × (read ≡ Err flaw) × (fault ≡ record { event = n; field = flaw.field; kind = flaw.kind })
fault_at n (Ok x) fault e = absurd (let no : ⊥ = cc in no)
fault_at n (Err flaw) fault e = (flaw, refl, sym (same_err _ _ e))

-- two steps of which the first or the second failed
one_failed : {A E : Type 0} (first : Result A E) (rest : Result (List A) E) (e : E) → (first >>= λ y. rest >>= λ ys. Ok (y ∷ ys)) ≡ Err e
    → (first ≡ Err e) ⊎ ((y : A) × (first ≡ Ok y) × (rest ≡ Err e))
one_failed (Ok y) (Ok ys) e h = absurd (let no : ⊥ = cc in no)
one_failed (Ok y) (Err f) e h = inr (y, refl, ap Err (same_err _ _ h))
one_failed (Err f) rest e h = inl (ap Err (same_err _ _ h))

-- the first event that fails, in a list whose first event has the number n
record FailsFrom (sites : List Site) (n : ℕ) (items : Items) (fault : DocFault) : Type 0 where
  pub place : ℕ
  pub value : Data
  pub flaw : Flaw
  pub stands : member_at items place ≡ Some value
  pub refused : event_of sites value ≡ Err flaw
  pub before : (earlier : ℕ) (d : Data) → earlier < place → member_at items earlier ≡ Some d → IsOk (event_of sites d)
  pub told : fault ≡ record { event = place + n; field = flaw.field; kind = flaw.kind }

is_ok : {A E : Type 0} (r : Result A E) (x : A) → r ≡ Ok x → IsOk r
is_ok r x h = rw h refl

shift : (place n : ℕ) → place + (n + 1) ≡ suc place + n
shift place n = omega arith

fails_from : (sites : List Site) (n : ℕ) (items : Items) (fault : DocFault) → each (numbered_event sites) n items ≡ Err fault → FailsFrom sites n items fault
fails_from sites n no_items fault h = absurd (let no : ⊥ = cc in no)
fails_from sites n (item x xs) fault h =
    by (one_failed _ _ fault h) (fails_from sites (n + 1) xs fault)
  where
    now : (flaw : Flaw) → event_of sites x ≡ Err flaw → fault ≡ record { event = n; field = flaw.field; kind = flaw.kind } → FailsFrom sites n (item x xs) fault
    now flaw refused told = record {
      place = 0;
      value = x;
      flaw = flaw;
      stands = refl;
      refused = refused;
      before = λ earlier d lt at. absurd (let no : ⊥ = omega arith in no);
      told = told ∙ ap (λ (k : ℕ). record { event = k; field = flaw.field; kind = flaw.kind }) (sym (zero-add n));
    }

    earlier_pass : (place : ℕ) (e : Option Content) → event_of sites x ≡ Ok e → ((k : ℕ) (d : Data) → k < place → member_at xs k ≡ Some d → IsOk (event_of sites d))
        → (k : ℕ) (d : Data) → k < suc place → member_at (item x xs) k ≡ Some d → IsOk (event_of sites d)
    earlier_pass place e passes rest zero d lt at = subst (λ v. IsOk (event_of sites v)) (same_Some x d at) (is_ok _ e passes)
    earlier_pass place e passes rest (suc k) d lt at = rest k d (omega arith) at

    later : (e : Option Content) → event_of sites x ≡ Ok e → FailsFrom sites (n + 1) xs fault → FailsFrom sites n (item x xs) fault
    later e passes f = record {
      place = suc f.place;
      value = f.value;
      flaw = f.flaw;
      stands = f.stands;
      refused = f.refused;
      before = earlier_pass f.place e passes f.before;
      told = f.told ∙ ap (λ (k : ℕ). record { event = k; field = f.flaw.field; kind = f.flaw.kind }) (shift f.place n);
    }

    by : (numbered_event sites n x ≡ Err fault) ⊎ ((y : Option Content) × (numbered_event sites n x ≡ Ok y) × (each (numbered_event sites) (n + 1) xs ≡ Err fault))
        → (each (numbered_event sites) (n + 1) xs ≡ Err fault → FailsFrom sites (n + 1) xs fault) → FailsFrom sites n (item x xs) fault
    by (inl e) rest = let f = fault_at n _ fault e in now f.0 f.1 f.2
    by (inr e) rest = later e.0 (unnumbered n _ _ e.1) (rest e.2)

doc_failed : (found : Result (List (Option Content)) DocFault) (fault : DocFault) → (found >>= λ f. Ok (doc_of f)) ≡ Err fault → found ≡ Err fault
doc_failed (Ok f) fault e = absurd (let no : ⊥ = cc in no)
doc_failed (Err g) fault e = ap Err (same_err _ _ e)

pub first_fault : (sites : List Site) (items : Items) (fault : DocFault) → events_of sites items ≡ Err fault → IsFirstFault sites items fault
unfolding events_of
first_fault sites items fault h =
    let f = fails_from sites 1 items fault (doc_failed _ fault h) in
    record { place = f.place; value = f.value; flaw = f.flaw; stands = f.stands; refused = f.refused; before = f.before; told = f.told }

refused_not_ok : {A E : Type 0} (r : Result A E) (e : E) → r ≡ Err e → IsOk r → ⊥
refused_not_ok (Ok x) e h ok = let no : ⊥ = cc in no
refused_not_ok (Err f) e h ok = let no : ⊥ = cc in no

pub all_pass : (sites : List Site) (items : Items) → IsOk (events_of sites items) ↔ ((place : ℕ) (d : Data) → member_at items place ≡ Some d → IsOk (event_of sites d))
all_pass sites items =
    (λ ok. passes (events_of sites items) refl ok, λ pass. whole (events_of sites items) refl pass)
  where
    passes : (r : Result Doc DocFault) → events_of sites items ≡ r → IsOk (events_of sites items) → (place : ℕ) (d : Data) → member_at items place ≡ Some d → IsOk (event_of sites d)
    passes (Ok doc) e ok place d at = let found = (events_read sites items doc e).each place d at in is_ok _ found.0 found.2
    passes (Err fault) e ok place d at = absurd (refused_not_ok _ fault e ok)

    whole : (r : Result Doc DocFault) → events_of sites items ≡ r → ((place : ℕ) (d : Data) → member_at items place ≡ Some d → IsOk (event_of sites d)) → IsOk (events_of sites items)
    whole (Ok doc) e pass = is_ok _ doc e
    whole (Err fault) e pass = let first = first_fault sites items fault e in absurd (refused_not_ok _ first.flaw first.refused (pass first.place first.value first.stands))

-- ---- counting

kept_or_skipped : (found : List (Option Content)) → length (filter_map (λ e. e) found) + length (filter is_none found) ≡ length found
kept_or_skipped found = parted (λ e. e) found

read_counted : (sites : List Site) (items : Items) (doc : Doc) → events_of sites items ≡ Ok doc → length doc.events + doc.skipped ≡ count_of items
read_counted sites items doc h =
    let read = events_read sites items doc h in
    (λ i. length (read.kept i) + read.skipped i) ∙ (kept_or_skipped read.found ∙ read.counted)

-- whether a list has few events
few : (items : Items) → ((few_events items ≡ Ok tt) × (count_of items ≤ 1000)) ⊎ ((few_events items ≡ Err (whole fields.EventList kinds.TooManyEvents)) × (1000 < count_of items))
unfolding few_events
few items =
    by (nat_lt 1000 (count_of items)) refl
  where
    by : (b : Bool) → nat_lt 1000 (count_of items) ≡ b
        → ((few_events items ≡ Ok tt) × (count_of items ≤ 1000)) ⊎ ((few_events items ≡ Err (whole fields.EventList kinds.TooManyEvents)) × (1000 < count_of items))
    by false e = inl (rw e refl, ltb-false _ _ e)
    by true e = inr (rw e refl, ltb-true _ _ e)

pub read_of : (sites : List Site) (d : Data) (doc : Doc) → document_of sites d ≡ Ok doc
    → (items : Items) × (event_list d ≡ Ok items) × (count_of items ≤ 1000) × (events_of sites items ≡ Ok doc) × (length doc.events + doc.skipped ≡ count_of items)
unfolding document_of
read_of sites d doc h =
    by (event_list d) refl
  where
    no_list : (fault : DocFault) → event_list d ≡ Err fault → ⊥
    no_list fault e = let failed : document_of sites d ≡ Err fault = rw e refl in let no : ⊥ = cc in no

    within : (items : Items) → event_list d ≡ Ok items → ((few_events items ≡ Ok tt) × (count_of items ≤ 1000)) ⊎ ((few_events items ≡ Err (whole fields.EventList kinds.TooManyEvents)) × (1000 < count_of items))
        → (its : Items) × (event_list d ≡ Ok its) × (count_of its ≤ 1000) × (events_of sites its ≡ Ok doc) × (length doc.events + doc.skipped ≡ count_of its)
    within items e (inl f) =
        let same : document_of sites d ≡ events_of sites items = rw (e, f.0) refl in
        let read = sym same ∙ h in
        (items, e, f.1, read, read_counted sites items doc read)
    within items e (inr f) = absurd (let failed : document_of sites d ≡ Err (whole fields.EventList kinds.TooManyEvents) = rw (e, f.0) refl in let no : ⊥ = cc in no)

    by : (r : Result Items DocFault) → event_list d ≡ r
        → (its : Items) × (event_list d ≡ Ok its) × (count_of its ≤ 1000) × (events_of sites its ≡ Ok doc) × (length doc.events + doc.skipped ≡ count_of its)
    by (Ok items) e = within items e (few items)
    by (Err fault) e = absurd (no_list fault e)

pub refused_of : (sites : List Site) (d : Data) (fault : DocFault) → document_of sites d ≡ Err fault
    → (event_list d ≡ Err fault)
    ⊎ ((items : Items) × (event_list d ≡ Ok items)
    × (((1000 < count_of items) × (fault ≡ whole fields.EventList kinds.TooManyEvents)) ⊎ ((count_of items ≤ 1000) × (events_of sites items ≡ Err fault))))
unfolding document_of
refused_of sites d fault h =
    by (event_list d) refl
  where
    within : (items : Items) → event_list d ≡ Ok items → ((few_events items ≡ Ok tt) × (count_of items ≤ 1000)) ⊎ ((few_events items ≡ Err (whole fields.EventList kinds.TooManyEvents)) × (1000 < count_of items))
        → ((1000 < count_of items) × (fault ≡ whole fields.EventList kinds.TooManyEvents)) ⊎ ((count_of items ≤ 1000) × (events_of sites items ≡ Err fault))
    within items e (inl f) = let same : document_of sites d ≡ events_of sites items = rw (e, f.0) refl in inr (f.1, sym same ∙ h)
    within items e (inr f) =
        let failed : document_of sites d ≡ Err (whole fields.EventList kinds.TooManyEvents) = rw (e, f.0) refl in
        inl (f.1, same_err _ _ (sym h ∙ failed))

    by : (r : Result Items DocFault) → event_list d ≡ r
        → (event_list d ≡ Err fault)
        ⊎ ((items : Items) × (event_list d ≡ Ok items)
        × (((1000 < count_of items) × (fault ≡ whole fields.EventList kinds.TooManyEvents)) ⊎ ((count_of items ≤ 1000) × (events_of sites items ≡ Err fault))))
    by (Ok items) e = inr (items, e, within items e (few items))
    by (Err g) e = let failed : document_of sites d ≡ Err g = rw e refl in inl (e ∙ ap Err (same_err _ _ (sym failed ∙ h)))

-- ---- destinations

dealt : (sites : List Site) (texts : List (List ℕ)) → IsDealt sites texts (filter_map (addressed sites) texts) (filter (λ t. is_none (addressed sites t)) texts)
dealt sites [] = (refl, refl)
dealt sites (text ∷ texts) =
    by (addressed sites text) refl (dealt sites texts)
  where
    by : (o : Option ℕ) → addressed sites text ≡ o → IsDealt sites texts (filter_map (addressed sites) texts) (filter (λ t. is_none (addressed sites t)) texts)
        → IsDealt sites (text ∷ texts) (filter_map (addressed sites) (text ∷ texts)) (filter (λ t. is_none (addressed sites t)) (text ∷ texts))
    by (Some site) e rest = rw e (inl (site, filter_map (addressed sites) texts, refl, refl, rest))
    by None e rest = rw e (inr (filter (λ t. is_none (addressed sites t)) texts, refl, refl, rest))

pub destinations : (sites : List Site) (items : List (List ℕ)) (text : List ℕ) (texts : List (List ℕ))
    → (shipment sites items [] ≡ Note items)
    × ((traced : List ℕ) × (outside : List (List ℕ)) × (shipment sites items (text ∷ texts) ≡ Ship items traced outside) × IsDealt sites (text ∷ texts) traced outside)
destinations sites items text texts =
    let traced = filter_map (addressed sites) (text ∷ texts) in
    let outside = filter (λ t. is_none (addressed sites t)) (text ∷ texts) in
    let some : (length (text ∷ texts) == 0) ≡ false = ne_eqb (length (text ∷ texts)) 0 (λ e. let no : ⊥ = omega arith in no) in
    let shipped : shipment sites items (text ∷ texts) ≡ Ship items traced outside = ap (λ (b : Bool). cond b (Note items) (Ship items traced outside)) some in
    (refl, (traced, outside, shipped, dealt sites (text ∷ texts)))
