-- Events that are taken out of their document nest three levels less than it, and each is a document of its own.
use Rattle.std.proofs.Common.{◌≡◌, ◌≤◌, ◌<◌, ◌+◌, ℕ, suc, List, [], ◌∷◌, ◌++◌, Vec, Global, take, drop, get_or, length, Bool, true, false, Option, Some, None, Result, Ok, Err, map, codes, bytes_eq, option_and_then, is_some, refl, sym, ap, ◌∙◌, subst, arith, if◌then◌else◌, IsUtf8, Ordering, Less, Equal, Greater}
use Rattle.std.proofs.lemmas.List.{drop_more, map_more, map_push, take_all}
use Rattle.std.proofs.lemmas.Option.{same_Some}
use Rattle.std.specs.List.{AllZip}
use Rattle.std.specs.Ordering.{match_ordering}
use Rattle.std.specs.Prelude.{⊤, IfOk}
use Rattle.serde_json.specs.Data.{Data, null, boolean, number, string, array, object, Items, no_items, item, Members, no_members, member, depth, items_depth, members_depth}
use Rattle.serde_json.specs.Find.{as_array, as_null, get, get_member}
use Rattle.serde_json.specs.Read.{read, max_depth}
use Rattle.serde_json.specs.View.{items_view, view}
use Rattle.serde_json.specs.declared.value.Value.{Value}
use Rattle.event_json.specs.Checks.{type_named, type_text}
use Rattle.event_json.specs.Documents.{event_list, listed, whole}
use Rattle.event_json.specs.Members.{member_named, member_of, present}
use Rattle.event_json.specs.Names.{field_name}
use Rattle.event_json.specs.Untraced.{in_order, is_text}
use Rattle.event_json.specs.declared.doc_faults.DocFault.{DocFault}
use Rattle.event_json.specs.declared.doc_faults.DocField.TheVariants as fields
use Rattle.event_json.specs.declared.doc_faults.DocFaultKind.TheVariants as kinds
use Rattle.document_lint.specs.Findings.{alone}
use Rattle.document_lint.specs.Splitting.{AreEventsOf, IsAlone, IsUnlisted}

-- ---- how deep they nest

-- what is found lies within this many levels
abbrev Within : (Data → ℕ) → ℕ → Option Data → Type 0
Within f n None = ⊤
Within f n (Some d) = f d ≤ n

by_order : (o : Ordering) (a b c : Option Data) (n : ℕ) → Within depth n a → Within depth n b → Within depth n c → Within depth n (match_ordering o a b c)
by_order Less a b c n x y z = x
by_order Equal a b c n x y z = y
by_order Greater a b c n x y z = z

wider : (o : Option Data) (m n : ℕ) → m ≤ n → Within depth m o → Within depth n o
wider None m n le w = tt
wider (Some d) m n le w = omega arith

member_within : (k : List ℕ) (ms : Members) → Within depth (members_depth ms) (get_member k ms)
member_within k no_members = tt
member_within k (member l e ms) =
    let rest = wider (get_member k ms) (members_depth ms) (members_depth (member l e ms)) (omega arith) (member_within k ms) in
    by_order _ (get_member k ms) (Some e) (get_member k ms) (members_depth (member l e ms)) rest (omega arith) rest

-- a member lies a level below its object
found_within : (k : List ℕ) (v : Data) → Within (λ d. depth d + 1) (depth v) (get k v)
found_within k null = tt
found_within k (boolean b) = tt
found_within k (number n) = tt
found_within k (string s) = tt
found_within k (array ds) = tt
found_within k (object ms) = deeper (get_member k ms) (member_within k ms)
  where
    deeper : (o : Option Data) → Within depth (members_depth ms) o → Within (λ d. depth d + 1) (suc (members_depth ms)) o
    deeper None w = tt
    deeper (Some d) w = omega arith

member_below : (name : List ℕ) (v d : Data) → member_named name v ≡ Some d → depth d + 1 ≤ depth v
member_below name v d is = by (get name v) (found_within name v) is
  where
    of_null : (found : Data) (n : Option ⊤) → depth found + 1 ≤ depth v → (if is_some n then None else Some found) ≡ Some d → depth d + 1 ≤ depth v
    of_null found None w e = subst (λ x. depth x + 1 ≤ depth v) (same_Some _ _ e) w
    of_null found (Some _) w e = cc

    by : (o : Option Data) → Within (λ x. depth x + 1) (depth v) o → option_and_then present o ≡ Some d → depth d + 1 ≤ depth v
    by None w e = cc
    by (Some found) w e = of_null found (as_null found) w e

-- the members of an array lie a level below it
items_below : (v : Data) (items : Items) → as_array v ≡ Some items → items_depth items + 1 ≤ depth v
items_below null items is = cc
items_below (boolean b) items is = cc
items_below (number n) items is = cc
items_below (string s) items is = cc
items_below (array ds) items is = subst (λ i. items_depth i + 1 ≤ suc (items_depth ds)) (same_Some _ _ is) (omega arith)
items_below (object ms) items is = cc

listed_below : (v : Data) (items : Items) → listed v ≡ Some items → items_depth items + 3 ≤ depth v
unfolding listed
listed_below v items is = of_body (member_named (codes "epcisBody") v) refl is
  where
    of_list : (body : Data) (o : Option Data) → depth body + 1 ≤ depth v → member_of fields.EventList body ≡ o → option_and_then as_array o ≡ Some items → items_depth items + 3 ≤ depth v
    of_list body None w e f = cc
    of_list body (Some list) w e f =
        let below = member_below (field_name fields.EventList) body list e in
        let within = items_below list items f in
        omega arith

    of_body : (o : Option Data) → member_named (codes "epcisBody") v ≡ o → option_and_then as_array (option_and_then (member_of fields.EventList) o) ≡ Some items → items_depth items + 3 ≤ depth v
    of_body None e f = cc
    of_body (Some body) e f = of_list body (member_of fields.EventList body) (member_below (codes "epcisBody") v body e) refl f

-- ---- the list of a document

same_Ok : (a b : Items) → ◌≡◌ {A = Result Items DocFault} (Ok a) (Ok b) → a ≡ b
same_Ok a b e = cc

abbrev pub is_body : List ℕ → Bool
is_body text = bytes_eq text (codes "EPCISDocument")

-- an EPCISDocument has the list in its body, three levels down
pub events_below : (v : Data) (items : Items) → event_list v ≡ Ok items → is_text is_body (type_text v) ≡ true → items_depth items + 3 ≤ depth v
unfolding event_list
events_below v items is has = of_type (type_text v) refl has
  where
    of_list : (text : List ℕ) → type_text v ≡ Some text → is_body text ≡ true → (o : Option Items) → listed v ≡ o → items_depth items + 3 ≤ depth v
    of_list text e h None f = let bad : ◌≡◌ {A = Result Items DocFault} (Err (whole fields.EventList kinds.NotDocument)) (Ok items) = rw (e, h, f) at is in cc
    of_list text e h (Some list) f =
        let same : ◌≡◌ {A = Result Items DocFault} (Ok list) (Ok items) = rw (e, h, f) at is in
        listed_below v items (f ∙ ap Some (same_Ok _ _ same))

    of_type : (o : Option (List ℕ)) → type_text v ≡ o → is_text is_body o ≡ true → items_depth items + 3 ≤ depth v
    of_type None e h = cc
    of_type (Some text) e h = of_list text e h (listed v) refl

-- and any other is one event
pub bare_alone : (v : Data) (items : Items) → event_list v ≡ Ok items → is_text is_body (type_text v) ≡ false → items ≡ item v no_items
unfolding event_list
bare_alone v items is other = of_type (type_text v) refl other
  where
    of_name : (text : List ℕ) → type_text v ≡ Some text → is_body text ≡ false → (named : Bool) → is_some (type_named text) ≡ named → items ≡ item v no_items
    of_name text e h true f = let same : ◌≡◌ {A = Result Items DocFault} (Ok (item v no_items)) (Ok items) = rw (e, h, f) at is in sym (same_Ok _ _ same)
    of_name text e h false f = let bad : ◌≡◌ {A = Result Items DocFault} (Err (whole fields.Document kinds.NotDocument)) (Ok items) = rw (e, h, f) at is in cc

    of_type : (o : Option (List ℕ)) → type_text v ≡ o → is_text is_body o ≡ false → items ≡ item v no_items
    of_type None e h = let bad : ◌≡◌ {A = Result Items DocFault} (Err (whole fields.Document kinds.NotDocument)) (Ok items) = rw e at is in cc
    of_type (Some text) e h = of_name text e h (is_some (type_named text)) refl

-- ---- a document of one event

pub depth_alone : (d : Data) → depth (alone d) ≤ depth d + 3
depth_alone d = omega arith

pub lists_alone : (d : Data) → event_list (alone d) ≡ Ok (item d no_items)
unfolding event_list listed
lists_alone d = refl

pub is_alone : (d v : Data) (bytes : List ℕ) → v ≡ alone d → depth d + 3 ≤ max_depth → IsUtf8 bytes → (depth v ≤ max_depth → read bytes ≡ Some v) → IsAlone d bytes
is_alone d v bytes same deep utf8 reads =
    let below = depth_alone d in
    record { utf8 = utf8; value = v; reads = reads (subst (λ x. depth x ≤ max_depth) (sym same) (omega arith)); lists = ap event_list same ∙ lists_alone d }

-- what holds of a result by two of its facts
pub by_both : {X E : Type 0} (P Q R : X → Type 0) (r : Result X E) → ((x : X) → P x → Q x → R x) → IfOk r P → IfOk r Q → IfOk r R
by_both P Q R (Ok x) f p q = f x p q
by_both P Q R (Err e) f p q = tt

-- ---- the events one by one

pub in_order_views : (vs : List Value) → in_order (items_view vs) ≡ map view vs
in_order_views [] = refl
in_order_views (v ∷ vs) = ap (λ ds. view v ∷ ds) (in_order_views vs)

zip_push : {A B : Type 0} (R : A → B → Type 0) (xs : List A) (ys : List B) (x : A) (y : B) → AllZip R xs ys → R x y → AllZip R (xs ++ x ∷ []) (ys ++ y ∷ [])
zip_push R [] [] x y z r = (r, tt)
zip_push R (a ∷ al) (b ∷ bs) x y z r = (z.0, zip_push R al bs x y z.1 r)
zip_push R [] (b ∷ bs) x y z r = absurd z
zip_push R (a ∷ al) [] x y z r = absurd z

abbrev pub bytes_of : Vec ℕ Global → List ℕ
bytes_of document = document.items

-- one event more has its document
pub one_more : (vs : List Value) (i : ℕ) (v : Value) (before after : List (Vec ℕ Global)) (document : Vec ℕ Global) → i < length vs → after ≡ before ++ document ∷ []
    → AllZip IsAlone (map view (take i vs)) (map bytes_of before) → IsAlone (view (get_or vs i v)) document.items → AllZip IsAlone (map view (take (i + 1) vs)) (map bytes_of after)
one_more vs i v before after document lt is so_far one =
    rw (is, map_more view vs i v lt, map_push bytes_of before document)
    (zip_push IsAlone (map view (take i vs)) (map bytes_of before) (view (get_or vs i v)) document.items so_far one)

-- and the others nest no deeper
pub less_deep : (vs : List Value) (i : ℕ) (v : Value) → i < length vs → items_depth (items_view (drop i vs)) + 3 ≤ max_depth → items_depth (items_view (drop (i + 1) vs)) + 3 ≤ max_depth
less_deep vs i v lt deep =
    let first : items_depth (items_view (drop i vs)) ≡ items_depth (item (view (get_or vs i v)) (items_view (drop (i + 1) vs))) = ap (λ l. items_depth (items_view l)) (drop_more vs i v lt) in
    omega arith

-- all of them
pub all_apart : (vs : List Value) (i : ℕ) (documents : List (List ℕ)) → length vs ≤ i → AllZip IsAlone (map view (take i vs)) documents → AllZip IsAlone (in_order (items_view vs)) documents
all_apart vs i documents end apart = rw (in_order_views vs) (subst (λ l. AllZip IsAlone (map view l) documents) (take_all i vs end) apart)

-- a bare event is its own document
pub bare_event : (bytes slice : List ℕ) (v : Data) (items : Items) (before after : List (Vec ℕ Global)) (document : Vec ℕ Global) → slice ≡ bytes → IsUtf8 slice × (read slice ≡ Some v)
    → event_list v ≡ Ok items → is_text is_body (type_text v) ≡ false → before ≡ [] → after ≡ before ++ document ∷ [] → document.items ≡ bytes → AreEventsOf bytes (map bytes_of after)
bare_event bytes slice v items before after document same reads is other none one its =
    let utf8 = subst IsUtf8 same reads.0 in
    let read_as = subst (λ b. read b ≡ Some v) same reads.1 in
    let list = is ∙ ap Ok (bare_alone v items is other) in
    let documents : map bytes_of after ≡ bytes ∷ [] = ap (map bytes_of) (one ∙ ap (λ b. b ++ document ∷ []) none) ∙ ap (λ b. b ∷ []) its in
    record {
      items = item v no_items;
      lists = record { utf8 = utf8; value = v; reads = read_as; lists = list };
      apart = subst (AllZip IsAlone (v ∷ [])) (sym documents) (record { utf8 = utf8; value = v; reads = read_as; lists = list }, tt);
    }

-- a value that was read has this list, and no other
pub one_list : (bytes : List ℕ) (v : Data) (fault : DocFault) → read bytes ≡ Some v → event_list v ≡ Err fault → IsUnlisted bytes
one_list bytes v fault reads is = λ items lists.
    let same = same_Some _ _ (sym reads ∙ lists.reads) in
    let no : ◌≡◌ {A = Result Items DocFault} (Err fault) (Ok items) = sym is ∙ ap event_list same ∙ lists.lists in
    cc

pub no_value : (bytes : List ℕ) → (IsUtf8 bytes → read bytes ≡ None) → IsUnlisted bytes
no_value bytes none = λ items lists.
    let no : ◌≡◌ {A = Option Data} None (Some lists.value) = sym (none lists.utf8) ∙ lists.reads in
    cc
