-- The documents of the events that are asked for, one after another.
use Rattle.std.proofs.Common.{◌≡◌, ◌↔◌, ◌<◌, ◌≤◌, ◌+◌, ◌∙◌, ℕ, Bor, List, [], ◌∷◌, ◌++◌, length, take, get_or, Option, None, Some, refl, sym, ap, subst, ⊎_elim}
use Rattle.std.specs.Prelude.{IfOk, IfSome, Result, Ok, Err, string_bytes}
use Rattle.std.specs.Global.{Global}
use Rattle.std.specs.List.{Contains}
use Rattle.std.specs.List.Sorted.{IsStrictlySortedBy}
use Rattle.std.specs.declared.alloc.AllocError.{AllocError}
use Rattle.std.specs.declared.string.String.{String}
use Rattle.std.proofs.lemmas.List.{take_all}
use Rattle.std.proofs.lemmas.List.Elements.{Contains-append_cases}
use Rattle.event_json.specs.Events.{Content}
use Rattle.event_writing.specs.Packings.{IsNotWritten, IsReadAs}
use Rattle.gap_core.specs.GapPacks.{IsGapPack, gap_pack_cmp}
use Rattle.gap_core.specs.declared.packs.GapPack.{GapPack}
use Rattle.trace_core.proofs.Members.{contains-map, contains_cases, contains_none}
use Rattle.trace_core.proofs.PlaceLists.{contains-from_filter}
use Rattle.trace_core.proofs.SetMembers.{contains-from_map, contains_more}
use Rattle.trace_core.specs.Chains.{sites_at}
use Rattle.trace_core.specs.Sites.{SiteEvents}
use Rattle.folder_questions.specs.Packs.{ArePackDocuments, AreThose, HasEvent, HaveDocuments, IsDocumentOf, IsEventAt, IsEventOf, is_asked}
use Rattle.folder_questions.specs.declared.packs.PackDocument.{PackDocument}

abbrev pub pack_of : PackDocument → GapPack
pack_of d = d.pack

-- one more document is added
pub document_more : (sites : List SiteEvents) (p : GapPack) (documents new : List PackDocument) (d : PackDocument) → new ≡ documents ++ d ∷ [] → d.pack ≡ p
    → (HasEvent sites p → IsDocumentOf sites p d.document) → HaveDocuments sites documents → HaveDocuments sites new
document_more sites p documents new d is same has so_far e there closes = ⊎_elim
    (λ before. so_far e before closes)
    (λ last. ⊎_elim
    (λ here.
    let its : e.pack ≡ p = ap pack_of (sym here) ∙ same in
    subst (λ (x : PackDocument). IsDocumentOf sites x.pack x.document) here (subst (λ q. IsDocumentOf sites q d.document) (sym same) (has (subst (HasEvent sites) its closes))))
    (λ none. absurd (contains_none e none))
    (contains_cases d e [] last))
    (Contains-append_cases documents (d ∷ []) e (subst (λ xs. Contains xs e) is there))

-- the event by which a gap is closed is there
gap_has_event : (sites : List SiteEvents) (p : GapPack) → IsGapPack sites p → HasEvent sites p
gap_has_event sites p (s, there, closes) = (closes.event, (closes.packer, closes.listed, (closes.by, closes.stands)))

-- all of them
pub are_documents : (sites : List SiteEvents) (asked : Option ℕ) (packs : List GapPack) (documents : List PackDocument) → IsStrictlySortedBy gap_pack_cmp packs
    → ((p : GapPack) → Contains packs p ↔ IsGapPack sites p) → AreThose asked packs documents → HaveDocuments sites documents → ArePackDocuments sites asked documents
are_documents sites asked packs documents ascending exact those has = record {
  packs = packs;
  ascending = ascending;
  exact = exact;
  those = those;
  each = λ d there. has d there (gap_has_event sites d.pack ((exact d.pack).0 (contains-from_filter (is_asked asked) packs d.pack (subst (λ xs. Contains xs d.pack) those (contains-map pack_of documents d there))).0));
}

-- ---- the event

pub its_document : (sites : List SiteEvents) (pack : GapPack) (e : Content) (result : Result (Option (String Global)) AllocError) → IsEventOf sites pack e → IfOk result (λ text. text ≡ None → IsNotWritten e)
    → IfOk result (λ text. IfSome text (λ t. IsReadAs e (string_bytes t))) → IfOk result (IsDocumentOf sites pack)
its_document sites pack e (Ok None) is none read = (e, is, none refl)
its_document sites pack e (Ok (Some text)) is none read = (e, is, read)
its_document sites pack e (Err fault) is none read = tt

module _ (refs : List (Bor SiteEvents)) (pack : GapPack) where
  -- none of the sites so far has it
  abbrev pub HasNone : ℕ → Type 0
  HasNone n = (r : Bor SiteEvents) → Contains (take n refs) r → (e : Content) → IsEventAt r.now pack e → ⊥

  pub none_more : (n : ℕ) (r : Bor SiteEvents) → n < length refs → r ≡ get_or refs n r → HasNone n → ((e : Content) → IsEventAt r.now pack e → ⊥) → HasNone (n + 1)
  none_more n r below at so_far none q there e is = ⊎_elim
      (λ before. so_far q before e is)
      (λ same. none e (subst (λ (x : Bor SiteEvents). IsEventAt x.now pack e) (sym same) is))
      ((contains_more refs n r below at q).0 there)

  pub none_has : (n : ℕ) → length refs ≤ n → HasNone n → (e : Content) → IsEventOf (sites_at refs) pack e → ⊥
  none_has n past none e (packer, listed, is) =
      let (r, there, same) = contains-from_map (λ (x : Bor SiteEvents). x.now) refs packer listed in
      none r (subst (λ rs. Contains rs r) (sym (take_all n refs past)) there) e (subst (λ s. IsEventAt s pack e) (sym same) is)
