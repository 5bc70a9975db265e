-- Plans of recalls of what another recall misses.
use Rattle.std.proofs.Common.{◌≡◌, ◌↔◌, ◌<◌, ◌+◌, ◌∙◌, ℕ, List, [], ◌∷◌, ◌++◌, length, take, get_or, map, refl, sym, ap, subst, ⊎_elim, inl, inr, filter, None}
use Rattle.std.specs.List.{Contains}
use Rattle.std.proofs.lemmas.List.{take_more}
use Rattle.gap_core.specs.Adding.{AddsToList}
use Rattle.gap_core.specs.GapPacks.{IsItemPack, gap_pack_cmp}
use Rattle.gap_core.specs.declared.packs.GapPack.{GapPack}
use Rattle.report_core.specs.Traces.{IsKnownAt}
use Rattle.site_core.specs.Records.{Record}
use Rattle.site_recovery.specs.Looks.{world_of}
use Rattle.std.specs.List.Sorted.{IsStrictlySortedBy}
use Rattle.std.proofs.lemmas.List.Elements.{Contains-append_cases, Contains-append_left, Contains-append_right}
use Rattle.trace_core.proofs.Members.{contains-map, contains_cases, contains_here, contains_none}
use Rattle.trace_core.specs.Sites.{SiteEvents}
use Rattle.folder_questions.specs.GapsPlans.{AreItemDocuments, AreUnknownAt}
use Rattle.folder_questions.specs.Packs.{AreThose, HasEvent, HaveDocuments, is_asked}
use Rattle.folder_questions.specs.declared.packs.PackDocument.{PackDocument}

-- of the items so far, and one more
pub unknown_more : (records : List Record) (site : ℕ) (items : List (List ℕ)) (i : ℕ) (x : List ℕ) → i < length items → x ≡ get_or items i x → (old new : List (List ℕ)) → AreUnknownAt records site (take i items) old
    → AddsToList old new (λ j. (x ≡ j) × (IsKnownAt (world_of records) site j → ⊥)) → AreUnknownAt records site (take (i + 1) items) new
unknown_more records site items i x below at old new so_far adds j =
    let more : take (i + 1) items ≡ take i items ++ x ∷ [] = take_more items i x below ∙ ap (λ y. take i items ++ y ∷ []) (sym at) in (
      λ h. ⊎_elim
          (λ was. let (there, none) = (so_far j).0 was in (subst (λ xs. Contains xs j) (sym more) (Contains-append_left (take i items) (x ∷ []) j there), none))
          (λ (same, none). (subst (λ xs. Contains xs j) (sym more) (Contains-append_right (take i items) (x ∷ []) j (subst (Contains (x ∷ [])) same (contains_here x []))), none))
          ((adds j).0 h),
      λ (there, none). ⊎_elim
          (λ before. (adds j).1 (inl ((so_far j).1 (before, none))))
          (λ last. ⊎_elim (λ same. (adds j).1 (inr (same, none))) (λ no. absurd (contains_none j no)) (contains_cases x j [] last))
          (Contains-append_cases (take i items) (x ∷ []) j (subst (λ xs. Contains xs j) more there)),
    )

-- the documents of events that tell of items
item_has_event : (sites : List SiteEvents) (site : ℕ) (items : List (List ℕ)) (p : GapPack) → IsItemPack sites site items p → HasEvent sites p
item_has_event sites site items p (s, there, me, tells) = (tells.event, (tells.packer, tells.listed, (tells.by, tells.stands)))

filter_all : (packs : List GapPack) → filter (is_asked None) packs ≡ packs
filter_all [] = refl
filter_all (p ∷ packs) = ap (λ ps. p ∷ ps) (filter_all packs)

pub are_item_documents : (sites : List SiteEvents) (site : ℕ) (items : List (List ℕ)) (packs : List GapPack) (documents : List PackDocument) → IsStrictlySortedBy gap_pack_cmp packs
    → ((p : GapPack) → Contains packs p ↔ IsItemPack sites site items p) → AreThose None packs documents → HaveDocuments sites documents → AreItemDocuments sites site items documents
are_item_documents sites site items packs documents ascending exact those has =
    let are : map (λ (d : PackDocument). d.pack) documents ≡ packs = those ∙ filter_all packs in
    record {
      ascending = subst (IsStrictlySortedBy gap_pack_cmp) (sym are) ascending;
      exact = λ p. subst (λ ps. Contains ps p ↔ IsItemPack sites site items p) (sym are) (exact p);
      each = λ d there. has d there (item_has_event sites site items d.pack ((exact d.pack).0 (subst (λ ps. Contains ps d.pack) are (contains-map (λ (x : PackDocument). x.pack) documents d there))));
    }
