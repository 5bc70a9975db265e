-- Plans of captures, site by site.
use Rattle.std.proofs.Common.{◌≡◌, ◌≢◌, ◌==◌, ◌∙◌, ℕ, true, false, List, [], ◌∷◌, ◌++◌, Option, refl, sym, ap, subst}
use Rattle.std.specs.List.{Contains, flat_map}
use Rattle.std.proofs.lemmas.Bool.{eqb-true}
use Rattle.std.specs.Option.{option_map_or}
use Rattle.std.specs.Prelude.{if◌then◌else◌, string_bytes}
use Rattle.recall_outcomes.specs.declared.batches.Task.TheVariants.{Capture}
use Rattle.site_core.specs.Records.{Record}
use Rattle.site_recovery.specs.FittingAt.{AreAllSites}
use Rattle.site_recovery.specs.Laws.{captured_of}
use Rattle.trace_core.proofs.Members.{contains-map, contains_here, contains_there}
use Rattle.trace_core.proofs.PlaceLists.{contains-from_filter}
use Rattle.trace_core.proofs.SetMembers.{contains-from_map}
use Rattle.trace_core.specs.Sites.{SiteEvents}
use Rattle.folder_questions.specs.Packs.{ArePackDocuments, is_asked}
use Rattle.folder_questions.specs.PacksPlans.{ArePlannedCaptures, IsCaptureOf, captured_at, text_at, texts_at}
use Rattle.folder_questions.specs.declared.packs.PackDocument.{PackDocument}
use Rattle.folder_questions.proofs.PackLemmas.{pack_of}
use Rattle.folder_questions.proofs.PlanLemmas.{by_site, record_placed}

-- one that gives something
module _ {A B : Type 0} (f : A → List B) where
  flat_some : (xs : List A) → flat_map f xs ≢ [] → (x : A) × Contains xs x × (f x ≢ [])
  flat_some [] some = absurd (some refl)
  flat_some (x ∷ xs) some = elim (f x) as (λ t. f x ≡ t → (y : A) × Contains (x ∷ xs) y × (f y ≢ [])) [
    | [] ↦ λ none. let (y, there, gives) = flat_some xs (λ empty. some (ap (λ t. t ++ flat_map f xs) none ∙ empty)) in (y, contains_there x y xs there, gives)
    | t ∷ ts ↦ λ is. (x, contains_here x xs, λ none. let bad : t ∷ ts ≡ [] = sym is ∙ none in cc)
  ] refl

-- a document that a site captures is one of its own
at_site : (site : ℕ) (d : PackDocument) → text_at site d ≢ [] → d.pack.site ≡ site
at_site site d some = elim (d.pack.site == site) as (λ b. (d.pack.site == site) ≡ b → d.pack.site ≡ site) [
  | true ↦ λ same. eqb-true d.pack.site site same
  | false ↦ λ no. absurd (some (ap (λ b. if b then option_map_or (λ text. string_bytes text ∷ []) d.document [] else []) no))
] refl

module _ (records : List Record) (all : AreAllSites records) (asked : Option ℕ) (documents : List PackDocument) (are : ArePackDocuments (captured_of records) asked documents) where
  -- the site of a document is one of all
  site_listed : (d : PackDocument) → Contains documents d → (r : Record) × Contains records r × (r.engagement.me ≡ d.pack.site)
  site_listed d there =
      let among = (contains-from_filter (is_asked asked) are.packs d.pack (subst (λ ps. Contains ps d.pack) are.those (contains-map pack_of documents d there))).0 in
      let (s, in', closes) = (are.exact d.pack).0 among in
      let (r, listed, its) = contains-from_map (λ (x : Record). x.captured) records s in' in
      (r, listed, sym (record_placed records all r listed).1 ∙ ap (λ (x : SiteEvents). x.me) its ∙ closes.number)

  pub planned_captures : ArePlannedCaptures documents (flat_map (captured_at documents) records)
  planned_captures =
      by_site Capture (λ r. texts_at r.engagement.me documents) records all (IsCaptureOf documents)
      (λ r there some. (refl, refl, some))
      (λ o (task, texts, some).
      let (d, there, gives) = flat_some (text_at o.0) documents (λ none. some (texts ∙ none)) in
      let (r, listed, me) = site_listed d there in
      let same : r.engagement.me ≡ o.0 = me ∙ at_site o.0 d gives in
      let whole : (r.engagement.me, Capture, texts_at r.engagement.me documents) ≡ o = λ i. (same i, sym task i, (ap (λ s. texts_at s documents) same ∙ sym texts) i) in
      (r, listed, λ none. some (texts ∙ ap (λ s. texts_at s documents) (sym same) ∙ none), whole))
