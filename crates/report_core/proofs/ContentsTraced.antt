-- What an item reaches with what lies in it.
use Rattle.std.proofs.Common.{◌≡◌, ◌≢◌, inl, inr, ℕ, List, refl, sym, ap, ◌∙◌, subst, ⊎_elim, Contains}
use mathlib.Core.Logic.{◌⊎◌}
use Rattle.std.specs.BTreeSet.{BTreeSet}
use Rattle.trace_core.specs.Chains.{Related}
use Rattle.trace_core.specs.Groups.{IsGivenBy}
use Rattle.trace_core.specs.Relations.{Reaches}
use Rattle.trace_core.specs.Searches.{AreUnseen}
use Rattle.trace_core.specs.Sites.{SiteEvents}
use Rattle.trace_core.specs.declared.groups.Group.{Group}
use Rattle.trace_core.specs.declared.pairs.Pair.{Pair}
use Rattle.trace_core.proofs.Carrying.{reaches_front}
use Rattle.trace_core.proofs.ChainLaws.{reach_widens, reached_holds, reaches_itself, reaches_step}
use Rattle.site_recovery.specs.Laws.{captured_of}
use Rattle.report_core.specs.Laws.{ContentsAreTraced}
use Rattle.report_core.specs.Sources.{AddsToList}
use Rattle.report_core.specs.Traces.{LeadsOn}

module _ (sites : List SiteEvents) (root : Pair) (inside : List (List ℕ)) (p : Pair) (seen seen' : BTreeSet Group) where
  -- a pair that isn't the root leads on to what it is related to alone
  pub unseen_apart : (found : List Pair) → p ≢ root → AreUnseen (Related sites p) (IsGivenBy sites) seen seen' found → AreUnseen (LeadsOn sites root inside p) (IsGivenBy sites) seen seen' found
  unseen_apart found apart are = record {
    sound = λ q there. inl (are.sound q there);
    complete = λ q leads. ⊎_elim (λ related. are.complete q related) (λ (same, at, lies). absurd (apart same)) leads;
    given = are.given;
  }

  -- the root leads on to what lies in it, too
  pub unseen_with : (old new : List Pair) → p ≡ root → AreUnseen (Related sites p) (IsGivenBy sites) seen seen' old → AddsToList old new (λ q. (q.site ≡ root.site) × Contains inside q.item)
      → AreUnseen (LeadsOn sites root inside p) (IsGivenBy sites) seen seen' new
  unseen_with old new same are adds = record {
    sound = λ q there. ⊎_elim (λ was. inl (are.sound q was)) (λ (at, lies). inr (same, at, lies)) ((adds q).0 there);
    complete = λ q leads. ⊎_elim
        (λ related. ⊎_elim (λ was. inl ((adds q).1 (inl was))) (λ gives. inr gives) (are.complete q related))
        (λ (_, at, lies). inl ((adds q).1 (inr (at, lies))))
        leads;
    given = λ q gives. ⊎_elim (λ before. inl before) (λ was. inr ((adds q).1 (inl was))) (are.given q gives);
  }

pub contents_are_traced : ContentsAreTraced
contents_are_traced records site item inside t is p =
    let R = Related (captured_of records) in
    let S = LeadsOn (captured_of records) t.root inside in
    let at : t.root.site ≡ site = ap (λ (q : Pair). q.site) is.root in
    let From = λ (q : Pair). (i : List ℕ) × ((i ≡ item) ⊎ Contains inside i) × Reaches R (record { site = site; item = i }) q in
    let on : (y z : Pair) → From y → S y z → From z = λ y z (i, one, reaches) leads. ⊎_elim
    (λ related. (i, one, reaches_step R (record { site = site; item = i }) y z reaches related))
    (λ (same, here, lies).
    let own : record { site = site; item = z.item } ≡ z = (λ k. record { site = sym (here ∙ at) k; item = z.item }) in
    (z.item, inr lies, subst (λ q. Reaches R q z) (sym own) (reaches_itself R z)))
    leads in (
      λ there. reached_holds S From on t.root p ((is.exact p).0 there) (item, inl refl, subst (λ q. Reaches R q t.root) is.root (reaches_itself R t.root)),
      λ (i, one, reaches).
          let wide : Reaches S (record { site = site; item = i }) p = reach_widens R S (λ x y related. inl related) (record { site = site; item = i }) p reaches in
          (is.exact p).1 (⊎_elim
          (λ same.
          let own : record { site = site; item = i } ≡ t.root = (λ k. record { site = site; item = same k }) ∙ sym is.root in
          subst (λ q. Reaches S q p) own wide)
          (λ lies. reaches_front S t.root (record { site = site; item = i }) p (inr (refl, sym at, lies)) wide)
          one),
    )
