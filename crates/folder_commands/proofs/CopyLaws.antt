-- a copy holds what its folder held
use Rattle.std.proofs.Common.{◌≡◌, ℕ, ◌+◌, List, [], ◌∷◌, ◌++◌, Contains, length, refl, sym, ap₂, ◌∙◌, subst, arith}
use Rattle.std.specs.Prelude.{Option, Some}
use Rattle.std.proofs.lemmas.List.Elements.{Contains-append_left, Contains-append_right}
use Rattle.std.proofs.lemmas.Option.{same_Some}
use Rattle.event_json.specs.Sites.{Site}
use Rattle.recall_text.specs.Words.{name_at}
use Rattle.site_core.specs.Records.{Record}
use Rattle.site_folders.specs.FileCalls.{FileCall, MadeSite, OpenedSite, WroteFile}
use Rattle.site_folders.specs.Keepers.{KeepFrom, closes_all, opens_from, opens_site}
use Rattle.site_folders.specs.Paths.{file_path, list_path}
use Rattle.site_folders.proofs.VainLemmas.{is_first}
use Rattle.folder_commands.specs.CopyLaws.{HoldsTheSame}
use Rattle.folder_commands.specs.Copying.{makes_copies, makes_copy}

module _ {K : Type 0} (shown : K → Option Record) (stored : K → Type 0) (to : List ℕ) (sites : List Site) where
  -- those of the sites from a number on
  same_from : (site : ℕ) (keepers sources : List K) (records copied : List Record) → KeepFrom shown stored sites site keepers records → KeepFrom shown stored sites site sources copied → length keepers ≡ length sources
      → ((path name : List ℕ) (r : Record) (keeper : K) → Contains (makes_copies {K = K} to copied) (MadeSite path r) → Contains (opens_from to sites site keepers) (OpenedSite path name keeper) → shown keeper ≡ Some r)
      → records ≡ copied
  same_from site [] [] [] [] keep source many goes_on = refl
  same_from site (k ∷ ks) (s ∷ ss) (r ∷ rs) (q ∷ qs) keep source many goes_on =
      let name = name_at sites site in
      let made : makes_copy {K = K} to q ≡ MadeSite (file_path to name) q =
      ap₂ (λ (xs : List Site) (n : ℕ). MadeSite (file_path to (name_at xs n)) q) source.0.shows.lists source.0.shows.me in
      let first : Contains (makes_copies {K = K} to (q ∷ qs)) (MadeSite (file_path to name) q) =
      subst (λ (call : FileCall K). Contains (makes_copies to (q ∷ qs)) call) made (is_first (makes_copy to q) (makes_copies to qs)) in
      let shows : shown k ≡ Some q = goes_on (file_path to name) name q k first (is_first (opens_site to sites site k) (opens_from to sites (site + 1) ks)) in
      let here : r ≡ q = same_Some r q (sym keep.0.shows.shows ∙ shows) in
      let rest = same_from (site + 1) ks ss rs qs keep.1 source.1 (omega (arith, many))
      (λ path called x keeper is_made is_opened. goes_on path called x keeper
      (Contains-append_right (makes_copy to q ∷ []) (makes_copies to qs) (MadeSite path x) is_made)
      (Contains-append_right (opens_site to sites site k ∷ []) (opens_from to sites (site + 1) ks) (OpenedSite path called keeper) is_opened)) in
      ap₂ (λ (x : Record) xs. x ∷ xs) here rest
  same_from site [] sources (r ∷ rs) copied keep source many goes_on = absurd keep
  same_from site (k ∷ ks) sources [] copied keep source many goes_on = absurd keep
  same_from site [] [] [] (q ∷ qs) keep source many goes_on = absurd source
  same_from site [] (s ∷ ss) [] copied keep source many goes_on = absurd (omega (arith, many))
  same_from site (k ∷ ks) [] (r ∷ rs) copied keep source many goes_on = absurd (omega (arith, many))
  same_from site (k ∷ ks) (s ∷ ss) (r ∷ rs) [] keep source many goes_on = absurd source

pub holds_the_same : {K : Type 0} (shown : K → Option Record) (stored : K → Type 0) → HoldsTheSame shown stored
holds_the_same {K} shown stored folder to sites text calls copied keepers records keep number goes_on =
    let opening = opens_from folder sites 0 copied.keepers in
    let making : List (FileCall K) = makes_copies to copied.records in
    let behind = closes_all copied.keepers ++ WroteFile (list_path to) text ∷ [] in
    same_from shown stored to sites 0 keepers copied.keepers records copied.records keep copied.opened (number ∙ sym copied.number)
    (λ path name r keeper is_made is_opened. goes_on path name r keeper
    (subst (λ (cs : List (FileCall K)). Contains cs (MadeSite path r)) (sym copied.calls_are)
    (Contains-append_right opening (making ++ behind) (MadeSite path r) (Contains-append_left making behind (MadeSite path r) is_made)))
    is_opened)
