-- The record of rows that are a site's of some name has that name.
use Rattle.std.specs.Prelude.{map, option_map, slice_get}
use Rattle.std.specs.List.{find, enumerate_from}
use Rattle.std.specs.Ordering.{int_eq}
use Rattle.std.proofs.Common.{◌≡◌, inl, inr, ◌∙◌, ℕ, pos, ◌+◌, zero, suc, Bool, true, false, List, [], ◌∷◌, Option, Some, None, refl, sym, ap, subst, arith}
use Rattle.std.proofs.lemmas.Bool.Decides.{Decides-int_eq}
use Rattle.std.proofs.lemmas.Option.{same_Some}
use Rattle.event_json.specs.Sites.{Site}
use Rattle.site_core.specs.Records.{Record}
use Rattle.site_rows.specs.RecordRows.{rows_under, site_row, store_row, or_no_name}
use Rattle.site_rows.specs.declared.tables.Version.{Version}
use Rattle.site_rows.specs.declared.rows.Rows.{Rows}
use Rattle.site_rows.specs.declared.rows.SiteRow.{SiteRow}
use Rattle.site_rows.specs.declared.rows.StoreRow.{StoreRow}
use Rattle.site_rows.specs.Laws.{IsKept}
use Rattle.site_rows.proofs.NamesOfSites.{none_named}
use Rattle.site_store.specs.Opened.{name_at, own_name, IsNamedSo, IsStoreOf, MayBeNamed}

is_false : (b : Bool) → (b ≡ true → ⊥) → b ≡ false
is_false true never = absurd (never refl)
is_false false never = refl

same_pos : (a b : ℕ) → pos a ≡ pos b → a ≡ b
same_pos a b e = cc

-- the row of a site is found by its number
pub find_numbered : (sites : List Site) (first at number : ℕ) → number ≡ first + at
    → find (λ (s : SiteRow). int_eq s.no (pos number)) (map site_row (enumerate_from first sites)) ≡ option_map (λ (s : Site). site_row (number, s)) (slice_get sites at)
find_numbered [] first at number e = refl
find_numbered (s ∷ sites) first zero number e =
    let same : number ≡ first = omega (e, arith) in
    let is : int_eq (pos first) (pos number) ≡ true = (Decides-int_eq (pos first) (pos number)).1 (ap pos (sym same)) in
    rw (is, same) refl
find_numbered (s ∷ sites) first (suc at) number e =
    let differs : int_eq (pos first) (pos number) ≡ false = is_false (int_eq (pos first) (pos number)) (λ is. let same = same_pos first number ((Decides-int_eq (pos first) (pos number)).0 is) in omega (e, same, arith)) in
    rw differs (find_numbered sites (first + 1) at number (omega (e, arith)))

name_is : (site : Option Site) (number : ℕ) (name : List ℕ) → option_map (λ (s : SiteRow). s.name) (option_map (λ (s : Site). site_row (number, s)) site) ≡ Some name → or_no_name site ≡ name
name_is None number name e = absurd (let x : None ≡ Some name = e in cc)
name_is (Some site) number name e = same_Some site.name name e

head_is : (a b : StoreRow) (more rest : List StoreRow) → a ∷ more ≡ b ∷ rest → a ≡ b
head_is a b more rest e = cc

pub named_own : (v : Version) (r : Record) (rows : Rows) (name : List ℕ) → rows_under v r ≡ rows → IsStoreOf rows (Some name) → own_name r ≡ name
named_own v r rows name made it =
    let me = r.engagement.me in
    let row : it.row ≡ store_row v r = head_is it.row (store_row v r) it.rest [] (sym it.first ∙ ap (λ (x : Rows). x.store) (sym made)) in
    let number : it.row.me ≡ pos me = ap (λ (x : StoreRow). x.me) row in
    let sites : rows.site ≡ map site_row (enumerate_from 0 r.sites) = ap (λ (x : Rows). x.site) (sym made) in
    let told : name_at (map site_row (enumerate_from 0 r.sites)) (pos me) ≡ Some name = subst (λ n. name_at (map site_row (enumerate_from 0 r.sites)) n ≡ Some name) number (subst (λ l. name_at l it.row.me ≡ Some name) sites it.name_is) in
    name_is (slice_get r.sites me) me name (ap (option_map (λ (s : SiteRow). s.name)) (sym (find_numbered r.sites 0 me me (omega arith))) ∙ told)

-- it can't have bytes that are no text, since a site's name is one
pub named_so : (v : Version) (r : Record) (rows : Rows) (name : List ℕ) → rows_under v r ≡ rows → IsKept r → IsNamedSo name rows → own_name r ≡ name
named_so v r rows name made kept it = is (named_own v r rows it.0 made it.1) it.2
  where
    is : own_name r ≡ it.0 → MayBeNamed name it.0 → own_name r ≡ name
    is own (inl same) = own ∙ same
    is own (inr other) = absurd (none_named r.sites it.0 kept.sites other r.engagement.me (record { is = kept.sound.me; same = own }))
