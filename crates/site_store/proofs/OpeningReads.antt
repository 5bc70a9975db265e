-- What a reading of the tables says of an opening.
use Rattle.std.specs.Prelude.{slice_get, nat_eq, ◌≢◌}
use Rattle.std.specs.Cmp.Lexicographic.{pointwise}
use Rattle.std.proofs.lemmas.Option.{same_Some}
use Rattle.std.proofs.Common.{◌≡◌, List, [], ◌∷◌, ℕ, Option, Some, None, true, false, inl, inr, sym, ap, ◌∙◌, subst}
use Rattle.sqlite_disk.specs.declared.Disk as disk
use Rattle.sqlite_store.specs.declared.store.FileStore.{FileStore}
use Rattle.sqlite.specs.Held.{Held}
use Rattle.sqlite.specs.Files.{file_state}
use Rattle.sqlite.specs.State.{State, IsLive, IsUnchanged}
use Rattle.site_core.specs.Records.{Record}
use Rattle.site_rows.specs.RecordRows.{rows_under, version_number}
use Rattle.site_rows.specs.declared.rows.Rows.{Rows}
use Rattle.site_rows.specs.declared.rows.SiteRow.{SiteRow}
use Rattle.site_rows.specs.declared.rows.StoreRow.{StoreRow}
use Rattle.site_tables.specs.AllReads.{AreListed}
use Rattle.site_tables.specs.Stored.{contents_of}
use Rattle.site_tables.specs.Tables.{schema_under}
use Rattle.site_tables.proofs.Committed.{Settles}
use Rattle.site_store.specs.declared.opening.OpenFault.{OpenFault}
use Rattle.site_store.specs.declared.opening.OpenFault.TheVariants.{NoMemory, NotAStore, Version as OpenVersion, OtherSite, BadRow, Device, Store}
use Rattle.site_store.specs.Opened.{name_at, IsStoreOf, IsFound, IsOtherVersion, IsRefused, IsOpenFault}
use Rattle.site_store.specs.Openings.{ListsRecordUnder}
use Rattle.site_store.specs.Sites.{StoresListed}
use Rattle.site_store.proofs.InOrder.{stored_as_read}
use Rattle.site_store.proofs.SameRows.{text_decides}

-- the first row of `store`
begins : (list : List StoreRow) (row : StoreRow) → Some row ≡ slice_get list 0 → (rest : List StoreRow) × (list ≡ row ∷ rest)
begins [] row e = absurd (let x : Some row ≡ None = e in cc)
begins (first ∷ rest) row e = (rest, ap (λ x. x ∷ rest) (sym (same_Some row first e)))

pub store_of : (rows : Rows) (list : List StoreRow) (sites : List SiteRow) (row : StoreRow) (name : Option (List ℕ)) → list ≡ rows.store → Some row ≡ slice_get list 0 → row.version ≡ version_number rows.version → sites ≡ rows.site
    → name_at sites row.me ≡ name → IsStoreOf rows name
store_of rows list sites row name stores first version same told =
    let it = begins list row first in
    record { row = row; rest = it.0; first = sym stores ∙ it.1; version = version; name_is = subst (λ l. name_at l row.me ≡ name) same told }

-- a row with the number of another version
pub other_version : (rows : Rows) (list : List StoreRow) (row : StoreRow) (name : List ℕ) (fault : OpenFault) → list ≡ rows.store → Some row ≡ slice_get list 0 → IsOtherVersion rows.version row.version fault → IsRefused name rows fault
other_version rows list row name NotAStore stores first h = let it = begins list row first in inr (row, it.0, h.0, sym stores ∙ it.1, h.1, h.2)
other_version rows list row name (OpenVersion found) stores first h = let it = begins list row first in (row, it.0, sym stores ∙ it.1, sym h.0, λ w. subst (λ n. n ≢ version_number w) (sym h.0) (h.1 w))
other_version rows list row name (OtherSite found) stores first h = absurd h
other_version rows list row name (BadRow bad) stores first h = absurd h
other_version rows list row name NoMemory stores first h = absurd h
other_version rows list row name Device stores first h = absurd h
other_version rows list row name Store stores first h = absurd h

-- a text that is tested to be another
pub other_text : (a b : List ℕ) → pointwise nat_eq a b ≡ false → a ≢ b
other_text a b differs e = let x : true ≡ false = sym ((text_decides a b).1 e) ∙ differs in absurd cc

pub same_text_is : (a b : List ℕ) → pointwise nat_eq a b ≡ true → a ≡ b
same_text_is a b = (text_decides a b).0

-- a record of rows that are listed
pub lists_read : (r : Record) (rows : Rows) (old new : State) → rows_under rows.version r ≡ rows → old.now.schema ≡ schema_under rows.version → AreListed rows.version (contents_of rows) old.now.trees → IsUnchanged old new
    → ListsRecordUnder rows.version r old new
lists_read r rows old new is schema listed same = (record { schema = schema; listed = subst (λ x. AreListed rows.version (contents_of x) old.now.trees) (sym is) listed }, same)

-- and a refusal of such rows
pub refused_read : (fault : OpenFault) (rows : Rows) (name : List ℕ) (old new : State) → IsRefused name rows fault → old.now.schema ≡ schema_under rows.version → AreListed rows.version (contents_of rows) old.now.trees → IsUnchanged old new
    → IsOpenFault old new name fault
refused_read fault rows name old new is schema listed same = inl (rows, schema, listed, is, same)

module _ {D : Type 0} {g : disk.Ghosts D} where
  -- a connection just made stores what its queries list
  pub found_stores : (conn : Held (FileStore D g)) → IsFound conn → IsLive (file_state conn) → Settles (file_state conn) → StoresListed conn
  found_stores conn found live settles clean v has rows listed =
      let it = found clean in
      stored_as_read v it.1 (file_state conn) it.0 live it.2 settles has rows listed
