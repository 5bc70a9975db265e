-- Whatever commands a folder saw, and however each came to its end, what its sites did comes out as the headline says.
use Rattle.std.proofs.Common.{◌≡◌, ◌⊎◌, ℕ, zero, suc, Option, Some, List, [], length, map, refl, sym, ◌∙◌, ap, subst, inl, inr, slice_get, slice_set}
use Rattle.std.proofs.lemmas.Bool.{cases_eq}
use Rattle.std.proofs.lemmas.List.{length-map, length-set}
use Rattle.std.proofs.lemmas.Option.{same_Some}
use Rattle.event_json.specs.Sites.{Site}
use Rattle.site_core.specs.Records.{Record}
use Rattle.site_core.specs.declared.inputs.SiteInput.{SiteInput}
use Rattle.world_core.specs.Faults.{AreFresh, AreOneWorld}
use Rattle.world_core.specs.Parts.{AreActs}
use Rattle.world_core.specs.Turns.{GoesDown}
use Rattle.world_core.specs.Worlds.{Standing, Up, record_of, records}
use Rattle.world_core.proofs.FreshSites.{fresh_sites_fit}
use Rattle.world_core.proofs.Parts.{parts_come_out}
use Rattle.world_core.proofs.RunParts.{get_set, get_set_other}
use Rattle.world_core.proofs.RunParts.{no_acts}
use Rattle.wire_core.specs.Rule.{world_up}
use Rattle.wire_core.proofs.Running.{up_records}
use Rattle.command_line.specs.Lives.{ActTogether, FoldersComeOut, IsOwn, Lives, WasGiven, WasKilled, WasKilledAt}
use Rattle.command_line.proofs.Acts.{ComesBy, and_then, each_alone, goes_down, is_opened, own_carried, stays_as, takes_own}
use Rattle.command_line.proofs.LivedRuns.{acted_alone, acted_on, run_acted}

-- ---- a command that was killed

acted_none : (old new : List Standing) → new ≡ old → ActTogether old new
acted_none old new same = record { deeds = []; are = subst (λ (l : List Standing). AreActs old [] l) (sym same) (no_acts old); came = tt }

killed_at : (site : ℕ) (old new : List Standing) → WasKilledAt site old new → ActTogether old new
killed_at site old new k =
    acted_alone old new (each_alone [] old new (ap length k.new_is ∙ length-set old site k.stands)
    (λ i o n at to. one i o n at (subst (λ (l : List Standing). slice_get l i ≡ Some n) k.new_is to)))
  where
    last : (stands : Standing) → (stands ≡ Up k.mid) ⊎ ((input : SiteInput) × IsOwn input × GoesDown k.mid input stands) → ComesBy [] site (Up k.mid) stands
    last stands (inl same) = stays_as [] site (Up k.mid) stands same
    last stands (inr (input, own, down)) = goes_down [] site k.mid input stands down (own_carried [] site input own)

    here : ComesBy [] site k.stood k.stands
    here = and_then [] site k.stood (Up (record_of k.stood)) k.stands (is_opened [] site k.stood)
        (and_then [] site (Up (record_of k.stood)) (Up k.mid) k.stands (takes_own [] site (record_of k.stood) k.taken k.mid k.own k.steps) (last k.stands k.last))

    one : (i : ℕ) (o n : Standing) → slice_get old i ≡ Some o → slice_get (slice_set old site k.stands) i ≡ Some n → ComesBy [] i o n
    one i o n at to = elim (cases_eq i site) as (λ _. ComesBy [] i o n) [
      | inl e ↦
          let from : k.stood ≡ o = same_Some k.stood o (sym k.there ∙ subst (λ (j : ℕ). slice_get old j ≡ Some o) e at) in
          let end : k.stands ≡ n = same_Some k.stands n (sym (get_set old site k.stood k.stands k.there) ∙ subst (λ (j : ℕ). slice_get (slice_set old site k.stands) j ≡ Some n) e to) in
          subst (λ (j : ℕ). ComesBy [] j o n) (sym e) (subst (λ (x : Standing). ComesBy [] site x n) from (subst (ComesBy [] site k.stood) end here))
      | inr ne ↦ stays_as [] i o n (same_Some n o (sym to ∙ get_set_other old site i k.stands ne ∙ at))
    ]

killed_acted : (old new : List Standing) → WasKilled old new → ActTogether old new
killed_acted old new (inl same) = acted_none old new same
killed_acted old new (inr (inl (site, k))) = killed_at site old new k
killed_acted old new (inr (inr run)) = run_acted old new (map record_of old) run.last refl run.leads run.stand

-- ---- one command after another

module _ {K : Type 0} (shown : K → Option Record) (may : K → Record → Type 0) (sites : List Site) where
  given : (old new : List Standing) → length old ≡ length sites → WasGiven shown may sites old new → ActTogether old new
  given old new many (inl (calls, acts, continued, left)) = acts sites old new many continued left
  given old new many (inr killed) = killed_acted old new killed

  lived : (count : ℕ) (old new : List Standing) → length old ≡ length sites → Lives shown may sites count old new → ActTogether old new
  lived zero old new many same = acted_none old new same
  lived (suc more) old new many (mid, c, rest) =
      let first = given old mid many c in
      acted_on old mid new first (lived more mid new (first.are.count ∙ many) rest)

  pub folders_come_out : FoldersComeOut shown may sites
  folders_come_out start commands new one all fresh lives =
      let acted = lived commands (map (λ r. Up r) start) new (length-map start (λ r. Up r) ∙ all.number) lives in
      let same : records (world_up start []) ≡ start = up_records start in
      let one' = subst AreOneWorld (sym same) one in
      let out = parts_come_out (world_up start []) acted.deeds new (fresh_sites_fit (world_up start []) one' (subst AreFresh (sym same) fresh) refl) one' acted.are acted.came in
      (acted.deeds, out.0, out.1, out.2)
