-- What a run did is acts of all sites, from the records in which their files were opened to how they stand.
use Rattle.std.proofs.Common.{◌≡◌, ℕ, zero, suc, ◌+◌, Option, Some, None, List, [], ◌∷◌, ◌++◌, length, map, refl, sym, ◌∙◌, ap, subst, inl, inr, arith, slice_get}
use Rattle.std.specs.Option.{option_map}
use Rattle.std.proofs.lemmas.List.{length-map}
use Rattle.std.proofs.lemmas.Option.{same_Some, slice_get-map}
use Rattle.frame_core.specs.declared.frames.Frame.{Frame}
use Rattle.site_core.specs.Records.{Record}
use Rattle.world_core.specs.Keepers.{StandsAs}
use Rattle.world_core.specs.Parts.{CameAfter, given_by}
use Rattle.world_core.specs.Worlds.{Standing, Up, record_of}
use Rattle.world_core.proofs.RunParts.{came_more, parts_go_on, runs_are_parts}
use Rattle.trace_core.proofs.Members.{contains_none}
use Rattle.wire_core.specs.Rule.{world_up}
use Rattle.site_threads.specs.Gathering.{AllStandThere, StandsThere, WorldLeadsTo}
use Rattle.site_threads.proofs.Steps.{next_me}
use Rattle.command_line.specs.Lives.{ActTogether, AllStandWhereLed}
use Rattle.command_line.proofs.Acts.{ComesBy, DoAlone, each_alone, is_opened, stands_there}

pub acted_alone : (old new : List Standing) → DoAlone [] old new → ActTogether old new
acted_alone old new alone = record { deeds = alone.deeds; are = alone.are; came = alone.came }

-- one after another
pub acted_on : (old mid new : List Standing) → ActTogether old mid → ActTogether mid new → ActTogether old new
acted_on old mid new first more =
    let both = parts_go_on old mid new [] first.deeds more.deeds first.are first.came more.are (came_more [] (given_by first.deeds) more.deeds (λ f c. absurd (contains_none f c)) more.came) in
    record { deeds = first.deeds ++ more.deeds; are = both.0; came = both.1 }

-- the sites stand where a run led
stand_by : (sent : List Frame) (a : ℕ) (last : List Record) (new : List Standing) → AllStandWhereLed sent a last new → (i : ℕ) (o n : Standing) → slice_get (map (λ r. Up r) last) i ≡ Some o → slice_get new i ≡ Some n → ComesBy sent (a + i) o n
stand_by sent a [] new stand i o n at to = absurd (let e : None ≡ Some o = at in cc)
stand_by sent a (r ∷ rs) [] stand i o n at to = absurd stand
stand_by sent a (r ∷ rs) (s ∷ ss) stand zero o n at to =
    let from : Up r ≡ o = same_Some (Up r) o at in
    let end : s ≡ n = same_Some s n to in
    subst (λ k. ComesBy sent k o n) (let z : a ≡ a + 0 = omega arith in z)
    (subst (λ x. ComesBy sent a x n) from (subst (ComesBy sent a (Up r)) end (stands_there sent a r s stand.0)))
stand_by sent a (r ∷ rs) (s ∷ ss) stand (suc i) o n at to =
    subst (λ k. ComesBy sent k o n) (let z : a + 1 + i ≡ a + suc i = omega arith in z) (stand_by sent (a + 1) rs ss stand.1 i o n at to)

as_many_there : (sent : List Frame) (a : ℕ) (last : List Record) (new : List Standing) → AllStandWhereLed sent a last new → length new ≡ length last
as_many_there sent a [] [] stand = refl
as_many_there sent a (r ∷ rs) (s ∷ ss) stand = ap suc (as_many_there sent (a + 1) rs ss stand.1)
as_many_there sent a [] (s ∷ ss) stand = absurd stand
as_many_there sent a (r ∷ rs) [] stand = absurd stand

open_by : (sent : List Frame) (old : List Standing) (i : ℕ) (o n : Standing) → slice_get old i ≡ Some o → slice_get (map (λ r. Up r) (map record_of old)) i ≡ Some n → ComesBy sent i o n
open_by sent old i o n at to =
    let there : slice_get (map (λ r. Up r) (map record_of old)) i ≡ Some (Up (record_of o)) =
    slice_get-map (λ r. Up r) (map record_of old) i ∙ ap (option_map (λ r. Up r)) (slice_get-map record_of old i ∙ ap (option_map record_of) at) in
    subst (ComesBy sent i o) (same_Some (Up (record_of o)) n (sym there ∙ to)) (is_opened sent i o)

pub run_acted : (old new : List Standing) (before last : List Record) → before ≡ map record_of old → (leads : WorldLeadsTo before last) → AllStandWhereLed leads.sent 0 last new → ActTogether old new
run_acted old new before last same leads stand =
    let start : List Standing = map (λ r. Up r) before in
    let after : List Standing = map (λ r. Up r) last in
    let opened : DoAlone [] old start = subst (λ (b : List Record). DoAlone [] old (map (λ r. Up r) b)) (sym same)
    (each_alone [] old (map (λ r. Up r) (map record_of old)) (length-map (map record_of old) (λ r. Up r) ∙ length-map old record_of) (λ i o n at to. open_by [] old i o n at to)) in
    let (ds, are, came, is) = runs_are_parts (world_up before []) leads.events leads.answers (world_up last leads.sent) leads.out.run in
    let given : given_by ds ≡ leads.sent = sym (ap (λ w. w.sent) is) in
    let ended = each_alone leads.sent after new (as_many_there leads.sent 0 last new stand ∙ sym (length-map last (λ r. Up r))) (λ i o n at to. subst (λ k. ComesBy leads.sent k o n) (let z : 0 + i ≡ i = omega arith in z) (stand_by leads.sent 0 last new stand i o n at to)) in
    let ran = parts_go_on start after new [] ds ended.deeds are came ended.are (subst (λ (l : List Frame). CameAfter l ended.deeds) (sym given) ended.came) in
    let all = parts_go_on old start new [] opened.deeds (ds ++ ended.deeds) opened.are opened.came ran.0 (subst (λ (l : List Frame). CameAfter l (ds ++ ended.deeds)) (sym opened.none) ran.1) in
    record { deeds = opened.deeds ++ (ds ++ ended.deeds); are = all.0; came = all.1 }

-- in their files the sites stand as their keepers show, or may be opened in
pub left_there : {K : Type 0} (shown : K → Option Record) (may : K → Record → Type 0) (sent : List Frame) (a : ℕ) (keepers : List K) (last : List Record) (new : List Standing) → AllStandThere shown may sent a keepers last → length new ≡ length last
    → ((i : ℕ) (k : K) (s : Standing) → slice_get keepers i ≡ Some k → slice_get new i ≡ Some s → StandsAs (shown k) (may k) s) → AllStandWhereLed sent a last new
left_there shown may sent a [] [] [] stand many each = tt
left_there shown may sent a (k ∷ ks) (r ∷ rs) (s ∷ ss) stand many each =
    (stand.0 s (each 0 k s refl refl), left_there shown may sent (a + 1) ks rs ss stand.1 (omega (arith, many)) (λ i x y at to. each (suc i) x y at to))
left_there shown may sent a [] (r ∷ rs) new stand many each = absurd stand
left_there shown may sent a (k ∷ ks) [] new stand many each = absurd stand
left_there shown may sent a [] [] (s ∷ ss) stand many each = absurd (omega (arith, many))
left_there shown may sent a (k ∷ ks) (r ∷ rs) [] stand many each = absurd (omega (arith, many))

-- a site that stands where its steps led is the one that it was
pub there_me : (sent : List Frame) (site : ℕ) (last : Record) (standing : Standing) → StandsThere sent site last standing → (record_of standing).engagement.me ≡ last.engagement.me
there_me sent site last standing (inl same) = ap (λ (s : Standing). (record_of s).engagement.me) same
there_me sent site last standing (inr (input, carried, inl old)) = ap (λ (s : Standing). (record_of s).engagement.me) old
there_me sent site last standing (inr (input, carried, inr (r, after, new))) = ap (λ (s : Standing). (record_of s).engagement.me) new ∙ next_me last r input (inr after)
