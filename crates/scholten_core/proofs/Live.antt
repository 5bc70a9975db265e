-- Which recall the site is the live initiator of, by look-ups.
use Rattle.std.proofs.Common.{◌≡◌, ℕ, ◌==◌, true, false, cond, Option, Some, None, refl, sym, ap, ◌∙◌, arith}
use Rattle.std.specs.FinMap.{get}
use Rattle.std.proofs.lemmas.Bool.Decides.{nat_tests}
use Rattle.frame_core.specs.Numbers.{Recall}
use Rattle.scholten_core.specs.declared.own_recalls.Own.{Own}
use Rattle.scholten_core.specs.OwnRecalls.{unless_ended}
use Rattle.scholten_core.specs.Engagement.{Engagement, live_own}
use Rattle.scholten_core.specs.Effects.{IsLive}

itself : (n : ℕ) → (n == n) ≡ true
itself n = grind (arith, nat_tests)

one_number : (a b : ℕ) → (a == b) ≡ true → a ≡ b
one_number a b h = grind (arith, nat_tests)

unended : (found : Option Own) (own : Own) → unless_ended found ≡ Some own → (found ≡ Some own) × (own.ended ≡ false)
unended None own is = cc
unended (Some before) own is =
    elim before.ended as (λ b. before.ended ≡ b → cond b None (Some before) ≡ Some own → (Some before ≡ Some own) × (own.ended ≡ false)) [
      | true ↦ λ e h. cc
      | false ↦ λ e h. (h, let same : before ≡ own = cc in sym (ap (λ (o : Own). o.ended) same) ∙ e)
    ] refl is

-- the own recall that decides is mine, known and not ended
decides : (e : Engagement) (r : Recall) (own : Own) → live_own e r ≡ Some own → (e.me ≡ r.site) × (get e.own r.number ≡ Some own) × (own.ended ≡ false)
decides e r own is =
    elim (e.me == r.site) as (λ b. (e.me == r.site) ≡ b → cond b (unless_ended (get e.own r.number)) None ≡ Some own → (e.me ≡ r.site) × (get e.own r.number ≡ Some own) × (own.ended ≡ false)) [
      | true ↦ λ mine h. let found = unended (get e.own r.number) own h in (one_number e.me r.site mine, found.0, found.1)
      | false ↦ λ other h. cc
    ] refl is

-- so it is one of a live initiator
pub live_is : (e : Engagement) (r : Recall) (own : Own) → live_own e r ≡ Some own → IsLive e r
live_is e r own is = let parts = decides e r own is in record { mine = parts.0; own = own; known = parts.1; unended = parts.2 }

pub live_known : (e : Engagement) (r : Recall) (own : Own) → live_own e r ≡ Some own → get e.own r.number ≡ Some own
live_known e r own is = (decides e r own is).1

-- and each live initiator has one
pub live_found : (e : Engagement) (r : Recall) (live : IsLive e r) → live_own e r ≡ Some live.own
live_found e r live =
    ap (λ n. cond (n == r.site) (unless_ended (get e.own r.number)) None) live.mine
    ∙ ap (λ b. cond b (unless_ended (get e.own r.number)) None) (itself r.site)
    ∙ ap unless_ended live.known
    ∙ ap (λ b. cond b None (Some live.own)) live.unended

pub not_live : (e : Engagement) (r : Recall) → live_own e r ≡ None → IsLive e r → ⊥
not_live e r none live = let twice : None ≡ Some live.own = sym none ∙ live_found e r live in cc
