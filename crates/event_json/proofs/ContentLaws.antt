-- The test of an event's content says what it means.
use Rattle.std.proofs.Common.{◌≡◌, ℕ, ℤ, List, Option, Some, None, refl, ap, ◌∙◌}
use mathlib.Core.Bool.{false≢true}
use Rattle.std.specs.Bool.{Decides}
use Rattle.std.specs.Option.{option_eq}
use Rattle.std.specs.Cmp.Lexicographic.{pointwise}
use Rattle.std.proofs.lemmas.Bool.Decides.{Decides-and, Decides-eqb, Decides-int_eq, Decides-like}
use Rattle.std.proofs.lemmas.Slice.Eq.{bytes_eq-Decides, slice_eq-Decides}
use Rattle.event_json.specs.Events.{Content}
use Rattle.event_json.specs.Sites.{Site}
use Rattle.event_json.specs.declared.bodies.Action.{Action}
use Rattle.event_json.specs.declared.bodies.Action.TheVariants.{Add, Observe, Delete}
use Rattle.event_json.specs.declared.bodies.Body.{Body}
use Rattle.event_json.specs.declared.bodies.Body.TheVariants.{Note, Ship, Make, Pack}
use Rattle.event_json.specs.Contents.{number_of, same_text, same_texts, same_body, same_content, same_site}

texts_decides : (xs ys : List (List ℕ)) → Decides (same_texts xs ys) (xs ≡ ys)
texts_decides xs ys = slice_eq-Decides (λ a b. bytes_eq-Decides a b) xs ys _ refl

sites_decides : (xs ys : List ℕ) → Decides (pointwise Rattle.std.specs.Prelude.nat_eq xs ys) (xs ≡ ys)
sites_decides xs ys = slice_eq-Decides Decides-eqb xs ys _ refl

option_decides : (a b : Option (List ℕ)) → Decides (option_eq same_text a b) (a ≡ b)
option_decides None None = (λ _. refl, λ _. refl)
option_decides None (Some b) = (λ h. absurd (false≢true h), λ e. cc)
option_decides (Some a) None = (λ h. absurd (false≢true h), λ e. cc)
option_decides (Some a) (Some b) = Decides-like _ (λ e. ap Some e) (λ e. cc) (bytes_eq-Decides a b)

action_decides : (a b : Action) → Decides (Rattle.std.specs.Prelude.nat_eq (number_of a) (number_of b)) (a ≡ b)
action_decides Add Add = (λ _. refl, λ _. refl)
action_decides Add Observe = (λ h. absurd (false≢true h), λ e. cc)
action_decides Add Delete = (λ h. absurd (false≢true h), λ e. cc)
action_decides Observe Add = (λ h. absurd (false≢true h), λ e. cc)
action_decides Observe Observe = (λ _. refl, λ _. refl)
action_decides Observe Delete = (λ h. absurd (false≢true h), λ e. cc)
action_decides Delete Add = (λ h. absurd (false≢true h), λ e. cc)
action_decides Delete Observe = (λ h. absurd (false≢true h), λ e. cc)
action_decides Delete Delete = (λ _. refl, λ _. refl)

pub body_decides : (b c : Body) → Decides (same_body b c) (b ≡ c)
unfolding same_body
body_decides (Note items) (Note items') = Decides-like _ (λ e. ap Note e) (λ e. cc) (texts_decides items items')
body_decides (Note items) (Ship items' sites' outside') = (λ h. absurd (false≢true h), λ e. cc)
body_decides (Note items) (Make id' ins' outs') = (λ h. absurd (false≢true h), λ e. cc)
body_decides (Ship items sites outside) (Note items') = (λ h. absurd (false≢true h), λ e. cc)
body_decides (Ship items sites outside) (Ship items' sites' outside') = Decides-like _ (λ e. cc) (λ e. (cc, (cc, cc))) (Decides-and _ _ (sites_decides sites sites') (Decides-and _ _ (texts_decides outside outside') (texts_decides items items')))
body_decides (Ship items sites outside) (Make id' ins' outs') = (λ h. absurd (false≢true h), λ e. cc)
body_decides (Make id ins outs) (Note items') = (λ h. absurd (false≢true h), λ e. cc)
body_decides (Make id ins outs) (Ship items' sites' outside') = (λ h. absurd (false≢true h), λ e. cc)
body_decides (Make id ins outs) (Make id' ins' outs') = Decides-like _ (λ e. cc) (λ e. (cc, (cc, cc))) (Decides-and _ _ (option_decides id id') (Decides-and _ _ (texts_decides outs outs') (texts_decides ins ins')))
body_decides (Note items) (Pack action' parent' children') = (λ h. absurd (false≢true h), λ e. cc)
body_decides (Ship items sites outside) (Pack action' parent' children') = (λ h. absurd (false≢true h), λ e. cc)
body_decides (Make id ins outs) (Pack action' parent' children') = (λ h. absurd (false≢true h), λ e. cc)
body_decides (Pack action parent children) (Note items') = (λ h. absurd (false≢true h), λ e. cc)
body_decides (Pack action parent children) (Ship items' sites' outside') = (λ h. absurd (false≢true h), λ e. cc)
body_decides (Pack action parent children) (Make id' ins' outs') = (λ h. absurd (false≢true h), λ e. cc)
body_decides (Pack action parent children) (Pack action' parent' children') = Decides-like _ (λ e. cc) (λ e. (cc, (cc, cc))) (Decides-and _ _ (action_decides action action') (Decides-and _ _ (option_decides parent parent') (texts_decides children children')))

same_parts : (e f : Content) → (e.id ≡ f.id) × ((e.instant ≡ f.instant) × (e.body ≡ f.body)) → e ≡ f
same_parts e f h =
    ap (λ (i : Option (List ℕ)). record e { id = i }) h.0
    ∙ ap (λ (i : ℤ). record e { id = f.id; instant = i }) h.1.0
    ∙ ap (λ (b : Body). record f { body = b }) h.1.1

pub content_decides : (e f : Content) → Decides (same_content e f) (e ≡ f)
unfolding same_content
content_decides e f = Decides-like _ (same_parts e f) (λ h. (ap (λ c. c.id) h, (ap (λ c. c.instant) h, ap (λ c. c.body) h)))
    (Decides-and _ _ (option_decides e.id f.id) (Decides-and _ _ (Decides-int_eq e.instant f.instant) (body_decides e.body f.body)))

same_fields : (s t : Site) → (s.name ≡ t.name) × (s.addresses ≡ t.addresses) → s ≡ t
same_fields s t h = ap (λ (n : List ℕ). record s { name = n }) h.0 ∙ ap (λ (a : List (List ℕ)). record t { addresses = a }) h.1

site_decides : (s t : Site) → Decides (same_site s t) (s ≡ t)
unfolding same_site
site_decides s t = Decides-like _ (same_fields s t) (λ h. (ap (λ c. c.name) h, ap (λ c. c.addresses) h)) (Decides-and _ _ (bytes_eq-Decides s.name t.name) (texts_decides s.addresses t.addresses))

pub lists_decide : (s t : List Site) → Decides (pointwise same_site s t) (s ≡ t)
lists_decide s t = slice_eq-Decides site_decides s t _ refl
