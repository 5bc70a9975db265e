-- How a record is stored.
use Rattle.std.specs.Prelude.{◌≡◌, ◌⊎◌, ℕ, zero, suc, ℤ, List, Option, refl}
use mathlib.Core.Logic.{inl, inr}
use Rattle.std.specs.Coded.{Coded, code_by, coded×, coded⊎, coded_ℕ, coded_ℤ, coded_list, coded_option}
use Rattle.event_json.specs.Contents.{number_of}
use Rattle.event_json.specs.Events.{Content}
use Rattle.event_json.specs.Sites.{Site}
use Rattle.event_json.specs.declared.bodies.Action.{Action}
use Rattle.event_json.specs.declared.bodies.Action.TheVariants.{Add, Observe, Delete}
use Rattle.event_json.specs.declared.bodies.Body.{Body}
use Rattle.event_json.specs.declared.bodies.Body.TheVariants.{Note, Ship, Make, Pack}
use Rattle.scholten_core.specs.Engagement.{Engagement, coded_engagement}
use Rattle.trace_core.specs.Sites.{SiteEvents}
use Rattle.site_core.specs.Quarantines.{Quarantine, coded_quarantine}
use Rattle.site_core.specs.Records.{Record}

abbrev Texts : Type 0
Texts = List (List ℕ)

abbrev coded_texts : Coded Texts
coded_texts = coded_list (coded_list coded_ℕ)

abbrev numbered_action : ℕ → Action
numbered_action zero = Add
numbered_action (suc zero) = Observe
numbered_action (suc (suc n)) = Delete

pub action_back : (a : Action) → numbered_action (number_of a) ≡ a
action_back Add = refl
action_back Observe = refl
action_back Delete = refl

abbrev coded_action : Coded Action
coded_action = code_by ℕ coded_ℕ number_of numbered_action action_back

abbrev BodyParts : Type 0
BodyParts = Texts ⊎ ((Texts × (List ℕ × Texts)) ⊎ ((Option (List ℕ) × (Texts × Texts)) ⊎ (Action × (Option (List ℕ) × Texts))))

abbrev parts_of_body : Body → BodyParts
parts_of_body (Note items) = inl items
parts_of_body (Ship items sites outside) = inr (inl (items, (sites, outside)))
parts_of_body (Make id ins outs) = inr (inr (inl (id, (ins, outs))))
parts_of_body (Pack action parent children) = inr (inr (inr (action, (parent, children))))

abbrev body_of_parts : BodyParts → Body
body_of_parts (inl items) = Note items
body_of_parts (inr (inl p)) = Ship p.0 p.1.0 p.1.1
body_of_parts (inr (inr (inl p))) = Make p.0 p.1.0 p.1.1
body_of_parts (inr (inr (inr p))) = Pack p.0 p.1.0 p.1.1

pub body_back : (b : Body) → body_of_parts (parts_of_body b) ≡ b
body_back (Note items) = refl
body_back (Ship items sites outside) = refl
body_back (Make id ins outs) = refl
body_back (Pack action parent children) = refl

abbrev coded_body : Coded Body
coded_body =
    code_by BodyParts
    (coded⊎ coded_texts
    (coded⊎ (coded× coded_texts (coded× (coded_list coded_ℕ) coded_texts))
    (coded⊎ (coded× (coded_option (coded_list coded_ℕ)) (coded× coded_texts coded_texts))
    (coded× coded_action (coded× (coded_option (coded_list coded_ℕ)) coded_texts)))))
    parts_of_body body_of_parts body_back

abbrev coded_content : Coded Content
coded_content = code_by (Option (List ℕ) × (ℤ × Body)) (coded× (coded_option (coded_list coded_ℕ)) (coded× coded_ℤ coded_body)) (λ e. (e.id, (e.instant, e.body))) (λ p. record { id = p.0; instant = p.1.0; body = p.1.1 }) (λ _. refl)

abbrev coded_site : Coded Site
coded_site = code_by (List ℕ × Texts) (coded× (coded_list coded_ℕ) coded_texts) (λ s. (s.name, s.addresses)) (λ p. record { name = p.0; addresses = p.1 }) (λ _. refl)

abbrev coded_captured : Coded SiteEvents
coded_captured = code_by (ℕ × List Content) (coded× coded_ℕ (coded_list coded_content)) (λ s. (s.me, s.events)) (λ p. record { me = p.0; events = p.1 }) (λ _. refl)

abbrev pub coded_record : Coded Record
coded_record =
    code_by (List Site × (SiteEvents × (Quarantine × Engagement)))
    (coded× (coded_list coded_site) (coded× coded_captured (coded× coded_quarantine coded_engagement)))
    (λ s. (s.sites, (s.captured, (s.quarantine, s.engagement))))
    (λ p. record { sites = p.0; captured = p.1.0; quarantine = p.1.1.0; engagement = p.1.1.1 })
    (λ _. refl)
