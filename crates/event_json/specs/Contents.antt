-- Whether two events have the same content: the same eventID, instant and body, lists in order; and whether two sites
-- have the same name and addresses.
use Rattle.std.specs.Prelude.{ℕ, Bool, List, [], Option, None, nat_eq}
use Rattle.std.specs.Option.{option_eq}
use Rattle.std.specs.Ordering.{int_eq, on, eq_of_both}
use Rattle.std.specs.Cmp.{IsEquivalence, and_equiv, on_equiv, nat_eq_equiv, int_eq_equiv}
use Rattle.std.specs.Cmp.Lexicographic.{pointwise, lists_equiv, options_equiv, nat_list_eq_equiv}
use Rattle.event_json.specs.Events.{Content}
use Rattle.event_json.specs.Sites.{Site}
use Rattle.event_json.specs.declared.bodies.Action.{Action}
use Rattle.event_json.specs.declared.bodies.Action.TheVariants.{Add, Observe, Delete}
use Rattle.event_json.specs.declared.bodies.Body.{Body}
use Rattle.event_json.specs.declared.bodies.Body.TheVariants.{Note, Ship, Make, Pack}

abbrev pub same_text : List ℕ → List ℕ → Bool
same_text = pointwise nat_eq

abbrev pub same_texts : List (List ℕ) → List (List ℕ) → Bool
same_texts = pointwise same_text

-- which of the four a body is, and its parts; a part that it hasn't is empty
abbrev pub kind_of : Body → ℕ
kind_of (Note items) = 0
kind_of (Ship items sites outside) = 1
kind_of (Make id ins outs) = 2
kind_of (Pack action parent children) = 3

abbrev pub id_of : Body → Option (List ℕ)
id_of (Note items) = None
id_of (Ship items sites outside) = None
id_of (Make id ins outs) = id
id_of (Pack action parent children) = None

abbrev pub sites_of : Body → List ℕ
sites_of (Note items) = []
sites_of (Ship items sites outside) = sites
sites_of (Make id ins outs) = []
sites_of (Pack action parent children) = []

abbrev pub goes_to : Body → List (List ℕ)
goes_to (Note items) = []
goes_to (Ship items sites outside) = outside
goes_to (Make id ins outs) = outs
goes_to (Pack action parent children) = []

abbrev pub comes_from : Body → List (List ℕ)
comes_from (Note items) = items
comes_from (Ship items sites outside) = items
comes_from (Make id ins outs) = ins
comes_from (Pack action parent children) = children

-- an action by a number
abbrev pub number_of : Action → ℕ
number_of Add = 0
number_of Observe = 1
number_of Delete = 2

abbrev pub action_in : Body → ℕ
action_in (Note items) = 0
action_in (Ship items sites outside) = 0
action_in (Make id ins outs) = 0
action_in (Pack action parent children) = number_of action

abbrev pub parent_in : Body → Option (List ℕ)
parent_in (Note items) = None
parent_in (Ship items sites outside) = None
parent_in (Make id ins outs) = None
parent_in (Pack action parent children) = parent

unfoldable pub same_body : Body → Body → Bool
same_body = eq_of_both (on kind_of nat_eq) (eq_of_both (on id_of (option_eq same_text)) (eq_of_both (on sites_of (pointwise nat_eq))
    (eq_of_both (on goes_to same_texts) (eq_of_both (on action_in nat_eq) (eq_of_both (on parent_in (option_eq same_text)) (on comes_from same_texts))))))

unfoldable pub same_content : Content → Content → Bool
same_content = eq_of_both (on (λ e. e.id) (option_eq same_text)) (eq_of_both (on (λ e. e.instant) int_eq) (on (λ e. e.body) same_body))

unfoldable pub same_site : Site → Site → Bool
same_site = eq_of_both (on (λ s. s.name) same_text) (on (λ s. s.addresses) same_texts)

-- all are equivalences, as `==` has to be
pub body_equiv : IsEquivalence same_body
unfolding same_body
body_equiv =
    let texts = lists_equiv nat_list_eq_equiv in
    and_equiv (on_equiv kind_of nat_eq_equiv) (and_equiv (on_equiv id_of (options_equiv nat_list_eq_equiv))
    (and_equiv (on_equiv sites_of nat_list_eq_equiv) (and_equiv (on_equiv goes_to texts) (and_equiv (on_equiv action_in nat_eq_equiv) (and_equiv (on_equiv parent_in (options_equiv nat_list_eq_equiv)) (on_equiv comes_from texts))))))

pub content_equiv : IsEquivalence same_content
unfolding same_content
content_equiv =
    and_equiv (on_equiv (λ e. e.id) (options_equiv nat_list_eq_equiv))
    (and_equiv (on_equiv (λ e. e.instant) int_eq_equiv) (on_equiv (λ e. e.body) body_equiv))

pub site_equiv : IsEquivalence same_site
unfolding same_site
site_equiv = and_equiv (on_equiv (λ s. s.name) nat_list_eq_equiv) (on_equiv (λ s. s.addresses) (lists_equiv nat_list_eq_equiv))
