-- The numbers of what was put into an item.
use Rattle.std.proofs.Common.{◌≡◌, ◌↔◌, ℕ, List, [], None, Some, sym, ap, ◌∙◌, slice_get}
use Rattle.std.specs.List.{Contains}
use Rattle.event_json.specs.Events.{Content}
use Rattle.trace_core.specs.Numbers.{number_in, numbered, numbers_of}
use Rattle.trace_core.specs.Pairs.{Carries}
use Rattle.trace_core.specs.PutIn.{children_of, children_at}
use Rattle.trace_core.proofs.Members.{contains_none}
use Rattle.trace_core.proofs.NumberLists.{none_is, listed_number, number_stands, numbered_apart}
use Rattle.trace_core.proofs.PackedSteps.{carrier_known, carried_known, held_carried, carried_held}

-- the number is one of them exactly where it is that of an item that was put in
abbrev pub IsChildNumber : List Content → List ℕ → ℕ → Type 0
IsChildNumber events i n = (child : List ℕ) × (slice_get (numbered events) n ≡ Some child) × Carries events i child

pub children_listed : (events : List Content) (i : List ℕ) (m : ℕ) (ns : List ℕ) → number_in (numbered events) i ≡ Some m
    → ns ≡ children_at (numbered events) events (slice_get (numbered events) m) → (n : ℕ) → Contains ns n ↔ IsChildNumber events i n
children_listed events i m ns number are n =
    let names = numbered events in
    let is : ns ≡ numbers_of names (children_of events i) = are ∙ ap (children_at names events) (number_stands names i m number) in (
      λ h. held_carried names events (carried_known events) ns i is n h,
      λ (c, so, carries). carried_held names events (carried_known events) ns i is c n carries (numbered_apart events n c so),
    )

pub no_children : (events : List Content) (i : List ℕ) → number_in (numbered events) i ≡ None → (n : ℕ) → Contains [] n ↔ IsChildNumber events i n
no_children events i unknown n = (
  λ none. absurd (contains_none n none),
  λ (c, so, carries). let (m, number) = listed_number (numbered events) i (carrier_known events i c carries) in none_is m (sym unknown ∙ number),
)
