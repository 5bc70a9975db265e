-- What lies in the items of sendings is followed from a place on.
use Rattle.std.proofs.Common.{◌≡◌, ◌<◌, ◌≤◌, ◌+◌, ℕ, List, take, length, get_or, sym, ap, ◌∙◌, subst, ⊎_elim, arith}
use Rattle.std.specs.List.{Contains}
use Rattle.std.proofs.lemmas.List.{take_all, take-append-le}
use Rattle.trace_core.specs.declared.sendings.Sending.{Sending}
use Rattle.trace_core.specs.Relations.{Reaches}
use Rattle.trace_core.specs.Sendings.{Extends, NotesSendings, at_site, Holds, AreFollowed, Follows}
use Rattle.trace_core.proofs.ChainLaws.{reaches_itself, reaches_step}
use Rattle.trace_core.proofs.Members.{contains-map}
use Rattle.trace_core.proofs.SentSteps.{stays, extends_itself, extends_then, notes_extend, notes_from}
use Rattle.trace_core.proofs.SetMembers.{contains_more, contains-from_map}

module _ (children : ℕ → List ℕ) where
  -- what lies in the item of a sending, at its site
  abbrev held_at : Sending → List Sending
  held_at s = at_site (children s.item) s.site

  held_is : (s n : Sending) → Contains (held_at s) n → Holds children s.item n.item × (s.site ≡ n.site)
  held_is s n h =
      let (c, there, is) = contains-from_map (λ (c : ℕ). record { item = c; site = s.site }) (children s.item) n h in
      (subst (Contains (children s.item)) (ap (λ (z : Sending). z.item) is) there, ap (λ (z : Sending). z.site) is)

  is_held : (s : Sending) (c : ℕ) → Holds children s.item c → Contains (held_at s) (record { item = c; site = s.site })
  is_held s c h = contains-map (λ (c : ℕ). record { item = c; site = s.site }) (children s.item) c h

  module _ (from : ℕ) (old : List Sending) where
    -- those before a place are followed
    pub record Following (now : List Sending) (place : ℕ) : Type 0 where
      pub extends : Extends old now
      pub sound : (s : Sending) → Contains now s
          → (n : ℕ) × Contains old (record { item = n; site = s.site }) × Reaches (Holds children) n s.item
      pub closed : AreFollowed children (take from old) old → AreFollowed children (take place now) now

    pub following_begins : Following old from
    following_begins = record {
      extends = extends_itself old;
      sound = λ s h. (s.item, h, reaches_itself (Holds children) s.item);
      closed = λ before. before;
    }

    pub following_goes_on : (now now' : List Sending) (place : ℕ) (s : Sending) → place < length now
        → s ≡ get_or now place s → Following now place → NotesSendings now now' (held_at s) → Following now' (place + 1)
    following_goes_on now now' place s below at so_far noted =
        let here : Contains now s = (place, below, sym at) in
        let more : Extends now now' = notes_extend now now' (held_at s) noted in
        record {
          extends = extends_then old now now' so_far.extends more;
          sound = λ n h. ⊎_elim
              (λ before. so_far.sound n before)
              (λ new.
              let (step, site) = held_is s n new in
              let (item, there, reached) = so_far.sound s here in
              (item, subst (λ (t : ℕ). Contains old (record { item = item; site = t })) site there, reaches_step (Holds children) item s.item n.item reached step))
              (notes_from now now' (held_at s) noted n h);
          closed = λ before n c h step.
              let front : take (place + 1) now' ≡ take (place + 1) now = ap (take (place + 1)) noted.appended ∙ take-append-le (place + 1) now noted.more (omega (arith, below)) in
              ⊎_elim
              (λ was. stays now now' more (record { item = c; site = n.site }) (so_far.closed before n c was step))
              (λ same. subst (λ (z : Sending). Contains now' (record { item = c; site = z.site })) same
              (noted.all (record { item = c; site = s.site }) (is_held s c (subst (λ (z : Sending). Holds children z.item c) (sym same) step))))
              ((contains_more now place s below at n).0 (subst (λ xs. Contains xs n) front h));
        }

    pub following_ends : (now : List Sending) (place : ℕ) → length now ≤ place → Following now place
        → Follows children from old now
    following_ends now place past so_far = record {
      extends = so_far.extends;
      sound = so_far.sound;
      closed = λ before s c h. so_far.closed before s c (subst (λ xs. Contains xs s) (sym (take_all place now past)) h);
    }
