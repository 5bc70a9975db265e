-- Sendings in a log, and the sites of each item beside it.
use Rattle.std.proofs.Common.{◌≡◌, ◌≢◌, ◌<◌, ◌≤◌, ◌+◌, ◌==◌, ◌&&◌, ◌||◌, ℕ, zero, suc, true, false, not, cond, map, List, [], ◌∷◌, ◌++◌, ◌↔◌, Option, None, take, length, get_or, refl, sym, ap, ◌∙◌, subst, inl, inr, ⊎_elim, arith, append-nil, append_assoc, length-append}
use mathlib.Core.Bool.{false≢true}
use mathlib.Core.Logic.{◌⊎◌}
use Rattle.std.specs.List.{Contains, flat_map}
use Rattle.std.proofs.lemmas.Bool.{cases_Bool, cases_eq, eqb-true, eq-eqb, ne_eqb, and_parts, or_cases}
use Rattle.std.proofs.lemmas.Grind.{flat_map-append}
use Rattle.std.proofs.lemmas.List.{take_more, map-append, get_or_default, get_or_append_left}
use Rattle.std.proofs.lemmas.List.Quantifiers.{all_pairs_push}
use Rattle.std.proofs.lemmas.List.Elements.{Contains-append_left, Contains-append_right, Contains-append_cases}
use Rattle.event_json.specs.declared.bodies.Body.{Body}
use Rattle.event_json.specs.declared.bodies.Body.TheVariants.{Note, Ship, Make, Pack}
use Rattle.trace_core.specs.declared.sendings.Sending.{Sending}
use Rattle.trace_core.specs.Sendings.{AreDistinct, HasSites, Extends, NotesSendings, Starts, WasSent, Goes, at_site, set_at}
use Rattle.trace_core.specs.SiteSets.{has_site, sites_below, sites_in}
use Rattle.trace_core.proofs.Booleans.{and_false, both_true, or_true}
use Rattle.trace_core.proofs.Members.{contains_here, contains_none, contains_cases, contains-map, contains-flat_map}
use Rattle.trace_core.proofs.SetMembers.{contains-from_map, contains-from_flat_map}
use Rattle.trace_core.proofs.SiteSetSteps.{none_has, none_below, one_below, in_set}

-- a set of no site more
pub set_pushed : (sets : List ℕ) (m : ℕ) → ((t : ℕ) → has_site m t ≡ false) → (n t : ℕ)
    → has_site (set_at (sets ++ m ∷ []) n) t ≡ has_site (set_at sets n) t
set_pushed [] m none zero t = none t ∙ sym (none_has t)
set_pushed [] m none (suc n) t = refl
set_pushed (x ∷ xs) m none zero t = refl
set_pushed (x ∷ xs) m none (suc n) t = set_pushed xs m none n t

-- there is no set at a number past the last
none_past : (sets : List ℕ) (n : ℕ) → length sets ≤ n → set_at sets n ≡ 0
none_past [] n past = refl
none_past (x ∷ xs) zero past = absurd (omega (arith, past))
none_past (x ∷ xs) (suc n) past = none_past xs n (omega (arith, past))

-- no sendings, and no sets
pub nothing_sent : (log : List Sending) (sets : List ℕ) → log ≡ [] → sets ≡ [] → HasSites log sets
nothing_sent log sets empty none = record {
  same = λ item site. (
    λ h. absurd (false≢true (sym (ap (λ ms. has_site (set_at ms item) site) none ∙ none_has site) ∙ h)),
    λ there. absurd (contains_none (record { item = item; site = site }) (subst (λ xs. Contains xs (record { item = item; site = site })) empty there)),
  );
  once = λ i j d lt below. absurd (omega (arith, below, ap length empty));
}

-- so no site is taken away from it
pub nothing_there : (sets : List ℕ) (item site : ℕ) → length sets ≤ item → (n t : ℕ)
    → has_site (set_at sets n) t ≡ (not ((item == n) && (site == t)) && has_site (set_at sets n) t)
nothing_there sets item site past n t = ⊎_elim
    (λ here.
    let none : has_site (set_at sets n) t ≡ false = ap (λ k. has_site (set_at sets k) t) (sym here) ∙ ap (λ m. has_site m t) (none_past sets item past) ∙ none_has t in
    none ∙ sym (and_false (not ((item == n) && (site == t)))) ∙ ap (λ b. not ((item == n) && (site == t)) && b) (sym none))
    (λ other. sym (ap (λ b. not (b && (site == t)) && has_site (set_at sets n) t) (ne_eqb item n other)))
    (cases_eq item n)

-- an item without a set was sent nowhere
pub none_of_item : (log : List Sending) (sets : List ℕ) (item none : ℕ) → length sets ≤ item
    → ((t : ℕ) → has_site none t ≡ false) → HasSites log sets → (t : ℕ)
    → has_site none t ≡ true ↔ Contains log (record { item = item; site = t })
none_of_item log sets item none past empty has t = (
  λ h. absurd (false≢true (sym (empty t) ∙ h)),
  λ there. absurd (false≢true (sym (ap (λ m. has_site m t) (none_past sets item past) ∙ none_has t) ∙ (has.same item t).1 there)),
)

abbrev sending : ℕ → ℕ → Sending
sending n t = record { item = n; site = t }

same_sending : (item n site t : ℕ) → item ≡ n → site ≡ t → sending item site ≡ sending n t
same_sending item n site t one two = ap (λ (k : ℕ). sending k site) one ∙ ap (sending n) two

is_sending : (s : Sending) (n t : ℕ) → ((s.item == n) && (s.site == t)) ≡ true → s ≡ sending n t
is_sending s n t h = let (one, two) = and_parts (s.item == n) (s.site == t) h in same_sending s.item n s.site t (eqb-true s.item n one) (eqb-true s.site t two)

tells_sending : (s : Sending) (n t : ℕ) → s ≡ sending n t → ((s.item == n) && (s.site == t)) ≡ true
tells_sending s n t is = both_true (eq-eqb s.item n (ap (λ (x : Sending). x.item) is)) (eq-eqb s.site t (ap (λ (x : Sending). x.site) is))

-- a site that isn't among an item's isn't in its set
pub not_there : (log view : List Sending) (sets : List ℕ) (item site told : ℕ) → log ≡ view → HasSites log sets
    → (has_site told site ≡ true ↔ Contains view (record { item = item; site = site })) → has_site told site ≡ false
    → has_site (set_at sets item) site ≡ false
not_there log view sets item site told same has is missing = ⊎_elim
    (λ there. absurd (false≢true (sym missing ∙ is.1 (subst (λ xs. Contains xs (record { item = item; site = site })) same ((has.same item site).0 there)))))
    (λ no. no)
    (cases_Bool (has_site (set_at sets item) site))

-- a sending comes that wasn't there
pub sending_new : (log log' : List Sending) (sets sets' : List ℕ) (s : Sending) → HasSites log sets
    → has_site (set_at sets s.item) s.site ≡ false → log' ≡ log ++ s ∷ []
    → ((n t : ℕ) → has_site (set_at sets' n) t ≡ (((s.item == n) && (s.site == t)) || has_site (set_at sets n) t))
    → HasSites log' sets'
sending_new log log' sets sets' s has missing pushed added = record {
  same = λ n t. (
    λ h. subst (λ xs. Contains xs (sending n t)) (sym pushed) (⊎_elim
        (λ now. Contains-append_right log (s ∷ []) (sending n t) (subst (Contains (s ∷ [])) (is_sending s n t now) (contains_here s [])))
        (λ before. Contains-append_left log (s ∷ []) (sending n t) ((has.same n t).0 before))
        (or_cases ((s.item == n) && (s.site == t)) (has_site (set_at sets n) t) (sym (added n t) ∙ h))),
    λ h. added n t ∙ ⊎_elim
        (λ before. ap (λ b. ((s.item == n) && (s.site == t)) || b) ((has.same n t).1 before) ∙ or_true ((s.item == n) && (s.site == t)))
        (λ last. ap (λ b. b || has_site (set_at sets n) t) (tells_sending s n t (⊎_elim (λ is. is) (λ none. absurd (contains_none (sending n t) none)) (contains_cases s (sending n t) [] last))))
        (Contains-append_cases log (s ∷ []) (sending n t) (subst (λ xs. Contains xs (sending n t)) pushed h)),
  );
  once = subst AreDistinct (sym pushed) (all_pairs_push (λ (a b : Sending). a ≢ b) log s has.once
      (λ k d below is. false≢true (sym missing ∙ (has.same s.item s.site).1 (k, below, get_or_default log k s d below ∙ is))));
}

pub get_or_pushed : {X : Type 0} (xs : List X) (x d : X) → get_or (xs ++ x ∷ []) (length xs) d ≡ x
get_or_pushed [] x d = refl
get_or_pushed (y ∷ xs) x d = get_or_pushed xs x d

-- the last sending goes
pub sending_gone : (log rest : List Sending) (sets sets' : List ℕ) (s : Sending) → HasSites log sets
    → log ≡ rest ++ s ∷ []
    → ((n t : ℕ) → has_site (set_at sets' n) t ≡ (not ((s.item == n) && (s.site == t)) && has_site (set_at sets n) t))
    → HasSites rest sets'
sending_gone log rest sets sets' s has is gone = record {
  same = λ n t. (
    λ h.
        let (other, had) = and_parts (not ((s.item == n) && (s.site == t))) (has_site (set_at sets n) t) (sym (gone n t) ∙ h) in
        ⊎_elim
        (λ low. low)
        (λ last. absurd (false≢true (sym (ap not (tells_sending s n t (⊎_elim (λ same. same) (λ none. absurd (contains_none (sending n t) none)) (contains_cases s (sending n t) [] last)))) ∙ other)))
        (Contains-append_cases rest (s ∷ []) (sending n t) (subst (λ xs. Contains xs (sending n t)) is ((has.same n t).0 had))),
    λ there. gone n t ∙ both_true
        (⊎_elim
        (λ same. absurd (apart (subst (Contains rest) (sym (is_sending s n t same)) there)))
        (λ other. ap not other)
        (cases_Bool ((s.item == n) && (s.site == t))))
        ((has.same n t).1 (subst (λ xs. Contains xs (sending n t)) (sym is) (Contains-append_left rest (s ∷ []) (sending n t) there))),
  );
  once = λ i j d lt below. subst (λ (x : Sending). x ≢ get_or rest j d) (get_or_append_left rest (s ∷ []) d i (omega (arith, lt, below)))
      (subst (λ (x : Sending). get_or (rest ++ s ∷ []) i d ≢ x) (get_or_append_left rest (s ∷ []) d j below) (distinct i j d lt (omega (arith, below, length-append rest (s ∷ [])))));
}
  where
    distinct : AreDistinct (rest ++ s ∷ [])
    distinct = subst AreDistinct is has.once

    apart : Contains rest s → ⊥
    apart (k, below, at) = distinct k (length rest) s below (omega (arith, length-append rest (s ∷ []))) (get_or_append_left rest (s ∷ []) s k below ∙ at ∙ sym (get_or_pushed rest s s))

-- ---- sendings noted one after another

pub stays : (a b : List Sending) → Extends a b → (s : Sending) → Contains a s → Contains b s
stays a b (more, is) s h = subst (λ xs. Contains xs s) (sym is) (Contains-append_left a more s h)

pub notes_had : (old new : List Sending) (s : Sending) → new ≡ old → Contains old s → NotesSendings old new (s ∷ [])
notes_had old new s same there = record {
  more = [];
  appended = same ∙ sym (append-nil old);
  only = λ n h. absurd (contains_none n h);
  all = λ n h. subst (λ ns. Contains ns n) (sym same) (⊎_elim (λ is. subst (Contains old) is there) (λ none. absurd (contains_none n none)) (contains_cases s n [] h));
}

notes_more : (a b c xs ys : List Sending) → NotesSendings a b xs → NotesSendings b c ys → NotesSendings a c (xs ++ ys)
notes_more a b c xs ys one two = record {
  more = one.more ++ two.more;
  appended = two.appended ∙ ap (λ zs. zs ++ two.more) one.appended ∙ append_assoc a one.more two.more;
  only = λ n h. ⊎_elim (λ first. Contains-append_left xs ys n (one.only n first)) (λ second. Contains-append_right xs ys n (two.only n second)) (Contains-append_cases one.more two.more n h);
  all = λ n h. ⊎_elim (λ first. stays b c (two.more, two.appended) n (one.all n first)) (λ second. two.all n second) (Contains-append_cases xs ys n h);
}

pub notes_from : (a b ns : List Sending) → NotesSendings a b ns → (s : Sending) → Contains b s
    → Contains a s ⊎ Contains ns s
notes_from a b ns noted s h = ⊎_elim (λ before. inl before) (λ more. inr (noted.only s more)) (Contains-append_cases a noted.more s (subst (λ xs. Contains xs s) noted.appended h))

same_notes : (a b xs ys : List Sending) → xs ≡ ys → NotesSendings a b xs → NotesSendings a b ys
same_notes a b xs ys same = subst (NotesSendings a b) same

pub no_notes : (a : List Sending) → NotesSendings a a []
no_notes a = record { more = []; appended = sym (append-nil a); only = λ n h. h; all = λ n h. absurd (contains_none n h) }

pub extends_itself : (a : List Sending) → Extends a a
extends_itself a = ([], sym (append-nil a))

pub extends_then : (a b c : List Sending) → Extends a b → Extends b c → Extends a c
extends_then a b c (m, one) (n, two) = (m ++ n, two ∙ ap (λ zs. zs ++ n) one ∙ append_assoc a m n)

pub notes_extend : (a b ns : List Sending) → NotesSendings a b ns → Extends a b
notes_extend a b ns noted = (noted.more, noted.appended)

-- one item more at a site
pub one_item : (a b c : List Sending) (site : ℕ) (xs : List ℕ) (n x : ℕ) → n < length xs → x ≡ get_or xs n x
    → NotesSendings a b (at_site (take n xs) site)
    → NotesSendings b c (record { item = x; site = site } ∷ []) → NotesSendings a c (at_site (take (n + 1) xs) site)
one_item a b c site xs n x below at so_far now =
    let f : ℕ → Sending = λ i. record { item = i; site = site } in
    same_notes a c (map f (take n xs) ++ f x ∷ []) (map f (take (n + 1) xs))
    (sym (ap (map f) (take_more xs n x below ∙ ap (λ z. take n xs ++ z ∷ []) (sym at)) ∙ map-append f (take n xs) (x ∷ [])))
    (notes_more a b c (map f (take n xs)) (f x ∷ []) so_far now)

-- the items at the sites of a set, up to a number
module _ (a b c : List Sending) (items : List ℕ) (mask n : ℕ) where
  abbrev upto : ℕ → List Sending
  upto k = flat_map (at_site items) (sites_below k mask)

  pub no_site : NotesSendings a a (upto 0)
  no_site = same_notes a a [] (upto 0) (sym (ap (flat_map (at_site items)) (none_below mask))) (no_notes a)

  pub one_site : (site : ℕ) → has_site mask n ≡ true → site ≡ n → NotesSendings a b (upto n)
      → NotesSendings b c (at_site items site) → NotesSendings a c (upto (n + 1))
  one_site site has is so_far now =
      same_notes a c (upto n ++ at_site items site) (upto (n + 1))
      (ap (λ (t : ℕ). upto n ++ at_site items t) is
      ∙ sym (ap (flat_map (at_site items)) (one_below n mask ∙ ap (λ h. sites_below n mask ++ cond h (n ∷ []) []) has)
      ∙ flat_map-append (at_site items) (sites_below n mask) (n ∷ []) ∙ ap (λ ys. upto n ++ ys) (append-nil (at_site items n))))
      (notes_more a b c (upto n) (at_site items site) so_far now)

  pub site_missing : has_site mask n ≡ false → NotesSendings a b (upto n) → NotesSendings a b (upto (n + 1))
  site_missing has =
      same_notes a b (upto n) (upto (n + 1))
      (sym (ap (flat_map (at_site items)) (one_below n mask ∙ ap (λ h. sites_below n mask ++ cond h (n ∷ []) []) has ∙ append-nil (sites_below n mask))))

-- items at each site of a set are the starts that go to these sites
pub started : (old new : List Sending) (items : List ℕ) (mask : ℕ) (P : ℕ → Type 0)
    → ((t : ℕ) → has_site mask t ≡ true ↔ P t)
    → NotesSendings old new (flat_map (at_site items) (sites_in mask)) → Starts items P old new
started old new items mask P is noted = record {
  more = noted.more;
  appended = noted.appended;
  only = λ s h.
      let (t, at, there) = contains-from_flat_map (at_site items) (sites_in mask) s (noted.only s h) in
      let (i, listed, same) = contains-from_map (λ (i : ℕ). sending i t) items s there in
      (subst (Contains items) (ap (λ (z : Sending). z.item) same) listed, subst P (ap (λ (z : Sending). z.site) same) ((is t).0 ((in_set mask t).0 at)));
  all = λ s listed goes. noted.all s
      (contains-flat_map (at_site items) (sites_in mask) s.site s ((in_set mask s.site).1 ((is s.site).1 goes)) (contains-map (λ (i : ℕ). sending i s.site) items s.item listed));
}

-- the sites of a parent, if there is one
pub no_parent : (log : List Sending) (parent : Option ℕ) (none : ℕ) → parent ≡ None
    → ((t : ℕ) → has_site none t ≡ false) → (t : ℕ) → has_site none t ≡ true ↔ WasSent log parent t
no_parent log parent none is empty t = (λ h. absurd (false≢true (sym (empty t) ∙ h)), λ h. absurd (subst (λ p. WasSent log p t) is h))

-- where the items of an event go that isn't a shipment
pub others_go : (log : List Sending) (parent : Option ℕ) (set : ℕ)
    → ((t : ℕ) → has_site set t ≡ true ↔ WasSent log parent t)
    → (b : Body)
    → ((items : List (List ℕ)) (sites : List ℕ) (outside : List (List ℕ)) → b ≡ Ship items sites outside → ⊥)
    → (t : ℕ) → has_site set t ≡ true ↔ Goes log b parent t
others_go log parent set is (Note items) other = is
others_go log parent set is (Ship items sites outside) other = absurd (other items sites outside refl)
others_go log parent set is (Make id ins outs) other = is
others_go log parent set is (Pack action own children) other = is
