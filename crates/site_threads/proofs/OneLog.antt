-- The log of a seat with one site, as its record is followed.
use Rattle.std.proofs.Common.{◌≡◌, ◌≢◌, ⊎_elim, inl, inr, append-nil, ℕ, Bool, cond, List, [], ◌∷◌, get_or, refl, sym, ap, ◌∙◌, subst, arith, eq-eqb}
use Rattle.std.proofs.lemmas.List.{length_push}
use Rattle.keeper_core.specs.Keeping.{IsAfter}
use Rattle.site_core.specs.Records.{Record}
use Rattle.site_core.specs.declared.inputs.SiteInput.{SiteInput}
use Rattle.wire_core.specs.declared.views.Log.{Log}
use Rattle.wire_core.specs.Answers.{MayMark}
use Rattle.wire_core.specs.Changes.{on, marks}
use Rattle.site_threads.specs.Running.{MarksChange, MayFollow, Follows}
use Rattle.site_threads.specs.Stamps.{stamp}
use Rattle.site_threads.specs.declared.stamps.Stamp.{Stamp}
use Rattle.site_threads.proofs.Stamping.{same_me, same_stamp}

pub only : (e f : Log) → e ∷ [] ≡ f ∷ [] → e ≡ f
only e f q = ap (λ (l : List Log). get_or l 0 e) q

-- a change of the one site of a seat
pub on_one : (e : Log) (g : Log → Log) (site : ℕ) → e.site ≡ site → on site g (e ∷ []) ≡ g e ∷ []
on_one e g site is = ap (λ (b : Bool). cond b (g e) e ∷ []) (eq-eqb e.site site is)

module _ (logs : List Log) (kept : Stamp) (input : SiteInput) (r : Record) (may : MayFollow logs kept input r) where
  own : may.log.site ≡ r.engagement.me
  own = may.own ∙ ⊎_elim (λ (k : r ≡ may.log.last). ap (λ z. z.engagement.me) (sym k)) (λ (a : IsAfter may.log.last input r). sym (same_me may.log.last r input a)) may.next

  -- where the stamp is the same, the record is the one last marked
  pub unmarked : stamp r ≡ kept → Follows logs r logs
  unmarked same e is =
      let old = only may.log e (sym may.alone ∙ is) in
      let last : r ≡ may.log.last = ⊎_elim (λ (k : r ≡ may.log.last). k) (λ (a : IsAfter may.log.last input r). same_stamp may.log.last r input a (same ∙ may.stamped)) may.next in
      (e, is, record { site = refl; last = sym (last ∙ ap (λ (x : Log). x.last) old); noted = refl; sent = refl; asked = refl; offered = refl; marks = omega arith })

  pub unmarked_marks : stamp r ≡ kept → (new : List Log) → new ≡ logs → MarksChange logs input r new
  unmarked_marks same new left e f is at =
      let old = only may.log e (sym may.alone ∙ is) in
      let last : r ≡ may.log.last = ⊎_elim (λ (k : r ≡ may.log.last). k) (λ (a : IsAfter may.log.last input r). same_stamp may.log.last r input a (same ∙ may.stamped)) may.next in
      ([], inl (last ∙ ap (λ (x : Log). x.last) old, refl), ap (λ (x : Log). x.inputs) (only f e (sym at ∙ left ∙ is)) ∙ sym (append-nil e.inputs))

  -- and else it is the one after the input
  pub may_mark : stamp r ≢ kept → MayMark input r logs
  may_mark other = record {
    log = may.log;
    held = subst (λ l. Rattle.std.specs.Prelude.Contains l may.log) (sym may.alone) (0, omega arith, refl);
    site = own;
    after = ⊎_elim (λ (k : r ≡ may.log.last). absurd (other (ap stamp k ∙ sym may.stamped))) (λ (a : IsAfter may.log.last input r). a) may.next;
    noted = may.noted;
    room = may.room;
  }

  pub marked_marks : stamp r ≢ kept → (new : List Log) → new ≡ on r.engagement.me (marks input r) logs → MarksChange logs input r new
  marked_marks other new done e f is at =
      let old = only may.log e (sym may.alone ∙ is) in
      let own' : e.site ≡ r.engagement.me = subst (λ (x : Log). x.site ≡ r.engagement.me) old own in
      let now = only f (marks input r e) (sym at ∙ done ∙ ap (on r.engagement.me (marks input r)) is ∙ on_one e (marks input r) r.engagement.me own') in
      (input ∷ [], inr ((λ same. other (ap stamp (same ∙ ap (λ (x : Log). x.last) (sym old)) ∙ sym may.stamped)), refl), ap (λ (x : Log). x.inputs) now)

  pub marked : (new : List Log) → new ≡ on r.engagement.me (marks input r) logs → Follows logs r new
  marked new done e is =
      let old = only may.log e (sym may.alone ∙ is) in
      let at : e.site ≡ r.engagement.me = subst (λ (x : Log). x.site ≡ r.engagement.me) old own in
      (marks input r e, done ∙ ap (on r.engagement.me (marks input r)) is ∙ on_one e (marks input r) r.engagement.me at, record { site = refl; last = refl; noted = refl; sent = refl; asked = refl; offered = refl; marks = let l = length_push e.inputs input in omega arith })
