-- Numbers for the messages of a recall: enough are left after a message that is taken and after a signal.
use Rattle.std.proofs.Common.{◌≡◌, inl, inr, ℕ, ◌+◌, ◌≤◌, ◌^◌, List, [], ◌∷◌, ◌++◌, length, sym, ap, ◌∙◌, subst, Contains, length-append, arith}
use Rattle.std.specs.List.Sorted.{IsStrictlySortedBy}
use Rattle.std.specs.declared.cmp.Ordering.TheVariants.{Less, Equal}
use Rattle.std.proofs.lemmas.Cmp.{tied_itself}
use Rattle.std.proofs.lemmas.List.Elements.{Contains-append_cases}
use Rattle.frame_core.specs.Numbers.{Recall, Message}
use Rattle.frame_core.specs.declared.rows.Row.{Row}
use Rattle.trace_core.specs.Pairs.{IsShipped}
use Rattle.trace_core.specs.Sites.{SiteEvents}
use Rattle.trace_core.proofs.Members.{contains_here, contains_there}
use Rattle.site_core.specs.Quarantines.{held}
use Rattle.site_core.specs.Records.{Record}
use Rattle.site_core.specs.Shipments.{shipment_cmp}
use Rattle.site_core.specs.Steps.{HaveNumbers, MayTake}
use Rattle.site_core.specs.Ways.{ClearsRow, Holds, ShipsTo, TakesMessage}
use Rattle.site_core.proofs.Ascending.{head_below, tail_ascends}
use Rattle.site_core.proofs.SameLists.{shipment_total}
use Rattle.world_core.specs.EndingLaws.{AreListedOnce, HasNumbersFor}

once_both : (xs ys : List (ℕ × List ℕ)) → AreListedOnce xs → AreListedOnce ys → ((z : ℕ × List ℕ) → Contains xs z → Contains ys z → ⊥) → AreListedOnce (xs ++ ys)
once_both [] ys a b apart = b
once_both (x ∷ xs) ys a b apart = (
  λ c. elim (Contains-append_cases xs ys x c) as (λ _. ⊥) [
    | inl left ↦ a.0 left
    | inr right ↦ apart x (contains_here x xs) right
  ],
  once_both xs ys a.1 b (λ z c d. apart z (contains_there x z xs c) d),
)

once_ascending : (xs : List (ℕ × List ℕ)) → IsStrictlySortedBy shipment_cmp xs → AreListedOnce xs
once_ascending [] up = tt
once_ascending (x ∷ xs) up = (
  λ c. let below : shipment_cmp x x ≡ Less = head_below shipment_cmp x xs up x c in let tie : shipment_cmp x x ≡ Equal = tied_itself shipment_total x in cc,
  once_ascending xs (tail_ascends shipment_cmp x xs up),
)

ships_same : (a b : SiteEvents) (j : List ℕ) (u : ℕ) → a ≡ b → IsShipped a j (record { site = u; item = j }) → IsShipped b j (record { site = u; item = j })
ships_same a b j u same h = subst (λ (z : SiteEvents). IsShipped z j (record { site = u; item = j })) same h

pub numbers_after_take : (s t : Record) (m : Message) (r : Recall) (i : List ℕ) → TakesMessage s t m r i → HasNumbersFor r s → HasNumbersFor r t
numbers_after_take s t m r i w numbers out once all =
    let both = numbers (w.out ++ out)
    (once_both w.out out (once_ascending w.out w.once) once (λ z a b. (all z.0 z.1 b).1 ((w.exact z.0 z.1).0 a).0))
    (λ u j c. elim (Contains-append_cases w.out out (u, j) c) as (λ _. ShipsTo s j u × (Holds s r j → ⊥)) [
      | inl new ↦ let why = (w.exact u j).0 new in (why.2, why.1)
      | inr old ↦ let why = all u j old in (ships_same t.captured s.captured j u w.quarantines.captured why.0, λ h. why.1 (w.quarantines.held_kept r j h))
    ])
    in
    let counts = length-append w.out out in
    let next = w.takes.rows.next_message in
    let same : s.engagement.next_message + length (w.out ++ out) ≡ t.engagement.next_message + length out = omega (arith, counts, next) in
    subst (λ z. z ≤ 2 ^ 62 + 1) same both

pub numbers_after_signal : (s t : Record) (n : ℕ) (x : Row) (r : Recall) → ClearsRow s t n x → HasNumbersFor r s → HasNumbersFor r t
numbers_after_signal s t n x r w numbers out once all =
    subst (λ z. z + length out ≤ 2 ^ 62 + 1) (sym w.clears.next_message)
    (numbers out once (λ u j c. let why = all u j c in (ships_same t.captured s.captured j u w.captured why.0, λ h. why.1 (ap (λ q. held q r j) w.quarantine ∙ h))))

pub enough_to_take : (s : Record) (m : Message) (dest : ℕ) (r : Recall) (i : List ℕ) (new : List (List ℕ)) (out : List (ℕ × List ℕ)) → MayTake s m dest r i new out → HasNumbersFor r s → HaveNumbers s.engagement out
enough_to_take s m dest r i new out may numbers =
    numbers out (once_ascending out may.shipped.ascending)
    (λ u j c. let why = (may.shipped.exact u j).0 c in (why.1, ((may.newly.exact j).0 why.0).1))
