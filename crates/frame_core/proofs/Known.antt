-- Which messages of a recall a site knows of.
use Rattle.std.proofs.Common.{◌≡◌, ◌⊎◌, inl, inr, ◌↔◌, ℕ, Bool, true, false, cond, ◌&&◌, ◌||◌, List, [], ◌∷◌, map, filter, Some, refl, sym, ap, ◌∙◌}
use Rattle.std.specs.Ordering.{nat_cmp, is_eq, eq_by_cmp}
use Rattle.std.specs.declared.cmp.Ordering.TheVariants.{Less, Equal, Greater}
use Rattle.std.specs.Cmp.{nat_cmp_total}
use Rattle.std.specs.List.{list_any}
use Rattle.std.specs.FinMap.{FinMap, nat_cmp-IsAntisymmetric, get, entries}
use Rattle.std.specs.FinSet.{contains, contains-from_list, contains-union}
use Rattle.std.proofs.lemmas.Cmp.{tied_itself}
use Rattle.frame_core.specs.Numbers.{Recall, Message}
use Rattle.frame_core.specs.declared.rows.Row.{Row}
use Rattle.frame_core.specs.Identifiers.{message_cmp, same_recall}
use Rattle.frame_core.specs.Orders.{message_total, message_exact}
use Rattle.frame_core.specs.Messages.{messages_sent, messages_seen, messages_known}
use Rattle.frame_core.proofs.Found.{is_found, found_in}
use Rattle.frame_core.proofs.Sameness.{one_recall, same_recall_itself, equal_recalls}

both : (a b : Bool) → (a && b) ≡ true → (a ≡ true) × (b ≡ true)
both true b h = (refl, h)
both false b h = cc

either : (a b : Bool) → (a || b) ≡ true → (a ≡ true) ⊎ (b ≡ true)
either true b h = inl refl
either false b h = inr h

-- the entries that pass, each as a message
listed : {E : Type 0} (p : E → Bool) (f : E → Message) (m : Message) (es : List E)
    → list_any (eq_by_cmp message_cmp m) (map f (filter p es)) ≡ list_any (λ e. p e && eq_by_cmp message_cmp m (f e)) es
listed p f m [] = refl
listed p f m (e ∷ es) =
    elim (p e) as (λ b. list_any (eq_by_cmp message_cmp m) (map f (cond b (e ∷ filter p es) (filter p es))) ≡ ((b && eq_by_cmp message_cmp m (f e)) || list_any (λ e. p e && eq_by_cmp message_cmp m (f e)) es)) [
      | true ↦ ap (λ b. eq_by_cmp message_cmp m (f e) || b) (listed p f m es)
      | false ↦ listed p f m es
    ]

tied_message : (a b : Message) → eq_by_cmp message_cmp a b ≡ true → a ≡ b
tied_message a b h = elim (message_cmp a b) as (λ r. message_cmp a b ≡ r → is_eq r ≡ true → a ≡ b) [
  | Less ↦ λ e t. cc
  | Equal ↦ λ e t. message_exact a b e
  | Greater ↦ λ e t. cc
] refl h

itself : (a b : Message) → a ≡ b → eq_by_cmp message_cmp a b ≡ true
itself a b same = ap (eq_by_cmp message_cmp a) (sym same) ∙ ap is_eq (tied_itself message_total a)

module _ (me : ℕ) (rows : FinMap nat_cmp Row) (r : Recall) (m : Message) where
  abbrev sent_test : ℕ × Row → Bool
  sent_test e = same_recall e.1.recall r && eq_by_cmp message_cmp m (record { site = me; number = e.0 })

  sent_is : contains (messages_sent me rows r) m ≡ list_any sent_test (entries rows)
  sent_is = contains-from_list message_total _ m ∙ listed (λ e. same_recall e.1.recall r) (λ e. record { site = me; number = e.0 }) m (entries rows)

  is_sent : contains (messages_sent me rows r) m ≡ true → (m.site ≡ me) × (x : Row) × (get rows m.number ≡ Some x) × (x.recall ≡ r)
  is_sent h =
      let one = is_found nat_cmp_total sent_test rows (sym sent_is ∙ h) in
      let parts = both (same_recall one.value.recall r) _ one.passes in
      let same : m ≡ record { site = me; number = one.key } = tied_message m _ parts.1 in
      (ap (λ (a : Message). a.site) same, one.value, ap (λ (a : Message). get rows a.number) same ∙ one.found, one_recall one.value.recall r parts.0)

  sent : ((m.site ≡ me) × (x : Row) × (get rows m.number ≡ Some x) × (x.recall ≡ r)) → contains (messages_sent me rows r) m ≡ true
  sent h =
      sent_is ∙ found_in nat_cmp_total sent_test nat_cmp-IsAntisymmetric rows (record {
        key = m.number;
        value = h.1;
        found = h.2;
        passes = (λ i. equal_recalls h.1.recall r h.3 i && itself m (record { site = me; number = m.number }) (λ j. record { site = h.0 j; number = m.number }) i);
      })

module _ (seen : FinMap message_cmp Recall) (r : Recall) (m : Message) where
  abbrev seen_test : Message × Recall → Bool
  seen_test e = same_recall e.1 r && eq_by_cmp message_cmp m e.0

  seen_is : contains (messages_seen seen r) m ≡ list_any seen_test (entries seen)
  seen_is = contains-from_list message_total _ m ∙ listed (λ e. same_recall e.1 r) (λ e. e.0) m (entries seen)

  is_seen : contains (messages_seen seen r) m ≡ true → get seen m ≡ Some r
  is_seen h =
      let one = is_found message_total seen_test seen (sym seen_is ∙ h) in
      let parts = both (same_recall one.value r) _ one.passes in
      ap (get seen) (tied_message m one.key parts.1) ∙ one.found ∙ ap Some (one_recall one.value r parts.0)

  seen_under : get seen m ≡ Some r → contains (messages_seen seen r) m ≡ true
  seen_under h =
      seen_is ∙ found_in message_total seen_test message_exact seen (record {
        key = m;
        value = r;
        found = h;
        passes = (λ i. same_recall_itself r i && itself m m refl i);
      })

-- a message is known where its row stands under the recall, or it was seen under the recall
pub messages_are_known : (me : ℕ) (rows : FinMap nat_cmp Row) (seen : FinMap message_cmp Recall) (r : Recall) (m : Message)
    → (contains (messages_known me rows seen r) m ≡ true) ↔ (((m.site ≡ me) × (x : Row) × (get rows m.number ≡ Some x) × (x.recall ≡ r)) ⊎ (get seen m ≡ Some r))
messages_are_known me rows seen r m =
    let parts : contains (messages_known me rows seen r) m ≡ (contains (messages_sent me rows r) m || contains (messages_seen seen r) m) = contains-union message_total _ _ m in (
      λ h. elim (either (contains (messages_sent me rows r) m) _ (sym parts ∙ h)) [
        | inl own ↦ inl (is_sent me rows r m own)
        | inr other ↦ inr (is_seen seen r m other)
      ],
      λ h. parts ∙ elim h [
        | inl own ↦ ap (λ b. b || contains (messages_seen seen r) m) (sent me rows r m own)
        | inr other ↦ ap (λ b. contains (messages_sent me rows r) m || b) (seen_under seen r m other) ∙ any_true (contains (messages_sent me rows r) m)
      ],
    )
  where
    any_true : (a : Bool) → (a || true) ≡ true
    any_true true = refl
    any_true false = refl
