-- When two recalls are the same, and when two messages are.
use Rattle.std.proofs.Common.{◌≡◌, true, subst, arith}
use Rattle.std.specs.Cmp.{IsEquivalence, decided}
use Rattle.std.proofs.lemmas.Bool.Decides.{nat_tests}
use Rattle.frame_core.specs.Numbers.{Recall, Message}
use Rattle.frame_core.specs.Identifiers.{same_recall, same_message}

-- a recall is the same as itself
pub same_recall_itself : (r : Recall) → same_recall r r ≡ true
same_recall_itself r = grind (arith, nat_tests)

-- or as an equal one
pub equal_recalls : (a b : Recall) → a ≡ b → same_recall a b ≡ true
equal_recalls a b is = subst (λ (z : Recall). same_recall a z ≡ true) is (same_recall_itself a)

-- and as no other
pub one_recall : (a b : Recall) → same_recall a b ≡ true → a ≡ b
one_recall a b h =
    let site : a.site ≡ b.site = grind (arith, nat_tests) in
    let number : a.number ≡ b.number = grind (arith, nat_tests) in
    λ i. record { site = site i; number = number i }

pub recalls_alike : IsEquivalence same_recall
recalls_alike = decided same_recall (λ a b. (one_recall a b, equal_recalls a b))

-- so is a message
same_message_itself : (m : Message) → same_message m m ≡ true
same_message_itself m = grind (arith, nat_tests)

pub equal_messages : (a b : Message) → a ≡ b → same_message a b ≡ true
equal_messages a b is = subst (λ (z : Message). same_message a z ≡ true) is (same_message_itself a)

pub one_message : (a b : Message) → same_message a b ≡ true → a ≡ b
one_message a b h =
    let site : a.site ≡ b.site = grind (arith, nat_tests) in
    let number : a.number ≡ b.number = grind (arith, nat_tests) in
    λ i. record { site = site i; number = number i }

pub messages_alike : IsEquivalence same_message
messages_alike = decided same_message (λ a b. (one_message a b, equal_messages a b))
