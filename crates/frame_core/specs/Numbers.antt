-- What identifies a recall, and what identifies a message: a site, and that site's number for it.
use Rattle.std.specs.Prelude.{ℕ, refl}
use Rattle.std.specs.Coded.{Coded, code_by, coded×, coded_ℕ}

-- the site that began the recall, and its number there
pub record Recall : Type 0 where
  pub site : ℕ
  pub number : ℕ

-- the site that sends the message, and its number there
pub record Message : Type 0 where
  pub site : ℕ
  pub number : ℕ

-- as a pair of numbers
abbrev pub coded_recall : Coded Recall
coded_recall = code_by (ℕ × ℕ) (coded× coded_ℕ coded_ℕ) (λ r. (r.site, r.number)) (λ p. record { site = p.0; number = p.1 }) (λ _. refl)

-- as a pair of numbers
abbrev pub coded_message : Coded Message
coded_message = code_by (ℕ × ℕ) (coded× coded_ℕ coded_ℕ) (λ m. (m.site, m.number)) (λ p. record { site = p.0; number = p.1 }) (λ _. refl)
