-- Which frames are refused as not the site's, and which signals are stale.
use Rattle.std.proofs.Common.{◌≡◌, ◌≢◌, ◌⊎◌, ◌≤◌, ◌^◌, inl, inr, ℕ, length, arith}
use Rattle.std.proofs.lemmas.Bool.{cases_lt}
use Rattle.frame_core.specs.Numbers.{Recall, Message}
use Rattle.site_core.specs.Records.{Record, IsNumber, IsMessageAmong}
use Rattle.site_core.specs.Steps.{IsForSite, IsOwnMessage, IsNotForSignal}
use Rattle.site_core.specs.StepLaws.{IsOutOfRange, IsMisdirected, IsSignalOfOthers, MisdirectedMessagesAreRefused, SignalsOfOthersAreRefused, StaleSignalsAreOwn}
use Rattle.site_core.proofs.Questions.{is_equal}

in_range : (n : ℕ) → IsNumber n ⊎ IsOutOfRange n
in_range n = elim (cases_lt 0 n) [
  | inr none ↦ inr (inl (omega (arith, none)))
  | inl low ↦ elim (cases_lt (2 ^ 62) n) [
    | inl past ↦ inr (inr past)
    | inr high ↦ inl (record { low = omega (arith, low); high = high })
  ]
]

out_of_range : (n : ℕ) → IsNumber n → IsOutOfRange n → ⊥
out_of_range n h (inl none) = omega (arith, h.low, none)
out_of_range n h (inr past) = omega (arith, h.high, past)

module _ (s : Record) (m : Message) (dest : ℕ) (r : Recall) where
  with_recall : (dest ≡ s.engagement.me) → (m.site ≢ s.engagement.me) → IsMessageAmong (length s.sites) m → (IsForSite s m dest r → ⊥) → (length s.sites ≤ r.site) ⊎ IsOutOfRange r.number
  with_recall here elsewhere message denied = elim (cases_lt r.site (length s.sites)) [
    | inr past ↦ inl past
    | inl site ↦ elim (in_range r.number) [
      | inr out ↦ inr out
      | inl number ↦ absurd (denied (record { here = here; elsewhere = elsewhere; message = message; recall = record { site = site; number = number } }))
    ]
  ]

  misdirected : (IsForSite s m dest r → ⊥) → IsMisdirected s m dest r
  misdirected denied = elim (is_equal dest s.engagement.me) [
    | inr other ↦ inl other
    | inl here ↦ elim (is_equal m.site s.engagement.me) [
      | inl own ↦ inr (inl own)
      | inr elsewhere ↦ elim (cases_lt m.site (length s.sites)) [
        | inr past ↦ inr (inr (inl past))
        | inl site ↦ elim (in_range m.number) [
          | inr out ↦ inr (inr (inr (inl out)))
          | inl number ↦ inr (inr (inr (inr (with_recall here elsewhere (record { site = site; number = number }) denied))))
        ]
      ]
    ]
  ]

  not_for_site : IsMisdirected s m dest r → IsForSite s m dest r → ⊥
  not_for_site (inl other) h = other h.here
  not_for_site (inr (inl own)) h = h.elsewhere own
  not_for_site (inr (inr (inl past))) h = omega (arith, past, h.message.site)
  not_for_site (inr (inr (inr (inl out)))) h = out_of_range m.number h.message.number out
  not_for_site (inr (inr (inr (inr (inl past))))) h = omega (arith, past, h.recall.site)
  not_for_site (inr (inr (inr (inr (inr out))))) h = out_of_range r.number h.recall.number out

module _ (s : Record) (m : Message) where
  own_or_not : IsOwnMessage s m ⊎ ((m.site ≢ s.engagement.me) ⊎ IsOutOfRange m.number)
  own_or_not = elim (is_equal m.site s.engagement.me) [
    | inr other ↦ inr (inl other)
    | inl own ↦ elim (in_range m.number) [
      | inr out ↦ inr (inr out)
      | inl number ↦ inl (record { site = own; number = number })
    ]
  ]

  not_own : (m.site ≢ s.engagement.me) ⊎ IsOutOfRange m.number → IsOwnMessage s m → ⊥
  not_own (inl other) h = other h.site
  not_own (inr out) h = out_of_range m.number h.number out

  of_others : (by : ℕ) → IsNotForSignal s m by → IsSignalOfOthers s m by
  of_others by (inl denied) = elim own_or_not [
    | inl own ↦ absurd (denied own)
    | inr (inl other) ↦ inl other
    | inr (inr out) ↦ inr (inl out)
  ]
  of_others by (inr (row, has, other)) = inr (inr (row, has.stands, other))

  not_for_signal : (by : ℕ) → IsSignalOfOthers s m by → IsNotForSignal s m by
  not_for_signal by (inl other) = inl (not_own (inl other))
  not_for_signal by (inr (inl out)) = inl (not_own (inr out))
  not_for_signal by (inr (inr (row, stands, other))) = elim own_or_not [
    | inl own ↦ inr (row, record { mine = own; stands = stands }, other)
    | inr why ↦ inl (not_own why)
  ]

pub misdirected_messages_are_refused : MisdirectedMessagesAreRefused
misdirected_messages_are_refused s m dest r i = (misdirected s m dest r, not_for_site s m dest r)

pub signals_of_others_are_refused : SignalsOfOthersAreRefused
signals_of_others_are_refused s m by = (of_others s m by, not_for_signal s m by)

pub stale_signals_are_own : StaleSignalsAreOwn
stale_signals_are_own s t m by = (
  λ h. (record { own = h.0.mine.site; low = h.0.mine.number.low; high = h.0.mine.number.high; gone = h.0.gone }, h.1),
  λ h. (record { mine = record { site = h.0.own; number = record { low = h.0.low; high = h.0.high } }; gone = h.0.gone }, h.1),
)
