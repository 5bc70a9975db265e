-- Texts in arrays, with zeros behind them.
use Rattle.std.proofs.Common.{◌≡◌, inl, inr, ℕ, ◌+◌, ◌-◌, length-append, ◌≤◌, List, ◌++◌, length, take, drop, replicate, sym, ap, ◌∙◌, arith}
use Rattle.std.proofs.Math.Seq.{take-append_seam}
use Rattle.std.proofs.lemmas.List.{drop-replicate, length-replicate, length-take, length-take-le, take_all, take-append-le, drop_all, append-nil}
use Rattle.std.proofs.lemmas.Bool.{cases_lt}
use Rattle.epc_core.specs.Blocks.{padded, HoldsText}

-- a text that is written over the first of `room` zeros
pub written : (room : ℕ) (kept text zeros : List ℕ) → kept ≡ text → zeros ≡ replicate room 0 → length text ≤ room
    → HoldsText room (length text) (kept ++ drop (length text) zeros) × (take (length text) (kept ++ drop (length text) zeros) ≡ text)
written room kept text zeros same zero few =
    let whole : kept ++ drop (length text) zeros ≡ padded room text =
    (λ i. same i ++ drop (length text) (zero i)) ∙ ap (λ t. text ++ t) (drop-replicate (length text) room 0) in
    let front : take (length text) (kept ++ drop (length text) zeros) ≡ text = ap (take (length text)) whole ∙ take-append_seam text (replicate (room - length text) 0) in
    (record { few = few; zeros = whole ∙ ap (padded room) (sym front) }, front)

length-padded : (room : ℕ) (text : List ℕ) → length (padded room text) ≡ length text + (room - length text)
length-padded room text = length-append text (replicate (room - length text) 0) ∙ ap (λ n. length text + n) (length-replicate (room - length text) 0)

pub length-front : (room : ℕ) (text : List ℕ) → length (take room (padded room text)) ≡ room
length-front room text = let all = length-padded room text in length-take-le room (padded room text) (omega arith)

-- zeros stand behind a shorter text alone
pub drop-padded : (room : ℕ) (text : List ℕ) → drop room (padded room text) ≡ drop room text
drop-padded room text =
    elim (cases_lt room (length text)) [
      | inl long ↦
          let none : room - length text ≡ 0 = omega arith in
          ap (λ n. drop room (text ++ replicate n 0)) none ∙ ap (drop room) (append-nil text)
      | inr short ↦
          let all = length-padded room text in
          drop_all room (padded room text) (omega arith) ∙ sym (drop_all room text short)
    ]

-- such an array is the front of its text
pub held_front : (room count : ℕ) (bytes text : List ℕ) → HoldsText room count bytes → take count bytes ≡ text → (bytes ≡ take room (padded room text)) × (length text ≤ room)
held_front room count bytes text held is =
    let few = held.few in
    let taken = length-take count bytes in
    let short : length text ≤ room = omega (arith, ap length is) in
    let all = length-padded room text in
    (held.zeros ∙ (ap (padded room) is ∙ sym (take_all room (padded room text) (omega arith))), short)

-- so are the first bytes of a text that fills it
pub long_front : (room : ℕ) (bytes text : List ℕ) → bytes ≡ text → room ≤ length text → take room bytes ≡ take room (padded room text)
long_front room bytes text is long = ap (take room) is ∙ sym (take-append-le room text (replicate (room - length text) 0) long)
