use Rattle.std.specs.Prelude.{◌≡◌, ℕ, ◌≤◌, ◌+◌, ◌-◌, ◌*◌, List, [], ◌∷◌, ◌++◌, length, take, drop, replicate}

-- the word of `count` bytes from a place on
abbrev pub word_at : ℕ → ℕ → List ℕ → List ℕ
word_at count place bytes = take count (drop place bytes)

-- the number that bytes spell in base 256 behind a number, the first byte the highest
abbrev pub big_endian : ℕ → List ℕ → ℕ
big_endian front [] = front
big_endian front (b ∷ bs) = big_endian (front * 256 + b) bs

-- the number of that word
abbrev pub word_number : ℕ → ℕ → List ℕ → ℕ
word_number count place bytes = big_endian 0 (word_at count place bytes)

-- bytes, and zeros behind them where they are fewer than `room`
abbrev pub padded : ℕ → List ℕ → List ℕ
padded room bytes = bytes ++ replicate (room - length bytes) 0

-- the first `count` of `room` bytes are a text, and zeros stand behind it
pub record HoldsText (room count : ℕ) (bytes : List ℕ) : Type 0 where
  pub few : count ≤ room
  pub zeros : bytes ≡ padded room (take count bytes)
