-- pictures that are being drawn
use Rattle.std.proofs.Common.{◌≡◌, ℕ, List, [], ◌∷◌, ◌++◌, sym, ap, ◌∙◌, append-nil}
use Rattle.std.specs.List.{flat_map}
use Rattle.std.proofs.Math.Logic.{∥∥₁_map}
use Rattle.std.proofs.lemmas.Grind.{flat_map-append}
use Rattle.std.proofs.lemmas.List.Elements.{All-append, All-cons, All-nil}
use Rattle.report_forms.specs.Dot.{Drawing, HasNoQuote, IsPicture, IsPiece, Piece, words, quoted, dot_text, piece_text}

pub nothing_drawn : (text : List ℕ) → text ≡ [] → IsPicture text
nothing_drawn text e = ∣ record { pieces = []; are = All-nil IsPiece; is = e } ∣₁

more_drawn : (text new : List ℕ) (piece : Piece) → IsPiece piece → new ≡ text ++ piece_text piece → Drawing text → Drawing new
more_drawn text new piece is e drawn = record {
  pieces = drawn.pieces ++ piece ∷ [];
  are = All-append IsPiece drawn.pieces (piece ∷ []) drawn.are (All-cons IsPiece piece [] is (All-nil IsPiece));
  is = e ∙ ap (λ (t : List ℕ). t ++ piece_text piece) drawn.is
      ∙ sym (flat_map-append piece_text drawn.pieces (piece ∷ []) ∙ ap (λ (t : List ℕ). flat_map piece_text drawn.pieces ++ t) (append-nil (piece_text piece)));
}

pub words_drawn : (text new more : List ℕ) → IsPicture text → HasNoQuote more → new ≡ text ++ more → IsPicture new
words_drawn text new more drawn none e = ∥∥₁_map drawn (more_drawn text new (words more) none e)

pub text_drawn : (text new more part : List ℕ) → IsPicture text → more ≡ dot_text part → new ≡ text ++ more → IsPicture new
text_drawn text new more part drawn is e = ∥∥₁_map drawn (more_drawn text new (quoted part) tt (e ∙ ap (λ (t : List ℕ). text ++ t) is))
