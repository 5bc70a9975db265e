-- What is written of a text, document by document.
use Rattle.std.proofs.Common.{◌≡◌, ◌+◌, ◌<◌, ℕ, List, [], ◌∷◌, ◌++◌, Bool, true, false, Option, Some, None, Ok, Err, map, length, refl, sym, ap, subst, ◌∙◌, arith, append_assoc, append-nil, length-append, string_bytes, if◌then◌else◌}
use Rattle.std.specs.List.{enumerate_from, flat_map}
use Rattle.std.proofs.lemmas.Grind.{flat_map-append}
use Rattle.std.proofs.lemmas.List.{map-append, map_push}
use Rattle.serde_json.specs.Data.{Data}
use Rattle.serde_json.specs.View.{view}
use Rattle.event_json.specs.Sites.{Site}
use Rattle.serde_json.specs.declared.value.Value.{Value}
use Rattle.document_convert.specs.Accounts.{none_yet, with_line, with_lines}
use Rattle.document_convert.specs.Converted.{AreConverted, AreLinesOf, IsLineOf, account_from, account_with, as_asked, document_at, documents_of, in_light_parts, refused_at, refusals_of}
use Rattle.document_convert.specs.Texts.{Piece, begins, by_lines, line_pieces, lines_of, no_value, piece_of, pieces_at, pieces_from, pieces_of, unmarked, value_of, whole_or_lines}
use Rattle.document_convert.specs.declared.accounts.Account.{Account}
use Rattle.document_convert.specs.declared.converting.Conversion.{Conversion}
use Rattle.document_convert.specs.declared.converting.Converted.{Converted}
use Rattle.document_convert.specs.declared.converting.Refused.{Refused}

-- a line more
pub line_more : (ds : List Data) (d : Data) (lines line : List ℕ) → AreLinesOf ds lines → IsLineOf d line → AreLinesOf (ds ++ d ∷ []) (lines ++ line)
line_more [] d lines line none is = (line, [], is, refl, ap (λ ls. ls ++ line) none ∙ sym (append-nil line))
line_more (e ∷ ds) d lines line (first, rest, its, are, all) is =
    (first, rest ++ line, its, line_more ds d rest line are is, ap (λ ls. ls ++ line) all ∙ append_assoc first rest line)

counted_more : (ways : Conversion) (sites : List Site) (a : Account) (ds : List Data) (d : Data)
    → account_from ways sites a (ds ++ d ∷ []) ≡ account_with ways sites (account_from ways sites a ds) d
counted_more ways sites a [] d = refl
counted_more ways sites a (e ∷ ds) d = counted_more ways sites (account_with ways sites a e) ds d

-- a line more is counted
pub lines_counted : (a : Account) (ds : List Data) (d : Data) → with_lines a (ds ++ d ∷ []) ≡ with_line (with_lines a ds) d
lines_counted a [] d = refl
lines_counted a (e ∷ ds) d = lines_counted (with_line a e) ds d

-- the line of a document more, behind those of some
pub line_pushed : (old mid new : List ℕ) (taken : List Value) (d : Value) (line : List ℕ) → ((ds : List Data) → AreLinesOf ds old → AreLinesOf (ds ++ map view taken) mid)
    → IsLineOf (view d) line → new ≡ mid ++ line → (ds : List Data) → AreLinesOf ds old → AreLinesOf (ds ++ map view (taken ++ d ∷ [])) new
line_pushed old mid new taken d line so_far is lines ds are =
    let behind : (ds ++ map view taken) ++ view d ∷ [] ≡ ds ++ map view (taken ++ d ∷ []) =
    append_assoc ds (map view taken) (view d ∷ []) ∙ ap (λ (es : List Data). ds ++ es) (sym (map_push view taken d)) in
    subst (λ (es : List Data). AreLinesOf es new) behind
    (subst (AreLinesOf ((ds ++ map view taken) ++ view d ∷ [])) (sym lines) (line_more (ds ++ map view taken) (view d) mid line (so_far ds are) is))

pub account_pushed : (a old new : Account) (taken : List Value) (d : Value) → old ≡ with_lines a (map view taken) → new ≡ with_line old (view d) → new ≡ with_lines a (map view (taken ++ d ∷ []))
account_pushed a old new taken d counted is =
    is ∙ ap (λ b. with_line b (view d)) counted ∙ sym (ap (with_lines a) (map_push view taken d) ∙ lines_counted a (map view taken) (view d))

-- a document more
pub document_more : (ways : Conversion) (sites : List Site) (pieces : List Piece) (d : Data) (old new : Converted)
    → ((ds : List Data) → AreLinesOf ds (string_bytes old.lines) → AreLinesOf (ds ++ in_light_parts (as_asked ways sites d)) (string_bytes new.lines))
    → new.refused.items ≡ old.refused.items → new.account ≡ account_with ways sites old.account d
    → AreConverted ways sites pieces old → AreConverted ways sites (pieces ++ Ok d ∷ []) new
document_more ways sites pieces d old new lines same account are =
    let before = flat_map document_at pieces in
    let found : flat_map document_at (pieces ++ Ok d ∷ []) ≡ before ++ d ∷ [] = flat_map-append document_at pieces (Ok d ∷ []) in
    let written : documents_of ways sites (pieces ++ Ok d ∷ []) ≡ documents_of ways sites pieces ++ in_light_parts (as_asked ways sites d) =
    ap (λ ds. flat_map in_light_parts (map (as_asked ways sites) ds)) found
    ∙ ap (flat_map in_light_parts) (map-append (as_asked ways sites) before (d ∷ []))
    ∙ flat_map-append in_light_parts (map (as_asked ways sites) before) (as_asked ways sites d ∷ [])
    ∙ ap (λ ds. documents_of ways sites pieces ++ ds) (append-nil (in_light_parts (as_asked ways sites d))) in
    record {
      written = subst (λ ds. AreLinesOf ds (string_bytes new.lines)) (sym written) (lines (documents_of ways sites pieces) are.written);
      told = same ∙ are.told ∙ sym (flat_map-append refused_at pieces (Ok d ∷ []) ∙ append-nil (refusals_of pieces));
      counted = account ∙ ap (λ a. account_with ways sites a d) are.counted ∙ sym (ap (account_from ways sites none_yet) found ∙ counted_more ways sites none_yet before d);
    }

-- what is none more
pub refused_more : (ways : Conversion) (sites : List Site) (pieces : List Piece) (refused : Refused) (old new : Converted)
    → string_bytes new.lines ≡ string_bytes old.lines → new.refused.items ≡ old.refused.items ++ refused ∷ [] → new.account ≡ old.account
    → AreConverted ways sites pieces old → AreConverted ways sites (pieces ++ Err refused ∷ []) new
refused_more ways sites pieces refused old new same told account are =
    let found : flat_map document_at (pieces ++ Err refused ∷ []) ≡ flat_map document_at pieces =
    flat_map-append document_at pieces (Err refused ∷ []) ∙ append-nil (flat_map document_at pieces) in
    record {
      written = subst (λ ls. AreLinesOf (documents_of ways sites (pieces ++ Err refused ∷ [])) ls) (sym same)
          (subst (λ ds. AreLinesOf (flat_map in_light_parts (map (as_asked ways sites) ds)) (string_bytes old.lines)) (sym found) are.written);
      told = told ∙ ap (λ rs. rs ++ refused ∷ []) are.told ∙ sym (flat_map-append refused_at pieces (Err refused ∷ []));
      counted = account ∙ are.counted ∙ sym (ap (account_from ways sites none_yet) found);
    }

-- nothing yet
pub none_converted : (ways : Conversion) (sites : List Site) (new : Converted) → string_bytes new.lines ≡ [] → new.refused.items ≡ [] → new.account ≡ none_yet → AreConverted ways sites [] new
none_converted ways sites new lines told account = record { written = lines; told = told; counted = account }

-- ---- the documents of a value

numbered_more : {X : Type 0} (n : ℕ) (xs : List X) (x : X) → enumerate_from n (xs ++ x ∷ []) ≡ enumerate_from n xs ++ (n + length xs, x) ∷ []
numbered_more n [] x = ap (λ k. (k, x) ∷ []) (let same : n ≡ n + 0 = omega arith in same)
numbered_more n (y ∷ ys) x =
    let later : (n + 1) + length ys ≡ n + length (y ∷ ys) = omega arith in
    ap (λ l. (n, y) ∷ l) (numbered_more (n + 1) ys x ∙ ap (λ k. enumerate_from (n + 1) ys ++ (k, x) ∷ []) later)

pub pieces_more : (line first : ℕ) (found : List (Option Data)) (one : Option Data)
    → map (piece_of line) (enumerate_from first (found ++ one ∷ [])) ≡ map (piece_of line) (enumerate_from first found) ++ piece_of line (first + length found, one) ∷ []
pieces_more line first found one =
    ap (map (piece_of line)) (numbered_more first found one) ∙ map-append (piece_of line) (enumerate_from first found) ((first + length found, one) ∷ [])

-- Of a list so many were taken, and one is next.
module _ {A : Type 0} (all taken rest after : List A) (x : A) (left : all ≡ taken ++ rest) (next : rest ≡ x ∷ after) where
  whole : all ≡ taken ++ x ∷ after
  whole = left ∙ ap (λ l. taken ++ l) next

  pub left_more : all ≡ (taken ++ x ∷ []) ++ after
  left_more = whole ∙ sym (append_assoc taken (x ∷ []) after)

  pub fewer : length taken < length all
  fewer = let n : length all ≡ length taken + length (x ∷ after) = ap length whole ∙ length-append taken (x ∷ after) in omega arith

-- ---- lines

-- so many were done, and those of the rest are all
pub record AreDone (ways : Conversion) (sites : List Site) (lines rest : List (List ℕ)) (number : ℕ) (converted : Converted) : Type 0 where
  pub done : List Piece
  pub are : AreConverted ways sites done converted
  pub all : done ++ pieces_from number rest ≡ pieces_from 1 lines

pub line_done : (ways : Conversion) (sites : List Site) (lines rest more : List (List ℕ)) (number later : ℕ) (line : List ℕ) (old new : Converted)
    → rest ≡ line ∷ more → later ≡ number + 1
    → ((pieces : List Piece) → AreConverted ways sites pieces old → AreConverted ways sites (pieces ++ line_pieces number line) new)
    → AreDone ways sites lines rest number old → AreDone ways sites lines more later new
line_done ways sites lines rest more number later line old new is next one done = record {
  done = done.done ++ line_pieces number line;
  are = one done.done done.are;
  all =
      append_assoc done.done (line_pieces number line) (pieces_from later more)
      ∙ ap (λ n. done.done ++ (line_pieces number line ++ pieces_from n more)) next
      ∙ ap (λ ls. done.done ++ pieces_from number ls) (sym is)
      ∙ done.all;
}

pub none_begins : (ways : Conversion) (sites : List Site) (lines : List (List ℕ)) (refused : Refused) (new : Converted) → begins lines ≡ false → refused ≡ no_value 0
    → AreConverted ways sites (Err refused ∷ []) new → AreConverted ways sites (by_lines lines) new
none_begins ways sites lines refused new none is are =
    subst (λ ps. AreConverted ways sites ps new)
    (ap (λ (r : Refused). Err r ∷ []) is ∙ sym (ap (λ (b : Bool). if b then pieces_from 1 lines else Err (no_value 0) ∷ []) none)) are

pub all_done : (ways : Conversion) (sites : List Site) (lines : List (List ℕ)) (number : ℕ) (new : Converted) → begins lines ≡ true → AreDone ways sites lines [] number new
    → AreConverted ways sites (by_lines lines) new
all_done ways sites lines number new some done =
    subst (λ ps. AreConverted ways sites ps new)
    (sym (append-nil done.done) ∙ done.all ∙ sym (ap (λ (b : Bool). if b then pieces_from 1 lines else Err (no_value 0) ∷ []) some)) done.are

pub whole_text : (ways : Conversion) (sites : List Site) (text : List ℕ) (d : Data) (new : Converted) → Some d ≡ value_of (unmarked text)
    → AreConverted ways sites (pieces_at 0 (Some d)) new → AreConverted ways sites (pieces_of text) new
whole_text ways sites text d new is are = subst (λ o. AreConverted ways sites (whole_or_lines (unmarked text) o) new) is are

pub text_by_lines : (ways : Conversion) (sites : List Site) (text : List ℕ) (new : Converted) → None ≡ value_of (unmarked text)
    → AreConverted ways sites (by_lines (lines_of (unmarked text))) new → AreConverted ways sites (pieces_of text) new
text_by_lines ways sites text new is are = subst (λ o. AreConverted ways sites (whole_or_lines (unmarked text) o) new) is are
