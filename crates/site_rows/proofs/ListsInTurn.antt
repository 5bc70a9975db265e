-- The rows of a list, one after another.
use Rattle.std.proofs.Common.{◌≡◌, ℕ, ◌+◌, suc, List, [], ◌∷◌, ◌++◌, length, map, take, Some, sym, ap, ◌∙◌, append_assoc, arith}
use Rattle.std.specs.List.{enumerate_from, slice_get}
use Rattle.std.proofs.lemmas.List.{append-nil, length-map, map-append, map-id}
use Rattle.site_core.proofs.Places.{taken_more}
use Rattle.event_json.specs.Events.{Content}
use Rattle.site_rows.specs.RecordRows.{event_row, part_rows}
use Rattle.site_rows.specs.declared.rows.EventRow.{EventRow}
use Rattle.site_rows.specs.declared.rows.PartRow.{PartRow}

pub numbered_more : {X R : Type 0} (f : ℕ × X → R) (n : ℕ) (xs : List X) (x : X) → map f (enumerate_from n (xs ++ x ∷ [])) ≡ map f (enumerate_from n xs) ++ f (n + length xs, x) ∷ []
numbered_more f n [] x = let at : n ≡ n + 0 = omega arith in ap (λ k. f (k, x) ∷ []) at
numbered_more f n (y ∷ xs) x =
    let at : n + 1 + length xs ≡ n + suc (length xs) = omega arith in
    ap (λ rs. f (n, y) ∷ rs) (numbered_more f (n + 1) xs x ∙ ap (λ k. map f (enumerate_from (n + 1) xs) ++ f (k, x) ∷ []) at)

-- no member yet
pub no_member : {M R : Type 0} (row_of : ℕ × List ℕ → R) (text : M → List ℕ) (front : List R) (ms : List M) → ms ≡ [] → front ≡ front ++ map row_of (enumerate_from 0 (map text ms))
no_member row_of text front ms none = sym (append-nil front) ∙ ap (λ xs. front ++ map row_of (enumerate_from 0 (map text xs))) (sym none)

-- one more member
pub member_more : {M R : Type 0} (row_of : ℕ × List ℕ → R) (text : M → List ℕ) (rows : List R) (start at place : ℕ) (ms : List M) (m : M)
    → length ms ≡ place → slice_get rows at ≡ Some (row_of (place, text m)) → take at rows ≡ take start rows ++ map row_of (enumerate_from 0 (map text ms))
    → take (at + 1) rows ≡ take start rows ++ map row_of (enumerate_from 0 (map text (ms ++ m ∷ [])))
member_more row_of text rows start at place ms m counted there so_far =
    let row = λ (k : ℕ). row_of (k, text m) in
    let made = λ (texts : List (List ℕ)). map row_of (enumerate_from 0 texts) in
    let zeroth : length (map text ms) ≡ 0 + length (map text ms) = omega arith in
    let size : place ≡ 0 + length (map text ms) = sym counted ∙ sym (length-map ms text) ∙ zeroth in
    let more : made (map text ms) ++ row place ∷ [] ≡ made (map text (ms ++ m ∷ [])) =
    ap (λ k. made (map text ms) ++ row k ∷ []) size ∙ sym (numbered_more row_of 0 (map text ms) (text m)) ∙ ap made (sym (map-append text ms (m ∷ []))) in
    taken_more rows at (row place) there ∙ ap (λ xs. xs ++ row place ∷ []) so_far ∙ append_assoc (take start rows) (made (map text ms)) (row place ∷ []) ∙ ap (λ xs. take start rows ++ xs) more

-- members that are their texts
pub own_texts : (event role : ℕ) (start rows : List PartRow) (texts : List (List ℕ)) → rows ≡ start ++ part_rows event role (map (λ t. t) texts) → rows ≡ start ++ part_rows event role texts
own_texts event role start rows texts is = is ∙ ap (λ ts. start ++ part_rows event role ts) (map-id texts)

-- two lists, one behind the other
pub two_lists : (start a b one two : List PartRow) → one ≡ start ++ a → two ≡ one ++ b → two ≡ start ++ (a ++ b)
two_lists start a b one two first second = second ∙ ap (λ xs. xs ++ b) first ∙ append_assoc start a b

-- one more event
pub event_more : (rows : List EventRow) (n : ℕ) (r : EventRow) (es after : List Content) (e : Content) → slice_get rows n ≡ Some r → length es ≡ n → r ≡ event_row (n + 1, e) → after ≡ es ++ e ∷ []
    → take n rows ≡ map event_row (enumerate_from 1 es) → take (n + 1) rows ≡ map event_row (enumerate_from 1 after)
event_more rows n r es after e there counted is more so_far =
    let at : n + 1 ≡ 1 + length es = omega (arith, counted) in
    taken_more rows n r there ∙ ap (λ xs. xs ++ r ∷ []) so_far ∙ ap (λ q. map event_row (enumerate_from 1 es) ++ q ∷ []) (is ∙ ap (λ k. event_row (k, e)) at)
    ∙ sym (numbered_more event_row 1 es e) ∙ ap (λ xs. map event_row (enumerate_from 1 xs)) (sym more)
