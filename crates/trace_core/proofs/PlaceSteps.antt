-- The places of keys, as events are noted and taken back.
use Rattle.std.proofs.Common.{◌≡◌, ◌==◌, ◌<◌, ◌-◌, ◌+◌, ℕ, Bool, true, false, not, cond, ◌&&◌, ◌||◌, List, [], ◌∷◌, ◌++◌, Option, Some, None, length, take, drop, get_or, slice_get, Result, Ok, Err, OnErr, refl, sym, ap, ◌∙◌, ⊎_elim, append-nil, length-append, arith}
use mathlib.Core.Bool.{false≢true}
use Rattle.std.specs.Str.{bytes_eq}
use Rattle.std.specs.List.{Contains}
use Rattle.std.specs.String.{string_bytes, string_eq}
use Rattle.indexmap.specs.IndexMap.{UpdatesBy}
use Rattle.std.proofs.Math.Seq.{get_or-append_seam}
use Rattle.std.proofs.lemmas.Bool.{cases_Bool, cond-true, cond-false, eqb-true, eq-eqb}
use Rattle.std.proofs.lemmas.List.{take_at, take-append-drop}
use Rattle.std.proofs.lemmas.List.Folds.{list_any_more, list_any-append}
use Rattle.std.proofs.lemmas.Map.Text.{hash_map_updates_text}
use Rattle.std.proofs.lemmas.Option.{slice_get-get_or, slice_get_cases, get_or_from_slice_get}
use Rattle.std.proofs.lemmas.Slice.Eq.{bytes_eq-Decides}
use Rattle.trace_core.specs.PairTests.{lists, same_item}
use Rattle.trace_core.specs.Places.{kept, or_none, is_place, ends_with, with_last, without_last, text_places, Notes, NotesSome, Forgets, ForgetsIn, KeepsNone, left_of, is_emptied, TextIndex}

-- what a look-up of a text finds after a change at one
pub text_found : (old new : TextIndex) (bytes : List ℕ) (w : Option (List ℕ)) → UpdatesBy string_eq (λ k. bytes_eq bytes (string_bytes k)) old new w
    → (i : List ℕ) → text_places new i ≡ cond (same_item bytes i) w (text_places old i)
text_found old new bytes w upd i = hash_map_updates_text bytes old new w upd i

pub kept_all : (places : List ℕ) → or_none (kept places) ≡ places
kept_all [] = refl
kept_all (k ∷ ks) = refl

kept_more : (places : List ℕ) (k : ℕ) → Some (places ++ k ∷ []) ≡ kept (places ++ k ∷ [])
kept_more [] k = refl
kept_more (j ∷ js) k = refl

kept_some : (places : List ℕ) → (length places == 0) ≡ false → Some places ≡ kept places
kept_some [] h = absurd (false≢true (sym h))
kept_some (k ∷ ks) h = refl

kept_none : (places : List ℕ) → (length places == 0) ≡ true → None ≡ kept places
kept_none [] h = refl
kept_none (k ∷ ks) h = let no : length (k ∷ ks) ≡ 0 = eqb-true (length (k ∷ ks)) 0 h in absurd (omega (arith, no))

-- this place ends the places
pub ends_pushed : (places : List ℕ) (k : ℕ) → ends_with k (places ++ k ∷ []) ≡ true
ends_pushed places k =
    let len = length-append places (k ∷ []) in
    let last : length (places ++ k ∷ []) - 1 ≡ length places = omega (arith, len) in
    let is : slice_get (places ++ k ∷ []) (length places) ≡ Some k = slice_get-get_or (places ++ k ∷ []) (length places) k (omega (arith, len)) ∙ ap Some (get_or-append_seam places k [] k) in
    ap (λ n. is_place k (slice_get (places ++ k ∷ []) n)) last ∙ ap (is_place k) is ∙ eq-eqb k k refl

not_place : (k : ℕ) (o : Option ℕ) → ((j : ℕ) → o ≡ Some j → j < k) → is_place k o ≡ false
not_place k None h = refl
not_place k (Some j) h = ⊎_elim
    (λ same. let below = h j refl in absurd (omega (arith, below, eqb-true j k same)))
    (λ other. other)
    (cases_Bool (j == k))

-- earlier places don't
pub ends_earlier : (places : List ℕ) (k : ℕ) → ((j : ℕ) → Contains places j → j < k) → ends_with k places ≡ false
ends_earlier places k below = not_place k (slice_get places (length places - 1)) (λ j is. ⊎_elim
    (λ (y, lt, there, at). below j (length places - 1, lt, get_or_from_slice_get places (length places - 1) j j is))
    (λ (past, none). absurd (absent (slice_get places (length places - 1)) j none is))
    (slice_get_cases places (length places - 1)).1)
  where
    absent : (o : Option ℕ) (x : ℕ) → o ≡ None → o ≡ Some x → ⊥
    absent o x none some = cc

module _ (places : List ℕ) (k : ℕ) (below : (j : ℕ) → Contains places j → j < k) where
  noted_last : (b : Bool) → with_last k (or_none (kept (places ++ cond b (k ∷ []) []))) ≡ places ++ k ∷ []
  noted_last true = ap (with_last k) (kept_all (places ++ k ∷ [])) ∙ ap (λ b. cond b (places ++ k ∷ []) ((places ++ k ∷ []) ++ k ∷ [])) (ends_pushed places k)
  noted_last false = ap (with_last k) (kept_all (places ++ []) ∙ append-nil places) ∙ ap (λ b. cond b places (places ++ k ∷ [])) (ends_earlier places k below)

  forgotten_last : (b : Bool) → without_last k (or_none (kept (places ++ cond b (k ∷ []) []))) ≡ places
  forgotten_last true =
      let last : length (places ++ k ∷ []) - 1 ≡ length places = omega (arith, length-append places (k ∷ [])) in
      ap (without_last k) (kept_all (places ++ k ∷ [])) ∙ ap (λ b. cond b (take (length (places ++ k ∷ []) - 1) (places ++ k ∷ [])) (places ++ k ∷ [])) (ends_pushed places k)
      ∙ ap (λ n. take n (places ++ k ∷ [])) last ∙ take_at places (k ∷ []) (length places) refl
  forgotten_last false = ap (without_last k) (kept_all (places ++ []) ∙ append-nil places) ∙ ap (λ b. cond b (take (length places - 1) places) places) (ends_earlier places k below)

or_yes : (b : Bool) → (b || true) ≡ true
or_yes true = refl
or_yes false = refl

or_no : (b : Bool) → (b || false) ≡ b
or_no true = refl
or_no false = refl

and_no : (b : Bool) → (b && false) ≡ false
and_no true = refl
and_no false = refl

and_yes : (b : Bool) → (b && true) ≡ b
and_yes true = refl
and_yes false = refl

module _ (found found' : List ℕ → Option (List ℕ)) (place : ℕ) (key : List ℕ) where
  -- the place is noted for one key
  pub noted_key : (new : List ℕ) → ((i : List ℕ) → found' i ≡ cond (same_item key i) (Some new) (found i)) → new ≡ with_last place (or_none (found key)) → Notes found found' place (same_item key)
  noted_key new changed is earlier noted before so_far i = ⊎_elim
      (λ here.
      let same : key ≡ i = (bytes_eq-Decides key i).0 here in
      changed i ∙ cond-true _ (Some new) (found i) here
      ∙ ap Some (is ∙ ap (λ k. with_last place (or_none (found k))) same ∙ ap (λ o. with_last place (or_none o)) (so_far i) ∙ noted_last (earlier i) place (before i) (noted i))
      ∙ kept_more (earlier i) place
      ∙ ap (λ b. kept (earlier i ++ cond b (place ∷ []) [])) (sym (ap (λ b. noted i || b) here ∙ or_yes (noted i))))
      (λ other.
      changed i ∙ cond-false _ (Some new) (found i) other ∙ so_far i
      ∙ ap (λ b. kept (earlier i ++ cond b (place ∷ []) [])) (sym (ap (λ b. noted i || b) other ∙ or_no (noted i))))
      (cases_Bool (same_item key i))

  -- it is taken away from one key
  pub forgotten_key : ((i : List ℕ) → found' i ≡ cond (same_item key i) (kept (without_last place (or_none (found key)))) (found i)) → Forgets found found' place (same_item key)
  forgotten_key changed earlier noted before so_far i = ⊎_elim
      (λ here.
      let same : key ≡ i = (bytes_eq-Decides key i).0 here in
      changed i ∙ cond-true _ (kept (without_last place (or_none (found key)))) (found i) here
      ∙ ap kept (ap (λ k. without_last place (or_none (found k))) same ∙ ap (λ o. without_last place (or_none o)) (so_far i) ∙ forgotten_last (earlier i) place (before i) (noted i) ∙ sym (append-nil (earlier i)))
      ∙ ap (λ b. kept (earlier i ++ cond b (place ∷ []) [])) (sym (ap (λ b. noted i && not b) here ∙ and_no (noted i))))
      (λ other.
      changed i ∙ cond-false _ (kept (without_last place (or_none (found key)))) (found i) other ∙ so_far i
      ∙ ap (λ b. kept (earlier i ++ cond b (place ∷ []) [])) (sym (ap (λ b. noted i && not b) other ∙ and_yes (noted i))))
      (cases_Bool (same_item key i))

left_empty : (place : ℕ) (o : Option (List ℕ)) → is_emptied place o ≡ true → None ≡ kept (without_last place (or_none o))
left_empty place None h = absurd (false≢true h)
left_empty place (Some places) h = kept_none (without_last place places) h

left_some : (place : ℕ) (o : Option (List ℕ)) → is_emptied place o ≡ false → left_of place o ≡ kept (without_last place (or_none o))
left_some place None h = refl
left_some place (Some places) h = kept_some (without_last place places) h

module _ (found left : List ℕ → Option (List ℕ)) (place : ℕ) (key : List ℕ) (taken : ForgetsIn found left place key) where
  -- none was left, and the key went too
  pub forgotten_whole : (found' : List ℕ → Option (List ℕ)) → is_emptied place (found key) ≡ true → ((i : List ℕ) → found' i ≡ cond (same_item key i) None (left i)) → Forgets found found' place (same_item key)
  forgotten_whole found' emptied changed = forgotten_key found found' place key (λ i. ⊎_elim
      (λ here. changed i ∙ cond-true _ None (left i) here ∙ left_empty place (found key) emptied ∙ sym (cond-true _ (kept (without_last place (or_none (found key)))) (found i) here))
      (λ other. changed i ∙ cond-false _ None (left i) other ∙ taken i ∙ cond-false _ (left_of place (found i)) (found i) other ∙ sym (cond-false _ (kept (without_last place (or_none (found key)))) (found i) other))
      (cases_Bool (same_item key i)))

  -- some are left
  pub forgotten_part : is_emptied place (found key) ≡ false → Forgets found left place (same_item key)
  forgotten_part some = forgotten_key found left place key (λ i. ⊎_elim
      (λ here. taken i ∙ cond-true _ (left_of place (found i)) (found i) here ∙ ap (λ k. left_of place (found k)) (sym ((bytes_eq-Decides key i).0 here)) ∙ left_some place (found key) some ∙ sym (cond-true _ (kept (without_last place (or_none (found key)))) (found i) here))
      (λ other. taken i ∙ cond-false _ (left_of place (found i)) (found i) other ∙ sym (cond-false _ (kept (without_last place (or_none (found key)))) (found i) other))
      (cases_Bool (same_item key i)))

-- one after another
module _ (first second third : List ℕ → Option (List ℕ)) (place : ℕ) (xs ys all : List ℕ → Bool) (both : (i : List ℕ) → all i ≡ (xs i || ys i)) where
  pub notes_both : Notes first second place xs → Notes second third place ys → Notes first third place all
  notes_both one two earlier noted before so_far i =
      two earlier (λ i. noted i || xs i) before (one earlier noted before so_far) i
      ∙ ap (λ b. kept (earlier i ++ cond b (place ∷ []) [])) (assoc (noted i) (xs i) (ys i) ∙ ap (λ b. noted i || b) (sym (both i)))
    where
      assoc : (a b c : Bool) → ((a || b) || c) ≡ (a || (b || c))
      assoc true b c = refl
      assoc false b c = refl

  pub forgets_both : Forgets first second place xs → Forgets second third place ys → Forgets first third place all
  forgets_both one two earlier noted before so_far i =
      two earlier (λ i. noted i && not (xs i)) before (one earlier noted before so_far) i
      ∙ ap (λ b. kept (earlier i ++ cond b (place ∷ []) [])) (nor (noted i) (xs i) (ys i) ∙ ap (λ b. noted i && not b) (sym (both i)))
    where
      nor : (a b c : Bool) → ((a && not b) && not c) ≡ (a && not (b || c))
      nor true true c = refl
      nor true false c = refl
      nor false b c = refl

-- one key more of a list
pub lists_more : (items : List (List ℕ)) (n : ℕ) (x : List ℕ) → n < length items → x ≡ get_or items n x → (i : List ℕ) → lists (take (n + 1) items) i ≡ (lists (take n items) i || same_item x i)
lists_more items n x below at i = list_any_more (λ j. same_item j i) items n x below ∙ ap (λ z. lists (take n items) i || same_item z i) (sym at)

module _ (found found' : List ℕ → Option (List ℕ)) (key places new : List ℕ) (changed : (i : List ℕ) → found' i ≡ cond (same_item key i) (Some new) (found i)) (has : found key ≡ Some places) where
  -- what is written again changes nothing
  pub same_again : new ≡ places → (i : List ℕ) → found' i ≡ found i
  same_again same i = ⊎_elim
      (λ here. changed i ∙ cond-true _ (Some new) (found i) here ∙ ap Some same ∙ sym has ∙ ap found ((bytes_eq-Decides key i).0 here))
      (λ other. changed i ∙ cond-false _ (Some new) (found i) other)
      (cases_Bool (same_item key i))

  -- the place is taken away from what is kept
  pub taken_in : (place : ℕ) → new ≡ without_last place places → ForgetsIn found found' place key
  taken_in place is i = changed i ∙ ⊎_elim
      (λ here. cond-true _ (Some new) (found i) here ∙ ap Some is ∙ ap (left_of place) (sym has ∙ ap found ((bytes_eq-Decides key i).0 here)) ∙ sym (cond-true _ (left_of place (found i)) (found i) here))
      (λ other. cond-false _ (Some new) (found i) other ∙ sym (cond-false _ (left_of place (found i)) (found i) other))
      (cases_Bool (same_item key i))

-- the first ones of a list are among it
lists_taken : (items : List (List ℕ)) (n : ℕ) (i : List ℕ) → lists (take n items) i ≡ true → lists items i ≡ true
lists_taken items n i h = ap (λ xs. lists xs i) (sym (take-append-drop n items)) ∙ list_any-append (λ j. same_item j i) (take n items) (drop n items) ∙ ap (λ b. b || lists (drop n items) i) h

-- some of the items are noted, and what came then changed nothing
pub noted_some : (first cur new : List ℕ → Option (List ℕ)) (place : ℕ) (items : List (List ℕ)) (n : ℕ) → Notes first cur place (lists (take n items)) → ((i : List ℕ) → new i ≡ cur i) → NotesSome first new place (lists items)
noted_some first cur new place items n so_far same = record {
  some = lists (take n items);
  among = lists_taken items n;
  noted = λ earlier noted before is i. same i ∙ so_far earlier noted before is i;
}

-- what was noted for some is taken away again
pub forgotten_again : (first second third : List ℕ → Option (List ℕ)) (place : ℕ) (keys : List ℕ → Bool) → NotesSome first second place keys → Forgets second third place keys → KeepsNone first third place
forgotten_again first second third place keys one two earlier before is i =
    two earlier (λ i. false || one.some i) before (one.noted earlier (λ i. false) before is) i
    ∙ ap (λ b. kept (earlier i ++ cond b (place ∷ []) [])) (gone (one.some i) (keys i) (one.among i))
  where
    gone : (a b : Bool) → (a ≡ true → b ≡ true) → (a && not b) ≡ false
    gone true true h = refl
    gone true false h = absurd (false≢true (h refl))
    gone false b h = refl

-- an answer that is a fault
pub after_fault : {A E P : Type 0} (result : Result A E) → P → OnErr result P
after_fault (Ok a) p = tt
after_fault (Err e) p = p

-- a new key, with its first place
pub noted_new : (old cur new : List ℕ → Option (List ℕ)) (key copy places : List ℕ) (place : ℕ) → ((i : List ℕ) → new i ≡ cond (same_item copy i) (Some places) (cur i))
    → cur ≡ old → copy ≡ key → places ≡ place ∷ [] → None ≡ old key → Notes old new place (same_item key)
noted_new old cur new key copy places place changed as_before copied one none =
    noted_key old new place key places
    (λ i. changed i ∙ ap (λ (f : List ℕ → Option (List ℕ)). cond (same_item copy i) (Some places) (f i)) as_before ∙ ap (λ k. cond (same_item k i) (Some places) (old i)) copied)
    (one ∙ ap (λ o. with_last place (or_none o)) none)

-- noted for no key
pub notes_same : (found found' : List ℕ → Option (List ℕ)) (place : ℕ) (keys : List ℕ → Bool) → ((i : List ℕ) → keys i ≡ false) → ((i : List ℕ) → found' i ≡ found i) → Notes found found' place keys
notes_same found found' place keys none same earlier noted before is i = same i ∙ is i ∙ ap (λ b. kept (earlier i ++ cond b (place ∷ []) [])) (sym (ap (λ b. noted i || b) (none i) ∙ or_no (noted i)))

-- noted and then nothing more
pub notes_then_same : (first second third : List ℕ → Option (List ℕ)) (place : ℕ) (keys : List ℕ → Bool) → Notes first second place keys → ((i : List ℕ) → third i ≡ second i) → Notes first third place keys
notes_then_same first second third place keys one same earlier noted before is i = same i ∙ one earlier noted before is i
