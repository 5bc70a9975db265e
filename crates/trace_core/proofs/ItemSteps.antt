-- The items of an event are noted and taken back, one after another.
use Rattle.std.proofs.Common.{◌≡◌, ◌<◌, ◌≤◌, ◌+◌, ℕ, true, ◌||◌, List, [], ◌∷◌, ◌++◌, length, take, get_or, Option, Some, unwrap_or, refl, sym, ap, subst, ◌∙◌, append-nil, append_assoc}
use Rattle.std.specs.List.{Contains}
use Rattle.std.proofs.lemmas.List.{take_all, take_more, map-append}
use Rattle.trace_core.specs.Indexes.{KnowsItems, KnowsSomeItems, NotesItems, NotesSomeItems, ForgetsPlace, ForgetsItems, KeepsItems}
use Rattle.trace_core.specs.Numbers.{Named, with_names, names_of, number_in, numbers_of, item_places, changed, known_too, noted}
use Rattle.trace_core.specs.Places.{with_last, without_last, or_none}
use Rattle.trace_core.specs.PairTests.{lists, same_item}
use Rattle.trace_core.specs.Spreads.{parents}
use Rattle.trace_core.proofs.Booleans.{or_true}
use Rattle.trace_core.proofs.NumberLists.{with_one, with_more, with_names-append, lists_with, numbers_stay}
use Rattle.trace_core.proofs.NamedLists.{known_found, known_names, noted_found, noted_names, forgotten_found, changed_names}
use Rattle.trace_core.proofs.PairTestsDecide.{lists_decides}
use Rattle.trace_core.proofs.PlaceSteps.{noted_key, forgotten_key, notes_both, forgets_both, notes_same, notes_then_same, noted_some, forgotten_again, lists_more}

-- items that have numbers are known
known_listed : (first second : List Named) (items : List (List ℕ)) → KnowsItems first second items → (i : List ℕ) → Contains items i → lists (names_of second) i ≡ true
known_listed first second items known i there =
    ap (λ ns. lists ns i) known.names ∙ lists_with items (names_of first) i
    ∙ ap (λ b. lists (names_of first) i || b) ((lists_decides items i).1 there) ∙ or_true (lists (names_of first) i)

-- nothing is known more
pub knows_nothing : (named : List Named) → KnowsSomeItems named named
knows_nothing named = record { same = λ i. refl; more = []; names = sym (append-nil (names_of named)) }

module _ (first cur new : List Named) (items : List (List ℕ)) (n : ℕ) where
  -- one item more has a number
  pub know_one : (x : List ℕ) → n < length items → x ≡ get_or items n x → new ≡ known_too x cur → KnowsItems first cur (take n items) → KnowsItems first new (take (n + 1) items)
  know_one x below at is so_far = record {
    same = λ i. ap (λ (ys : List Named). item_places ys i) is ∙ known_found x cur i ∙ so_far.same i;
    names =
        let more : take (n + 1) items ≡ take n items ++ x ∷ [] = take_more items n x below ∙ ap (λ z. take n items ++ z ∷ []) (sym at) in
        ap names_of is ∙ known_names x cur ∙ ap (λ ns. with_names ns (x ∷ [])) so_far.names ∙ sym (with_names-append (take n items) (names_of first) (x ∷ [])) ∙ ap (with_names (names_of first)) (sym more);
  }

  -- which comes after others
  pub number_one : (x : List ℕ) (number : ℕ) (numbers numbers' : List ℕ) → n < length items → x ≡ get_or items n x → new ≡ known_too x cur → number_in (names_of new) x ≡ Some number → KnowsItems first cur (take n items)
      → numbers ≡ numbers_of (names_of cur) (take n items) → numbers' ≡ numbers ++ number ∷ [] → numbers' ≡ numbers_of (names_of new) (take (n + 1) items)
  number_one x number numbers numbers' below at is known so_far are pushed =
      let more : take (n + 1) items ≡ take n items ++ x ∷ [] = take_more items n x below ∙ ap (λ z. take n items ++ z ∷ []) (sym at) in
      let (added, names) = with_one (names_of cur) x in
      let stay : numbers_of (names_of new) (take n items) ≡ numbers_of (names_of cur) (take n items) =
      ap (λ ns. numbers_of ns (take n items)) (ap names_of is ∙ known_names x cur ∙ names) ∙ numbers_stay (names_of cur) added (take n items) (known_listed first cur (take n items) so_far) in
      pushed ∙ ap (λ ns. ns ++ number ∷ []) (are ∙ sym stay)
      ∙ ap (λ o. numbers_of (names_of new) (take n items) ++ unwrap_or o 0 ∷ []) (sym known)
      ∙ sym (map-append (λ i. unwrap_or (number_in (names_of new) i) 0) (take n items) (x ∷ []))
      ∙ ap (numbers_of (names_of new)) (sym more)

  -- all of them
  pub know_each : length items ≤ n → KnowsItems first cur (take n items) → KnowsItems first cur items
  know_each past = subst (KnowsItems first cur) (take_all n items past)

  -- some of them, and what came then changed nothing
  pub know_stops : KnowsItems first cur (take n items) → new ≡ cur → KnowsSomeItems first new
  know_stops so_far same =
      let (more, is) = with_more (take n items) (names_of first) in
      record {
        same = λ i. ap (λ (ys : List Named). item_places ys i) same ∙ so_far.same i;
        more = more;
        names = ap names_of same ∙ so_far.names ∙ is;
      }

module _ (first cur new : List Named) (place : ℕ) (items : List (List ℕ)) (n : ℕ) where
  -- one input more
  pub note_one : (x : List ℕ) → n < length items → x ≡ get_or items n x → new ≡ noted place x cur → NotesItems first cur place (take n items) (take n items) → NotesItems first new place (take (n + 1) items) (take (n + 1) items)
  note_one x below at is so_far = record {
    noted = notes_both (item_places first) (item_places cur) (item_places new) place (lists (take n items)) (same_item x) (lists (take (n + 1) items)) (lists_more items n x below at) so_far.noted
        (noted_key (item_places cur) (item_places new) place x (with_last place (or_none (item_places cur x))) (λ j. ap (λ (ys : List Named). item_places ys j) is ∙ noted_found place x cur j) refl);
    names =
        let more : take (n + 1) items ≡ take n items ++ x ∷ [] = take_more items n x below ∙ ap (λ z. take n items ++ z ∷ []) (sym at) in
        ap names_of is ∙ noted_names place x cur ∙ ap (λ ns. with_names ns (x ∷ [])) so_far.names ∙ sym (with_names-append (take n items) (names_of first) (x ∷ [])) ∙ ap (with_names (names_of first)) (sym more);
  }

  -- all of them
  pub note_each : length items ≤ n → NotesItems first cur place (take n items) (take n items) → NotesItems first cur place items items
  note_each past = subst (λ xs. NotesItems first cur place xs xs) (take_all n items past)

  -- some of them, and what came then changed nothing
  pub note_stops : NotesItems first cur place (take n items) (take n items) → new ≡ cur → NotesSomeItems first new place items
  note_stops so_far same =
      let (more, is) = with_more (take n items) (names_of first) in
      record {
        noted = noted_some (item_places first) (item_places cur) (item_places new) place items n so_far.noted (λ i. ap (λ (ys : List Named). item_places ys i) same);
        more = more;
        names = ap names_of same ∙ so_far.names ∙ is;
      }

  -- it is taken away from one item more
  pub forget_one : (x : List ℕ) → n < length items → x ≡ get_or items n x → new ≡ changed (without_last place) x cur → ForgetsPlace first cur place (lists (take n items)) → ForgetsPlace first new place (lists (take (n + 1) items))
  forget_one x below at is so_far = record {
    forgotten = forgets_both (item_places first) (item_places cur) (item_places new) place (lists (take n items)) (same_item x) (lists (take (n + 1) items)) (lists_more items n x below at) so_far.forgotten
        (forgotten_key (item_places cur) (item_places new) place x (λ j. ap (λ (ys : List Named). item_places ys j) is ∙ forgotten_found place x cur j));
    names = ap names_of is ∙ changed_names (without_last place) x cur ∙ so_far.names;
  }

  pub forget_each : length items ≤ n → ForgetsPlace first cur place (lists (take n items)) → ForgetsPlace first cur place (lists items)
  forget_each past = subst (λ xs. ForgetsPlace first cur place (lists xs)) (take_all n items past)

-- the event takes nothing in
module _ (first second : List Named) (place : ℕ) where
  pub some_noted : KnowsSomeItems first second → NotesSomeItems first second place []
  some_noted known = record {
    noted = record { some = lists []; among = λ i h. h; noted = notes_same (item_places first) (item_places second) place (lists []) (λ i. refl) known.same };
    more = known.more;
    names = known.names;
  }

-- the inputs are noted, and then the outputs get numbers
module _ (first second third : List Named) (place : ℕ) (ins outs : List (List ℕ)) (one : NotesItems first second place ins ins) where
  pub note_two : KnowsItems second third outs → NotesItems first third place (ins ++ outs) ins
  note_two two = record {
    noted = notes_then_same (item_places first) (item_places second) (item_places third) place (lists ins) one.noted two.same;
    names = two.names ∙ ap (λ ns. with_names ns outs) one.names ∙ sym (with_names-append ins (names_of first) outs);
  }

  pub note_some_then : KnowsSomeItems second third → NotesSomeItems first third place ins
  note_some_then two =
      let (more, is) = with_more ins (names_of first) in
      record {
        noted = record { some = lists ins; among = λ i h. h; noted = notes_then_same (item_places first) (item_places second) (item_places third) place (lists ins) one.noted two.same };
        more = more ++ two.more;
        names = two.names ∙ ap (λ ns. ns ++ two.more) (one.names ∙ is) ∙ append_assoc (names_of first) more two.more;
      }

-- what was noted for some is taken back
pub taken_again : (first second third : List Named) (place before : ℕ) (ins : List (List ℕ)) → NotesSomeItems first second place ins → ForgetsItems second third place (lists ins) before → before ≡ length first → KeepsItems first third place
taken_again first second third place before ins one two is = record {
  left = two.left;
  none = forgotten_again (item_places first) (item_places second) (item_places two.left) place (lists ins) one.noted two.forgotten.forgotten;
  more = one.more;
  names = two.forgotten.names ∙ one.names;
  taken = two.taken ∙ ap (λ n. take n two.left) is;
}

-- ---- a parent and its children

pub knows_parent : (old new : List Named) (parent : Option (List ℕ)) (p : List ℕ) → parent ≡ Some p → new ≡ known_too p old → KnowsItems old new (parents parent)
knows_parent old new parent p is known = subst (λ o. KnowsItems old new (parents o)) (sym is) (record {
  same = λ i. ap (λ (ys : List Named). item_places ys i) known ∙ known_found p old i;
  names = ap names_of known ∙ known_names p old;
})

module _ (first second third : List Named) (xs : List (List ℕ)) (one : KnowsItems first second xs) where
  pub knows_both : (ys : List (List ℕ)) → KnowsItems second third ys → KnowsItems first third (xs ++ ys)
  knows_both ys two = record {
    same = λ i. two.same i ∙ one.same i;
    names = two.names ∙ ap (λ ns. with_names ns ys) one.names ∙ sym (with_names-append xs (names_of first) ys);
  }

  pub knows_some_then : KnowsSomeItems second third → KnowsSomeItems first third
  knows_some_then two =
      let (more, is) = with_more xs (names_of first) in
      record {
        same = λ i. two.same i ∙ one.same i;
        more = more ++ two.more;
        names = two.names ∙ ap (λ ns. ns ++ two.more) (one.names ∙ is) ∙ append_assoc (names_of first) more two.more;
      }
