-- The rows of all events in a table, read in turn: the first that can't follow is the first bad one.
use Rattle.std.proofs.Common.{◌≡◌, ℕ, zero, suc, ◌+◌, ◌<◌, ◌≤◌, ℤ, Option, Some, None, List, [], ◌∷◌, ◌++◌, length, map, take, drop, refl, sym, ap, subst, ◌∙◌, append_assoc, arith}
use Rattle.std.specs.List.{enumerate_from, flat_map, slice_get}
use Rattle.std.proofs.Math.ListN.{drop_of_length-le}
use Rattle.std.proofs.lemmas.List.{append-nil, length-take-le, take-append-drop, take_all}
use Rattle.std.proofs.lemmas.Option.{slice_get_past}
use Rattle.event_json.specs.Events.{Content}
use Rattle.event_json.specs.declared.bodies.Body.{Body}
use Rattle.site_core.proofs.Places.{some_stands, taken_more}
use Rattle.site_rows.specs.BadParts.{AreBodies, IsBodyOf, IsTableBy, all_rows_by}
use Rattle.site_rows.specs.BadRows.{Begins, IsFirstBad}
use Rattle.site_rows.specs.PartsInTurn.{AreAllReadBy, IsPastBy, IsReadBy, IsStuckBy}
use Rattle.site_rows.specs.declared.rows.EventRow.{EventRow}
use Rattle.site_rows.proofs.InTurn.{rest_there}

-- ---- one body for each event
pub bodies_joined : (sites : ℕ) (rows more : List EventRow) (bodies others : List Body) → AreBodies sites rows bodies → AreBodies sites more others
    → AreBodies sites (rows ++ more) (bodies ++ others)
bodies_joined sites [] more [] others h k = k
bodies_joined sites [] more (b ∷ bodies) others h k = absurd h
bodies_joined sites (r ∷ rows) more [] others h k = absurd h
bodies_joined sites (r ∷ rows) more (b ∷ bodies) others h k = (h.0, bodies_joined sites rows more bodies others h.1 k)

bodies_left : (sites n : ℕ) (rows : List EventRow) (bodies : List Body) → AreBodies sites rows bodies → AreBodies sites (drop n rows) (drop n bodies)
bodies_left sites zero rows bodies h = h
bodies_left sites (suc n) [] [] h = tt
bodies_left sites (suc n) [] (b ∷ bodies) h = absurd h
bodies_left sites (suc n) (r ∷ rows) [] h = absurd h
bodies_left sites (suc n) (r ∷ rows) (b ∷ bodies) h = bodies_left sites n rows bodies h.1

left_there : (events : List EventRow) (place : ℕ) (row : EventRow) → slice_get events place ≡ Some row → drop place events ≡ row ∷ drop (place + 1) events
left_there events place row there =
    let next : suc place ≡ place + 1 = omega arith in
    rest_there events place row there ∙ ap (λ k. row ∷ drop k events) next

pub each_more : (sites : ℕ) (events : List EventRow) (place : ℕ) (row : EventRow) (bodies : List Body) (body : Body) → slice_get events place ≡ Some row
    → IsBodyOf sites row.kind row.make_id body → AreBodies sites (take place events) bodies → AreBodies sites (take (place + 1) events) (bodies ++ body ∷ [])
each_more sites events place row bodies body there good so_far =
    subst (λ xs. AreBodies sites xs (bodies ++ body ∷ [])) (sym (taken_more events place row there))
    (bodies_joined sites (take place events) (row ∷ []) bodies (body ∷ []) so_far (good, tt))

-- what stands behind the first rows
taken_next : {X : Type 0} (rows : List X) (a b : ℕ) (x : X) (xs : List X) → take b rows ≡ take a rows ++ x ∷ xs → slice_get rows a ≡ Some x
taken_next [] zero zero x xs e = cc
taken_next [] zero (suc b) x xs e = cc
taken_next [] (suc a) zero x xs e = cc
taken_next [] (suc a) (suc b) x xs e = cc
taken_next (y ∷ rows) zero zero x xs e = cc
taken_next (y ∷ rows) zero (suc b) x xs e = let same : y ≡ x = cc in ap Some same
taken_next (y ∷ rows) (suc a) zero x xs e = cc
taken_next (y ∷ rows) (suc a) (suc b) x xs e = let tail : take b rows ≡ take a rows ++ x ∷ xs = cc in taken_next rows a b x xs tail

pub next_there : {X : Type 0} (rows : List X) (a b : ℕ) (xs on : List X) → a ≤ length rows → b ≤ length rows → take b rows ≡ take a rows ++ xs
    → slice_get on 0 ≡ slice_get rows b → slice_get (xs ++ on) 0 ≡ slice_get rows a
next_there rows a b [] on low high e next =
    let same : take b rows ≡ take a rows = e ∙ append-nil (take a rows) in
    let at : b ≡ a = sym (length-take-le b rows high) ∙ ap length same ∙ length-take-le a rows low in
    next ∙ ap (slice_get rows) at
next_there rows a b (x ∷ xs) on low high e next = sym (taken_next rows a b x xs e)

-- ---- their rows
module _ {R : Type 0} (rows_by : ℕ → Body → List R) where
  pub rows_joined : (n : ℕ) (bodies others : List Body)
      → all_rows_by rows_by n (bodies ++ others) ≡ all_rows_by rows_by n bodies ++ all_rows_by rows_by (n + length bodies) others
  rows_joined n [] others = let at : n ≡ n + 0 = omega arith in ap (λ k. all_rows_by rows_by k others) at
  rows_joined n (b ∷ bodies) others =
      let at : n + 1 + length bodies ≡ n + suc (length bodies) = omega arith in
      ap (λ xs. rows_by n b ++ xs) (rows_joined (n + 1) bodies others ∙ ap (λ k. all_rows_by rows_by (n + 1) bodies ++ all_rows_by rows_by k others) at)
      ∙ sym (append_assoc (rows_by n b) (all_rows_by rows_by (n + 1) bodies) (all_rows_by rows_by (n + suc (length bodies)) others))

  -- the rows of one event more
  pub one_body_more : (bodies : List Body) (body : Body) (place : ℕ) (before now : List R) → length bodies ≡ place → before ≡ all_rows_by rows_by 1 bodies
      → now ≡ before ++ rows_by (place + 1) body → now ≡ all_rows_by rows_by 1 (bodies ++ body ∷ [])
  one_body_more bodies body place before now counted so_far is =
      let at : place + 1 ≡ 1 + length bodies = omega (arith, counted) in
      is ∙ ap (λ xs. xs ++ rows_by (place + 1) body) so_far ∙ ap (λ k. all_rows_by rows_by 1 bodies ++ rows_by k body) at
      ∙ ap (λ xs. all_rows_by rows_by 1 bodies ++ xs) (sym (append-nil (rows_by (1 + length bodies) body))) ∙ sym (rows_joined 1 bodies (body ∷ []))

  pub rows_of_events : (n : ℕ) (es : List Content)
      → flat_map (λ (p : ℕ × Content). rows_by p.0 p.1.body) (enumerate_from n es) ≡ all_rows_by rows_by n (map (λ (e : Content). e.body) es)
  rows_of_events n [] = refl
  rows_of_events n (e ∷ es) = ap (λ xs. rows_by n e.body ++ xs) (rows_of_events (n + 1) es)

module _ {R : Type 0} (event_of : R → ℤ) (rows_by : ℕ → Body → List R)
    (past_body : (event m : ℕ) (body : Body) (rows : List R) → event < m → IsPastBy event_of event rows → IsPastBy event_of event (rows_by m body ++ rows))
    (sites : ℕ) (events : List EventRow) where
  past_all : (event m : ℕ) (bodies : List Body) → event < m → IsPastBy event_of event (all_rows_by rows_by m bodies)
  past_all event m [] low = tt
  past_all event m (b ∷ bodies) low = past_body event m b (all_rows_by rows_by (m + 1) bodies) low (past_all event (m + 1) bodies (omega arith))

  -- ---- the events so far
  -- the rows of the events from a place on
  pub record IsRest (left : List EventRow) (place : ℕ) (rest : List R) : Type 0 where
    pub bodies : List Body
    pub each : AreBodies sites left bodies
    pub listed : rest ≡ all_rows_by rows_by (place + 1) bodies

  -- whatever goes on behind the rows that were read, if its first row is the one that stands there, is the rows of the
  -- events that are left
  abbrev pub GoesOn : ℕ → List R → Option R → Type 0
  GoesOn place read next = (bodies : List Body) (on : List R) → AreBodies sites events bodies → slice_get on 0 ≡ next
      → read ++ on ≡ all_rows_by rows_by 1 bodies → IsRest (drop place events) place on

  pub none_read : (next : Option R) → GoesOn 0 [] next
  none_read next = λ bodies on each first e. record { bodies = bodies; each = each; listed = e }

  rest_more : (row : EventRow) (left : List EventRow) (place : ℕ) (read on : List R) (next : Option R) (bodies : List Body)
      → AreAllReadBy event_of rows_by sites (place + 1) row.kind row.make_id read next → AreBodies sites (row ∷ left) bodies → slice_get on 0 ≡ next
      → read ++ on ≡ all_rows_by rows_by (place + 1) bodies → IsRest left (place + 1) on
  rest_more row left place read on next [] only each first e = absurd each
  rest_more row left place read on next (b ∷ bodies) only each first e = record {
    bodies = bodies;
    each = each.1;
    listed = only b on (all_rows_by rows_by (place + 1 + 1) bodies) each.0 first (past_all (place + 1) (place + 1 + 1) bodies (omega arith)) e;
  }

  goes_on_more : (rows : List R) (place from to : ℕ) (row : EventRow) (body : Body) → slice_get events place ≡ Some row → from ≤ length rows
      → IsReadBy event_of rows_by sites (place + 1) row.kind row.make_id rows from to body → GoesOn place (take from rows) (slice_get rows from)
      → GoesOn (place + 1) (take to rows) (slice_get rows to)
  goes_on_more rows place from to row body there low read so_far = λ bodies on each first e.
      let here = rows_by (place + 1) body in
      let split : take from rows ++ (here ++ on) ≡ all_rows_by rows_by 1 bodies =
      sym (append_assoc (take from rows) here on) ∙ ap (λ xs. xs ++ on) (sym read.listed) ∙ e in
      let rest = so_far bodies (here ++ on) each (next_there rows from to here on low read.within read.listed first) split in
      let left = subst (λ xs. AreBodies sites xs rest.bodies) (left_there events place row there) rest.each in
      rest_more row (drop (place + 1) events) place here on (slice_get rows to) rest.bodies read.only left first rest.listed

  -- the rows up to a place are those of the events so far, and no others
  pub record AreRead (rows : List R) (place at : ℕ) (bodies : List Body) : Type 0 where
    pub within : at ≤ length rows
    pub listed : take at rows ≡ all_rows_by rows_by 1 bodies
    pub goes_on : GoesOn place (take at rows) (slice_get rows at)

  pub read_more : (rows : List R) (place from to : ℕ) (row : EventRow) (bodies : List Body) (body : Body) → slice_get events place ≡ Some row
      → length bodies ≡ place → IsReadBy event_of rows_by sites (place + 1) row.kind row.make_id rows from to body
      → AreRead rows place from bodies → AreRead rows (place + 1) to (bodies ++ body ∷ [])
  read_more rows place from to row bodies body there counted read so_far = record {
    within = read.within;
    listed = one_body_more rows_by bodies body place (take from rows) (take to rows) counted so_far.listed read.listed;
    goes_on = goes_on_more rows place from to row body there so_far.within read so_far.goes_on;
  }

  -- ---- the first bad row
  abbrev NoneGoesOn : List R → ℕ → Type 0
  NoneGoesOn rows at = (bodies : List Body) (on : List R) → AreBodies sites events bodies → slice_get on 0 ≡ slice_get rows at
      → take at rows ++ on ≡ all_rows_by rows_by 1 bodies → ⊥

  first_bad : (rows : List R) (at : ℕ) → at ≤ length rows → Begins (IsTableBy rows_by sites events) (take at rows) → NoneGoesOn rows at
      → IsFirstBad (IsTableBy rows_by sites events) rows (at + 1)
  first_bad rows at within good none = record {
    before = at;
    next = refl;
    good = λ _. good;
    bad = λ low b.
        let row = some_stands rows at low in
        let stand = b.stand in
        let there : take at rows ++ row.0 ∷ b.more ≡ all_rows_by rows_by 1 stand.bodies =
        sym (append_assoc (take at rows) (row.0 ∷ []) b.more) ∙ ap (λ xs. xs ++ b.more) (sym (taken_more rows at row.0 row.1)) ∙ stand.listed in
        none stand.bodies (row.0 ∷ b.more) stand.each (sym row.1) there;
    wanting = λ past. (
      omega (arith, past, within),
      λ stand. none stand.bodies [] stand.each (sym (slice_get_past rows at past)) (append-nil (take at rows) ∙ take_all at rows past ∙ stand.listed),
    );
  }

  -- rows are left over
  pub left_over : (rows : List R) (place at : ℕ) (bodies : List Body) → length events ≤ place → at < length rows
      → AreBodies sites (take place events) bodies → AreRead rows place at bodies → IsFirstBad (IsTableBy rows_by sites events) rows (at + 1)
  left_over rows place at bodies past low each so_far =
      let all = subst (λ xs. AreBodies sites xs bodies) (take_all place events past) each in
      let stand : IsTableBy rows_by sites events (take at rows ++ []) = record { bodies = bodies; each = all; listed = append-nil (take at rows) ∙ so_far.listed } in
      first_bad rows at so_far.within (record { more = []; stand = stand }) (λ others on good first e.
      let rest = so_far.goes_on others on good first e in
      let none = subst (λ xs. AreBodies sites xs rest.bodies) (drop_of_length-le events past) rest.each in
      nothing_left rest.bodies on none first rest.listed)
    where
      nothing_left : (others : List Body) (on : List R) → AreBodies sites [] others → slice_get on 0 ≡ slice_get rows at → on ≡ all_rows_by rows_by (place + 1) others → ⊥
      nothing_left [] on none first e =
          let row = some_stands rows at low in
          let wrong : None ≡ Some row.0 = ap (λ xs. slice_get xs 0) (sym e) ∙ first ∙ row.1 in
          cc
      nothing_left (b ∷ others) on none first e = absurd none

  -- none are
  pub all_read : (rows : List R) (place at : ℕ) (bodies : List Body) → length rows ≤ at → AreRead rows place at bodies → rows ≡ all_rows_by rows_by 1 bodies
  all_read rows place at bodies past so_far = sym (take_all at rows past) ∙ so_far.listed

  pub all_stand : (rows : List R) (place at : ℕ) (bodies : List Body) → length events ≤ place → length rows ≤ at → AreBodies sites (take place events) bodies
      → AreRead rows place at bodies → IsTableBy rows_by sites events rows
  all_stand rows place at bodies over past each so_far = record {
    bodies = bodies;
    each = subst (λ xs. AreBodies sites xs bodies) (take_all place events over) each;
    listed = all_read rows place at bodies past so_far;
  }

  -- the rows of an event can't go on; the events have bodies
  pub stuck_there : (rows : List R) (place from at : ℕ) (row : EventRow) (bodies all : List Body) → AreBodies sites events all → slice_get events place ≡ Some row
      → AreBodies sites (take place events) bodies → length bodies ≡ place → AreRead rows place from bodies
      → IsStuckBy event_of rows_by sites (place + 1) row.kind row.make_id rows from at → IsFirstBad (IsTableBy rows_by sites events) rows (at + 1)
  stuck_there rows place from at row bodies all have there each counted so_far stuck =
      let later = drop (place + 1) all in
      let left = bodies_left sites (place + 1) events all have in
      let whole : take place events ++ row ∷ drop (place + 1) events ≡ events =
      ap (λ xs. take place events ++ xs) (sym (left_there events place row there)) ∙ take-append-drop place events in
      let made = bodies_joined sites (take place events) (row ∷ drop (place + 1) events) bodies (stuck.body ∷ later) each (stuck.good, left) in
      let more = stuck.more ++ all_rows_by rows_by (place + 1 + 1) later in
      let number : 1 + length bodies ≡ place + 1 = omega (arith, counted) in
      let rows_made : take at rows ++ more ≡ all_rows_by rows_by 1 (bodies ++ stuck.body ∷ later) =
      ap (λ xs. xs ++ more) (stuck.listed ∙ ap (λ xs. xs ++ stuck.read) so_far.listed) ∙ append_assoc (all_rows_by rows_by 1 bodies) stuck.read more
      ∙ ap (λ xs. all_rows_by rows_by 1 bodies ++ xs) (sym (append_assoc stuck.read stuck.more (all_rows_by rows_by (place + 1 + 1) later)) ∙ ap (λ xs. xs ++ all_rows_by rows_by (place + 1 + 1) later) (sym stuck.begins))
      ∙ ap (λ k. all_rows_by rows_by 1 bodies ++ all_rows_by rows_by k (stuck.body ∷ later)) (sym number) ∙ sym (rows_joined rows_by 1 bodies (stuck.body ∷ later)) in
      let stand : IsTableBy rows_by sites events (take at rows ++ more) = record {
        bodies = bodies ++ stuck.body ∷ later;
        each = subst (λ xs. AreBodies sites xs (bodies ++ stuck.body ∷ later)) whole made;
        listed = rows_made;
      } in
      first_bad rows at stuck.within (record { more = more; stand = stand }) (λ others on good first e.
      let split : take from rows ++ (stuck.read ++ on) ≡ all_rows_by rows_by 1 others =
      sym (append_assoc (take from rows) stuck.read on) ∙ ap (λ xs. xs ++ on) (sym stuck.listed) ∙ e in
      let rest = so_far.goes_on others (stuck.read ++ on) good (next_there rows from at stuck.read on so_far.within stuck.within stuck.listed first) split in
      let here = subst (λ xs. AreBodies sites xs rest.bodies) (left_there events place row there) rest.each in
      no_body rest.bodies on here first rest.listed)
    where
      no_body : (others : List Body) (on : List R) → AreBodies sites (row ∷ drop (place + 1) events) others → slice_get on 0 ≡ slice_get rows at
          → stuck.read ++ on ≡ all_rows_by rows_by (place + 1) others → ⊥
      no_body [] on here first e = absurd here
      no_body (b ∷ others) on here first e = stuck.wanting b on (all_rows_by rows_by (place + 1 + 1) others) here.0 first (past_all (place + 1) (place + 1 + 1) others (omega arith)) e
