-- what is read field by field is what the line's form says
use Rattle.std.proofs.Common.{◌≡◌, ◌≤◌, ℕ, Bool, true, false, ◌||◌, cond, List, [], ◌∷◌, ◌++◌, codes, refl, sym, ap, ◌∙◌, subst, arith, inl, inr, Option, Some, None}
use Rattle.std.specs.Prelude.{bytes_eq, nat_le, option_map, option_and_then}
use Rattle.std.proofs.lemmas.Bool.{le-leb, leb-true}
use Rattle.std.proofs.lemmas.Slice.Eq.{bytes_eq-Decides}
use Rattle.std.specs.Str.{is_utf8}
use Rattle.std.proofs.lemmas.List.Elements.{All-from_recursion}
use Rattle.keeper_core.specs.declared.faults.Keep.{Keep}
use Rattle.keeper_core.specs.declared.faults.Keep.TheVariants.{Old, New}
use Rattle.recall_text.specs.Comments.{is_comment}
use Rattle.recall_text.specs.Fields.{is_space, fields, IsField, BeginsWithField}
use Rattle.recall_text.specs.Numbers.{number_of, recall_of}
use Rattle.recall_text.specs.Steps.{past_spaces, first_field, after_field, is_empty, capture_found, site_found, keep_found, rounds_found, one_found, two_found, three_found, task_found, found, worded, AreFields}
use Rattle.recall_text.specs.Requests.{Task, capture, reach, recall, send, signal, deliver, stop, reopen, pump, quarantine, Request, silent, site, task, keep_word, most_rounds, AreWords, IsCapture, HasForm, IsOfForm, AsksAs, Asks}
use Rattle.recall_text.specs.declared.fields.Words.{Words}
use Rattle.recall_text.specs.declared.fields.Words.TheVariants as words
use Rattle.recall_text.proofs.FieldLemmas.{step, Begins, behind, nonzero, some_of, first_at, after_at, past_more, past_here}

-- the request that reading finds
abbrev pub reading_of : List ℕ → Option Request
reading_of line = found (first_field line) (after_field line)

empty_is : (xs : List ℕ) → xs ≡ [] → is_empty xs ≡ true
empty_is xs e = ap is_empty e

some_is : (xs : List ℕ) → IsField xs → is_empty xs ≡ false
some_is xs is = nonzero xs is.some

begun_is : (xs : List ℕ) → BeginsWithField xs → is_empty xs ≡ false
begun_is xs h = nonzero xs (some_of xs h)

-- ---- the form gives what is found

found_silent : (line : List ℕ) → fields line ≡ [] → reading_of line ≡ Some silent
unfolding found
found_silent line none = elim (step line) as (λ s. reading_of line ≡ Some silent) [
  | inl b ↦ ap (λ w. found w (after_field line)) b.first
  | inr b ↦ let bad = sym none ∙ b.all in cc
]

found_site : (line name : List ℕ) (addresses : List (List ℕ)) → fields line ≡ codes "site" ∷ name ∷ addresses → reading_of line ≡ Some (site name addresses)
unfolding found
found_site line name addresses form = elim (step line) as (λ s. reading_of line ≡ Some (site name addresses)) [
  | inl b ↦ let bad = sym form ∙ b.none in cc
  | inr b ↦
      let word : first_field line ≡ codes "site" = let e = sym b.all ∙ form in cc in
      let rest : fields (after_field line) ≡ name ∷ addresses = let e = sym b.all ∙ form in cc in
      elim (step (after_field line)) as (λ s. reading_of line ≡ Some (site name addresses)) [
        | inl c ↦ let bad = sym rest ∙ c.none in cc
        | inr c ↦
            let first : first_field (after_field line) ≡ name = let e = sym c.all ∙ rest in cc in
            let more : fields (after_field (after_field line)) ≡ addresses = let e = sym c.all ∙ rest in cc in
            ap (λ w. found w (after_field line)) word
            ∙ ap (λ v. cond v None (Some (site (first_field (after_field line)) (fields (after_field (after_field line)))))) (some_is _ c.is_field)
            ∙ ap (λ n. Some (site n (fields (after_field (after_field line))))) first
            ∙ ap (λ a. Some (site name a)) more
      ]
]

-- a line of other words
found_words : (line word : List ℕ) (rest : List (List ℕ)) → fields line ≡ word ∷ rest → bytes_eq word (codes "capture") ≡ false → bytes_eq word (codes "site") ≡ false → reading_of line ≡ option_map task (task_found word rest)
unfolding found
found_words line word rest form capture_not site_not = elim (step line) as (λ s. reading_of line ≡ option_map task (task_found word rest)) [
  | inl b ↦ let bad = sym form ∙ b.none in cc
  | inr b ↦
      let first : first_field line ≡ word = let e = sym b.all ∙ form in cc in
      let others : fields (after_field line) ≡ rest = let e = sym b.all ∙ form in cc in
      let after = after_field line in
      let captures = capture_found (first_field after) (past_spaces (after_field after)) in
      let sites = site_found (first_field after) (after_field after) in
      ap (λ w. found w after) first
      ∙ ap (λ v. cond v (Some silent) (cond (bytes_eq word (codes "capture")) captures (cond (bytes_eq word (codes "site")) sites (option_map task (task_found word (fields after)))))) (some_is word (subst IsField first b.is_field))
      ∙ ap (λ v. cond v captures (cond (bytes_eq word (codes "site")) sites (option_map task (task_found word (fields after))))) capture_not
      ∙ ap (λ v. cond v sites (option_map task (task_found word (fields after)))) site_not
      ∙ ap (λ fs. option_map task (task_found word fs)) others
]

keep_is : (keep : Keep) → keep_found (keep_word keep) ≡ Some keep
keep_is Old = refl
keep_is New = refl

few_is : (n : ℕ) → n ≤ most_rounds → rounds_found n ≡ Some (pump n)
few_is n few = ap (λ v. cond v (Some (pump n)) None) (le-leb n most_rounds few)

task_is : (words : List (List ℕ)) (t : Task) → AreWords words t → (word : List ℕ) × (rest : List (List ℕ)) × (words ≡ word ∷ rest) × (bytes_eq word (codes "capture") ≡ false) × (bytes_eq word (codes "site") ≡ false) × (task_found word rest ≡ Some t)
unfolding one_found two_found three_found
task_is words (capture name document) form = absurd form
task_is words (reach name item) form = (codes "reach", name ∷ item ∷ [], form, refl, refl, refl)
task_is words (recall name item) form = (codes "recall", name ∷ item ∷ [], form, refl, refl, refl)
task_is words (send name number) (digits, form, value) = (codes "send", name ∷ digits ∷ [], form, refl, refl, ap (option_map (send name)) value)
task_is words (signal name sender number) (digits, form, value) = (codes "signal", name ∷ sender ∷ digits ∷ [], form, refl, refl, ap (option_map (signal name sender)) value)
task_is words (deliver place) (digits, form, value) = (codes "deliver", digits ∷ [], form, refl, refl, ap (option_map deliver) value)
task_is words (stop name keep) form = (codes "stop", name ∷ keep_word keep ∷ [], form, refl, refl, ap (option_map (stop name)) (keep_is keep))
task_is words (reopen name) form = (codes "reopen", name ∷ [], form, refl, refl, refl)
task_is words (pump rounds) (digits, form, value, few) = (codes "pump", digits ∷ [], form, refl, refl, ap (option_and_then rounds_found) value ∙ few_is rounds few)
task_is words (quarantine name number) (text, form, value) = (codes "quarantine", text ∷ [], form, refl, refl, ap (option_map (λ r. quarantine r.0 r.1)) value)

found_task : (line : List ℕ) (t : Task) → AreWords (fields line) t → reading_of line ≡ Some (task t)
found_task line t form =
    let (word, rest, is, capture_not, site_not, finds) = task_is (fields line) t form in
    found_words line word rest is capture_not site_not ∙ ap (option_map task) finds

capture_word : IsField (codes "capture")
capture_word = record { some = omega arith; within = All-from_recursion (λ b. is_space b ≡ false) (codes "capture") (refl, (refl, (refl, (refl, (refl, (refl, (refl, tt))))))) }

found_capture : (line name document : List ℕ) → IsCapture line name document → reading_of line ≡ Some (task (capture name document))
unfolding found
found_capture line name document form =
    let third = form.behind ++ document in
    let second = form.between ++ (name ++ 32 ∷ third) in
    let word : first_field line ≡ codes "capture" = ap first_field form.is ∙ first_at form.front (codes "capture") second form.are_spaces.0 capture_word in
    let rest : after_field line ≡ second = ap after_field form.is ∙ after_at form.front (codes "capture") second form.are_spaces.0 capture_word in
    let first : first_field (after_field line) ≡ name = ap first_field rest ∙ first_at form.between name third form.are_spaces.1 form.is_name in
    let more : after_field (after_field line) ≡ third = ap after_field rest ∙ after_at form.between name third form.are_spaces.1 form.is_name in
    let last : past_spaces (after_field (after_field line)) ≡ document = ap past_spaces more ∙ past_more form.behind document form.are_spaces.2 ∙ past_here document form.begins in
    ap (λ w. found w (after_field line)) word
    ∙ ap (λ n. capture_found n (past_spaces (after_field (after_field line)))) first
    ∙ ap (capture_found name) last
    ∙ ap (λ v. cond (v || is_empty document) None (Some (task (capture name document)))) (some_is name form.is_name)
    ∙ ap (λ v. cond v None (Some (task (capture name document)))) (begun_is document form.begins)

form_found : (line : List ℕ) (r : Request) → HasForm line r → reading_of line ≡ Some r
form_found line silent form = found_silent line form
form_found line (site name addresses) form = found_site line name addresses form
form_found line (task (capture name document)) form = found_capture line name document form
form_found line (task (reach name item)) form = found_task line (reach name item) form
form_found line (task (recall name item)) form = found_task line (recall name item) form
form_found line (task (send name number)) form = found_task line (send name number) form
form_found line (task (signal name sender number)) form = found_task line (signal name sender number) form
form_found line (task (deliver place)) form = found_task line (deliver place) form
form_found line (task (stop name keep)) form = found_task line (stop name keep) form
form_found line (task (reopen name)) form = found_task line (reopen name) form
form_found line (task (pump rounds)) form = found_task line (pump rounds) form
form_found line (task (quarantine name number)) form = found_task line (quarantine name number) form

-- ---- what is found gives the form

abbrev pub Same : List ℕ → Option Request → Type 0
Same line found = (r : Request) → found ≡ Some r → HasForm line r

same_none : (line : List ℕ) → Same line None
same_none line r e = cc

same_some : (line : List ℕ) (r : Request) → HasForm line r → Same line (Some r)
same_some line r form s e = let same : r ≡ s = cc in subst (HasForm line) same form

capture_parts : (line : List ℕ) → Begins line → first_field line ≡ codes "capture" → Begins (after_field line)
    → BeginsWithField (past_spaces (after_field (after_field line)))
    → IsCapture line (first_field (after_field line)) (past_spaces (after_field (after_field line)))
capture_parts line b word c begins =
    let name = first_field (after_field line) in
    let third = after_field (after_field line) in
    let document = past_spaces third in
    let d = behind third in
    elim b.shape as (λ s. IsCapture line name document) [
      | inl none ↦ let bad : [] ≡ name ∷ fields third = sym (ap fields none) ∙ c.all in cc
      | inr first ↦ elim c.shape as (λ s. IsCapture line name document) [
        | inl none ↦ absurd (subst BeginsWithField (ap past_spaces none) begins)
        | inr second ↦ record {
          front = b.gap;
          between = c.gap;
          behind = d.gap;
          is = first ∙ ap (λ w. b.gap ++ (w ++ 32 ∷ after_field line)) word ∙ ap (λ r. b.gap ++ (codes "capture" ++ 32 ∷ r)) second
              ∙ ap (λ r. b.gap ++ (codes "capture" ++ 32 ∷ (c.gap ++ (name ++ 32 ∷ r)))) d.is;
          are_spaces = (b.spaces, c.spaces, d.spaces);
          is_name = c.is_field;
          begins = begins;
        }
      ]
    ]

capture_form : (line : List ℕ) → Begins line → first_field line ≡ codes "capture" → Same line (capture_found (first_field (after_field line)) (past_spaces (after_field (after_field line))))
capture_form line b word =
    let name = first_field (after_field line) in
    let third = after_field (after_field line) in
    let document = past_spaces third in
    elim (step (after_field line)) as (λ s. Same line (capture_found name document)) [
      | inl c ↦ subst (Same line) (sym (ap (λ v. cond (v || is_empty document) None (Some (task (capture name document)))) (empty_is name c.first))) (same_none line)
      | inr c ↦
          let is = some_is name c.is_field in
          elim (behind third).begins as (λ h. Same line (capture_found name document)) [
            | inl none ↦
                subst (Same line) (sym (ap (λ v. cond (v || is_empty document) None (Some (task (capture name document)))) is ∙ ap (λ v. cond v None (Some (task (capture name document)))) (empty_is document none)))
                (same_none line)
            | inr begins ↦
                subst (Same line) (sym (ap (λ v. cond (v || is_empty document) None (Some (task (capture name document)))) is ∙ ap (λ v. cond v None (Some (task (capture name document)))) (begun_is document begins)))
                (same_some line (task (capture name document)) (capture_parts line b word c begins))
          ]
    ]

site_form : (line : List ℕ) → Begins line → first_field line ≡ codes "site" → Same line (site_found (first_field (after_field line)) (after_field (after_field line)))
site_form line b word =
    let name = first_field (after_field line) in
    let rest = after_field (after_field line) in
    elim (step (after_field line)) as (λ s. Same line (site_found name rest)) [
      | inl c ↦ subst (Same line) (sym (ap (λ v. cond v None (Some (site name (fields rest)))) (empty_is name c.first))) (same_none line)
      | inr c ↦
          subst (Same line) (sym (ap (λ v. cond v None (Some (site name (fields rest)))) (some_is name c.is_field)))
          (same_some line (site name (fields rest)) (b.all ∙ ap (λ w. w ∷ fields (after_field line)) word ∙ ap (λ fs. codes "site" ∷ fs) c.all))
    ]

-- a word that is compared with a literal
decided : (word literal : List ℕ) → bytes_eq word literal ≡ true → word ≡ literal
decided word literal e = (bytes_eq-Decides word literal).0 e

-- one test of a word
tested : (line word literal : List ℕ) (x y : Option Request) → (word ≡ literal → Same line x) → Same line y → Same line (cond (bytes_eq word literal) x y)
tested line word literal x y a b = elim (bytes_eq word literal) as (λ v. bytes_eq word literal ≡ v → Same line (cond v x y)) [ true ↦ λ e. a (decided word literal e) | false ↦ λ e. b ] refl

-- the same for a task
tests : (line word literal : List ℕ) (x y : Option Task) → (word ≡ literal → Same line (option_map task x)) → Same line (option_map task y)
    → Same line (option_map task (cond (bytes_eq word literal) x y))
tests line word literal x y a b =
    elim (bytes_eq word literal) as (λ v. bytes_eq word literal ≡ v → Same line (option_map task (cond v x y))) [ true ↦ λ e. a (decided word literal e) | false ↦ λ e. b ] refl

-- a part of a word that may not be read
parted : {X : Type 0} (line : List ℕ) (f : X → Task) (o : Option X) → ((x : X) → o ≡ Some x → HasForm line (task (f x))) → Same line (option_map task (option_map f o))
parted line f None h = same_none line
parted line f (Some x) h = same_some line (task (f x)) (h x refl)

keep_said : (text : List ℕ) (keep : Keep) → keep_found text ≡ Some keep → text ≡ keep_word keep
keep_said text keep e =
    elim (bytes_eq text (codes "old")) as (λ v. bytes_eq text (codes "old") ≡ v → cond v (Some Old) (cond (bytes_eq text (codes "new")) (Some New) None) ≡ Some keep → text ≡ keep_word keep) [
      | true ↦ λ t k. let same : Old ≡ keep = cc in decided text (codes "old") t ∙ ap keep_word same
      | false ↦ λ f k. elim (bytes_eq text (codes "new")) as (λ v. bytes_eq text (codes "new") ≡ v → cond v (Some New) None ≡ Some keep → text ≡ keep_word keep) [
        | true ↦ λ t l. let same : New ≡ keep = cc in decided text (codes "new") t ∙ ap keep_word same
        | false ↦ λ g l. cc
      ] refl k
    ] refl e

-- a number of rounds
few_rounds : (line digits : List ℕ) (o : Option ℕ) → number_of digits ≡ o → fields line ≡ codes "pump" ∷ digits ∷ [] → Same line (option_map task (option_and_then rounds_found o))
few_rounds line digits None is form = same_none line
few_rounds line digits (Some n) is form =
    elim (nat_le n most_rounds) as (λ v. nat_le n most_rounds ≡ v → Same line (option_map task (cond v (Some (pump n)) None))) [
      | true ↦ λ e. same_some line (task (pump n)) (digits, form, is, leb-true n most_rounds e)
      | false ↦ λ e. same_none line
    ] refl

one_word_form : (line word a : List ℕ) → fields line ≡ word ∷ a ∷ [] → Same line (option_map task (one_found word a))
unfolding one_found
one_word_form line word a form =
    tests line word (codes "deliver") _ _ (λ w. parted line deliver (number_of a) (λ n value. (a, form ∙ ap (λ x. x ∷ a ∷ []) w, value)))
    (tests line word (codes "reopen") _ _ (λ w. same_some line (task (reopen a)) (form ∙ ap (λ x. x ∷ a ∷ []) w))
    (tests line word (codes "pump") _ _ (λ w. few_rounds line a (number_of a) refl (form ∙ ap (λ x. x ∷ a ∷ []) w))
    (tests line word (codes "quarantine") _ _ (λ w. parted line (λ r. quarantine r.0 r.1) (recall_of a) (λ r value. (a, form ∙ ap (λ x. x ∷ a ∷ []) w, value)))
    (same_none line))))

two_form : (line word a b : List ℕ) → fields line ≡ word ∷ a ∷ b ∷ [] → Same line (option_map task (two_found word a b))
unfolding two_found
two_form line word a b form =
    tests line word (codes "reach") _ _ (λ w. same_some line (task (reach a b)) (form ∙ ap (λ x. x ∷ a ∷ b ∷ []) w))
    (tests line word (codes "recall") _ _ (λ w. same_some line (task (recall a b)) (form ∙ ap (λ x. x ∷ a ∷ b ∷ []) w))
    (tests line word (codes "send") _ _ (λ w. parted line (send a) (number_of b) (λ n value. (b, form ∙ ap (λ x. x ∷ a ∷ b ∷ []) w, value)))
    (tests line word (codes "stop") _ _ (λ w. parted line (stop a) (keep_found b) (λ keep value. form ∙ ap (λ x. x ∷ a ∷ b ∷ []) w ∙ ap (λ x. codes "stop" ∷ a ∷ x ∷ []) (keep_said b keep value)))
    (same_none line))))

three_form : (line word a b c : List ℕ) → fields line ≡ word ∷ a ∷ b ∷ c ∷ [] → Same line (option_map task (three_found word a b c))
unfolding three_found
three_form line word a b c form =
    tests line word (codes "signal") _ _ (λ w. parted line (signal a b) (number_of c) (λ n value. (c, form ∙ ap (λ x. x ∷ a ∷ b ∷ c ∷ []) w, value)))
    (same_none line)

task_form : (line word : List ℕ) (rest : List (List ℕ)) → fields line ≡ word ∷ rest → Same line (option_map task (task_found word rest))
task_form line word [] form = same_none line
task_form line word (a ∷ []) form = one_word_form line word a form
task_form line word (a ∷ b ∷ []) form = two_form line word a b form
task_form line word (a ∷ b ∷ c ∷ []) form = three_form line word a b c form
task_form line word (a ∷ b ∷ c ∷ d ∷ more) form = same_none line

pub found_form : (line : List ℕ) → Same line (reading_of line)
unfolding found
found_form line =
    let word = first_field line in
    let rest = after_field line in
    elim (step line) as (λ s. Same line (found word rest)) [
      | inl b ↦ subst (Same line) (sym (ap (λ w. found w rest) b.first)) (same_some line silent b.none)
      | inr b ↦
          let captures = capture_found (first_field rest) (past_spaces (after_field rest)) in
          let sites = site_found (first_field rest) (after_field rest) in
          let others = option_map task (task_found word (fields rest)) in
          subst (λ v. Same line (cond v (Some silent) (cond (bytes_eq word (codes "capture")) captures (cond (bytes_eq word (codes "site")) sites others)))) (sym (some_is word b.is_field))
          (tested line word (codes "capture") captures (cond (bytes_eq word (codes "site")) sites others) (λ w. capture_form line b w)
          (tested line word (codes "site") sites others (λ w. site_form line b w) (task_form line word (fields rest) b.all)))
    ]

-- ---- the one thing that a line asks for

of_form : (line : List ℕ) (found : Option Request) → reading_of line ≡ found → IsOfForm line found
of_form line (Some r) e = found_form line r e
of_form line None e = λ r form. let bad : None ≡ Some r = sym e ∙ form_found line r form in cc

one_form : (line : List ℕ) (asked : Option Request) → IsOfForm line asked → asked ≡ reading_of line
one_form line (Some r) form = sym (form_found line r form)
one_form line None never = elim (reading_of line) as (λ o. reading_of line ≡ o → None ≡ o) [
  | None ↦ λ e. refl
  | Some r ↦ λ e. absurd (never r (found_form line r e))
] refl

-- a line that is text and no comment asks for what is read of it
pub asks_found : (line : List ℕ) → is_comment line ≡ false → is_utf8 line ≡ true → Asks line (reading_of line)
asks_found line comment text = subst (λ c. AsksAs line c (is_utf8 line) (reading_of line)) (sym comment) (subst (λ t. AsksAs line false t (reading_of line)) (sym text) (of_form line (reading_of line) refl))

pub asks_one : (line : List ℕ) (a b : Option Request) → Asks line a → Asks line b → a ≡ b
asks_one line a b x y = by (is_comment line) (is_utf8 line) x y where
  by : (comment text : Bool) → AsksAs line comment text a → AsksAs line comment text b → a ≡ b
  by true text x y = x ∙ sym y
  by false false x y = x ∙ sym y
  by false true x y = one_form line a x ∙ sym (one_form line b y)

pub asks_some : (line : List ℕ) → (asked : Option Request) × Asks line asked
asks_some line = by (is_comment line) (is_utf8 line) where
  by : (comment text : Bool) → (asked : Option Request) × AsksAs line comment text asked
  by true text = (Some silent, refl)
  by false false = (None, refl)
  by false true = (reading_of line, of_form line (reading_of line) refl)

-- the fields that were counted are those of the text
pub worded_is : (word : List ℕ) (all : List (List ℕ)) (ws : Words) → AreFields all ws → worded word ws ≡ task_found word all
worded_is word all words.None is = sym (ap (task_found word) is)
worded_is word all (words.One a) is = sym (ap (task_found word) is)
worded_is word all (words.Two a b) is = sym (ap (task_found word) is)
worded_is word all (words.Three a b c) is = sym (ap (task_found word) is)
worded_is word [] words.More is = absurd (omega arith)
worded_is word (a ∷ []) words.More is = absurd (omega arith)
worded_is word (a ∷ b ∷ []) words.More is = absurd (omega arith)
worded_is word (a ∷ b ∷ c ∷ []) words.More is = absurd (omega arith)
worded_is word (a ∷ b ∷ c ∷ d ∷ more) words.More is = refl
