-- What rounds do, step by step.
use Rattle.std.proofs.Common.{◌≡◌, ℕ, zero, suc, ◌+◌, List, [], ◌∷◌, ◌++◌, Option, Some, None, refl, sym, ap, ◌∙◌, subst, append_assoc, append-nil, arith}
use Rattle.std.specs.List.{range_with_len}
use Rattle.event_json.specs.Sites.{Site}
use Rattle.frame_core.specs.declared.frames.Frame.{Frame}
use Rattle.site_core.specs.Records.{Record}
use Rattle.site_core.specs.declared.inputs.SiteInput.TheVariants.{Deliver}
use Rattle.world_core.specs.Turns.{addressee}
use Rattle.world_core.specs.Worlds.{Standing}
use Rattle.recall_text.specs.State.{World}
use Rattle.script_core.specs.Happening.{Happens, with_standing, with_frame}
use Rattle.script_core.specs.Pumping.{AddsText, Carries, Comes, Each, Exchanges, answer_to, message_from, pump_text}
use Rattle.script_core.specs.State.{up_at, armed_at}
use Rattle.script_core.specs.declared.worlds.Outcome.{Outcome}

arrived : (w : World) (n : ℕ) (frame : Frame) (q : Record) (outcome : Outcome) (standing : Standing)
    → addressee frame ≡ n → up_at w n ≡ Some q → Happens q (armed_at (with_frame w frame) n) (Deliver frame) outcome standing
    → Carries (Some frame) w (pump_text w.sites n outcome) (with_standing (with_frame w frame) n standing)
arrived w n frame q outcome standing to up happens =
    subst (λ k. Comes frame (up_at w k) (with_frame w frame) (pump_text w.sites n outcome) (with_standing (with_frame w frame) n standing)) (sym to)
    (subst (λ o. Comes frame o (with_frame w frame) (pump_text w.sites n outcome) (with_standing (with_frame w frame) n standing)) (sym up)
    (record {
      outcome = outcome;
      standing = standing;
      happens = subst (λ k. Happens q (armed_at (with_frame w frame) k) (Deliver frame) outcome standing) (sym to) happens;
      told = ap (λ k. pump_text w.sites k outcome) (sym to);
      changed = ap (λ k. with_standing (with_frame w frame) k standing) (sym to);
    }))

-- a frame was sent and given to its site
pub carried : (w mid after : World) (n : ℕ) (frame : Frame) (q : Record) (outcome : Outcome) (standing : Standing) (sites : List Site) (before text : List ℕ)
    → mid ≡ with_frame w frame → addressee frame ≡ n → up_at mid n ≡ Some q → Happens q (armed_at mid n) (Deliver frame) outcome standing → after ≡ with_standing mid n standing
    → sites ≡ after.sites → text ≡ before ++ pump_text sites n outcome → AddsText (Carries (Some frame)) w after before text
carried w mid after n frame q outcome standing sites before text sent to up happens changed names told =
    let end : after ≡ with_standing (with_frame w frame) n standing = changed ∙ ap (λ x. with_standing x n standing) sent in
    let goes = arrived w n frame q outcome standing to (sym (ap (λ x. up_at x n) sent) ∙ up) (subst (λ x. Happens q (armed_at x n) (Deliver frame) outcome standing) sent happens) in
    (pump_text w.sites n outcome, subst (λ x. Carries (Some frame) w (pump_text w.sites n outcome) x) (sym end) goes, told ∙ ap (λ s. before ++ pump_text s n outcome) (names ∙ ap (λ x. x.sites) end))

-- a frame was sent, and its site is down
pub lost : (w mid : World) (n : ℕ) (frame : Frame) (before : List ℕ) → mid ≡ with_frame w frame → addressee frame ≡ n → up_at mid n ≡ None → AddsText (Carries (Some frame)) w mid before before
lost w mid n frame before sent to down = (
  [],
  subst (λ k. Comes frame (up_at w k) (with_frame w frame) [] mid) (sym to) (subst (λ o. Comes frame o (with_frame w frame) [] mid) (sym (sym (ap (λ x. up_at x n) sent) ∙ down)) (refl, sent)),
  sym (append-nil before),
)

-- one more of a list
pub each_more : (Do : ℕ → World → List ℕ → World → Type 0) (xs : List ℕ) (x : ℕ) (w mid after : World) (front back : List ℕ)
    → Each Do xs w front mid → Do x mid back after → Each Do (xs ++ x ∷ []) w (front ++ back) after
each_more Do [] x w mid after front back (none, same) does =
    (after, back, [], subst (λ v. Do x v back after) same does, (refl, refl), ap (λ t. t ++ back) none ∙ sym (append-nil back))
each_more Do (y ∷ ys) x w mid after front back (next, first, rest, one, more, is) does =
    (next, first, rest ++ back, one, each_more Do ys x next mid after rest back more does, ap (λ t. t ++ back) is ∙ append_assoc first rest back)

-- and its text
pub adds_more : (Do : ℕ → World → List ℕ → World → Type 0) (xs : List ℕ) (x : ℕ) (w mid after : World) (first before text : List ℕ)
    → AddsText (Each Do xs) w mid first before → AddsText (Do x) mid after before text → AddsText (Each Do (xs ++ x ∷ [])) w after first text
adds_more Do xs x w mid after first before text (front, run, is) (back, does, is_too) =
    (front ++ back, each_more Do xs x w mid after front back run does, is_too ∙ ap (λ t. t ++ back) is ∙ append_assoc first front back)

pub adds_none : (Do : ℕ → World → List ℕ → World → Type 0) (w : World) (first : List ℕ) → AddsText (Each Do []) w w first first
adds_none Do w first = ([], (refl, refl), sym (append-nil first))

-- the two ways of an exchange
pub exchanged : (site number : ℕ) (w mid after : World) (first before text : List ℕ)
    → AddsText (Carries (message_from w site number)) w mid first before → AddsText (Carries (answer_to mid (message_from w site number))) mid after before text
    → AddsText (Exchanges site number) w after first text
exchanged site number w mid after first before text (front, goes, is) (back, comes, is_too) =
    (front ++ back, record { mid = mid; front = front; back = back; goes = goes; comes = comes; told = refl }, is_too ∙ ap (λ t. t ++ back) is ∙ append_assoc first front back)

-- nothing is carried
pub carries_none : (w : World) (first : List ℕ) (frame : Option Frame) → frame ≡ None → AddsText (Carries frame) w w first first
carries_none w first frame is = ([], subst (λ f. Carries f w [] w) (sym is) (refl, refl), sym (append-nil first))

-- one number more
pub range_more : (n : ℕ) → range_with_len 0 (n + 1) ≡ range_with_len 0 n ++ n ∷ []
range_more n = let one : n + 1 ≡ suc n = omega arith in let none : 0 + n ≡ n = omega arith in ap (range_with_len 0) one ∙ from 0 n ∙ ap (λ k. range_with_len 0 n ++ k ∷ []) none where
  from : (a n : ℕ) → range_with_len a (suc n) ≡ range_with_len a n ++ (a + n) ∷ []
  from a zero = let same : a ≡ a + 0 = omega arith in ap (λ k. k ∷ []) same
  from a (suc n) = let same : (a + 1) + n ≡ a + suc n = omega arith in ap (λ xs. a ∷ xs) (from (a + 1) n ∙ ap (λ k. range_with_len (a + 1) n ++ k ∷ []) same)

-- and what is done for it
pub adds_next : (Do : ℕ → World → List ℕ → World → Type 0) (n : ℕ) (w mid after : World) (first before text : List ℕ)
    → AddsText (Each Do (range_with_len 0 n)) w mid first before → AddsText (Do n) mid after before text → AddsText (Each Do (range_with_len 0 (n + 1))) w after first text
adds_next Do n w mid after first before text run does =
    subst (λ xs. AddsText (Each Do xs) w after first text) (sym (range_more n)) (adds_more Do (range_with_len 0 n) n w mid after first before text run does)
