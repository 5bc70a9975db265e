-- The places of a running site, as its log changes.
use Rattle.std.proofs.Common.{◌≡◌, ℕ, zero, suc, Option, Some, None, List, [], ◌∷◌, get_or, set, refl, sym, ap, ◌∙◌, subst}
use Rattle.std.specs.Prelude.{IfSome, MatchOption}
use Rattle.scholten_core.specs.Engagement.{Engagement}
use Rattle.site_core.specs.Records.{Record}
use Rattle.site_core.specs.declared.inputs.SiteInput.{SiteInput}
use Rattle.frame_core.specs.declared.frames.Frame.{Frame}
use Rattle.wire_core.specs.Answers.{MatchPost}
use Rattle.wire_core.specs.Changes.{on, offers, sends}
use Rattle.wire_core.specs.declared.calls.Post.{Post}
use Rattle.wire_core.specs.declared.calls.Post.TheVariants.{Posted, Full}
use Rattle.wire_core.specs.declared.views.Log.{Log}
use Rattle.site_threads.specs.Jobs.{WithMarks}
use Rattle.site_threads.specs.Offers.{IsRound, round_at}
use Rattle.site_threads.specs.Running.{Follows, Holding, MayFollow, IsRunning}
use Rattle.site_threads.specs.Sites.{AreRounds}
use Rattle.site_threads.specs.Stamps.{stamp}
use Rattle.site_threads.specs.declared.rounds.Round.{Round}
use Rattle.site_threads.specs.declared.jobs.Entry.{Entry}
use Rattle.site_threads.specs.declared.stamps.Stamp.{Stamp}
use Rattle.site_threads.proofs.OneLog.{on_one, only}
use Rattle.site_threads.proofs.Placing.{first_round, next_round}

-- the record last marked stays
kept_rounds : (e f : Log) (logs new : List Log) (rounds : List Round) → logs ≡ e ∷ [] → new ≡ f ∷ [] → f.last ≡ e.last → AreRounds logs rounds → AreRounds new rounds
kept_rounds e f logs new rounds alone is same a g at to =
    subst (λ (x : Log). IsRound x.last.engagement to (round_at rounds to)) (only f g (sym is ∙ at)) (subst (λ (z : Record). IsRound z.engagement to (round_at rounds to)) (sym same) (a e alone to))

pub changed_rounds : (g : Log → Log) (e : Log) (logs new : List Log) (me : ℕ) (rounds : List Round) → logs ≡ e ∷ [] → e.site ≡ me → new ≡ on me g logs → (g e).last ≡ e.last → AreRounds logs rounds → AreRounds new rounds
changed_rounds g e logs new me rounds alone mine is same a = kept_rounds e (g e) logs new rounds alone (is ∙ ap (on me g) alone ∙ on_one e g me mine) same a

-- or is followed
pub followed_rounds : (logs new : List Log) (kept : Stamp) (input : SiteInput) (r : Record) (rounds : List Round) → MayFollow logs kept input r → Follows logs r new → AreRounds logs rounds → AreRounds new rounds
followed_rounds logs new kept input r rounds may follows a g at to =
    let f = follows may.log may.alone in
    subst (λ (x : Log). IsRound x.last.engagement to (round_at rounds to)) (only f.0 g (sym f.1 ∙ at))
    (subst (λ (z : Record). IsRound z.engagement to (round_at rounds to)) (sym f.2.last)
    (next_round may.log.last r input to (round_at rounds to) may.next (a may.log may.alone to)))

pub may_follow_rounds : (shown : Option Record) (logs new : List Log) (kept kept' : Stamp) (input : SiteInput) (rounds : List Round) → IfSome shown (MayFollow logs kept input)
    → MatchOption shown ((kept' ≡ kept) × (new ≡ logs)) (λ r. (kept' ≡ stamp r) × Follows logs r new) → AreRounds logs rounds → AreRounds new rounds
may_follow_rounds None logs new kept kept' input rounds may m a = subst (λ l. AreRounds l rounds) (sym m.1) a
may_follow_rounds (Some r) logs new kept kept' input rounds may m a = followed_rounds logs new kept input r rounds may m.1 a

-- where one is set
each_set : (P : ℕ → Round → Type 0) (d : Round) → ((k : ℕ) → P k d) → (rounds : List Round) (i : ℕ) (v : Round) → P i v → ((k : ℕ) → P k (get_or rounds k d)) → (k : ℕ) → P k (get_or (set rounds i v) k d)
each_set P d none [] i v here all k = all k
each_set P d none (x ∷ xs) zero v here all zero = here
each_set P d none (x ∷ xs) zero v here all (suc k) = all (suc k)
each_set P d none (x ∷ xs) (suc i) v here all zero = all zero
each_set P d none (x ∷ xs) (suc i) v here all (suc k) = each_set (λ j. P (suc j)) d (λ j. none (suc j)) xs i v here (λ j. all (suc j)) k

module _ (shown : Option Record) (may : Record → Type 0) (logs : List Log) (me : ℕ) (kept : Stamp) (entries : List Entry) (start : WithMarks) (h : IsRunning shown may logs me kept entries start) (rounds : List Round) (a : AreRounds logs rounds) where
  last_of : (s : Option Record) → Holding s may start entries h.log → IfSome s (λ r. r ≡ h.log.last)
  last_of None holding = tt
  last_of (Some r) holding = holding.marked

  engaged : (s : Option Record) → IfSome s (λ r. r ≡ h.log.last) → IfSome s (λ r. r.engagement ≡ h.log.last.engagement)
  engaged None is = tt
  engaged (Some r) is = ap (λ (z : Record). z.engagement) is

  -- the record that is shown is the one last marked
  pub shows_last : IfSome shown (λ r. r.engagement ≡ h.log.last.engagement)
  shows_last = engaged shown (last_of shown h.holding)

  round_here : (s : Option Record) (to : ℕ) → IfSome s (λ r. r.engagement ≡ h.log.last.engagement) → IfSome s (λ r. IsRound r.engagement to (round_at rounds to))
  round_here None to is = tt
  round_here (Some r) to is = subst (λ e. IsRound e to (round_at rounds to)) (sym is) (a h.log h.alone to)

  pub shown_round : (to : ℕ) → IfSome shown (λ r. IsRound r.engagement to (round_at rounds to))
  shown_round to = round_here shown to shows_last

  pub last_round : (to : ℕ) → IsRound h.log.last.engagement to (round_at rounds to)
  last_round to = a h.log h.alone to

  pub set_rounds : (to : ℕ) (next : Round) → IsRound h.log.last.engagement to next → AreRounds logs (set rounds to next)
  set_rounds to next is e alone k =
      each_set (λ j r. IsRound e.last.engagement j r) _ (first_round e.last.engagement) rounds to next
      (subst (λ (x : Log). IsRound x.last.engagement to next) (only h.log e (sym h.alone ∙ alone)) is) (a e alone) k

  -- and where the search for the next message leaves it
  pub found_round : (i to : ℕ) → i ≡ to → (next : Round) → ((e : Engagement) → IfSome shown (λ r. r.engagement ≡ e) → IsRound e to (round_at rounds i) → IsRound e to next) → IsRound h.log.last.engagement i next
  found_round i to at next found = subst (λ k. IsRound h.log.last.engagement k next) (sym at) (found h.log.last.engagement shows_last (subst (λ k. IsRound h.log.last.engagement k (round_at rounds i)) at (last_round i)))

  pub found_rounds : (i to : ℕ) → i ≡ to → (next : Round) → ((e : Engagement) → IfSome shown (λ r. r.engagement ≡ e) → IsRound e to (round_at rounds i) → IsRound e to next) → AreRounds logs (set rounds i next)
  found_rounds i to at next found = set_rounds i next (found_round i to at next found)

  -- whether a frame was posted or not
  pub posted_rounds : (f : Frame) (site : ℕ) (new : List Log) → site ≡ me → (A B C : Type 0) (p : Post) → MatchPost p ((new ≡ on site (sends f) logs) × A) (λ g. (g ≡ f) × (new ≡ on site (offers f) logs) × B × C) → AreRounds new rounds
  posted_rounds f site new mine A B C Posted answer = changed_rounds (sends f) h.log logs new site rounds h.alone (h.own.site ∙ sym mine) answer.0 refl a
  posted_rounds f site new mine A B C (Full g) answer = changed_rounds (offers f) h.log logs new site rounds h.alone (h.own.site ∙ sym mine) answer.1 refl a

-- before the first frame
copies : ℕ → Round → List Round
copies zero r = []
copies (suc n) r = r ∷ copies n r

copied : (e : Engagement) (r : Round) → r ≡ (record { place = 0; least = 0; next = 0 }) → (n k to : ℕ) → IsRound e to (round_at (copies n r) k)
unfolding copies
copied e r is zero k to = first_round e to
copied e r is (suc n) zero to = subst (IsRound e to) (sym is) (first_round e to)
copied e r is (suc n) (suc k) to = copied e r is n k to

pub fresh_rounds : (logs : List Log) (r : Round) → r ≡ (record { place = 0; least = 0; next = 0 }) → AreRounds logs (r ∷ r ∷ r ∷ r ∷ r ∷ r ∷ r ∷ r ∷ r ∷ r ∷ r ∷ r ∷ r ∷ r ∷ r ∷ r ∷ [])
unfolding copies
fresh_rounds logs r is e alone to = copied e.last.engagement r is 16 to to
