-- What a site offers and posts, one site after another.
use Rattle.std.proofs.lemmas.Bool.{eqb-true}
use Rattle.std.proofs.Common.{◌≡◌, ◌≢◌, true≢false, ℕ, zero, suc, ◌+◌, ◌-◌, ◌<◌, ◌≤◌, Bool, true, false, cond, not, nat_eq, filter, fold, min, Option, Some, None, List, [], ◌∷◌, ◌++◌, length, set, refl, sym, ap, ◌∙◌, subst, arith, append_assoc, append-nil, eq-eqb, ne_eqb}
use Rattle.std.proofs.lemmas.List.{length-append, get_or-set_same, get_or-set_other, length-set}
use Rattle.std.proofs.lemmas.List.Elements.{All-nil, All-cons, All-append}
use Rattle.std.specs.Prelude.{flat_map, option_map, slice_index_or, IfOk, IsSome, Result, Ok, Err}
use Rattle.std.specs.List.{range_with_len}
use Rattle.frame_core.specs.Numbers.{Message}
use Rattle.frame_core.specs.declared.frames.Frame.{Frame}
use Rattle.frame_core.specs.declared.frames.Frame.TheVariants.{Recall, Signal}
use Rattle.site_core.specs.Records.{Record}
use Rattle.world_core.specs.Turns.{addressee}
use Rattle.wire_core.specs.Answers.{MatchPost}
use Rattle.wire_core.specs.Changes.{on, offers, sends}
use Rattle.wire_core.specs.Frames.{sender}
use Rattle.wire_core.specs.declared.calls.Post.{Post}
use Rattle.wire_core.specs.declared.calls.Post.TheVariants.{Posted, Full}
use Rattle.wire_core.specs.declared.views.Log.{Log}
use Rattle.site_threads.specs.Jobs.{option_items, WithMarks}
use Rattle.site_threads.specs.Offers.{IsFor, behind, message_of, moved, owed_by, round_at, wish}
use Rattle.site_threads.specs.Passing.{Outgoing, IsSentBy, PostsFrames, Rise, incoming, others, outgoing, went_of, wishes}
use Rattle.site_threads.specs.Running.{IsRunning}
use Rattle.site_threads.specs.declared.rounds.Round.{Round}
use Rattle.site_threads.specs.declared.stamps.Stamp.{Stamp}
use Rattle.site_threads.specs.declared.jobs.Entry.{Entry}
use Rattle.site_threads.specs.declared.turns.TurnReport.{TurnReport}
use Rattle.site_threads.proofs.Wired.{others_more, others_one, offered_one, rise_more, rise_one, sent_one}

-- What a record has for several sites.

module _ (f g : ℕ → List Frame) (me : ℕ) where
  flat_from : (low n : ℕ) → ((k : ℕ) → low ≤ k → f k ≡ g k) → flat_map f (filter (λ site. not (nat_eq site me)) (range_with_len low n)) ≡ flat_map g (filter (λ site. not (nat_eq site me)) (range_with_len low n))
  flat_from low zero same = refl
  flat_from low (suc n) same =
      let rest = filter (λ site. not (nat_eq site me)) (range_with_len (low + 1) n) in
      let later = flat_from (low + 1) n (λ k l. same k (omega (arith, l))) in
      elim (not (nat_eq low me)) as (λ b. flat_map f (cond b (low ∷ rest) rest) ≡ flat_map g (cond b (low ∷ rest) rest)) [
        | true ↦ λ i. same low (omega arith) i ++ later i
        | false ↦ later
      ]

flat_append : (f : ℕ → List Frame) (xs ys : List ℕ) → flat_map f (xs ++ ys) ≡ flat_map f xs ++ flat_map f ys
flat_append f [] ys = refl
flat_append f (x ∷ xs) ys = ap (λ l. f x ++ l) (flat_append f xs ys) ∙ sym (append_assoc (f x) (flat_map f xs) (flat_map f ys))

wishes_more : (me a b c : ℕ) (shown : Option Record) (owed : ℕ → Option Message) (place place' : ℕ → ℕ) → a ≤ b → b ≤ c → ((k : ℕ) → b ≤ k → place' k ≡ place k)
    → wishes me a c shown owed place ≡ wishes me a b shown owed place ++ wishes me b c shown owed place'
wishes_more me a b c None owed place place' h k same = refl
wishes_more me a b c (Some r) owed place place' h k same =
    let at : (ℕ → ℕ) → ℕ → List Frame = λ p to. option_items (wish r.engagement to (owed to) (p to)) in
    ap (flat_map (at place)) (others_more me a b c h k) ∙ flat_append (at place) (others me a b) (others me b c)
    ∙ ap (λ l. flat_map (at place) (others me a b) ++ l) (flat_from (at place) (at place') me b (c - b) (λ j l. ap (λ n. option_items (wish r.engagement j (owed j) n)) (sym (same j l))))

pub wishes_none : (me low high : ℕ) (shown : Option Record) (owed : ℕ → Option Message) (place : ℕ → ℕ) → others me low high ≡ [] → wishes me low high shown owed place ≡ []
wishes_none me low high None owed place is = refl
wishes_none me low high (Some r) owed place is = ap (flat_map (λ to. option_items (wish r.engagement to (owed to) (place to)))) is

pub wishes_closed : (me low high : ℕ) (shown : Option Record) (owed : ℕ → Option Message) (place : ℕ → ℕ) → shown ≡ None → wishes me low high shown owed place ≡ []
wishes_closed me low high shown owed place is = ap (λ s. wishes me low high s owed place) is

pub wishes_one : (me to : ℕ) (shown : Option Record) (r : Record) (owed : ℕ → Option Message) (place : ℕ → ℕ) (found : Option Frame) → shown ≡ Some r → to ≢ me → found ≡ wish r.engagement to (owed to) (place to) → wishes me to (to + 1) shown owed place ≡ option_items found
wishes_one me to shown r owed place found is apart same =
    ap (λ s. wishes me to (to + 1) s owed place) is
    ∙ ap (flat_map (λ k. option_items (wish r.engagement k (owed k) (place k)))) (others_one me to apart)
    ∙ append-nil (option_items (wish r.engagement to (owed to) (place to)))
    ∙ ap option_items (sym same)

-- Places.

abbrev pub place_in : List Round → ℕ → ℕ
place_in rounds to = (round_at rounds to).place

behind_other : (to place : ℕ) (f : Frame) → addressee f ≢ to → behind to place f ≡ place
behind_other to place (Recall m dest r i) apart = ap (λ (b : Bool). cond b (min (m.number + 1) 18446744073709551615) place) (ne_eqb dest to apart)
behind_other to place (Signal m by) apart = refl

rise_low : (number : Frame → ℕ) (low : ℕ) (fs : List Frame) (high : ℕ) → Rise number low fs high → low ≤ high
rise_low number low [] high r = r
rise_low number low (f ∷ fs) high r = let up = rise_low number (number f + 1) fs high r.1 in let here = r.0 in omega (arith, up, here)

-- frames for lower sites leave the place of a higher one
left_behind : (to place a b : ℕ) (ws : List Bool) (fs : List Frame) → Rise addressee a fs b → b ≤ to → fold (behind to) place (went_of ws fs) ≡ place
left_behind to place a b [] fs r h = refl
left_behind to place a b (w ∷ ws) [] r h = refl
left_behind to place a b (w ∷ ws) (f ∷ fs) r h =
    let low = rise_low addressee (addressee f + 1) fs b r.1 in
    let apart : addressee f ≢ to = λ e. omega (arith, low, h, e) in
    let rest = left_behind to place (addressee f + 1) b ws fs r.1 h in
    elim w as (λ c. fold (behind to) place (cond c (f ∷ []) [] ++ went_of ws fs) ≡ place) [
      | true ↦ ap (λ p. fold (behind to) p (went_of ws fs)) (behind_other to place f apart) ∙ rest
      | false ↦ rest
    ]

pub fold_append : {A B : Type 0} (f : B → A → B) (b : B) (xs ys : List A) → fold f b (xs ++ ys) ≡ fold f (fold f b xs) ys
fold_append f b [] ys = refl
fold_append f b (x ∷ xs) ys = fold_append f (f b x) xs ys

-- What is posted.

went_more : (ws vs : List Bool) (fs gs : List Frame) → length ws ≡ length fs → went_of (ws ++ vs) (fs ++ gs) ≡ went_of ws fs ++ went_of vs gs
went_more [] vs [] gs e = refl
went_more (w ∷ ws) vs (f ∷ fs) gs e = ap (λ l. cond w (f ∷ []) [] ++ l) (went_more ws vs fs gs (omega (arith, e))) ∙ sym (append_assoc (cond w (f ∷ []) []) (went_of ws fs) (went_of vs gs))
went_more [] vs (f ∷ fs) gs e = absurd (omega (arith, e))
went_more (w ∷ ws) vs [] gs e = absurd (omega (arith, e))

module _ (me low high : ℕ) (shown : Option Record) (owed : ℕ → Option Message) (old : Outgoing) (place place' : ℕ → ℕ) where
  -- there is nothing
  pub posts_none : low ≤ high → wishes me low high shown owed place ≡ [] → ((to : ℕ) → place' to ≡ place to) → PostsFrames me low high shown owed old old place place' 0 0
  posts_none h none same = record {
    offers = [];
    copied = [];
    each = sym (ap length none);
    of = refl;
    others = sym (ap length none);
    offered = sym (append-nil old.offered);
    rise = h;
    by = All-nil (IsSentBy me shown);
    went = [];
    tells = refl;
    sent = sym (append-nil old.sent);
    many = refl;
    places = same;
  }

  -- there is something, and no memory
  pub posts_uncopied : (f : Frame) → low ≤ high → wishes me low high shown owed place ≡ f ∷ [] → ((to : ℕ) → place' to ≡ place to) → PostsFrames me low high shown owed old old place place' 0 1
  posts_uncopied f h one same = record {
    offers = [];
    copied = false ∷ [];
    each = sym (ap length one);
    of = sym (ap (went_of (false ∷ [])) one);
    others = sym (ap length one);
    offered = sym (append-nil old.offered);
    rise = h;
    by = All-nil (IsSentBy me shown);
    went = [];
    tells = refl;
    sent = sym (append-nil old.sent);
    many = refl;
    places = same;
  }

-- by what was found for the site
pub posts_found : (me to : ℕ) (shown : Option Record) (owed : ℕ → Option Message) (old : Outgoing) (place place' : ℕ → ℕ) (found : Option Frame) → IsSome found → wishes me to (to + 1) shown owed place ≡ option_items found → ((k : ℕ) → place' k ≡ place k)
    → PostsFrames me to (to + 1) shown owed old old place place' 0 1
posts_found me to shown owed old place place' (Some f) there one same = posts_uncopied me to (to + 1) shown owed old place place' f (omega arith) one same
posts_found me to shown owed old place place' None there one same = absurd (true≢false (sym there))

pub posts_one : (me to : ℕ) (shown : Option Record) (r : Record) (owed : ℕ → Option Message) (old new : Outgoing) (place place' : ℕ → ℕ) (f : Frame) (went : Bool) → shown ≡ Some r → IsFor r.engagement to f → sender f ≡ me → to ≢ me
    → wishes me to (to + 1) shown owed place ≡ f ∷ [] → new.offered ≡ old.offered ++ f ∷ [] → new.sent ≡ old.sent ++ went_of (went ∷ []) (f ∷ []) → ((k : ℕ) → place' k ≡ fold (behind k) (place k) (went_of (went ∷ []) (f ∷ [])))
    → PostsFrames me to (to + 1) shown owed old new place place' (length (went_of (went ∷ []) (f ∷ []))) 0
posts_one me to shown r owed old new place place' f went stands fits from apart one is sent places = record {
  offers = f ∷ [];
  copied = true ∷ [];
  each = sym (ap length one);
  of = sym (ap (went_of (true ∷ [])) one);
  others = sym (ap length one);
  offered = is;
  rise = rise_one addressee to f fits.there;
  by = All-cons (IsSentBy me shown) f [] (record { from = from; other = λ same. apart (sym fits.there ∙ same); record_is = r; stands = stands; emitted = fits.emitted }) (All-nil (IsSentBy me shown));
  went = went ∷ [];
  tells = refl;
  sent = sent;
  many = refl;
  places = places;
}

pub posts_more : (me a b c : ℕ) (shown : Option Record) (owed : ℕ → Option Message) (old mid new : Outgoing) (place place' place'' : ℕ → ℕ) (n m u v : ℕ) → a ≤ b → b ≤ c
    → PostsFrames me a b shown owed old mid place place' n u → PostsFrames me b c shown owed mid new place' place'' m v → PostsFrames me a c shown owed old new place place'' (n + m) (u + v)
posts_more me a b c shown owed old mid new place place' place'' n m u v h k s t =
    let went = went_more s.went t.went s.offers t.offers s.tells in
    let all = wishes_more me a b c shown owed place place' h k (λ j l. s.places j ∙ left_behind j (place j) a b s.went s.offers s.rise l) in
    let first = wishes me a b shown owed place in
    let second = wishes me b c shown owed place' in
    let long = ap length all ∙ length-append first second in
    let each = length-append s.copied t.copied in
    let others = length-append s.offers t.offers in
    let here = s.each in
    let there = t.each in
    let left = s.others in
    let right = t.others in
    record {
      offers = s.offers ++ t.offers;
      copied = s.copied ++ t.copied;
      each = omega (arith, long, each, here, there);
      of = (λ i. s.of i ++ t.of i) ∙ sym (went_more s.copied t.copied first second s.each) ∙ sym (ap (went_of (s.copied ++ t.copied)) all);
      others = omega (arith, long, others, left, right);
      offered = t.offered ∙ ap (λ l. l ++ t.offers) s.offered ∙ append_assoc old.offered s.offers t.offers;
      rise = rise_more addressee a b c s.offers t.offers s.rise t.rise;
      by = All-append (IsSentBy me shown) s.offers t.offers s.by t.by;
      went = s.went ++ t.went;
      tells = length-append s.went t.went ∙ (λ i. s.tells i + t.tells i) ∙ sym (length-append s.offers t.offers);
      sent = t.sent ∙ ap (λ l. l ++ went_of t.went t.offers) s.sent ∙ append_assoc old.sent (went_of s.went s.offers) (went_of t.went t.offers) ∙ ap (λ l. old.sent ++ l) (sym went);
      many = ap length went ∙ length-append (went_of s.went s.offers) (went_of t.went t.offers) ∙ (λ i. s.many i + t.many i);
      places = λ j. t.places j ∙ ap (λ p. fold (behind j) p (went_of t.went t.offers)) (s.places j) ∙ sym (fold_append (behind j) (place j) (went_of s.went s.offers) (went_of t.went t.offers)) ∙ sym (ap (fold (behind j) (place j)) went);
    }

-- One frame.

-- the places once one is found, and then moved
abbrev pub places_moved : List Round → ℕ → Round → Option ℕ → ℕ → ℕ → ℕ
places_moved rounds to found number n = place_in (set (set rounds to found) to (moved found n number))

-- what is kept for one site moves, and what is kept for others stays
module _ (rounds : List Round) (to : ℕ) (there : to < length rounds) (found : Round) (same : found.place ≡ (round_at rounds to).place) where
  at_site : (k : ℕ) (P : ℕ → Type 0) → (k ≡ to → P k) → (k ≢ to → P k) → P k
  at_site k P here other = elim (nat_eq k to) as (λ b. nat_eq k to ≡ b → P k) [
    | true ↦ λ is. here (eqb-true k to is)
    | false ↦ λ fails. other (λ e. true≢false (sym (eq-eqb k to e) ∙ fails))
  ] refl

  pub place_found : (k : ℕ) → (round_at (set rounds to found) k).place ≡ (round_at rounds k).place
  place_found k = at_site k (λ j. (round_at (set rounds to found) j).place ≡ (round_at rounds j).place)
      (λ e. ap (λ j. (round_at (set rounds to found) j).place) e ∙ ap (λ (x : Round). x.place) (get_or-set_same rounds to found _ there) ∙ same ∙ ap (λ j. (round_at rounds j).place) (sym e))
      (λ apart. ap (λ (x : Round). x.place) (get_or-set_other rounds to k found _ apart))

  place_set : (next : Round) (k : ℕ) (place : ℕ) → (k ≡ to → next.place ≡ place) → (k ≢ to → (round_at rounds k).place ≡ place) → (round_at (set (set rounds to found) to next) k).place ≡ place
  place_set next k place here other =
      let long : to < length (set rounds to found) = subst (λ n. to < n) (sym (length-set rounds to found)) there in
      at_site k (λ j. (round_at (set (set rounds to found) to next) j).place ≡ place)
      (λ e. ap (λ j. (round_at (set (set rounds to found) to next) j).place) e ∙ ap (λ (x : Round). x.place) (get_or-set_same (set rounds to found) to next _ long) ∙ here e)
      (λ apart. ap (λ (x : Round). x.place) (get_or-set_other (set rounds to found) to k next _ apart ∙ get_or-set_other rounds to k found _ apart) ∙ other apart)

  -- behind the frame that was posted
  moved_place : (f : Frame) → addressee f ≡ to → (moved found 1 (option_map (λ m. m.number) (message_of f))).place ≡ behind to found.place f
  moved_place (Recall m dest r i) mine = ap (λ (b : Bool). cond b (min (m.number + 1) 18446744073709551615) found.place) (sym (eq-eqb dest to mine))
  moved_place (Signal m by) mine = refl

  pub place_posted : (f : Frame) → addressee f ≡ to → (k : ℕ) → (round_at (set (set rounds to found) to (moved found 1 (option_map (λ m. m.number) (message_of f)))) k).place ≡ behind k (round_at rounds k).place f
  place_posted f mine k = place_set (moved found 1 (option_map (λ m. m.number) (message_of f))) k (behind k (round_at rounds k).place f)
      (λ e. moved_place f mine ∙ ap (λ p. behind to p f) same ∙ ap (λ j. behind j (round_at rounds j).place f) (sym e))
      (λ apart. sym (behind_other k (round_at rounds k).place f (λ e. apart (sym e ∙ mine))))

  -- or nowhere, where the mailbox was full
  pub place_full : (number : Option ℕ) (k : ℕ) → (round_at (set (set rounds to found) to (moved found 0 number)) k).place ≡ (round_at rounds k).place
  place_full number k = place_set found k (round_at rounds k).place (λ e. same ∙ ap (λ j. (round_at rounds j).place) (sym e)) (λ apart. refl)

module _ (shown : Option Record) (may : Record → Type 0) (logs : List Log) (me : ℕ) (kept : Stamp) (entries : List Entry) (start : WithMarks) (h : IsRunning shown may logs me kept entries start) (r : Record) (is : shown ≡ Some r) (to : ℕ) (f : Frame) (fits : IsFor r.engagement to f) (from : sender f ≡ me) (apart : to ≢ me) (new : List Log) (owed : ℕ → Option Message) (place : ℕ → ℕ) (one : wishes me to (to + 1) shown owed place ≡ f ∷ []) where
  -- by what became of it
  pub posted : (A B C : Type 0) (places : ℕ → ℕ → ℕ) (n : ℕ) (p : Post) → ((k : ℕ) → places 1 k ≡ behind k (place k) f) → ((k : ℕ) → places 0 k ≡ place k)
      → MatchPost p ((new ≡ on (sender f) (sends f) logs) × A) (λ g. (g ≡ f) × (new ≡ on (sender f) (offers f) logs) × B × C) → MatchPost p (n ≡ 1) (λ g. n ≡ 0)
      → PostsFrames me to (to + 1) shown owed (outgoing logs) (outgoing new) place (places n) n 0 × (incoming new ≡ incoming logs)
  posted A B C places n Posted went full answer count =
      let sent = sent_one h.log logs me new h.alone h.own.site f (answer.0 ∙ ap (λ k. on k (sends f) logs) from) in
      (subst (λ k. PostsFrames me to (to + 1) shown owed (outgoing logs) (outgoing new) place (places k) k 0) (sym count) (posts_one me to shown r owed (outgoing logs) (outgoing new) place (places 1) f true is fits from apart one sent.1 sent.0 went), sent.2)
  posted A B C places n (Full g) went full answer count =
      let offered = offered_one h.log logs me new h.alone h.own.site f (answer.1 ∙ ap (λ k. on k (offers f) logs) from) in
      (subst (λ k. PostsFrames me to (to + 1) shown owed (outgoing logs) (outgoing new) place (places k) k 0) (sym count) (posts_one me to shown r owed (outgoing logs) (outgoing new) place (places 0) f false is fits from apart one offered.1 (offered.0 ∙ sym (append-nil (outgoing logs).sent)) full), offered.2)

-- The same of other names of the same values.

pub posts_as : (low high : ℕ) (me me' : ℕ) (shown shown' : Option Record) (owed owed' : ℕ → Option Message) (old old' new : Outgoing) (place place' next : ℕ → ℕ) (n u : ℕ) → me ≡ me' → shown ≡ shown' → owed ≡ owed' → old ≡ old' → place ≡ place'
    → PostsFrames me low high shown owed old new place next n u → PostsFrames me' low high shown' owed' old' new place' next n u
posts_as low high me me' shown shown' owed owed' old old' new place place' next n u a b c d e t =
    subst (λ (y : ℕ × (Option Record × ((ℕ → Option Message) × (Outgoing × (ℕ → ℕ))))). PostsFrames y.0 low high y.1.0 y.1.1.0 y.1.1.1.0 new y.1.1.1.1 next n u) (λ i. (a i, (b i, (c i, (d i, e i))))) t

-- the places, by what is kept of them
pub same_places : (rounds rounds' : List Round) → rounds ≡ rounds' → place_in rounds ≡ place_in rounds'
same_places rounds rounds' is = ap place_in is

-- what is owed, site by site
abbrev pub owed_of : List (Option Message) → ℕ → Option Message
owed_of l to = slice_index_or l to None

pub same_owed : (f g : ℕ → Option Message) → ((to : ℕ) → f to ≡ g to) → f ≡ g
same_owed f g same i to = same to i

-- a turn's frames, from before it began
pub turn_posts : {E : Type 0} (r : Result TurnReport E) (high me me' : ℕ) (shown : Option Record) (came came' now : List Frame) (old old' new : Outgoing) (place place' next : ℕ → ℕ) → me ≡ me' → came ≡ came' → old ≡ old' → place ≡ place'
    → IfOk r (λ x. (took : List Frame) → now ≡ came ++ took → PostsFrames me 0 high shown (owed_by took) old new place next x.posted x.uncopied)
    → IfOk r (λ x. (took : List Frame) → now ≡ came' ++ took → PostsFrames me' 0 high shown (owed_by took) old' new place' next x.posted x.uncopied)
turn_posts (Ok x) high me me' shown came came' now old old' new place place' next a b c d t = λ took is.
    posts_as 0 high me me' shown shown (owed_by took) (owed_by took) old old' new place place' next x.posted x.uncopied a refl refl c d (t took (is ∙ ap (λ l. l ++ took) (sym b)))
turn_posts (Err e) high me me' shown came came' now old old' new place place' next a b c d t = tt
