-- What the changes of one call come to.
use Rattle.std.proofs.Common.{◌≡◌, ℕ, ◌+◌, ◌*◌, ◌≤◌, Bool, true, false, cond, nat_eq, List, [], ◌∷◌, length, map, All, Contains, MatchOption, Option as Maybe, Some, None, sym, refl, ap, ◌∙◌, subst, arith}
use Rattle.std.proofs.lemmas.List.Elements.{All-nil, All-cons, All-head, All-tail, All-map, All-weaker}
use mathlib.Core.Logic.{dite}
use native.Mathlib.Decide.{ℕ_discrete}
use Rattle.site_core.specs.Records.{Record}
use Rattle.frame_core.specs.declared.frames.Frame.{Frame}
use Rattle.wire_core.specs.Frames.{sender}
use Rattle.world_core.specs.Turns.{addressee}
use Rattle.wire_core.specs.declared.views.Doing.TheVariants.{Nothing}
use Rattle.wire_core.specs.declared.views.Log.{Log}
use Rattle.wire_core.specs.declared.views.View.{View}
use Rattle.wire_core.specs.declared.calls.Post.{Post}
use Rattle.wire_core.specs.declared.calls.Post.TheVariants.{Posted, Full}
use Rattle.wire_core.specs.Answers.{MatchPost}
use Rattle.wire_core.specs.Rule.{opening_log, logs_from}
use Rattle.wire_core.specs.Changes.{pick, on, asks, offers, sends, receives, does, does_posts, does_receives, does_writes, AtRest, Level, AllBut, OneMore, Sent}
use Rattle.wire_core.proofs.Lists.{Contains_map}
use Rattle.wire_core.proofs.Seating.{pick_here, pick_else}

-- two changes of one log are one
twice : (i : ℕ) (f g h : Log → Log) → ((e : Log) → (g e).site ≡ e.site) → ((e : Log) → e.doing ≡ Nothing → f (g e) ≡ h e) → (l : List Log) → AtRest l → on i f (on i g l) ≡ on i h l
twice i f g h keeps same [] rest = refl
twice i f g h keeps same (e ∷ es) rest = λ k. one k ∷ twice i f g h keeps same es (All-tail (λ x. x.doing ≡ Nothing) e es rest) k
  where
    one : pick i f (pick i g e) ≡ pick i h e
    one = dite (ℕ_discrete e.site i)
        (λ eq. ap (pick i f) (pick_here i g e eq) ∙ pick_here i f (g e) (keeps e ∙ eq) ∙ same e (All-head (λ x. x.doing ≡ Nothing) e es rest) ∙ sym (pick_here i h e eq))
        (λ ne. ap (pick i f) (pick_else i g e ne) ∙ pick_else i f e ne ∙ sym (pick_else i h e ne))

pub posted : (i to : ℕ) (f : Frame) (l : List Log) → AtRest l → on i (does_posts f) (on i (does_writes to (offers f)) l) ≡ on i (sends f) l
posted i to f l rest = twice i (does_posts f) (does_writes to (offers f)) (sends f) (λ e. refl) (λ e q. ap (λ d. does d (sends f e)) (sym q)) l rest

pub taken : (i other : ℕ) (f : Frame) (l : List Log) → AtRest l → on i (does Nothing) (on i (does_receives other f) l) ≡ on i (receives other f) l
taken i other f l rest = twice i (does Nothing) (does_receives other f) (receives other f) (λ e. refl) (λ e q. ap (λ d. does d (receives other f e)) (sym q)) l rest

-- what holds of each log holds after a change that keeps it
pub All_on : (P : Log → Type 0) (i : ℕ) (g : Log → Log) → ((e : Log) → P e → P (g e)) → (l : List Log) → All P l → All P (on i g l)
All_on P i g keeps l all = All-map P (pick i g) l (All-weaker P (λ e. P (pick i g e)) (λ e p. either_way (nat_eq e.site i) e p) l all)
  where
    either_way : (b : Bool) (e : Log) → P e → P (cond b (g e) e)
    either_way true e p = keeps e p
    either_way false e p = p

pub changed_there : (i : ℕ) (g : Log → Log) (l : List Log) (e : Log) → Contains l e → e.site ≡ i → Contains (on i g l) (g e)
changed_there i g l e c same = subst (Contains (on i g l)) (pick_here i g e same) (Contains_map (pick i g) l e c)

pub kept_by : (P : Log → Type 0) (i : ℕ) (g : Log → Log) (l l' : List Log) → l' ≡ on i g l → ((e : Log) → P e → P (g e)) → All P l → All P l'
kept_by P i g l l' is keeps all = subst (All P) (sym is) (All_on P i g keeps l all)

pub after_post : (P : Log → Type 0) (r : Post) (f : Frame) (v v' : View)
    → MatchPost r ((v'.sites ≡ on (sender f) (sends f) v.sites) × Level (sender f) (addressee f) v.sites) (λ g. (g ≡ f) × (v'.sites ≡ on (sender f) (offers f) v.sites) × Sent (sender f) (addressee f) v.sites × OneMore (sender f) (addressee f) v.sites)
    → ((e : Log) → P e → P (sends f e)) → ((e : Log) → P e → P (offers f e)) → All P v.sites → All P v'.sites
after_post P Posted f v v' told keeps stays all = kept_by P (sender f) (sends f) v.sites v'.sites told.0 keeps all
after_post P (Full g) f v v' told keeps stays all = kept_by P (sender f) (offers f) v.sites v'.sites told.1 stays all

pub after_take : (P : Log → Type 0) (r : Maybe Frame) (from to : ℕ) (v v' : View)
    → MatchOption r ((v'.sites ≡ on to (asks from) v.sites) × Level from to v.sites) (λ f. (v'.sites ≡ on to (receives from f) v.sites) × ((sender f) ≡ from) × ((addressee f) ≡ to) × AllBut from to f v.sites)
    → ((f : Frame) (e : Log) → P e → P (receives from f e)) → ((e : Log) → P e → P (asks from e)) → All P v.sites → All P v'.sites
after_take P None from to v v' told keeps stays all = kept_by P to (asks from) v.sites v'.sites told.0 stays all
after_take P (Some f) from to v v' told keeps stays all = kept_by P to (receives from f) v.sites v'.sites told.0 (keeps f) all

-- the start is at rest, each site at its place
pub starts_at_rest : (rs : List Record) (site : ℕ) → AtRest (logs_from site rs)
starts_at_rest [] site = All-nil (λ e. e.doing ≡ Nothing)
starts_at_rest (r ∷ rs) site = All-cons (λ e. e.doing ≡ Nothing) (opening_log site r) (logs_from (site + 1) rs) refl (starts_at_rest rs (site + 1))

pub starts_placed : (rs : List Record) (site most : ℕ) → site + length rs ≤ most → All (λ e. 16 * e.site + 16 ≤ 16 * most) (logs_from site rs)
starts_placed [] site most h = All-nil (λ e. 16 * e.site + 16 ≤ 16 * most)
starts_placed (r ∷ rs) site most h = All-cons (λ e. 16 * e.site + 16 ≤ 16 * most) (opening_log site r) (logs_from (site + 1) rs) (omega arith) (starts_placed rs (site + 1) most (omega arith))

pub same_sites : (i : ℕ) (g : Log → Log) → ((e : Log) → (g e).site ≡ e.site) → (l : List Log) → map (λ (e : Log). e.site) (on i g l) ≡ map (λ (e : Log). e.site) l
same_sites i g keeps [] = refl
same_sites i g keeps (e ∷ es) = λ k. one (nat_eq e.site i) k ∷ same_sites i g keeps es k
  where
    one : (b : Bool) → (cond b (g e) e).site ≡ e.site
    one true = keeps e
    one false = refl
