-- Where a task is done.
use Rattle.std.proofs.Common.{◌≡◌, ℕ, suc, ◌+◌, ◌++◌, ◌==◌, true, false, ◌&&◌, cond, List, [], ◌∷◌, length, Option, Some, None, sym, ap, ◌∙◌, subst, refl, arith, eqb-true}
use Rattle.std.specs.Prelude.{is_some, IsSome, slice_get}
use Rattle.std.proofs.lemmas.Bool.{and_parts, and_from, eq-eqb}
use Rattle.event_json.specs.Sites.{named}
use Rattle.frame_core.specs.Numbers.{Message}
use Rattle.frame_core.specs.declared.frames.Frame.{Frame}
use Rattle.site_core.specs.declared.inputs.SiteInput.TheVariants as inputs
use Rattle.world_core.specs.Turns.{addressee, frame_at as sent_at, input_at}
use Rattle.world_core.specs.declared.events.WorldInput.TheVariants.{Deliver}
use Rattle.site_core.specs.Records.{Record}
use Rattle.recall_text.specs.Answer.{Said}
use Rattle.recall_text.specs.State.{World}
use Rattle.script_core.specs.State.{up_at}
use Rattle.script_core.specs.Tasks.{AtSite, WhereUp}

pub at_site : (w : World) (name : List ℕ) (n : ℕ) (P : ℕ → Type 0) (said : Said) (after : World) → named w.sites name ≡ Some n → P n → AtSite w name (named w.sites name) P said after
at_site w name n P said after e p = subst (λ o. AtSite w name o P said after) (sym e) p

pub where_up : (w : World) (n : ℕ) (old : Record) (P : Record → Type 0) (said : Said) (after : World) → up_at w n ≡ Some old → P old → WhereUp w n (up_at w n) P said after
where_up w n old P said after e p = subst (λ o. WhereUp w n o P said after) (sym e) p

-- an option that has a value
pub some_of : {X : Type 0} (o : Option X) → IsSome o → (x : X) × (o ≡ Some x)
some_of None h = cc
some_of (Some x) h = (x, refl)

pub some_is : {X : Type 0} (o : Option X) → is_some o ≡ true → (x : X) × (o ≡ Some x)
some_is None h = cc
some_is (Some x) h = (x, refl)

pub none_is : {X : Type 0} (o : Option X) → is_some o ≡ false → o ≡ None
none_is None h = refl
none_is (Some x) h = cc

-- whether two messages are one
pub same_message_is : (a b : Message) → (a.site == b.site) && (a.number == b.number) ≡ true → a ≡ b
same_message_is a b e =
    let parts = and_parts (a.site == b.site) (a.number == b.number) e in
    ap (λ n. let m : Message = record { site = n; number = a.number } in m) (eqb-true a.site b.site parts.0) ∙ ap (λ n. let m : Message = record { site = b.site; number = n } in m) (eqb-true a.number b.number parts.1)

pub other_message_is : (a b : Message) → (a.site == b.site) && (a.number == b.number) ≡ false → a ≡ b → ⊥
other_message_is a b e same =
    let both : true ≡ false = sym (and_from (a.site == b.site) (a.number == b.number) (eq-eqb a.site b.site (ap (λ m. m.site) same)) (eq-eqb a.number b.number (ap (λ m. m.number) same))) ∙ e in cc

-- a frame that was sent is given to its site
pub delivered : (sent : List Frame) (place site : ℕ) (frame : Frame) → sent_at sent place ≡ Some frame → site ≡ addressee frame → input_at sent site (Deliver place) ≡ Some (inputs.Deliver frame)
delivered sent place site frame at to =
    ap (Rattle.world_core.specs.Turns.input_of_frame site) at ∙ ap (λ v. cond v (Some (inputs.Deliver frame)) None) (eq-eqb (addressee frame) site (sym to))

last : {X : Type 0} (xs : List X) (x : X) → slice_get (xs ++ x ∷ []) (length xs) ≡ Some x
last [] x = refl
last (y ∷ ys) x = last ys x

-- the frame that was sent last
pub last_sent : (sent : List Frame) (frame : Frame) (place : ℕ) → place ≡ length sent + 1 → sent_at (sent ++ frame ∷ []) place ≡ Some frame
last_sent sent frame place is = let one : place ≡ suc (length sent) = omega (arith, is) in ap (sent_at (sent ++ frame ∷ [])) one ∙ last sent frame
