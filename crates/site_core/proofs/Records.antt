-- The record of a site that keeps nothing yet is sound.
use Rattle.std.proofs.Common.{◌≡◌, ℕ, ◌<◌, List, length, Option, Some, None, refl, sym, subst, ◌∙◌, arith}
use Rattle.std.specs.Prelude.{IsSome}
use Rattle.std.specs.Ordering.{nat_cmp}
use Rattle.std.specs.FinMap.{get-empty}
use Rattle.event_json.specs.Sites.{Site}
use Rattle.frame_core.specs.Identifiers.{recall_cmp, message_cmp}
use Rattle.site_core.specs.ItemSets as set
use Rattle.site_core.specs.Records.{fresh, IsSound}

-- where nothing is found, something isn't
pub none_there : {A : Type 0} {x : Option A} → x ≡ None → IsSome x → ⊥
none_there is some = let none = subst IsSome is some in cc

pub fresh_is_sound : (sites : List Site) (me : ℕ) → me < length sites → IsSound (fresh sites me)
fresh_is_sound sites me lt = record {
  one_site = refl;
  me = lt;
  events = λ k d p. absurd (omega (arith, p));
  quarantine = λ r some. absurd (none_there (get-empty recall_cmp r) some);
  no_empty_set = λ r is. let twice : None ≡ Some set.empty = sym (get-empty recall_cmp r) ∙ is in cc;
  rows = λ number row is. let twice : None ≡ Some row = sym (get-empty nat_cmp number) ∙ is in cc;
  seen = λ m r is. let twice : None ≡ Some r = sym (get-empty message_cmp m) ∙ is in cc;
  parents = λ r m is. let twice : None ≡ Some m = sym (get-empty recall_cmp r) ∙ is in cc;
  own = λ number some. absurd (none_there (get-empty nat_cmp number) some);
  next_message = record { low = omega arith; high = omega arith };
  next_recall = record { low = omega arith; high = omega arith };
}
