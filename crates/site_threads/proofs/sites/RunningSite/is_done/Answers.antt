use Rattle.std.proofs.Common.{◌∙◌, ◌≡◌, Bool, false, Option, Some, None, is_some, true≢false, refl, sym, ap}
use Rattle.std.specs.Prelude.{option_map}
use Rattle.site_threads.proofs.sites.RunningSite.is_done.Goals as goal

nothing : {X : Type 0} (o : Option X) (b : Bool) → b ≡ is_some o → b ≡ false → o ≡ None
nothing None b same none = refl
nothing (Some x) b same none = absurd (true≢false (sym same ∙ none))

pub returns-in-Some : goal.returns-in-Some
returns-in-Some g c rests =
    rw (← c.self.view_is)
    (record {
      gone = c.if-not-self.false;
      none = nothing c.self.inside.pending c.is_some.result c.is_some.ensures c.if-is_some.false;
      record_is = c.in-Some.state.now;
      stands = sym c.view_of.ensures ∙ ap (option_map (λ s. s.now)) c.in-Some.is;
      rests = c.is_at_rest.ensures rests;
    })
