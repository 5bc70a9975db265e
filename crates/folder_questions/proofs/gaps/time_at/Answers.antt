use Rattle.std.proofs.Common.{◌≡◌, ◌∙◌, ℕ, List, Option, None, ap, option_map, refl, subst, sym}
use Rattle.std.specs.Option.{MatchOption}
use Rattle.std.proofs.lemmas.Result.{IfOk-weaker}
use Rattle.trace_core.specs.Sites.{SiteEvents}
use Rattle.folder_questions.specs.Gaps.{TellsTimeOf}
use Rattle.folder_questions.proofs.gaps.time_at.Goals as goal

pub returns-in-Some-site_of : goal.returns-in-Some-site_of
returns-in-Some-site_of c =
    let there = sym (ap (option_map (λ s. s.now)) c.in-Some-site_of.is) ∙ c.site_of.ensures in
    rw c.in-Some.is (IfOk-weaker c.time_of_event.result (TellsTimeOf c.in-Some-site_of.site.now c.in-Some.place) _
    (λ time told. subst (λ (o : Option SiteEvents). MatchOption o (◌≡◌ {A = Option (List ℕ)} time None) (λ s. TellsTimeOf s c.in-Some.place time)) there told)
    c.time_of_event.ensures)

pub returns-in-None : goal.returns-in-None
returns-in-None c =
    let none = sym (ap (option_map (λ s. s.now)) c.in-None.is) ∙ c.site_of.ensures in
    rw c.in-Some.is (subst (λ (o : Option SiteEvents). MatchOption o (◌≡◌ {A = Option (List ℕ)} None None) (λ s. TellsTimeOf s c.in-Some.place None)) none refl)
