-- Slices of their turns lead sites that have not begun to sites that have run.
use Rattle.std.specs.Prelude.{IfSome}
use Rattle.std.proofs.Common.{Some, ap, is_none, ◌≡◌, ◌∙◌, ℕ, ◌+◌, ◌*◌, ◌<◌, ◌≤◌, true, false, true≢false, Option, None, Result, List, [], ◌∷◌, All, sym, refl, arith}
use Rattle.std.proofs.lemmas.List.Elements.{All-head, All-tail}
use Rattle.std.proofs.lemmas.List.Sums.{AllPass-from_list_all}
use Rattle.std.specs.List.{AllZip, list_all}
use Rattle.keeper_core.specs.declared.faults.Unopened.{Unopened}
use Rattle.site_core.specs.Records.{Record}
use Rattle.site_threads.specs.declared.turns.TurnCause.{TurnCause}
use Rattle.site_threads.specs.Running.{marks_in}
use Rattle.site_threads.specs.Runs.{EndedBy, IsBetween, HasFinished, IsReady, IsSliced, Ran, SameRun}
use Rattle.site_threads.specs.Sites.{Running}
use Rattle.site_threads.proofs.Continuing.{same_none, same_on}
use Rattle.site_threads.proofs.Zips.{zip_through}

module _ {K G : Type 0} (shown : K → Option Record) (reopens : K → Result K (Unopened K) → Type 0) (gives_up : G → ℕ → ℕ → Type 0) (turns : ℕ) (stored : K → Type 0) where
  -- a slice after which a site goes on, and one after which it has ended its run

  pub went_on : (old new : Running K G) → SameRun stored old new → marks_in new.seat.logs ≤ 18 * new.turns → new.fault ≡ None → new.turns ≤ turns
      → new.ended ≡ false → old.ended ≡ false → old.turns < new.turns → IsSliced shown reopens gives_up turns stored old new
  went_on old new same marks fine asked on before more = record {
    same = same;
    between = record { on = λ _. record { marks = marks; fine = fine; asked = asked }; over = λ e. absurd (true≢false (sym e ∙ on)) };
    turned = λ _. (before, more);
  }

  pub went_over : (old new : Running K G) → SameRun stored old new → HasFinished shown reopens gives_up turns new → new.ended ≡ true → IsSliced shown reopens gives_up turns stored old new
  went_over old new same over ended = record {
    same = same;
    between = record { on = λ e. absurd (true≢false (sym ended ∙ e)); over = λ _. over };
    turned = λ e. absurd (true≢false (sym ended ∙ e));
  }

  -- a slice in which the site ended its run before its time
  pub gave_up : (old new : Running K G) → SameRun stored old new → new.turns ≤ turns → false ≡ is_none new.fault → IfSome new.fault (EndedBy shown reopens gives_up new) → IsSliced shown reopens gives_up turns stored old (record new { ended = true })
  gave_up old new same few fault why =
      let over = record new { ended = true } in
      went_over old over
      (record { wire = same.wire; me = same.me; start = same.start; first = same.first; desk = same.desk; fits = λ h. let f = same.fits h in record { jobs = f.jobs; told = f.told }; keeps = same.keeps })
      (record {
        asked = few;
        all = λ none. absurd (true≢false (sym (ap (λ (f : Option TurnCause). is_none f) none) ∙ sym fault));
        is_open = λ none. absurd (true≢false (sym (ap (λ (f : Option TurnCause). is_none f) none) ∙ sym fault));
        why = elim new.fault as (λ f. IfSome f (EndedBy shown reopens gives_up new) → IfSome f (EndedBy shown reopens gives_up over)) [
          | None ↦ λ h. h
          | Some cause ↦ λ h. record { gate = h.gate; turn = h.turn; before = h.before; asked = h.asked; hinders = h.hinders }
        ]
            why;
      })
      refl

  -- what is known after so many slices
  pub record HasGone (slices : ℕ) (old new : Running K G) : Type 0 where
    pub same : SameRun stored old new
    pub between : IsBetween shown reopens gives_up turns new
    pub turned : new.ended ≡ false → slices ≤ new.turns

  begun : (r : Running K G) → IsReady r → HasGone 0 r r
  begun r ready = record {
    same = same_none stored r;
    between = record {
      on = λ _. record {
        marks = let none = ready.unmarked in omega (arith, none);
        fine = ready.going;
        asked = let none = ready.unasked in omega (arith, none);
      };
      over = λ e. absurd (true≢false (sym e ∙ ready.begins));
    };
    turned = λ _. omega arith;
  }

  pub all_begun : (rs : List (Running K G)) → All IsReady rs → AllZip (HasGone 0) rs rs
  all_begun [] ready = tt
  all_begun (r ∷ rs) ready = (begun r (All-head IsReady r rs ready), all_begun rs (All-tail IsReady r rs ready))

  gone_on : (n : ℕ) (old mid new : Running K G) → HasGone n old mid → IsSliced shown reopens gives_up turns stored mid new → HasGone (n + 1) old new
  gone_on n old mid new gone more = record {
    same = same_on stored old mid new gone.same more.same;
    between = more.between;
    turned = λ on. let t = more.turned on in let before = gone.turned t.0 in let after = t.1 in omega (arith, before, after);
  }

  pub all_gone_on : (n : ℕ) (olds mids news : List (Running K G)) → AllZip (HasGone n) olds mids → AllZip (IsSliced shown reopens gives_up turns stored) mids news → AllZip (HasGone (n + 1)) olds news
  all_gone_on n olds mids news gone more =
      zip_through (HasGone n) (IsSliced shown reopens gives_up turns stored) (HasGone (n + 1)) olds mids news (λ old mid new g m. gone_on n old mid new g m) gone more

  has_ran : (n : ℕ) (old new : Running K G) → HasGone n old new → new.ended ≡ true → Ran shown reopens gives_up stored turns old new
  has_ran n old new gone ended = record { same = gone.same; over = gone.between.over ended }

  each_ran : (n : ℕ) (olds news : List (Running K G)) → AllZip (HasGone n) olds news → All (λ (r : Running K G). r.ended ≡ true) news → AllZip (Ran shown reopens gives_up stored turns) olds news
  each_ran n [] [] gone ended = tt
  each_ran n (o ∷ os) (r ∷ rs) gone ended =
      (has_ran n o r gone.0 (All-head (λ (x : Running K G). x.ended ≡ true) r rs ended), each_ran n os rs gone.1 (All-tail (λ (x : Running K G). x.ended ≡ true) r rs ended))
  each_ran n [] (r ∷ rs) gone ended = absurd gone
  each_ran n (o ∷ os) [] gone ended = absurd gone

  -- where each has ended
  pub all_ran : (n : ℕ) (olds news : List (Running K G)) → AllZip (HasGone n) olds news → list_all (λ (r : Running K G). r.ended) news ≡ true → AllZip (Ran shown reopens gives_up stored turns) olds news
  all_ran n olds news gone ended = each_ran n olds news gone (AllPass-from_list_all (λ (r : Running K G). r.ended) news ended)

  -- a site goes on for no more slices than it has turns
  spent : (n : ℕ) (old new : Running K G) → turns < n → HasGone n old new → new.ended ≡ true
  spent n old new past gone = elim new.ended as (λ e. new.ended ≡ e → new.ended ≡ true) [
    | true ↦ λ e. e
    | false ↦ λ e. absurd (let many = gone.turned e in let few = (gone.between.on e).asked in omega (arith, past, many, few))
  ] refl

  -- after more slices than turns
  pub all_spent : (n : ℕ) (olds news : List (Running K G)) → turns < n → AllZip (HasGone n) olds news → AllZip (Ran shown reopens gives_up stored turns) olds news
  all_spent n [] [] past gone = tt
  all_spent n (o ∷ os) (r ∷ rs) past gone = (has_ran n o r gone.0 (spent n o r past gone.0), all_spent n os rs past gone.1)
  all_spent n [] (r ∷ rs) past gone = absurd gone
  all_spent n (o ∷ os) [] past gone = absurd gone
