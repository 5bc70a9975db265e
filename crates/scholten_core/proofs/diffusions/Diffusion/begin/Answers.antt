use Rattle.std.proofs.Common.{◌≡◌, refl, sym, ap, subst, IsSome, ◌∙◌}
use Rattle.std.specs.Ordering.{nat_cmp}
use Rattle.std.specs.Cmp.{nat_cmp_total}
use Rattle.std.specs.FinMap.{FinMap, nat_cmp-IsAntisymmetric, get, insert}
use Rattle.frame_core.specs.Tables.{as_map, set_back}
use Rattle.frame_core.specs.Unsignalled.{Unsignalled}
use Rattle.frame_core.proofs.Lookups.{get_here}
use Rattle.frame_core.proofs.Maps.{insert_undone}
use Rattle.scholten_core.specs.Engagement.{Engagement}
use Rattle.scholten_core.specs.declared.own_recalls.Own.{Own}
use Rattle.scholten_core.proofs.diffusions.Diffusion.begin.Goals as goal

pub undo-requires : goal.undo-requires
undo-requires c = record {
  stands = subst IsSome (sym (ap (λ m. get m c.self.inside.next_recall) c.in_ok-before.ensures.ok ∙ get_here nat_cmp_total nat_cmp-IsAntisymmetric (as_map nat_cmp c.self.inside.own) c.self.inside.next_recall _)) refl;
}

pub returns-in-Err-clause-err : goal.returns-in-Err-clause-err
returns-in-Err-clause-err c =
    let own : as_map nat_cmp c.undo.new.map ≡ as_map nat_cmp c.self.inside.own =
    c.undo.ensures
    ∙ ap (λ m. set_back m c.self.inside.next_recall c.in_ok-before.before) c.in_ok-before.ensures.ok
    ∙ ap (set_back (insert (as_map nat_cmp c.self.inside.own) c.self.inside.next_recall _) c.self.inside.next_recall) c.in_ok-before.ensures.old
    ∙ insert_undone nat_cmp_total nat_cmp-IsAntisymmetric (as_map nat_cmp c.self.inside.own) c.self.inside.next_recall _ in
    ap (λ (m : FinMap nat_cmp Own). let e : Engagement = record { me = c.self.inside.me; outbox = c.number_all.new.self.rows; seen = c.self.inside.seen; parents = as_map _ c.self.inside.parents; own = m; next_message = c.number_all.new.self.next; next_recall = c.self.inside.next_recall } in e) own
    ∙ ap (λ (u : Unsignalled). let e : Engagement = record { me = c.self.inside.me; outbox = u.rows; seen = c.self.inside.seen; parents = as_map _ c.self.inside.parents; own = as_map nat_cmp c.self.inside.own; next_message = u.next; next_recall = c.self.inside.next_recall } in e) c.in-Err.ensures.err
    ∙ c.self.view_is
