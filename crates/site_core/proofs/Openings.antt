-- A recall that is started opens: its root's spread comes under it, and each shipment of that is announced.
use Rattle.std.proofs.Common.{◌≡◌, ℕ, List, length, sym, ap, subst, ◌∙◌}
use Rattle.frame_core.specs.Numbers.{Recall}
use Rattle.scholten_core.specs.Changes.{next_own, begun, began}
use Rattle.scholten_core.specs.Replies.{TellsBegun}
use Rattle.scholten_core.proofs.Beginning.{begun_begins, begun_tells}
use Rattle.site_core.specs.Records.{Record}
use Rattle.site_core.specs.Steps.{MayStart}
use Rattle.site_core.specs.StepLaws.{StartsOpen}
use Rattle.site_core.specs.Ways.{CountsNew, Opens}
use Rattle.site_core.proofs.Quarantining.{with_new_items, told_row, counts_new, quarantines}

module _ (s : Record) (root : List ℕ) (spread new : List (List ℕ)) (out : List (ℕ × List ℕ)) (may : MayStart s root spread new out) where
  abbrev opened : Record
  opened = with_new_items s (next_own s.engagement) new (begun s.engagement root out)

  pub opens : Opens s opened root
  opens =
      let begins = begun_begins s.engagement root out in
      record {
        quarantines = quarantines s (next_own s.engagement) root new spread out (begun s.engagement root out) may.newly may.shipped begins.rows
            (λ j there. (may.exact j).0 there) (λ j there. (may.exact j).1 ((may.newly.exact j).0 there).0);
        told = λ j u is to. told_row s (next_own s.engagement) root new spread out (begun s.engagement root out) may.newly may.shipped begins.rows j u ((may.shipped.exact u j).1 ((may.exact j).1 is, to));
        out = out;
        once = may.shipped.ascending;
        exact = λ u j. (
          λ there. let (item, to) = (may.shipped.exact u j).0 there in ((may.exact j).0 item, to),
          λ (is, to). (may.shipped.exact u j).1 ((may.exact j).1 is, to),
        );
        begins = begins;
      }

pub starts_open : StartsOpen
starts_open s t root recall quarantined numbered ended c =
    let begins = begun_begins s.engagement root c.out in
    let counts = counts_new s (next_own s.engagement) root c.new c.spread c.out (begun s.engagement root c.out) c.may.newly c.may.shipped begins.rows
    (λ j there. (c.may.exact j).0 there) (λ j there. (c.may.exact j).1 ((c.may.newly.exact j).0 there).0) in
    let is : t ≡ opened s root c.spread c.new c.out c.may = c.after ∙ ap (λ (r : Recall). with_new_items s r c.new (begun s.engagement root c.out)) c.next in
    let tells : TellsBegun s.engagement t.engagement (began s.engagement c.out) = subst (λ (u : Record). TellsBegun s.engagement u.engagement (began s.engagement c.out)) (sym is) (begun_tells s.engagement root c.out) in
    let answer : began s.engagement c.out ≡ record { recall = recall; numbered = numbered; ended = ended } =
    sym (λ k. record { recall = c.next k; numbered = c.told k; ended = c.at_once k }) in
    let as_counted : CountsNew s t recall quarantined =
    subst (λ r. CountsNew s t r quarantined) (sym c.next) (subst (λ n. CountsNew s t (next_own s.engagement) n) (sym c.held) (subst (λ u. CountsNew s u (next_own s.engagement) (length c.new)) (sym is) counts)) in
    (subst (λ u. Opens s u root) (sym is) (opens s root c.spread c.new c.out c.may), as_counted, subst (TellsBegun s.engagement t.engagement) answer tells)
