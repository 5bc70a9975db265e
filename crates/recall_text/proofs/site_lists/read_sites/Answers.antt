use Rattle.std.proofs.Common.{◌+◌, sym, subst, rules, arith}
use Rattle.std.proofs.lemmas.List.{take_rest, length-drop}
use Rattle.recall_text.specs.SiteLists.{AddsLine}
use Rattle.recall_text.proofs.SiteListLemmas.{IsReadTo, none_read, ended_line_read, last_line_read, all_read}
use Rattle.recall_text.proofs.LineLemmas.{no_bytes}
use Rattle.recall_text.proofs.site_lists.read_sites.Goals as goal
use Rattle.recall_text.proofs.site_lists.read_sites.Goals.{then-not-is_empty+in_ok-take_line-2, else-not-is_empty}

pub loop-end-init : goal.loop-end-init
loop-end-init c =
    record {
      so_far = none_read c.args.text.now c.new-list.result c.new-list.ensures.sites c.new-list.ensures.refused;
      within = omega arith;
    }

pub loop-end-preserved : goal.loop-end-preserved
loop-end-preserved c =
    let rest = c.loop-end.rest.now in
    let end = c.in-Some.end in
    let after = take_rest rest (end + 1) in
    record {
      so_far = subst (IsReadTo c.args.text.now c.take_line.new.self (c.loop-end.number + 1)) (sym after)
          (ended_line_read c.args.text.now c.loop-end.list c.take_line.new.self c.loop-end.number rest end c.loop-end.invariant.so_far c.in-Some.ensures.some
          (subst (λ line. AddsLine c.loop-end.list c.loop-end.number line c.take_line.new.self) c.content_len.ensures.content c.in_ok-take_line.ensures));
      within = omega (arith, c.in-Some.ensures.some.inside, length-drop (end + 1) rest, c.loop-end.invariant.within);
    }

pub returns : goal.returns
returns c = elim c.if-not-is_empty.branch [
  | then-not-is_empty+in_ok-take_line-2 w ↦
      rw w.list-is
      (all_read c.args.text.now w.take_line-then-not-is_empty.new.self (c.loop-end.number + 1)
      (last_line_read c.args.text.now c.loop-end.list w.take_line-then-not-is_empty.new.self c.loop-end.number c.loop-end.rest.now c.loop-end.invariant.so_far (search rules) (search rules) w.in_ok-take_line-2.ensures))
  | else-not-is_empty w ↦
      rw w.list-is
      (all_read c.args.text.now c.loop-end.list c.loop-end.number
      (subst (IsReadTo c.args.text.now c.loop-end.list c.loop-end.number) (no_bytes c.loop-end.rest.now (search rules)) c.loop-end.invariant.so_far))
]
