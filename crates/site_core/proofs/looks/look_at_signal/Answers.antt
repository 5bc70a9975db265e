use Rattle.std.proofs.Common.{◌≡◌, inr, refl, sym, ap, ◌∙◌, arith}
use Rattle.std.specs.FinMap.{get}
use Rattle.std.specs.Prelude.{option_map}
use Rattle.std.proofs.lemmas.Bool.Decides.{nat_tests}
use Rattle.frame_core.specs.Rows.{row_of}
use Rattle.site_core.proofs.looks.look_at_signal.Goals as goal

pub returns-in-Some : goal.returns-in-Some
returns-in-Some c = (
  row_of c.in-Some.row,
  record {
    mine = c.if-not-is_own_message.ensures.0 refl;
    stands = ap (λ m. get c.args.state.now.engagement.outbox m.number) (sym c.message.view_is) ∙ sym c.row.ensures ∙ ap (option_map row_of) c.in-Some.is;
  },
  grind (arith, nat_tests, c.if-eq.ensures, c.if-eq.true, c.eq.ensures),
)

pub returns-in-Some-2 : goal.returns-in-Some-2
returns-in-Some-2 c = (
  λ same. cc,
  inr (
    row_of c.in-Some-2.field-0,
    record {
      mine = c.if-not-is_own_message.ensures.0 refl;
      stands = ap (λ m. get c.args.state.now.engagement.outbox m.number) (sym c.message.view_is) ∙ sym c.row.ensures ∙ ap (option_map row_of) c.in-Some-2.is;
    },
    λ same. let one : c.in-Some.row ≡ c.in-Some-2.field-0 = cc in grind (arith, nat_tests, c.if-eq.ensures, c.eq.ensures, c.if-eq.false, same, one),
  ),
)
