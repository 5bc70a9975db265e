use Rattle.std.proofs.Common.{◌≡◌, Some, None, List, ℕ, Bor, option_map, ◌∙◌, sym, ap}
use Rattle.std.specs.Option.{option_or}
use Rattle.epc_core.specs.Items.{gtin_of_uri, gtin_of_link, sscc_of_uri, sscc_of_link, sgtin_key_of}
use Rattle.epc_core.proofs.Found.{or_mapped, found_gtin, no_gtin, no_serial, found_sscc}
use Rattle.epc_core.proofs.spellings.number_form.Goals as goal
use Rattle.epc_core.proofs.spellings.number_form.Goals.{in-Some+in_default-serial_of, in_default}

pub returns-in-Some-serial_of : goal.returns-in-Some-serial_of
returns-in-Some-serial_of c =
    let parts = c.in-Some.parts in
    let f : List ℕ × Bor (List ℕ) → List ℕ × List ℕ = λ p. (p.0, p.1.now) in
    let both : option_or (gtin_of_uri c.args.text.now) (gtin_of_link c.args.text.now) ≡ Some (parts.0, parts.1.now) =
    or_mapped f _ _ _ _ _ c.or.ensures c.gtin_of_uri.ensures c.gtin_of_link.ensures ∙ ap (option_map f) c.in-Some.is in
    found_gtin c.args.text.now _ _ _ both (sym c.serial_of.ensures ∙ c.in-Some-serial_of.is)

pub returns : goal.returns
returns c =
    let f : List ℕ × Bor (List ℕ) → List ℕ × List ℕ = λ p. (p.0, p.1.now) in
    let found : option_or (gtin_of_uri c.args.text.now) (gtin_of_link c.args.text.now) ≡ option_map f c.or.result =
    or_mapped f _ _ _ _ _ c.or.ensures c.gtin_of_uri.ensures c.gtin_of_link.ensures in
    let none : sgtin_key_of c.args.text.now ≡ None =
    elim c.match-or.branch [
      | in-Some+in_default-serial_of w ↦
          no_serial c.args.text.now w.in-Some.parts.0 w.in-Some.parts.1.now (found ∙ ap (option_map f) w.in-Some.is) (sym w.serial_of.ensures ∙ w.in_default-serial_of.is)
      | in_default w ↦ no_gtin c.args.text.now (found ∙ ap (option_map f) w.in_default.is)
    ] in
    let sscc : option_or (sscc_of_uri c.args.text.now) (sscc_of_link c.args.text.now) ≡ Some c.in_ok-digits.digits =
    (λ i. option_or (sym c.sscc_of_uri.ensures i) (sym c.sscc_of_link.ensures i)) ∙ (sym c.or-2.ensures ∙ c.in_ok-digits.was) in
    found_sscc c.args.text.now _ none sscc
