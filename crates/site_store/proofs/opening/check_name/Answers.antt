use Rattle.std.proofs.Common.{◌≡◌, ◌∙◌, inl, inr, List, ℕ, Some, sym, ap}
use Rattle.std.specs.Prelude.{◌≢◌, string_bytes}
use Rattle.site_store.proofs.OpeningReads.{store_of, same_text_is, other_text}
use Rattle.site_store.proofs.opening.check_name.Goals as goal

pub returns-in_default-as_str-clause-named : goal.returns-in_default-as_str-clause-named
returns-in_default-as_str-clause-named c = (
  c.in-Some-site_of.site.now.name,
  store_of c.args.rows.now c.as_slice.result.now c.as_slice-2.result.now c.in-Some.row.now _ c.as_slice.ensures c.in-Some.ensures.value c.in_ok-check_version.ensures.same c.as_slice-2.ensures (sym c.in-Some-site_of.ensures),
  inr c.in_default-as_str.ensures,
)

pub returns-then-eq-clause-named : goal.returns-then-eq-clause-named
returns-then-eq-clause-named c =
    let found = c.in-Some-as_str.found.now in
    let same : found ≡ c.args.name.now = same_text_is found c.args.name.now (sym c.if-eq.ensures) in (
      c.in-Some-site_of.site.now.name,
      store_of c.args.rows.now c.as_slice.result.now c.as_slice-2.result.now c.in-Some.row.now _ c.as_slice.ensures c.in-Some.ensures.value c.in_ok-check_version.ensures.same c.as_slice-2.ensures (sym c.in-Some-site_of.ensures),
      inl (sym c.in-Some-as_str.ensures.0 ∙ same),
    )

pub returns-in-Ok-clause-refused : goal.returns-in-Ok-clause-refused
returns-in-Ok-clause-refused c =
    let found = c.in-Some-as_str.found.now in
    let copied : string_bytes c.in-Ok.found ≡ found = c.in-Ok.ensures.ok in
    let other : found ≢ c.args.name.now = other_text found c.args.name.now (sym c.if-eq.ensures) in (
      store_of c.args.rows.now c.as_slice.result.now c.as_slice-2.result.now c.in-Some.row.now (Some (string_bytes c.in-Ok.found)) c.as_slice.ensures c.in-Some.ensures.value c.in_ok-check_version.ensures.same c.as_slice-2.ensures
          (sym c.in-Some-site_of.ensures ∙ ap (λ (t : List ℕ). Some t) (sym c.in-Some-as_str.ensures.0 ∙ sym copied)),
      λ e. other (sym copied ∙ e),
    )
