use Rattle.std.proofs.Common.{◌≡◌, ◌∙◌, List, ℕ, rules, ap, ap₂, string_bytes}
use Rattle.serde_json.specs.Data.{Data, put, string}
use Rattle.serde_json.specs.View.{members_view, view}
use Rattle.serde_json.specs.declared.value.Value.{String, the_lemmas}
use Rattle.serde_json.proofs.Views.{members_view-insert_entry}
use Rattle.frame_lines.proofs.writing.put_text.Goals as goal

pub returns-in-Ok : goal.returns-in-Ok
returns-in-Ok c =
    let old = c.args.members.now.entries in
    let text : view (String c.args.text) ≡ string (string_bytes c.args.text) = search (rules, the_lemmas) in
    ap members_view c.in-Ok.ensures.entries ∙ members_view-insert_entry old c.in_ok-name.name (String c.args.text)
    ∙ ap₂ (λ (n : List ℕ) (d : Data). put n d (members_view old)) c.in_ok-name.ensures.ok text
