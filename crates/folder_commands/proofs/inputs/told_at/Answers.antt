use Rattle.std.proofs.Common.{Ok, sym, ap, ◌∙◌, subst}
use Rattle.std.proofs.lemmas.Option.{same_Some}
use Rattle.std.specs.Option.{option_map}
use Rattle.site_core.specs.Records.{Record}
use Rattle.std.specs.Prelude.{IfOk}
use Rattle.event_json.specs.declared.documents.Doc.{Doc}
use Rattle.site_core.specs.Steps.{IsReadAs}
use Rattle.folder_commands.specs.Untraced.{TellsUntraced}
use Rattle.folder_commands.proofs.inputs.told_at.Goals as goal

pub returns-in-Some-clause-found : goal.returns-in-Some-clause-found
returns-in-Some-clause-found g c = λ old shows.
    let same = same_Some c.in-Some.state.now old (sym (ap (option_map (λ s. s.now)) c.in-Some.is) ∙ c.view.ensures ∙ shows) in
    let lists = c.sites.ensures ∙ ap (λ (r : Record). r.sites) same in
    subst (λ ss. (doc : Doc) → IsReadAs ss c.args.document.now (Ok doc) → IfOk c.told_of.result (λ told. TellsUntraced ss c.args.document.now c.args.named.now told.0 told.1)) lists c.told_of.ensures.found
