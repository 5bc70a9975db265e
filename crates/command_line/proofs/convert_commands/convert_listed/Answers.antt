use Rattle.std.proofs.Common.{inl, inr, refl, subst}
use Rattle.folder_commands.specs.declared.listed.SitesCame.{SitesCame}
use Rattle.folder_commands.specs.declared.listed.SitesCame.TheVariants as came
use Rattle.site_folders.specs.FileCalls.{Led}
use Rattle.folder_commands.specs.Listed.{ReadsSites}
use Rattle.command_line.proofs.ConvertLemmas.{list_refused}
use Rattle.command_line.proofs.convert_commands.convert_listed.Goals as goal

pub returns-in-Ok-Listed : goal.returns-in-Ok-Listed
returns-in-Ok-Listed g c =
    let listed = subst (λ (o : SitesCame). Led g.F.Files.does c.args.files.now c.listed_sites.new.files (ReadsSites c.args.list.now o)) c.in-Ok-Listed.field-0-is c.in-Ok-Listed.ensures.all in
    inl (record { came = came.Listed c.in-Ok-Listed.sites; mid = c.listed_sites.new.files; listed = listed; ends = c.convert_by.ensures })

pub returns-in-Ok-Refused : goal.returns-in-Ok-Refused
returns-in-Ok-Refused g c =
    let listed = subst (λ (o : SitesCame). Led g.F.Files.does c.args.files.now c.listed_sites.new.files (ReadsSites c.args.list.now o)) c.in-Ok-Refused.field-0-is c.in-Ok-Refused.ensures.all in
    let told = list_refused g.F.Files.does g.W.Write.contents c.args.asked.now.form c.args.list.now _ _ _ _ _ c.in-Ok-Refused.refused listed c.tell_output.ensures in
    inl (record { came = came.Refused c.in-Ok-Refused.refused; mid = c.listed_sites.new.files; listed = listed; ends = (refl, told) })

pub returns-in-Err : goal.returns-in-Err
returns-in-Err g c = inr (c.in-Err.cause, c.in-Err.ensures.failed, refl, c.fault.ensures)
