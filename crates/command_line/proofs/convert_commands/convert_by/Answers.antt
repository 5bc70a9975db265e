use Rattle.std.proofs.Common.{ℕ, List, Bor, inl, inr, map, subst}
use Rattle.site_folders.specs.FileCalls.{Led}
use Rattle.command_line.specs.Converting.{ConvertFails, Converts, Ways}
use Rattle.command_line.proofs.convert_commands.convert_by.Goals as goal

pub returns-in-Ok : goal.returns-in-Ok
returns-in-Ok g c =
    let ways : Ways = (c.args.asked.now.ways, c.args.sites.now) in
    inl (
      c.in-Ok.total.refused,
      subst (λ (ps : List (Bor (List ℕ))). Led g.F.Files.does c.args.files.now c.convert_all.new.files
          (Converts g.W.Write.contents ways (map (λ p. p.now) ps) c.args.output.now c.convert_all.new.output c.in-Ok.total.refused))
          c.as_slice-paths.ensures.value c.in-Ok.ensures.all,
      c.status_of.ensures,
    )

pub returns-in-Err : goal.returns-in-Err
returns-in-Err g c =
    let ways : Ways = (c.args.asked.now.ways, c.args.sites.now) in
    inr (
      c.in-Err.cause,
      subst (λ (ps : List (Bor (List ℕ))). Led g.F.Files.does c.args.files.now c.convert_all.new.files
          (ConvertFails g.W.Write.contents ways (map (λ p. p.now) ps) c.args.output.now c.convert_all.new.output c.in-Err.cause))
          c.as_slice-paths.ensures.value c.in-Err.ensures.failed,
      c.fault.ensures,
    )
