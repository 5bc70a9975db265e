use Rattle.std.proofs.Common.{[], refl, inl}
use Rattle.site_threads.specs.declared.gather.GatherCause.TheVariants.{NotAWorld}
use Rattle.world_core.specs.declared.faults.WorldFault.TheVariants as worlds
use Rattle.folder_commands.proofs.runs.run_unless.Goals as goal

pub returns-in_default-clause-failed : goal.returns-in_default-clause-failed
returns-in_default-clause-failed g c = record {
  between = [];
  asked = λ single. refl;
  last = c.args.keepers.items;
  led = refl;
  fails = record { cause = NotAWorld worlds.NoMemory; hinders = tt; fit = refl; explained = tt; fault_is = refl; ran = inl refl };
}
