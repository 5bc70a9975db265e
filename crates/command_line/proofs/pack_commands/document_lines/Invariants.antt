use Rattle.std.proofs.Common.{◌≡◌, ◌++◌, drop, string_bytes}
use Rattle.command_line.specs.Packs.{document_lines}
use Rattle.command_line.proofs.pack_commands.document_lines.Given as goal

-- with those of the documents that are left they are all
abbrev pub invariant-loop-pack : goal.invariant-loop-pack
invariant-loop-pack l = string_bytes l.lines ++ document_lines (drop l.pack-index l.documents) ≡ document_lines l.documents
