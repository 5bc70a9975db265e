use Rattle.std.proofs.Common.{string_bytes, sym, subst, append-nil, refl}
use Rattle.document_convert.specs.Converted.{AreLinesOf}
use Rattle.document_convert.proofs.ConvertLemmas.{account_pushed, line_pushed}
use Rattle.document_convert.proofs.converting.Converted.push_lines.Goals as goal

pub loop-document-init : goal.loop-document-init
loop-document-init c = (λ ds are. subst (λ es. AreLinesOf es (string_bytes c.args.self.now.lines)) (sym (append-nil ds)) are, refl, refl)

pub loop-document-preserved : goal.loop-document-preserved
loop-document-preserved c =
    let (so_far, same, counted) = c.loop-document.invariant in
    let (line, is, lines) = c.in_ok-push_text.ensures in
    let taken = c.loop-document.yielded in (
      line_pushed (string_bytes c.args.self.now.lines) (string_bytes c.loop-document.self.lines) (string_bytes c.push_text.new.lines) taken c.in-Some.document line so_far is lines,
      same,
      account_pushed c.args.self.now.account c.loop-document.self.account c.with_line-self.result taken c.in-Some.document counted c.with_line-self.ensures,
    )

pub loop-document-preserved-in_ok-push_text : goal.loop-document-preserved-in_ok-push_text
loop-document-preserved-in_ok-push_text c =
    let (so_far, same, counted) = c.loop-document.invariant in
    let (line, is, lines) = c.in_ok-push_text.ensures in
    let taken = c.loop-document.yielded in (
      line_pushed (string_bytes c.args.self.now.lines) (string_bytes c.loop-document.self.lines) (string_bytes c.push_text.new.lines) taken c.in-Some.document line so_far is lines,
      same,
      account_pushed c.args.self.now.account c.loop-document.self.account c.with_line-self.result taken c.in-Some.document counted c.with_line-self.ensures,
    )

pub loop-document-preserved-in_ok-push_text-2 : goal.loop-document-preserved-in_ok-push_text-2
loop-document-preserved-in_ok-push_text-2 c =
    let (so_far, same, counted) = c.loop-document.invariant in
    let (line, is, lines) = c.in_ok-push_text.ensures in
    let taken = c.loop-document.yielded in (
      line_pushed (string_bytes c.args.self.now.lines) (string_bytes c.loop-document.self.lines) (string_bytes c.push_text.new.lines) taken c.in-Some.document line so_far is lines,
      same,
      account_pushed c.args.self.now.account c.loop-document.self.account c.with_line-self.result taken c.in-Some.document counted c.with_line-self.ensures,
    )

pub loop-document-preserved-in_ok-push_text-3 : goal.loop-document-preserved-in_ok-push_text-3
loop-document-preserved-in_ok-push_text-3 c =
    let (so_far, same, counted) = c.loop-document.invariant in
    let (line, is, lines) = c.in_ok-push_text.ensures in
    let taken = c.loop-document.yielded in (
      line_pushed (string_bytes c.args.self.now.lines) (string_bytes c.loop-document.self.lines) (string_bytes c.push_text.new.lines) taken c.in-Some.document line so_far is lines,
      same,
      account_pushed c.args.self.now.account c.loop-document.self.account c.with_line-self.result taken c.in-Some.document counted c.with_line-self.ensures,
    )
