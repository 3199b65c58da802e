use Rattle.std.proofs.Common.{rules, sym, ap, ◌∙◌}
use Rattle.yamux_frames.specs.Spelling.{type_number}
use Rattle.yamux_frames.proofs.Bytes.{spelled}
use Rattle.yamux_frames.proofs.header.Header.read.Goals as goal
use Rattle.yamux_frames.proofs.header.Header.read.Goals.{in-0, in-1, in-2, in-3}

pub returns-clause-spelled : goal.returns-clause-spelled
returns-clause-spelled c =
    spelled c.args.bytes.now c.told-bytes c.fits-bytes _ _ _ _ (search rules)
    (elim c.match-kind.branch [
      | in-0 w ↦ w.in-0.is ∙ sym (ap type_number w.kind-is)
      | in-1 w ↦ w.in-1.is ∙ sym (ap type_number w.kind-is)
      | in-2 w ↦ w.in-2.is ∙ sym (ap type_number w.kind-is)
      | in-3 w ↦ w.in-3.is ∙ sym (ap type_number w.kind-is)
    ])
    c.from_be_bytes-flags.ensures c.from_be_bytes-stream.ensures c.from_be_bytes-length.ensures
