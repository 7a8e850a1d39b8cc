use Rattle.std.proofs.Common.{◌≤◌, length, reverse, sym, ◌∙◌, subst, arith}
use Rattle.std.specs.Io.KnownBytes.{Appends}
use Rattle.chorus_io.specs.Bytes.{AppendsPrefix}
use Rattle.picture_rows.specs.declared.limits.TheConstants.{ENTRIES_LIMIT}
use Rattle.chorus_audit.specs.Tests.{IsRead}
use Rattle.chorus_picture.specs.Picture.{HasLines}
use Rattle.chorus_picture.proofs.Lines.{has_lines}
use Rattle.chorus_picture.proofs.Whole.{is-drawn, whole-input}
use Rattle.chorus_picture.proofs.drawing.picture.Goals as goal

pub drawn-requires-clause-lines : goal.drawn-requires-clause-lines
drawn-requires-clause-lines g c =
    subst (λ es. HasLines c.deref-2.result.now es) (sym c.entries-entries.ensures.value)
    (has_lines c.args.layout c.deref-2.result.now c.in-Ok-read_text.reading.audit (reverse c.in-Ok-read_text.reading.world.past)
    (subst (λ t. IsRead c.args.layout t c.in-Ok-read_text.reading.audit (reverse c.in-Ok-read_text.reading.world.past)) (c.deref.ensures.value ∙ sym c.deref-2.ensures.value) c.in-Ok-read_text.ensures))

pub returns-in-Ok-write_all-clause-draws : goal.returns-in-Ok-write_all-clause-draws
returns-in-Ok-write_all-clause-draws g c =
    let few : length c.entries-entries.result.now ≤ ENTRIES_LIMIT = omega arith in (
      c.in-Ok-drawn.drawn.items,
      is-drawn c.args.layout (g.S.Source.left c.args.source.now) c.in-Ok.text.items c.deref.result.now c.deref-2.result.now c.in-Ok-drawn.drawn.items c.in-Ok-read_text.reading.audit
          c.in-Ok-read_text.reading.world.past c.entries-entries.result.now (whole-input _ _ _ _ c.in-Ok.ensures.read) c.deref.ensures.value c.deref-2.ensures.value c.entries-entries.ensures.value
          c.in-Ok-read_text.ensures few c.in-Ok-drawn.ensures,
      subst (Appends (g.K.Sink.held c.args.sink.now) (g.K.Sink.held c.write_all.new.sink)) c.deref-3.ensures.value c.in-Ok-write_all.ensures.ok,
    )

pub returns-clause-reads : goal.returns-clause-reads
returns-clause-reads g c = (c.in-Ok.text.items, c.in-Ok.ensures.read)

pub returns-clause-draws : goal.returns-clause-draws
returns-clause-draws g c =
    let few : length c.entries-entries.result.now ≤ ENTRIES_LIMIT = omega arith in (
      c.in-Ok-drawn.drawn.items,
      is-drawn c.args.layout (g.S.Source.left c.args.source.now) c.in-Ok.text.items c.deref.result.now c.deref-2.result.now c.in-Ok-drawn.drawn.items c.in-Ok-read_text.reading.audit
          c.in-Ok-read_text.reading.world.past c.entries-entries.result.now (whole-input _ _ _ _ c.in-Ok.ensures.read) c.deref.ensures.value c.deref-2.ensures.value c.entries-entries.ensures.value
          c.in-Ok-read_text.ensures few c.in-Ok-drawn.ensures,
      subst (AppendsPrefix (g.K.Sink.held c.args.sink.now) (g.K.Sink.held c.write_all.new.sink)) c.deref-3.ensures.value c.in-Err.ensures.prefix,
    )
