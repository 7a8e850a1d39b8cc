-- A reader that has read nothing.
use Rattle.std.proofs.Common.{◌≡◌, true, [], length, refl, arith}
use Rattle.chorus_lines.specs.declared.word.Section.TheVariants as sections
use Rattle.chorus_scene.specs.declared.reader.Reader.{Reader}
use Rattle.chorus_scene.specs.Reader.{IsSetup, Stands, is_in_scripts}

pub opens : (r : Reader) → IsSetup r.layout r.setup → r.sites ≡ 0 → r.section ≡ sections.Head → r.scripts.items ≡ [] → r.schedule.items ≡ [] → r.counts.items ≡ [] → r.used.items ≡ [] → Stands r
opens r tables none head scripts schedule counts used = record {
  tables = tables;
  sites = omega arith;
  used_len = rw (used, scripts) refl;
  used = λ k lt. absurd (let e : length r.scripts.items ≡ 0 = rw scripts refl in omega arith);
  counts = rw (counts, scripts) refl;
  early = λ e. schedule;
  some_script = λ e. absurd (let f : is_in_scripts sections.Head ≡ true = rw head at e in cc);
  few_scripts = rw scripts (omega arith);
}
