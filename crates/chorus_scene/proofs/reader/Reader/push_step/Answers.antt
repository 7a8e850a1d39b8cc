use Rattle.std.proofs.Common.{◌≡◌, arith, count_by, ◌∙◌, length, length-set, get_or, ◌-◌, ◌+◌}
use Rattle.std.proofs.lemmas.List.{get_or_read}
use Rattle.std.proofs.lemmas.List.Sums.{count_by-le-length}
use Rattle.chorus_scene.specs.Grammar.{is_step}
use Rattle.chorus_scene.proofs.Counts.{used_on}
use Rattle.chorus_scene.proofs.reader.Reader.push_step.Goals as goal

pub overflow_add-index_mut : goal.overflow_add-index_mut
overflow_add-index_mut c =
    let s = c.args.self.now in
    let h = c.requires.stands in
    let at : c.args.script - 1 + 1 ≡ c.args.script = omega arith in
    let u : get_or s.used.items (c.args.script - 1) 0 ≡ count_by (is_step (c.args.script - 1 + 1)) s.schedule.items = h.used (c.args.script - 1) (omega arith) in
    let r : c.index_mut.result.now ≡ get_or s.used.items (c.args.script - 1) 0 = get_or_read s.used.items _ _ (omega (arith, h.used_len)) c.index_mut.ensures.value 0 in
    omega (arith, count_by-le-length (is_step (c.args.script - 1 + 1)) s.schedule.items)

pub returns-clause-stands : goal.returns-clause-stands
returns-clause-stands c = let h = c.requires.stands in record {
  tables = h.tables;
  sites = h.sites;
  used_len = length-set c.args.self.now.used.items _ _ ∙ h.used_len;
  used = rw c.in_ok-push.ensures.items (used_on c.args.self.now.used.items c.args.self.now.schedule.items (length c.args.self.now.scripts.items) c.args.script (c.args.script - 1) c.index_mut.result.now h.used (omega arith) (omega arith) h.used_len
      (get_or_read c.args.self.now.used.items _ _ (omega (arith, h.used_len)) c.index_mut.ensures.value 0));
  counts = h.counts;
  early = λ e. absurd cc;
  some_script = λ e. absurd cc;
  few_scripts = h.few_scripts;
}
