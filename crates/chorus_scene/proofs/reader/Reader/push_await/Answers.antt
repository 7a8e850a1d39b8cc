use Rattle.std.proofs.Common.{◌≡◌, ◌+◌, ◌-◌, ◌∷◌, [], length, length-set, length-append, sym, ap, ◌∙◌, arith}
use Rattle.chorus_entry.specs.declared.command.Command.{Command}
use Rattle.chorus_scene.specs.Scene.{Script}
use Rattle.chorus_scene.proofs.Counts.{counts_on}
use Rattle.chorus_scene.proofs.reader.Reader.push_await.Goals as goal

pub returns-clause-stands : goal.returns-clause-stands
returns-clause-stands c =
    let h = c.requires.stands in
    let scripts = c.args.self.now.scripts.items in
    let at = c.len-last.result - 1 in
    let last = c.index_mut.result.now in
    let long = length-set scripts at c.push_await.new.self in
    let grown : length (c.push_await.new.self).commands ≡ length last.commands + 1 = ap (λ (s : Script). length s.commands) c.in_ok-push_await.ensures ∙ length-append last.commands (Command.Take c.args.port ∷ []) in
    record {
      tables = h.tables;
      sites = h.sites;
      used_len = h.used_len ∙ sym long;
      used = λ k lt. h.used k (omega (arith, lt, long));
      counts = counts_on c.args.self.now.counts.items scripts at c.index_mut-2.result.now last c.push_await.new.self h.counts (omega arith) c.index_mut.ensures.value c.index_mut-2.ensures.value grown;
      early = λ e. h.early c.requires.early;
      some_script = λ e. omega (arith, long, c.requires.some);
      few_scripts = omega (arith, long, h.few_scripts);
    }
