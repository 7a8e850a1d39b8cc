use Rattle.chorus_turn.proofs.turns.Turns.work.Given as goal

abbrev pub ghosts-take : goal.ghosts-take
ghosts-take g a = record { origin = a.self.now.table.shared.key.value.items }

abbrev pub ghosts-give : goal.ghosts-give
ghosts-give g a = record { notes = g.J.Job.notes a._before.now.value a._job.now }
