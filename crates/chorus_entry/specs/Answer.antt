-- What became of a message.
use Rattle.std.specs.Prelude.{Bool, true, false, ◌&&◌, ◌==◌}
use Rattle.chorus_entry.specs.declared.answer.Answer.{Answer}
use Rattle.chorus_entry.specs.declared.answer.Answer.TheVariants.{Accepted, Full, Stale, Early, NoPort, Already, ClientsFull, Elsewhere, NoMember, Chosen, Gone}

-- the two answers are one
abbrev pub same_answer : Answer → Answer → Bool
same_answer (Accepted n) (Accepted m) = n == m
same_answer (Full n) (Full m) = n == m
same_answer (Stale p n) (Stale q m) = (p == q) && (n == m)
same_answer (Early n) (Early m) = n == m
same_answer NoPort NoPort = true
same_answer Already Already = true
same_answer ClientsFull ClientsFull = true
same_answer (Elsewhere p n) (Elsewhere q m) = (p == q) && (n == m)
same_answer NoMember NoMember = true
same_answer (Chosen n) (Chosen m) = n == m
same_answer Gone Gone = true
same_answer _ _ = false

-- every answer but Stale: a message that was told this is not tried again
abbrev pub is_final : Answer → Bool
is_final (Accepted n) = true
is_final (Full n) = true
is_final (Stale p n) = false
is_final (Early n) = true
is_final NoPort = true
is_final Already = true
is_final ClientsFull = true
is_final (Elsewhere p n) = true
is_final NoMember = true
is_final (Chosen n) = true
is_final Gone = true
