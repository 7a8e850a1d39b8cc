-- The promise on small pasts, computed: one that keeps it counts one, and one that counts a call again does not keep it.
use Rattle.std.proofs.Common.{ℕ, ◌≡◌, List, [], ◌∷◌, refl, arith}
use Rattle.chorus_ui.specs.declared.kind.Kind.TheVariants as kinds
use Rattle.chorus_ui.specs.declared.ui.Ui.{Ui}
use Rattle.chorus_entry.specs.declared.entry.Entry.{Entry}
use Rattle.chorus_entry.specs.declared.id.MsgId.{MsgId}
use Rattle.chorus_entry.specs.declared.message.Message.{Message}
use Rattle.chorus_entry.specs.declared.tag.Tag.TheVariants.{Request}
use Rattle.chorus_entry.specs.declared.dest.Dest.TheVariants.{Port}
use Rattle.chorus_entry.specs.declared.act.Act.{Act}
use Rattle.run_counter.specs.Counting.{value, KeepsCount}

abbrev port : ℕ → Ui
port n = record { site = 1; kind = kinds.Port; number = n }

abbrev holder : Ui
holder = record { site = 1; kind = kinds.Actor; number = 1 }

-- the client of seat 2 posts its call 1 for the first time, and again
abbrev post : ℕ → MsgId
post n = record { seat = 2; number = n; copy = 0 }

abbrev request : ℕ → Message
request n = record { id = post n; tag = Request 1 (port 2); body = [] }

abbrev at-clock : ℕ → ℕ → Act → Entry
at-clock clock seat act = record { clock = clock; place = 1; seat = seat; act = act }

abbrev called : List Entry
called =
    at-clock 4 2 (Act.Post (request 2) (Port (port 1))) ∷ at-clock 3 2 (Act.Accept (post 1) (port 1) 0)
    ∷ at-clock 2 2 (Act.Post (request 1) (Port (port 1))) ∷ at-clock 1 0 (Act.Make (port 1) holder 64) ∷ []

abbrev once : List Entry
once = at-clock 6 1 (Act.Take (port 1) 0 (post 1)) ∷ at-clock 5 2 (Act.Already (post 2) (port 1)) ∷ called

counts-one : value (port 1) once ≡ 1
counts-one = refl

-- the counter accepted the call again, and counted it again
abbrev again : List Entry
again =
    at-clock 7 1 (Act.Take (port 1) 1 (post 2)) ∷ at-clock 6 1 (Act.Take (port 1) 0 (post 1))
    ∷ at-clock 5 2 (Act.Accept (post 2) (port 1) 1) ∷ called

counts-two : value (port 1) again ≡ 2
counts-two = refl

counts-it-again : KeepsCount (port 1) again → ⊥
counts-it-again keeps =
    let same = keeps.once 2 1 0 1 (post 1) (post 2) refl refl (refl, port 2, refl) (refl, port 2, refl) in
    absurd (omega (arith, same))
