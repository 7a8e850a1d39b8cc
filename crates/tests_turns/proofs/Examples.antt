-- Examples, each computed: what a publish may not tell of a board.
use Rattle.std.proofs.Common.{◌≡◌, [], sym, ◌∙◌, ap, arith}
use Rattle.chorus_ui.specs.declared.kind.Kind.TheVariants as kinds
use Rattle.chorus_ui.specs.declared.layout.Layout.{Layout}
use Rattle.chorus_ui.specs.declared.ui.Ui.{Ui}
use Rattle.chorus_ui.specs.Layout.{names_port}
use Rattle.chorus_world.specs.declared.place.Location.{Location}
use Rattle.chorus_world.specs.Places.{farther}
use Rattle.chorus_board.specs.declared.board.Board.{Board}
use Rattle.chorus_board.specs.Boards.{LocatesAfter, entries_published, layout_of}
use Rattle.chorus_board.specs.Located.{located_after, told_of}

abbrev two_sites : Layout
two_sites = record { sites = 2; turns = 1 }

abbrev port : Ui
port = record { site = 1; kind = kinds.Port; number = 1 }

-- a departure is told that the entries do not have
not-departed : (board : Board) → layout_of board ≡ two_sites → entries_published board ≡ [] → LocatesAfter board port 2 1 [] → ⊥
unfolding located_after
not-departed board layout published located =
    let here : farther (located_after (layout_of board) (entries_published board) port) (told_of port port 2 1) ≡ located_after (layout_of board) [] port =
    located port (ap (λ l. names_port l port) layout) in
    let there : farther (located_after two_sites [] port) (told_of port port 2 1) ≡ located_after two_sites [] port =
    sym (λ i. farther (located_after (layout i) (published i) port) (told_of port port 2 1)) ∙ (here ∙ (λ i. located_after (layout i) [] port)) in
    let hops : 1 ≡ 0 = ap (λ (l : Location). l.hop) there in
    omega (arith, hops)
