use Rattle.std.proofs.Common.{◌≡◌, [], ◌∷◌, ◌++◌, List, length, sym, ap, ◌∙◌, subst}
use Rattle.chorus_board.specs.declared.table.Table.{Table}
use Rattle.chorus_board.specs.declared.table.Publish.{Publish}
use Rattle.chorus_entry.specs.declared.entry.Entry.{Entry}
use Rattle.chorus_board.specs.Law.{entries_in}
use Rattle.chorus_board.specs.Located.{located_after, last_clock_in, IsOfPlace}
use Rattle.chorus_board.specs.Writers.{IsReady}
use Rattle.chorus_board.proofs.Publishes.{none_of, publishes}
use Rattle.chorus_board.proofs.board.Board.publish.Goals as goal

pub show_in-requires : goal.show_in-requires
show_in-requires g c =
    let s = c.args.self.now in
    let shown : Table = s.writer.desk.shown.value in
    let o : Publish = record { ui = c.args.ui; place = c.args.place; hop = c.args.hop; upto = c.args.upto; clock = c.args.clock; seen = c.again.result } in
    let log : entries_in o.seen.log ≡ g.X.Stands.entries = ap (λ w. entries_in w.log) c.again.ensures ∙ c.bring_to.ensures.entries in
    let book : o.seen.book ≡ shown.seen.book = ap (λ w. w.book) c.again.ensures ∙ c.bring_to.ensures.book ∙ sym s.here in
    let same : c.append.new.self.desk.shown.value ≡ shown = ap (λ d. d.shown.value) c.append.ensures.desk in
    let ready : IsReady shown (o ∷ []) = publishes shown o (s.exact, s.long, s.roomy, s.of_place, s.last) c.requires.may.port c.requires.may.in_layout
    (c.requires.may.count ∙ sym (ap length log)) (subst (IsOfPlace shown.place) (sym log) c.requires.may.of_place)
    (c.requires.may.last ∙ sym (ap last_clock_in log))
    (λ q here. c.requires.may.located q here ∙ ap (λ (l : List Entry). located_after shown.hints.layout l q) (sym log)) book in
    subst (λ (z : Table × List Publish). IsReady z.0 z.1) (λ i. (sym same i, sym (c.in-Ok.ensures.pending ∙ ap (λ l. l ++ o ∷ []) (none_of _ s.none_pending)) i)) ready
