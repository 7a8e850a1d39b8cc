-- What the board shows of a place, over its turns.
-- d is the desk before, e the desk after.
use Rattle.std.proofs.Common.{ℕ, ◌≡◌, reverse, List, ◌++◌, Option, Some, None, IfSome, sym, ◌∙◌, ap, subst}
use Rattle.std.specs.List.{All}
use Rattle.std.proofs.lemmas.List.{reverse-reverse}
use Rattle.chorus_ui.specs.declared.layout.Layout.{Layout}
use Rattle.chorus_entry.specs.declared.entry.Entry.{Entry}
use Rattle.chorus_place.specs.Calls.{Place}
use Rattle.chorus_serve.specs.Desks.{DeskState}
use Rattle.chorus_turn.specs.declared.knowledge.Remarked.{Remarked}
use Rattle.chorus_turn.specs.Journals.{GrowsBy}
use Rattle.law_closing.specs.Places.{PlaceNote}
use Rattle.chorus_board.specs.declared.board.Board.{Board}
use Rattle.chorus_board.specs.declared.name.BoardName.{BoardName}
use Rattle.chorus_board.specs.declared.reader.BoardReader.{BoardReader}
use Rattle.chorus_board.specs.Boards.{name_of, book_of_name, IsReaderOf}
use Rattle.place_publish.specs.Publishing.{IsBoardAt}
use Rattle.place_publish.proofs.Growing.{published-on}
use Rattle.chorus_nucleus.specs.declared.site_turns.site.SiteMark.{SiteMark}
use Rattle.chorus_nucleus.specs.SiteTurns.Sites.{entries, mark, Fits, IsPublished}
use Rattle.chorus_nucleus.specs.SiteTurns.Reading.{AcceptsReader}

-- a turn keeps what is published
pub stays-published : (seat : ℕ) (d e : DeskState) (z : BoardName) (board : Board) → mark e z ≡ mark d z → GrowsBy seat (entries d) (entries e) → IsPublished d board → IsPublished e board
stays-published seat d e z board same grows h =
    subst (λ js. IsBoardAt e.place.layout e.place.number js board) (sym grows.1)
    (subst (λ (m : SiteMark). IsBoardAt m.layout m.number (entries d ++ grows.0) board) (sym same)
    (published-on d.place.layout d.place.number (entries d) grows.0 board h))

-- the entries, by the words of a place's readers
journal-as : (d : DeskState) (p : Place) (J : List Entry) → p ≡ d.place → reverse J ≡ p.journal → entries d ≡ J
journal-as d p J place journal = ap (λ (q : Place). reverse q.journal) (sym place) ∙ sym (ap reverse journal) ∙ reverse-reverse J

-- the words of a place's readers
pub published-as : (d : DeskState) (board : Board) (p : Place) (l : Layout) (n : ℕ) (J : List Entry) → p ≡ d.place → l ≡ p.layout → n ≡ p.number → reverse J ≡ p.journal
    → IsPublished d board → IsBoardAt l n J board
published-as d board p l n J place layout number journal h =
    subst (λ js. IsBoardAt l n js board) (journal-as d p J place journal)
    (subst (λ k. IsBoardAt k n (entries d) board) (sym (layout ∙ ap (λ (q : Place). q.layout) place))
    (subst (λ m. IsBoardAt d.place.layout m (entries d) board) (sym (number ∙ ap (λ (q : Place). q.number) place)) h))

-- the same the other way round, and of whose place its entries are
pub still-published : (d : DeskState) (board : Board) (p : Place) (l : Layout) (n : ℕ) (J : List Entry) → p ≡ d.place → l ≡ p.layout → n ≡ p.number → reverse J ≡ p.journal
    → IsBoardAt l n J board → IsPublished d board
still-published d board p l n J place layout number journal h =
    subst (λ m. IsBoardAt d.place.layout m (entries d) board) (number ∙ ap (λ (q : Place). q.number) place)
    (subst (λ k. IsBoardAt k n (entries d) board) (layout ∙ ap (λ (q : Place). q.layout) place)
    (subst (λ js. IsBoardAt l n js board) (sym (journal-as d p J place journal)) h))

pub own-as : (d : DeskState) (log : List (Remarked PlaceNote)) (p : Place) (n : ℕ) (J : List Entry) → p ≡ d.place → n ≡ p.number → reverse J ≡ p.journal → Fits d log → All (λ (e : Entry). e.place ≡ n) J
own-as d log p n J place number journal f =
    subst (λ m. All (λ (e : Entry). e.place ≡ m) J) (sym (number ∙ ap (λ (q : Place). q.number) place)) (subst (All (λ (e : Entry). e.place ≡ d.place.number)) (journal-as d p J place journal) f.own)

pub reader-of : (d : DeskState) (board : Board) (o : Option BoardReader) → IsPublished d board → AcceptsReader o (mark d (name_of board)) → IfSome o (λ r. IsReaderOf board r)
reader-of d board None h a = tt
reader-of d board (Some r) h a = (ap book_of_name a.0, a.1 ∙ sym h.layout, a.2 ∙ sym h.of_place)
