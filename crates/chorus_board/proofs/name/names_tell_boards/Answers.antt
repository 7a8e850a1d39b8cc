use Rattle.std.proofs.Common.{ap}
use Rattle.chorus_board.specs.Boards.{name_of_book, book_of_name}
use Rattle.chorus_board.proofs.name.names_tell_boards.Goals as goal

pub returns-clause-names : goal.returns-clause-names
returns-clause-names c = λ x y. (λ same. ap book_of_name same, λ same. ap name_of_book same)

pub returns-clause-readers : goal.returns-clause-readers
returns-clause-readers c = λ board reader. (λ same. ap book_of_name same, λ same. ap name_of_book same)
