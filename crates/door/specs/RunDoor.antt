-- At the door of a run: document 01, "Order: 2, 1, 3, 14"; a run is given no place.
use Rattle.lex_error.specs.Numbers.{Asked, asked_then}
use Rattle.basis.specs.Types.{Text, Bytes}
use Rattle.book.specs.Book.{check_of}
use Rattle.door.specs.Door.{text_of}

-- what a script and a book refuse: 2, 1; 14 if the book is bad
unfoldable pub refuses_of : Text → Bytes → Asked
refuses_of t book = asked_then (text_of t) (check_of book)
