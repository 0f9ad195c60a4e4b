-- What a script is computed with: sets of definitions, each under one name. Assumes nothing.
use Rattle.basis.specs.Words.{word, begins}
use Rattle.position.specs.Place.{start}
use Rattle.classes.specs.Class.{is_numeric_digit, is_id_first_alphabetic, is_id_continue}
use Rattle.chars.specs.Scan.{widths}
use Rattle.chars.specs.Ends.{goes_on_in, stretch_end}
use Rattle.token.specs.Keywords.{keywords, entry_at}
use Rattle.keywords.specs.Lookup.{same_text, lookup_in, lookup_of}
use Rattle.symbols.specs.Symbols.{is_symbol, stands, standing, longer, longest_in, longest_of, longest_symbol_of}
use Rattle.book.specs.Contents.{u16_at, word_count, words_from, words, enough}
use Rattle.book.specs.Book.{few, runs_on, all_fit, rising, good}
use Rattle.book_lookup.specs.Lookup.{first_hit, flags_answer, hit_answer, reserved_of}
use Rattle.identifier.specs.Valid.{after_underscores, all_continue, letter_first, is_valid_identifier}
use Rattle.identifier.specs.Identifiers.{listed_kind, unlisted, class_in, class_of, identified_as, spanned, identified_from, identify_of}
use Rattle.comment.specs.Block.{comment_turn, comment_of}
use Rattle.find.specs.Find.{white_of, word_of, number_run, symbol_of, line_comment, block_comment, slash_sign, hash_sign, sign_at, mark_of, begins_word, begins_of, find_of}
use Rattle.reading.specs.Reading.{entries, literal_bytes, whole}
use Rattle.reading.specs.CutRun.{cut_run}
use Rattle.script.specs.States.{begun_at, moved_to, interpolating, count, with_braces, resumed, opened, closed, behind}
use Rattle.script.specs.Steps.{literal_trace, verdict_of, listed_of, literal_step, end_step, step_of}
use Rattle.script.specs.Script.{reading_from, script_from, script_of}

-- the listed words
unfoldable pub the_listed : Unit {0}
unfolding word begins keywords entry_at same_text lookup_in lookup_of
the_listed = tt

-- symbols
unfoldable pub the_symbols : Unit {0}
unfolding is_symbol stands standing longer longest_in longest_of longest_symbol_of
the_symbols = tt

-- identifiers, under a book
unfoldable pub the_names : Unit {0}
unfolding is_numeric_digit is_id_first_alphabetic is_id_continue goes_on_in stretch_end after_underscores all_continue letter_first is_valid_identifier listed_kind unlisted class_in class_of identified_as spanned identified_from identify_of
the_names = tt

unfoldable pub the_books : Unit {0}
unfolding u16_at word_count words_from words enough few runs_on all_fit rising good first_hit flags_answer hit_answer reserved_of
the_books = tt

-- what begins at a place
unfoldable pub the_finds : Unit {0}
unfolding widths comment_turn comment_of white_of word_of number_run symbol_of line_comment block_comment slash_sign hash_sign sign_at mark_of begins_word begins_of find_of
the_finds = tt

-- a run's steps
unfoldable pub the_steps : Unit {0}
unfolding start begun_at moved_to interpolating count with_braces resumed opened closed behind literal_trace verdict_of listed_of literal_step end_step step_of
the_steps = tt

-- and what they leave
unfoldable pub the_runs : Unit {0}
unfolding reading_from script_from script_of entries literal_bytes whole cut_run
the_runs = tt
