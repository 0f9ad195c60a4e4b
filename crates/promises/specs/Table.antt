-- "Checked examples" of document 01, those marked (P): its words, and under them what is asked and what is answered. "Scans start after the opener": from 1:1 and with no limit, unless the words say otherwise. An answer is whole: where the words leave out the characters used or the place where it ends, it has them too.
use Rattle.std.specs.Prelude.{List, [], ◌∷◌, map, ◌≡◌}
use Rattle.position.specs.Place.{place}
use Rattle.promises.specs.Rows.{ExampleRow, ◌⇒◌, closes, refused, gives, gives_open, gives_closed, after_hash, resumed_after, ordinary, limited, in_backticks, comment_from, body, written}

-- the examples, in the document's order
abbrev pub table : List ExampleRow
table =
    -- (P) After `#`, `"a"b"#;` gives `a"b`, 6 characters used.
    (after_hash "\"a\"b\"#;" ⇒ gives "a\"b" 6 (place 1 7))
    -- (P) Resumed, k=2: `"#"##` gives `"#`.
    ∷ (resumed_after 2 (place 1 1) "\"#\"##" ⇒ gives "\"#" 5 (place 1 6))
    -- (P) Resumed, k=1: `ab"` at the end gives `ab`, open.
    ∷ (resumed_after 1 (place 1 1) "ab\"" ⇒ gives_open "ab" 3 (place 1 4))
    -- (P) Resumed, k=1, from 1:3: quote, LF, `x"#` ends at 1:8; without that first quote, at 2:3.
    ∷ (resumed_after 1 (place 1 3) "\"\nx\"#" ⇒ gives "\"\nx" 5 (place 1 8))
    ∷ (resumed_after 1 (place 1 3) "\nx\"#" ⇒ gives "\nx" 4 (place 2 3))
    -- (P) Ordinary `a""b"` gives `a"b`.
    ∷ (ordinary "a\"\"b\"" ⇒ gives "a\"b" 5 (place 1 6))
    -- (P) `\x41\u00e9"` gives bytes 41 c3 a9.
    ∷ (ordinary "\\x41\\u00e9\"" ⇒ closes (0x41 ∷ 0xC3 ∷ 0xA9 ∷ []) 11 (place 1 12))
    -- (P) `\uD800"` and `\U00110000"`: 6.
    ∷ (ordinary "\\uD800\"" ⇒ refused 6 (place 1 7))
    ∷ (ordinary "\\U00110000\"" ⇒ refused 6 (place 1 11))
    -- (P) `abc"`: limit 3 accepts, limit 2 is 7. `abc` at the end: limit 2 is 4, limit 1 is 7.
    ∷ (limited 3 "abc\"" ⇒ gives "abc" 4 (place 1 5))
    ∷ (limited 2 "abc\"" ⇒ refused 7 (place 1 1))
    ∷ (limited 2 "abc" ⇒ refused 4 (place 1 1))
    ∷ (limited 1 "abc" ⇒ refused 7 (place 1 1))
    -- (P) Text from 1:1, `a\${b` and backtick: `a${b`, ending at 1:6.
    ∷ (in_backticks "a\\${b`" ⇒ gives "a${b" 6 (place 1 6))
    -- (P) Comment level 1, `/*/ */*/x`: closed, 8 characters used.
    ∷ (comment_from 1 "/*/ */*/x" ⇒ gives_closed 8 (place 1 9))
    -- (P) Body `"##` is written `###""##"###`.
    ∷ (body "\"##" ⇒ written "###\"\"##\"###")
    ∷ []

-- of every row: what the definitions answer is what the document says
abbrev pub CheckedExamples : Type 0
CheckedExamples = map (λ r. r.asked) table ≡ map (λ r. r.said) table
