-- The kinds of tokens: document 01, "Kinds: 1 name, 2 keyword (letters), 3 symbol, 4 number, 5 string, 6 interpolated (a piece that `${` ends), 7 text (a piece that its backtick ends), 8 raw, 9 char, 10 comment, 11 reserved".
use Rattle.std.specs.Prelude.{ℕ}
use Rattle.entry.specs.declared.kinds.Kind.{Kind}
use Rattle.entry.specs.declared.kinds.Kind.TheVariants as kind

-- the number of a kind
abbrev pub kind_number : Kind → ℕ
kind_number kind.Name = 1
kind_number kind.Keyword = 2
kind_number kind.Symbol = 3
kind_number kind.Number = 4
kind_number kind.String = 5
kind_number kind.Interpolated = 6
kind_number kind.Text = 7
kind_number kind.Raw = 8
kind_number kind.Char = 9
kind_number kind.Comment = 10
kind_number kind.Reserved = 11

abbrev pub name : Kind
name = kind.Name

abbrev pub keyword : Kind
keyword = kind.Keyword

abbrev pub symbol : Kind
symbol = kind.Symbol

abbrev pub number : Kind
number = kind.Number

abbrev pub string : Kind
string = kind.String

abbrev pub interpolated : Kind
interpolated = kind.Interpolated

abbrev pub text : Kind
text = kind.Text

abbrev pub raw : Kind
raw = kind.Raw

abbrev pub char : Kind
char = kind.Char

abbrev pub comment : Kind
comment = kind.Comment

abbrev pub reserved : Kind
reserved = kind.Reserved
