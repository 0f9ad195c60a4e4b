-- The characters that the rules of a script name.
use Prim.Native.Char.{code}
use Rattle.basis.specs.Types.{Code}

abbrev pub lf : Code
lf = 0x0A

abbrev pub cr : Code
cr = 0x0D

abbrev pub space : Code
space = code " "

abbrev pub quote : Code
quote = code "\""

abbrev pub hash : Code
hash = code "#"

abbrev pub dollar : Code
dollar = code "$"

abbrev pub apostrophe : Code
apostrophe = code "'"

abbrev pub star : Code
star = code "*"

abbrev pub slash : Code
slash = code "/"

abbrev pub backslash : Code
backslash = code "\\"

abbrev pub underscore : Code
underscore = code "_"

abbrev pub backtick : Code
backtick = code "`"

abbrev pub left_brace : Code
left_brace = code "{"
