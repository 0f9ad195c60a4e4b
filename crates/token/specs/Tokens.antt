-- `enum Token` of `types/token.rs`, under default features: a token is its place in that list, counted from 0.
use Rattle.std.specs.Prelude.{ℕ, Bool, false, List, [], ◌∷◌, eqb}
use Rattle.basis.specs.Pick.{either}

abbrev pub IntegerConstant : ℕ
IntegerConstant = 0

abbrev pub FloatConstant : ℕ
FloatConstant = 1

abbrev pub Identifier : ℕ
Identifier = 2

abbrev pub CharConstant : ℕ
CharConstant = 3

abbrev pub StringConstant : ℕ
StringConstant = 4

abbrev pub InterpolatedString : ℕ
InterpolatedString = 5

abbrev pub LeftBrace : ℕ
LeftBrace = 6

abbrev pub RightBrace : ℕ
RightBrace = 7

abbrev pub LeftParen : ℕ
LeftParen = 8

abbrev pub RightParen : ℕ
RightParen = 9

abbrev pub LeftBracket : ℕ
LeftBracket = 10

abbrev pub RightBracket : ℕ
RightBracket = 11

abbrev pub Unit : ℕ
Unit = 12

abbrev pub Plus : ℕ
Plus = 13

abbrev pub UnaryPlus : ℕ
UnaryPlus = 14

abbrev pub Minus : ℕ
Minus = 15

abbrev pub UnaryMinus : ℕ
UnaryMinus = 16

abbrev pub Multiply : ℕ
Multiply = 17

abbrev pub Divide : ℕ
Divide = 18

abbrev pub Modulo : ℕ
Modulo = 19

abbrev pub PowerOf : ℕ
PowerOf = 20

abbrev pub LeftShift : ℕ
LeftShift = 21

abbrev pub RightShift : ℕ
RightShift = 22

abbrev pub SemiColon : ℕ
SemiColon = 23

abbrev pub Colon : ℕ
Colon = 24

abbrev pub DoubleColon : ℕ
DoubleColon = 25

abbrev pub DoubleArrow : ℕ
DoubleArrow = 26

abbrev pub Underscore : ℕ
Underscore = 27

abbrev pub Comma : ℕ
Comma = 28

abbrev pub Period : ℕ
Period = 29

abbrev pub Elvis : ℕ
Elvis = 30

abbrev pub DoubleQuestion : ℕ
DoubleQuestion = 31

abbrev pub QuestionBracket : ℕ
QuestionBracket = 32

abbrev pub ExclusiveRange : ℕ
ExclusiveRange = 33

abbrev pub InclusiveRange : ℕ
InclusiveRange = 34

abbrev pub MapStart : ℕ
MapStart = 35

abbrev pub Equals : ℕ
Equals = 36

abbrev pub True : ℕ
True = 37

abbrev pub False : ℕ
False = 38

abbrev pub Let : ℕ
Let = 39

abbrev pub Const : ℕ
Const = 40

abbrev pub If : ℕ
If = 41

abbrev pub Else : ℕ
Else = 42

abbrev pub Switch : ℕ
Switch = 43

abbrev pub Do : ℕ
Do = 44

abbrev pub While : ℕ
While = 45

abbrev pub Until : ℕ
Until = 46

abbrev pub Loop : ℕ
Loop = 47

abbrev pub For : ℕ
For = 48

abbrev pub In : ℕ
In = 49

abbrev pub NotIn : ℕ
NotIn = 50

abbrev pub LessThan : ℕ
LessThan = 51

abbrev pub GreaterThan : ℕ
GreaterThan = 52

abbrev pub LessThanEqualsTo : ℕ
LessThanEqualsTo = 53

abbrev pub GreaterThanEqualsTo : ℕ
GreaterThanEqualsTo = 54

abbrev pub EqualsTo : ℕ
EqualsTo = 55

abbrev pub NotEqualsTo : ℕ
NotEqualsTo = 56

abbrev pub Bang : ℕ
Bang = 57

abbrev pub Pipe : ℕ
Pipe = 58

abbrev pub Or : ℕ
Or = 59

abbrev pub XOr : ℕ
XOr = 60

abbrev pub Ampersand : ℕ
Ampersand = 61

abbrev pub And : ℕ
And = 62

abbrev pub Fn : ℕ
Fn = 63

abbrev pub Continue : ℕ
Continue = 64

abbrev pub Break : ℕ
Break = 65

abbrev pub Return : ℕ
Return = 66

abbrev pub Throw : ℕ
Throw = 67

abbrev pub Try : ℕ
Try = 68

abbrev pub Catch : ℕ
Catch = 69

abbrev pub PlusAssign : ℕ
PlusAssign = 70

abbrev pub MinusAssign : ℕ
MinusAssign = 71

abbrev pub MultiplyAssign : ℕ
MultiplyAssign = 72

abbrev pub DivideAssign : ℕ
DivideAssign = 73

abbrev pub LeftShiftAssign : ℕ
LeftShiftAssign = 74

abbrev pub RightShiftAssign : ℕ
RightShiftAssign = 75

abbrev pub AndAssign : ℕ
AndAssign = 76

abbrev pub OrAssign : ℕ
OrAssign = 77

abbrev pub XOrAssign : ℕ
XOrAssign = 78

abbrev pub ModuloAssign : ℕ
ModuloAssign = 79

abbrev pub PowerOfAssign : ℕ
PowerOfAssign = 80

abbrev pub Private : ℕ
Private = 81

abbrev pub Import : ℕ
Import = 82

abbrev pub Export : ℕ
Export = 83

abbrev pub As : ℕ
As = 84

abbrev pub LexError : ℕ
LexError = 85

abbrev pub Comment : ℕ
Comment = 86

abbrev pub Reserved : ℕ
Reserved = 87

abbrev pub Custom : ℕ
Custom = 88

abbrev pub UnprocessedRawChar : ℕ
UnprocessedRawChar = 89

abbrev pub EOF : ℕ
EOF = 90

-- how many tokens there are: a number from here on names none
abbrev pub token_count : ℕ
token_count = 91

-- the token is one of these
unfoldable pub among_tokens : List ℕ → ℕ → Bool
among_tokens [] t = false
among_tokens (k ∷ ks) t = either (eqb t k) (among_tokens ks t)
