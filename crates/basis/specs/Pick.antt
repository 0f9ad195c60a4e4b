-- A choice by a test, and tests joined.
use Rattle.std.specs.Prelude.{Bool, true, false}

-- the first if the test holds, else the second
abbrev pub pick {ℓ} : {A : Type ℓ} → Bool → A → A → A
pick true a b = a
pick false a b = b

-- both tests hold
abbrev pub both : Bool → Bool → Bool
both true b = b
both false b = false

-- at least one test holds
abbrev pub either : Bool → Bool → Bool
either true b = true
either false b = b

-- the test does not hold
abbrev pub isnt : Bool → Bool
isnt true = false
isnt false = true
