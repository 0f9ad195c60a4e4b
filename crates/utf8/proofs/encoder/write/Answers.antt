-- The tests are those of the encoding, and the stores are its bytes; the room asked for is the encoding's length.
use Prim.Native.Nat.{◌+◌, ◌≤◌}
use native.Mathlib.Omega.{arith}
use native.Mathlib.Numerals.{towards_suc}
use lib.ListN.{length, length-set}
use Rattle.utf8.proofs.Encodes.{enc1, enc2, enc3, enc4}
use Rattle.utf8.proofs.encoder.write.Goals as goal
use Rattle.utf8.proofs.encoder.write.Goals.{Else-c-lt65536, Then-c-lt128, Then-c-lt2048, Then-c-lt65536}

-- the room that there is, by the encoding's length
room1 : (c : Then-c-lt128) → c.args.at + 1 ≤ length c.args.out.now
room1 c = rw (enc1 _ c.if-c-lt128.true) at c.requires.1

room2 : (c : Then-c-lt2048) → c.args.at + 2 ≤ length c.args.out.now
room2 c = rw (enc2 _ c.if-c-lt128.false c.if-c-lt2048.true) at c.requires.1

room3 : (c : Then-c-lt65536) → c.args.at + 3 ≤ length c.args.out.now
room3 c = rw (enc3 _ c.if-c-lt2048.false c.if-c-lt65536.true) at c.requires.1

room4 : (c : Else-c-lt65536) → c.args.at + 4 ≤ length c.args.out.now
room4 c = rw (enc4 _ c.if-c-lt65536.false) at c.requires.1

pub bounds-out-at : goal.bounds-out-at
bounds-out-at c = omega (arith, room1 c)

pub returns-then-c-lt128 : goal.returns-then-c-lt128
returns-then-c-lt128 c = (rw (enc1 _ c.if-c-lt128.true), rw (enc1 _ c.if-c-lt128.true))

pub bounds-out-at-then-c-lt2048 : goal.bounds-out-at-then-c-lt2048
bounds-out-at-then-c-lt2048 c = omega (arith, room2 c)

pub bounds-out-at-then-c-lt2048-2 : goal.bounds-out-at-then-c-lt2048-2
bounds-out-at-then-c-lt2048-2 c = simp length-set (omega (arith, room2 c))

pub returns-then-c-lt2048 : goal.returns-then-c-lt2048
returns-then-c-lt2048 c = (rw (enc2 _ c.if-c-lt128.false c.if-c-lt2048.true), simp (enc2 _ c.if-c-lt128.false c.if-c-lt2048.true, towards_suc))

pub bounds-out-at-then-c-lt65536 : goal.bounds-out-at-then-c-lt65536
bounds-out-at-then-c-lt65536 c = omega (arith, room3 c)

pub bounds-out-at-then-c-lt65536-2 : goal.bounds-out-at-then-c-lt65536-2
bounds-out-at-then-c-lt65536-2 c = simp length-set (omega (arith, room3 c))

pub bounds-out-at-then-c-lt65536-3 : goal.bounds-out-at-then-c-lt65536-3
bounds-out-at-then-c-lt65536-3 c = simp length-set (omega (arith, room3 c))

pub returns-then-c-lt65536 : goal.returns-then-c-lt65536
returns-then-c-lt65536 c = (rw (enc3 _ c.if-c-lt2048.false c.if-c-lt65536.true), simp (enc3 _ c.if-c-lt2048.false c.if-c-lt65536.true, towards_suc))

pub bounds-out-at-2 : goal.bounds-out-at-2
bounds-out-at-2 c = omega (arith, room4 c)

pub bounds-out-at-3 : goal.bounds-out-at-3
bounds-out-at-3 c = simp length-set (omega (arith, room4 c))

pub bounds-out-at-4 : goal.bounds-out-at-4
bounds-out-at-4 c = simp length-set (omega (arith, room4 c))

pub bounds-out-at-5 : goal.bounds-out-at-5
bounds-out-at-5 c = simp length-set (omega (arith, room4 c))

pub returns : goal.returns
returns c = (rw (enc4 _ c.if-c-lt65536.false), simp (enc4 _ c.if-c-lt65536.false, towards_suc))
