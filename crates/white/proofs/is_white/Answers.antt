-- A single code point is found by the arm that has it; any other is white if it lies in a range.
use native.Mathlib.Omega.{arith}
use Rattle.white.proofs.Whites.{control, space, separator, single, none}
use Rattle.white.proofs.is_white.Goals as goal

pub returns-in-9-to-13 : goal.returns-in-9-to-13
returns-in-9-to-13 c = control (omega arith) (omega arith)

pub returns-in-8192-to-8202 : goal.returns-in-8192-to-8202
returns-in-8192-to-8202 c = space (omega arith) (omega arith)

-- before the ranges, between them and behind them
pub returns-in_default : goal.returns-in_default
returns-in_default c = none _ c.in_default.in_default-own.rest.1 (λ h g. omega arith) (λ h g. omega arith) (λ h g. omega arith)

pub returns-in_default-2 : goal.returns-in_default-2
returns-in_default-2 c =
    none _ c.in_default.in_default-own.rest.1 (λ h g. omega arith) (λ h g. omega arith) (λ h g. omega arith)

pub returns-in_default-3 : goal.returns-in_default-3
returns-in_default-3 c =
    none _ c.in_default.in_default-own.rest.1 (λ h g. omega arith) (λ h g. omega arith) (λ h g. omega arith)

pub returns-in_default-4 : goal.returns-in_default-4
returns-in_default-4 c =
    none _ c.in_default.in_default-own.rest.1 (λ h g. omega arith) (λ h g. omega arith) (λ h g. omega arith)

pub returns-in-32 : goal.returns-in-32
returns-in-32 c = single _ c.in-32.is

pub returns-in-32-2 : goal.returns-in-32-2
returns-in-32-2 c = separator (omega arith) (omega arith)
